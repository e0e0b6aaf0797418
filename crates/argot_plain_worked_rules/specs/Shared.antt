-- A goroutine is handed a box.
--   1 func source() string { return "secret" }
--   2 func sink(x string) {}
--   3 func main() {
--   4     b := new(string)
--   5     c := new(string)
--   6     go fill(b)
--   7     *c = source()
--   8     sink(*b)
--   9 }
--  10 func fill(b *string) { *b = source() }
-- The first box is handed to the goroutine, and the second one isn't.
use Rattle.std.specs.Prelude.{◌≡◌, [], ◌∷◌, codes}
use Rattle.argot_plain.specs.Code.{Code}
use Rattle.argot_plain.specs.Leak.{Touches, labelled}
use Rattle.argot_plain.specs.Machine.{Object, State}
use Rattle.argot_plain.specs.WellFormed.{WellFormed}
use Rattle.argot_plain.specs.declared.functions.Function.{Function}
use Rattle.argot_plain.specs.declared.instructions.Callee.TheVariants.{Static}
use Rattle.argot_plain.specs.declared.instructions.Kind.TheVariants.{New, Read, Write, Call, Go, RunDefers, Leave, Goto}
use Rattle.argot_facts.specs.declared.graphs.EdgeKind.TheVariants.{Reset}
use Rattle.argot_plain_worked_rules.specs.Worked.{HasEdge, on, one_leaf, declared, program, site_at, asked, HasFlow, HasNoEdge, HasEscape, IsReached, Leaks}

abbrev pub main_function : Function
main_function = declared (codes "main") 3 14 22 0 0 (one_leaf ∷ one_leaf ∷ one_leaf ∷ one_leaf ∷ [])

abbrev pub fill_function : Function
fill_function = declared (codes "fill") 10 24 27 1 0 (one_leaf ∷ one_leaf ∷ [])

abbrev pub shared : Code
shared =
    program (main_function ∷ fill_function ∷ [])
    (on 3 (Goto 15) ∷ on 4 (New 0 0) ∷ on 5 (New 1 1) ∷ on 6 (Go (Static 4) (0 ∷ [])) ∷ on 7 (Call (2 ∷ []) (Static 1) [])
    ∷ on 7 (Write 1 2) ∷ on 8 (Read 3 0 one_leaf) ∷ on 8 (Call [] (Static 2) (3 ∷ [])) ∷ on 9 RunDefers ∷ on 9 (Leave [])
    ∷ on 10 (Goto 25) ∷ on 10 (Call (1 ∷ []) (Static 1) []) ∷ on 10 (Write 0 1) ∷ on 10 RunDefers ∷ on 10 (Leave []) ∷ [])
    (site_at 15 one_leaf ∷ site_at 16 one_leaf ∷ [])

abbrev pub ItIsWellFormed : Type 0
ItIsWellFormed = WellFormed shared

-- what line 6 hands on comes to the parameter of fill
abbrev pub ItStarts : Type 0
ItStarts = HasEdge shared asked 17 0 Reset 24 0

-- and to no parameter of another function: no edge leads there
abbrev pub ItStartsAnother : Type 0
ItStartsAnother = HasNoEdge shared asked 17 0 11 0

-- both goroutines touch the first box, the site 0: the new one writes it, and then main reads it
abbrev pub ItIsTouched : Type 0
ItIsTouched =
    (x : State) × (y : State) × (o : Object) × IsReached shared (labelled asked) x × IsReached shared (labelled asked) y
    × (o.site ≡ 0) × Touches shared (labelled asked) x 1 o × Touches shared (labelled asked) y 0 o

-- so the box escapes, and the secret of line 10, the place 25, with it
abbrev pub ItEscapes : Type 0
ItEscapes = HasEscape shared asked 25 0

-- the secret of line 10 reaches the sink of line 8, the place 21
abbrev pub ItLeaks : Type 0
ItLeaks = Leaks shared asked 25 21 0

abbrev pub ItFlows : Type 0
ItFlows = HasFlow shared asked 25 21 0
