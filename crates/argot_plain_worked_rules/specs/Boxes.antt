-- A write of nothing, and boxes that are taken as a type.
--   1 func source() string { return "secret" }
--   2 func sink(x string) {}
--   3 func main() {
--   4     var p *struct{}
--   5     *p = struct{}{}
--   6     var e any = Box{source()}
--   7     b, _ := e.(Box)
--   8     sink(b.v)
--   9     c, _ := e.(Lid)
--  10     sink(c.v)
--  11 }
--  12 type Box struct{ v string }
--  13 type Lid struct{ v string }
-- Line 5 stores nothing through nothing, and may go on. Line 7 keeps the box, so the secret in it reaches the sink of line 8;
-- line 9 gives nothing, since the box is of another type.
use Rattle.std.specs.Prelude.{[], ◌∷◌, codes}
use Rattle.argot_plain.specs.Code.{Code}
use Rattle.argot_plain.specs.WellFormed.{WellFormed}
use Rattle.argot_plain.specs.declared.functions.Function.{Function}
use Rattle.argot_plain.specs.declared.instructions.Callee.TheVariants.{Static}
use Rattle.argot_plain.specs.declared.instructions.Kind.TheVariants.{Move, Join, New, Read, Write, Assert, Call, RunDefers, Leave, Goto}
use Rattle.argot_text.specs.declared.path.PathStep.TheVariants.{Field}
use Rattle.argot_plain_worked_rules.specs.Worked.{on, one_leaf, declared, program, site_at, asked, Leaks, HasFlow, HasNoEdge}

abbrev pub main_function : Function
main_function = declared (codes "main") 3 14 30 0 0 (one_leaf ∷ [] ∷ one_leaf ∷ ((Field 0 ∷ []) ∷ []) ∷ one_leaf ∷ one_leaf ∷ ((Field 0 ∷ []) ∷ []) ∷ one_leaf ∷ one_leaf ∷ ((Field 0 ∷ []) ∷ []) ∷ one_leaf ∷ [])

abbrev pub boxes : Code
boxes =
    record (program (main_function ∷ [])
    (on 3 (Goto 15) ∷ on 4 (Join 0 []) ∷ on 5 (Join 1 []) ∷ on 5 (Write 0 1) ∷ on 6 (Call (2 ∷ []) (Static 1) [])
    ∷ on 6 (Join 3 ((Field 0 ∷ [], 2) ∷ [])) ∷ on 6 (New 4 0) ∷ on 6 (Write 4 3) ∷ on 7 (Assert 5 4 1)
    ∷ on 7 (Read 6 5 ((Field 0 ∷ []) ∷ [])) ∷ on 8 (Move 7 6 (Field 0 ∷ [])) ∷ on 8 (Call [] (Static 2) (7 ∷ [])) ∷ on 9 (Assert 8 4 2)
    ∷ on 9 (Read 9 8 ((Field 0 ∷ []) ∷ [])) ∷ on 10 (Move 10 9 (Field 0 ∷ [])) ∷ on 10 (Call [] (Static 2) (10 ∷ [])) ∷ on 11 RunDefers
    ∷ on 11 (Leave []) ∷ [])
    (record (site_at 20 ((Field 0 ∷ []) ∷ [])) { dynamic = 1 } ∷ [])) { implements = (1, 1) ∷ (2, 2) ∷ [] }

abbrev pub ItIsWellFormed : Type 0
ItIsWellFormed = WellFormed boxes

-- the secret of line 6, the place 18, reaches the sink of line 8, the place 25
abbrev pub ItLeaks : Type 0
ItLeaks = Leaks boxes asked 18 25 0

abbrev pub ItFlows : Type 0
ItFlows = HasFlow boxes asked 18 25 0

-- what line 8 takes out of its box comes to no argument of line 10: no edge leads there
abbrev pub ItIsAnother : Type 0
ItIsAnother = HasNoEdge boxes asked 24 0 29 0
