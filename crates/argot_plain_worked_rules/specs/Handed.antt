-- A sink is handed a box.
--   1 func source() string { return "secret" }
--   2 func sink(x *string) {}
--   3 func main() {
--   4     b := new(string)
--   5     *b = source()
--   6     sink(b)
--   7     c := new(string)
--   8     sink(c)
--   9     *c = source()
--  10 }
-- The sink looks at what its argument reaches, so the secret of line 5 leaks. That of line 9 comes too late.
use Rattle.std.specs.Prelude.{[], ◌∷◌, codes}
use Rattle.argot_plain.specs.Code.{Code}
use Rattle.argot_plain.specs.WellFormed.{WellFormed}
use Rattle.argot_plain.specs.declared.functions.Function.{Function}
use Rattle.argot_plain.specs.declared.instructions.Callee.TheVariants.{Static}
use Rattle.argot_plain.specs.declared.instructions.Kind.TheVariants.{New, Write, Call, RunDefers, Leave, Goto}
use Rattle.argot_facts.specs.declared.graphs.EdgeKind.TheVariants.{Reset}
use Rattle.argot_plain_worked_rules.specs.Worked.{HasEdge, HasNoEdge, on, one_leaf, declared, program, site_at, asked, Leaks, HasFlow, HasNoFlow}

abbrev pub main_function : Function
main_function = declared (codes "main") 3 14 23 0 0 (one_leaf ∷ one_leaf ∷ one_leaf ∷ one_leaf ∷ [])

abbrev pub handed : Code
handed =
    program (main_function ∷ [])
    (on 3 (Goto 15) ∷ on 4 (New 0 0) ∷ on 5 (Call (1 ∷ []) (Static 1) []) ∷ on 5 (Write 0 1) ∷ on 6 (Call [] (Static 2) (0 ∷ []))
    ∷ on 7 (New 2 1) ∷ on 8 (Call [] (Static 2) (2 ∷ [])) ∷ on 9 (Call (3 ∷ []) (Static 1) []) ∷ on 9 (Write 2 3) ∷ on 10 RunDefers
    ∷ on 10 (Leave []) ∷ [])
    (site_at 15 one_leaf ∷ site_at 19 one_leaf ∷ [])

abbrev pub ItIsWellFormed : Type 0
ItIsWellFormed = WellFormed handed

-- the secret of line 5, the place 16, reaches the sink of line 6, the place 18
abbrev pub ItLeaks : Type 0
ItLeaks = Leaks handed asked 16 18 0

-- what line 5 writes comes to the sink of line 6 by what that is handed
abbrev pub ItIsInside : Type 0
ItIsInside = HasEdge handed asked 17 0 Reset 18 0

-- what line 9 writes comes too late for the sink of line 8: no edge leads there
abbrev pub ItComesTooLate : Type 0
ItComesTooLate = HasNoEdge handed asked 22 0 20 0

abbrev pub ItFlows : Type 0
ItFlows = HasFlow handed asked 16 18 0

-- and from line 9, the place 21, no flow leads to the sink of line 8. The lines 4 to 6 are the same in the other order: there
-- the write is followed by the sink, and leaks
abbrev pub ItFlowsNot : Type 0
ItFlowsNot = HasNoFlow handed asked 21 20 0
