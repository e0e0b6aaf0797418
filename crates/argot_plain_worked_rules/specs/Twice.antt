-- One function is called twice.
--   1 func source() string { return "secret" }
--   2 func sink(x string) {}
--   3 func main() {
--   4     a := same(source())
--   5     b := same("ok")
--   6     sink(a)
--   7     sink(b)
--   8 }
--   9 func same(x string) string { return x }
-- What the first call is handed comes back to the first call alone.
use Rattle.std.specs.Prelude.{[], ◌∷◌, codes}
use Rattle.argot_plain.specs.Code.{Code}
use Rattle.argot_plain.specs.WellFormed.{WellFormed}
use Rattle.argot_plain.specs.declared.functions.Function.{Function}
use Rattle.argot_plain.specs.declared.instructions.Callee.TheVariants.{Static}
use Rattle.argot_plain.specs.declared.instructions.Kind.TheVariants.{Op, Move, Call, RunDefers, Leave, Goto}
use Rattle.argot_plain_worked_rules.specs.Worked.{on, one_leaf, declared, program, asked, Leaks, ComesClean, HasFlow, HasNoFlow}

abbrev pub main_function : Function
main_function = declared (codes "main") 3 14 21 0 0 (one_leaf ∷ one_leaf ∷ one_leaf ∷ one_leaf ∷ [])

abbrev pub same_function : Function
same_function = declared (codes "same") 9 23 25 1 1 (one_leaf ∷ one_leaf ∷ [])

abbrev pub twice : Code
twice =
    program (main_function ∷ same_function ∷ [])
    (on 3 (Goto 15) ∷ on 4 (Call (0 ∷ []) (Static 1) []) ∷ on 4 (Call (1 ∷ []) (Static 4) (0 ∷ [])) ∷ on 5 (Op 2 [])
    ∷ on 5 (Call (3 ∷ []) (Static 4) (2 ∷ [])) ∷ on 6 (Call [] (Static 2) (1 ∷ [])) ∷ on 7 (Call [] (Static 2) (3 ∷ []))
    ∷ on 8 RunDefers ∷ on 8 (Leave []) ∷ on 9 (Goto 24) ∷ on 9 (Move 1 0 []) ∷ on 9 RunDefers ∷ on 9 (Leave (1 ∷ [])) ∷ [])
    []

abbrev pub ItIsWellFormed : Type 0
ItIsWellFormed = WellFormed twice

-- the secret of line 4, the place 15, reaches the sink of line 6, the place 19
abbrev pub ItLeaks : Type 0
ItLeaks = Leaks twice asked 15 19 0

-- and not that of line 7, the place 20
abbrev pub ItComesClean : Type 0
ItComesClean = ComesClean twice asked 20 0

abbrev pub ItFlows : Type 0
ItFlows = HasFlow twice asked 15 19 0

-- what goes into the function by the first call doesn't come back by the second one
abbrev pub ItFlowsNot : Type 0
ItFlowsNot = HasNoFlow twice asked 15 20 0
