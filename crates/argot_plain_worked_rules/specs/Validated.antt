-- A validator tests a value.
--   1 func source() string { return "secret" }
--   2 func sink(x string) {}
--   3 func main() {
--   4     x := source()
--   5     if validate(x) {
--   6         sink(x)
--   7     } else {
--   8         sink(x)
--   9     }
--  10 }
--  11 func validate(x string) bool { return true }
-- Behind the test, in line 6, the value has no labels; in line 8 it has.
use Rattle.std.specs.Prelude.{[], ◌∷◌, codes}
use Rattle.argot_plain.specs.Code.{Code}
use Rattle.argot_plain.specs.WellFormed.{WellFormed}
use Rattle.argot_plain.specs.declared.functions.Function.{Function}
use Rattle.argot_plain.specs.declared.instructions.Callee.TheVariants.{Static}
use Rattle.argot_plain.specs.declared.instructions.Kind.TheVariants.{Op, Move, Call, RunDefers, Leave, Goto, Branch, Passed}
use Rattle.argot_plain.specs.declared.problems.Problem.{Problem}
use Rattle.argot_plain_worked_rules.specs.Worked.{on, one_leaf, declared, program, asked, Leaks, ComesClean, HasFlow, HasNoFlow}

abbrev pub main_function : Function
main_function = declared (codes "main") 3 14 22 0 0 (one_leaf ∷ one_leaf ∷ [])

abbrev pub validate_function : Function
validate_function = declared (codes "validate") 11 24 27 1 1 (one_leaf ∷ one_leaf ∷ one_leaf ∷ [])

abbrev pub validated : Code
validated =
    program (main_function ∷ validate_function ∷ [])
    (on 3 (Goto 15) ∷ on 4 (Call (0 ∷ []) (Static 1) []) ∷ on 5 (Call (1 ∷ []) (Static 4) (0 ∷ [])) ∷ on 5 (Branch (18 ∷ 21 ∷ []))
    ∷ on 6 (Passed 0 4) ∷ on 6 (Call [] (Static 2) (0 ∷ [])) ∷ on 9 (Goto 22) ∷ on 8 (Call [] (Static 2) (0 ∷ [])) ∷ on 10 RunDefers
    ∷ on 10 (Leave []) ∷ on 11 (Goto 25) ∷ on 11 (Op 2 []) ∷ on 11 (Move 1 2 []) ∷ on 11 RunDefers ∷ on 11 (Leave (1 ∷ [])) ∷ [])
    []

abbrev pub ItIsWellFormed : Type 0
ItIsWellFormed = WellFormed validated

abbrev pub tested : Problem
tested = record asked { validators = 4 ∷ [] }

-- the secret of line 4, the place 15, comes clean to the sink of line 6, the place 19
abbrev pub ItComesClean : Type 0
ItComesClean = ComesClean validated tested 19 0

-- it would have leaked if validate were no validator
abbrev pub ItWouldLeak : Type 0
ItWouldLeak = Leaks validated asked 15 19 0

-- and it leaks at the sink of line 8, the place 21
abbrev pub ItLeaks : Type 0
ItLeaks = Leaks validated tested 15 21 0

abbrev pub ItFlows : Type 0
ItFlows = HasFlow validated tested 15 21 0

-- the relation has no flow to line 6, which it had if validate were no validator
abbrev pub ItFlowsNot : Type 0
ItFlowsNot = HasNoFlow validated tested 15 19 0

abbrev pub ItWouldFlow : Type 0
ItWouldFlow = HasFlow validated asked 15 19 0
