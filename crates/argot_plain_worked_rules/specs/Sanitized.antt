-- A sanitizer stands between source and sink.
--   1 func source() string { return "secret" }
--   2 func sink(x string) {}
--   3 func main() {
--   4     x := source()
--   5     sink(sanitize(x))
--   6     sink(x)
--   7 }
--   8 func sanitize(x string) string { return x }
-- What comes back from sanitize has no labels, whatever it does; what it was made from keeps them.
use Rattle.std.specs.Prelude.{[], ◌∷◌, codes}
use Rattle.argot_plain.specs.Code.{Code}
use Rattle.argot_plain.specs.WellFormed.{WellFormed}
use Rattle.argot_plain.specs.declared.functions.Function.{Function}
use Rattle.argot_plain.specs.declared.instructions.Callee.TheVariants.{Static}
use Rattle.argot_plain.specs.declared.instructions.Kind.TheVariants.{Move, Call, RunDefers, Leave, Goto}
use Rattle.argot_plain.specs.declared.problems.Problem.{Problem}
use Rattle.argot_plain_worked_rules.specs.Worked.{HasNoEdge, on, one_leaf, declared, program, asked, Leaks, ComesClean, HasFlow, HasNoFlow}

abbrev pub main_function : Function
main_function = declared (codes "main") 3 14 19 0 0 (one_leaf ∷ one_leaf ∷ [])

abbrev pub sanitize_function : Function
sanitize_function = declared (codes "sanitize") 8 21 23 1 1 (one_leaf ∷ one_leaf ∷ [])

abbrev pub sanitized : Code
sanitized =
    program (main_function ∷ sanitize_function ∷ [])
    (on 3 (Goto 15) ∷ on 4 (Call (0 ∷ []) (Static 1) []) ∷ on 5 (Call (1 ∷ []) (Static 4) (0 ∷ []))
    ∷ on 5 (Call [] (Static 2) (1 ∷ [])) ∷ on 6 (Call [] (Static 2) (0 ∷ [])) ∷ on 7 RunDefers ∷ on 7 (Leave []) ∷ on 8 (Goto 22)
    ∷ on 8 (Move 1 0 []) ∷ on 8 RunDefers ∷ on 8 (Leave (1 ∷ [])) ∷ [])
    []

abbrev pub ItIsWellFormed : Type 0
ItIsWellFormed = WellFormed sanitized

abbrev pub cleaned : Problem
cleaned = record asked { sanitizers = 4 ∷ [] }

-- the secret of line 4, the place 15, comes clean to the sink of line 5, the place 17
abbrev pub ItComesClean : Type 0
ItComesClean = ComesClean sanitized cleaned 17 0

-- it would have leaked if sanitize were no sanitizer
abbrev pub ItWouldLeak : Type 0
ItWouldLeak = Leaks sanitized asked 15 17 0

-- and it leaks at the sink of line 6, the place 18
abbrev pub ItLeaks : Type 0
ItLeaks = Leaks sanitized cleaned 15 18 0

-- what sanitize hands back comes to no result: no edge leads there
abbrev pub ItIsCut : Type 0
ItIsCut = HasNoEdge sanitized cleaned 24 0 16 0

abbrev pub ItFlows : Type 0
ItFlows = HasFlow sanitized cleaned 15 18 0

-- so the relation has no flow to line 5, which it had if sanitize were no sanitizer
abbrev pub ItFlowsNot : Type 0
ItFlowsNot = HasNoFlow sanitized cleaned 15 17 0

abbrev pub ItWouldFlow : Type 0
ItWouldFlow = HasFlow sanitized asked 15 17 0
