-- A deferred call of nothing.
--   1 func source() string { return "secret" }
--   2 func sink(x string) {}
--   3 func main() {
--   4     x := source()
--   5     defer sink(x)
--   6     var f func()
--   7     defer f()
--   8 }
-- The exit runs the last record first. It means nothing, so main begins to panic, and the other record still runs.
use Rattle.std.specs.Prelude.{[], ◌∷◌, codes}
use Rattle.argot_plain.specs.Code.{Code}
use Rattle.argot_plain.specs.WellFormed.{WellFormed}
use Rattle.argot_plain.specs.declared.functions.Function.{Function}
use Rattle.argot_plain.specs.declared.instructions.Callee.TheVariants.{Static, Value}
use Rattle.argot_plain.specs.declared.instructions.Kind.TheVariants.{Join, Call, Defer, RunDefers, Leave, Goto}
use Rattle.argot_plain_worked_rules.specs.Worked.{on, one_leaf, declared, program, asked, Leaks, Ends, HasFlow, HasNoEdge}

abbrev pub main_function : Function
main_function = declared (codes "main") 3 14 19 0 0 (one_leaf ∷ one_leaf ∷ [])

abbrev pub nil_function : Code
nil_function =
    program (main_function ∷ [])
    (on 3 (Goto 15) ∷ on 4 (Call (0 ∷ []) (Static 1) []) ∷ on 5 (Defer (Static 2) (0 ∷ [])) ∷ on 6 (Join 1 [])
    ∷ on 7 (Defer (Value 1) []) ∷ on 8 RunDefers ∷ on 8 (Leave []) ∷ [])
    []

abbrev pub ItIsWellFormed : Type 0
ItIsWellFormed = WellFormed nil_function

-- the secret of line 4, the place 15, reaches the sink that line 5, the place 16, defers, after the panic
abbrev pub ItLeaks : Type 0
ItLeaks = Leaks nil_function asked 15 16 0

abbrev pub ItEnds : Type 0
ItEnds = Ends nil_function asked

abbrev pub ItFlows : Type 0
ItFlows = HasFlow nil_function asked 15 16 0

-- and comes to nothing that line 7 hands on: no edge leads there
abbrev pub ItIsNotHanded : Type 0
ItIsNotHanded = HasNoEdge nil_function asked 15 0 18 0
