-- A panic unwinds two functions, and the deferred call of the outer one is made on the way.
--   1 func source() string { return "secret" }
--   2 func sink(x string) {}
--   3 func main() { outer(source()) }
--   4 func outer(x string) {
--   5     defer sink(x)
--   6     inner()
--   7 }
--   8 func inner() { panic(source()) }
-- The secret that outer is handed reaches the sink. The one that the panic takes along is handed to nobody.
use Rattle.std.specs.Prelude.{[], ◌∷◌, codes}
use Rattle.argot_plain.specs.Code.{Code}
use Rattle.argot_plain.specs.WellFormed.{WellFormed}
use Rattle.argot_plain.specs.declared.functions.Function.{Function}
use Rattle.argot_plain.specs.declared.instructions.Callee.TheVariants.{Static}
use Rattle.argot_plain.specs.declared.instructions.Kind.TheVariants.{Call, Defer, RunDefers, Leave, Goto, Panic}
use Rattle.argot_plain_worked_rules.specs.Worked.{HasNoEdge, on, one_leaf, declared, program, asked, Leaks, Ends, HasFlow, HasNoFlow}

abbrev pub main_function : Function
main_function = declared (codes "main") 3 14 17 0 0 (one_leaf ∷ [])

abbrev pub outer_function : Function
outer_function = declared (codes "outer") 4 19 22 1 0 (one_leaf ∷ [])

abbrev pub inner_function : Function
inner_function = declared (codes "inner") 8 24 27 0 0 (one_leaf ∷ [])

abbrev pub unwinding : Code
unwinding =
    program (main_function ∷ outer_function ∷ inner_function ∷ [])
    (on 3 (Goto 15) ∷ on 3 (Call (0 ∷ []) (Static 1) []) ∷ on 3 (Call [] (Static 4) (0 ∷ [])) ∷ on 3 RunDefers ∷ on 3 (Leave [])
    ∷ on 4 (Goto 20) ∷ on 5 (Defer (Static 2) (0 ∷ [])) ∷ on 6 (Call [] (Static 5) []) ∷ on 7 RunDefers ∷ on 7 (Leave [])
    ∷ on 8 (Goto 25) ∷ on 8 (Call (0 ∷ []) (Static 1) []) ∷ on 8 (Panic 0) ∷ on 8 RunDefers ∷ on 8 (Leave []) ∷ [])
    []

abbrev pub ItIsWellFormed : Type 0
ItIsWellFormed = WellFormed unwinding

-- the secret of line 3, the place 15, reaches the sink that line 5, the place 20, defers
abbrev pub ItLeaks : Type 0
ItLeaks = Leaks unwinding asked 15 20 0

-- it unwinds all frames, and so the program ends
abbrev pub ItEnds : Type 0
ItEnds = Ends unwinding asked

-- a frame may begin to panic at any place: main at its Call of outer, the place 16, and then the program ends with no sink called
abbrev pub ItMayEndEarly : Type 0
ItMayEndEarly = Ends unwinding asked

-- the secret that the panic takes along comes to no argument: no edge leads there
abbrev pub ItIsNotHanded : Type 0
ItIsNotHanded = HasNoEdge unwinding asked 25 0 20 0

-- what line 3 hands to outer comes to no parameter of sink: no edge leads there
abbrev pub ItEntersAnother : Type 0
ItEntersAnother = HasNoEdge unwinding asked 16 0 11 0

abbrev pub ItFlows : Type 0
ItFlows = HasFlow unwinding asked 15 20 0

abbrev pub ItFlowsNot : Type 0
ItFlowsNot = HasNoFlow unwinding asked 25 20 0
