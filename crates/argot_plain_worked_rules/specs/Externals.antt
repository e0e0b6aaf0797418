-- Functions without a body: one whose results depend on its arguments, one whose results don't, one without results.
--   1 func source() string { return "secret" }
--   2 func sink(x string) {}
--   3 func main() {
--   4     x := source()
--   5     go log(x)
--   6     defer log(x)
--   7     sink(upper(x))
--   8     sink(*lookup(x))
--   9 }
--  10 func upper(x string) string      // flows
--  11 func lookup(x string) *string    // doesn't
--  12 func log(x string)
-- What upper gives bears the labels of what it is handed; what lookup gives refers to a fresh object, in which is nothing.
use Rattle.std.specs.Prelude.{true, false, [], ◌∷◌, codes}
use Rattle.argot_plain.specs.Code.{Code}
use Rattle.argot_plain.specs.WellFormed.{WellFormed}
use Rattle.argot_plain.specs.declared.functions.Function.{Function}
use Rattle.argot_plain.specs.declared.instructions.Callee.TheVariants.{Static}
use Rattle.argot_plain.specs.declared.instructions.Kind.TheVariants.{Read, Call, Go, Defer, RunDefers, Leave, Goto}
use Rattle.argot_facts.specs.declared.graphs.EdgeKind.TheVariants.{Plain}
use Rattle.argot_plain_worked_rules.specs.Worked.{HasEdge, on, one_leaf, declared, outside, program, site_at, asked, Leaks, ComesClean, Ends, HasNoEdge, HasFlow, HasNoFlow}

abbrev pub main_function : Function
main_function = declared (codes "main") 3 14 23 0 0 (one_leaf ∷ one_leaf ∷ one_leaf ∷ one_leaf ∷ [])

abbrev pub upper_function : Function
upper_function = outside (codes "upper") 10 25 1 1 (one_leaf ∷ one_leaf ∷ []) true

abbrev pub lookup_function : Function
lookup_function = outside (codes "lookup") 11 26 1 1 (one_leaf ∷ one_leaf ∷ []) false

abbrev pub log_function : Function
log_function = outside (codes "log") 12 27 1 0 (one_leaf ∷ []) false

abbrev pub externals : Code
externals =
    program (main_function ∷ upper_function ∷ lookup_function ∷ log_function ∷ [])
    (on 3 (Goto 15) ∷ on 4 (Call (0 ∷ []) (Static 1) []) ∷ on 5 (Go (Static 6) (0 ∷ [])) ∷ on 6 (Defer (Static 6) (0 ∷ []))
    ∷ on 7 (Call (1 ∷ []) (Static 4) (0 ∷ [])) ∷ on 7 (Call [] (Static 2) (1 ∷ [])) ∷ on 8 (Call (2 ∷ []) (Static 5) (0 ∷ []))
    ∷ on 8 (Read 3 2 one_leaf) ∷ on 8 (Call [] (Static 2) (3 ∷ [])) ∷ on 9 RunDefers ∷ on 9 (Leave []) ∷ on 10 (Goto 25)
    ∷ on 11 (Goto 26) ∷ on 12 (Goto 27) ∷ [])
    (site_at 20 one_leaf ∷ [])

abbrev pub ItIsWellFormed : Type 0
ItIsWellFormed = WellFormed externals

-- through upper the secret reaches the sink of line 7, the place 19
abbrev pub ItLeaks : Type 0
ItLeaks = Leaks externals asked 15 19 0

-- what stands in the fresh object comes clean to the sink of line 8, the place 22
abbrev pub ItComesClean : Type 0
ItComesClean = ComesClean externals asked 22 0

-- both log calls are made, and the program ends
abbrev pub ItEnds : Type 0
ItEnds = Ends externals asked

-- what upper is handed comes to its result
abbrev pub ItGoesThrough : Type 0
ItGoesThrough = HasEdge externals asked 18 1 Plain 18 0

-- what lookup is handed doesn't
abbrev pub ItStaysOutside : Type 0
ItStaysOutside = HasNoEdge externals asked 20 1 20 0

abbrev pub ItFlows : Type 0
ItFlows = HasFlow externals asked 15 19 0

abbrev pub ItFlowsNot : Type 0
ItFlowsNot = HasNoFlow externals asked 15 22 0
