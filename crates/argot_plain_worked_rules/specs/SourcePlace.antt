-- A field is a source.
--   1 func source() string { return "secret" }
--   2 func sink(x string) {}
--   3 func main() {
--   4     r := &Request{}
--   5     sink(r.body)
--   6     sink(r.path)
--   7     v := *r
--   8     sink(v.body)
--   9 }
--  10 type Request struct{ body, path string }
-- Each Read of the field body, and each Move of it out of a struct, labels what it puts. The field path is no source.
use Rattle.std.specs.Prelude.{[], ◌∷◌, codes}
use Rattle.argot_plain.specs.Code.{Code}
use Rattle.argot_plain.specs.WellFormed.{WellFormed}
use Rattle.argot_plain.specs.declared.functions.Function.{Function}
use Rattle.argot_plain.specs.declared.instructions.Callee.TheVariants.{Static}
use Rattle.argot_plain.specs.declared.instructions.Kind.TheVariants.{Move, New, Step, Read, Call, RunDefers, Leave, Goto}
use Rattle.argot_plain.specs.declared.problems.Problem.{Problem}
use Rattle.argot_text.specs.declared.path.PathStep.TheVariants.{Field}
use Rattle.argot_plain_worked_rules.specs.Worked.{HasNoEdge, on, one_leaf, declared, program, site_at, asked, Leaks, ComesClean, HasFlow, HasNoFlow}

abbrev pub main_function : Function
main_function = declared (codes "main") 3 14 25 0 0 (one_leaf ∷ one_leaf ∷ one_leaf ∷ one_leaf ∷ one_leaf ∷ ((Field 0 ∷ []) ∷ (Field 1 ∷ []) ∷ []) ∷ one_leaf ∷ [])

abbrev pub source_place : Code
source_place =
    program (main_function ∷ [])
    (on 3 (Goto 15) ∷ on 4 (New 0 0) ∷ on 5 (Step 1 0 (Field 0 ∷ [])) ∷ on 5 (Read 2 1 one_leaf) ∷ on 5 (Call [] (Static 2) (2 ∷ []))
    ∷ on 6 (Step 3 0 (Field 1 ∷ [])) ∷ on 6 (Read 4 3 one_leaf) ∷ on 6 (Call [] (Static 2) (4 ∷ []))
    ∷ on 7 (Read 5 0 ((Field 0 ∷ []) ∷ (Field 1 ∷ []) ∷ [])) ∷ on 8 (Move 6 5 (Field 0 ∷ [])) ∷ on 8 (Call [] (Static 2) (6 ∷ []))
    ∷ on 9 RunDefers ∷ on 9 (Leave []) ∷ [])
    (site_at 15 ((Field 0 ∷ []) ∷ (Field 1 ∷ []) ∷ []) ∷ [])

abbrev pub ItIsWellFormed : Type 0
ItIsWellFormed = WellFormed source_place

-- the Read of the place 17 and the Move of the place 23 are sources
abbrev pub body_read : Problem
body_read = record asked { source_places = (17, codes "body") ∷ (23, codes "body") ∷ [] }

abbrev pub ItLeaks : Type 0
ItLeaks = Leaks source_place body_read 17 18 0

abbrev pub ItComesClean : Type 0
ItComesClean = ComesClean source_place body_read 21 0

abbrev pub ItLeaksAgain : Type 0
ItLeaksAgain = Leaks source_place body_read 23 24 0

-- the field body comes to no sink of the field path: no edge leads there
abbrev pub ItIsAnother : Type 0
ItIsAnother = HasNoEdge source_place body_read 17 0 21 0

-- the field path would leak if it were a source: the Read of the place 20
abbrev pub path_read : Problem
path_read = record asked { source_places = (20, codes "path") ∷ [] }

abbrev pub ItWouldLeak : Type 0
ItWouldLeak = Leaks source_place path_read 20 21 0

abbrev pub ItFlows : Type 0
ItFlows = HasFlow source_place body_read 17 18 0

abbrev pub ItFlowsNot : Type 0
ItFlowsNot = HasNoFlow source_place body_read 17 21 0
