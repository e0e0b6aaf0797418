-- Slices that grow.
--   1 func source() string { return "secret" }
--   2 func sink(x string) {}
--   3 func main() {
--   4     var s []string
--   5     s = append(s)
--   6     s = append(s, source())
--   7     s = append(s, "ok")
--   8     t := append(s, "ok")
--   9     sink(t[0])
--  10     t = append(t, source())
--  11 }
-- Line 5 adds nothing to nothing, line 6 makes a fresh slice, line 7 adds in place, and line 8 copies the elements into a
-- fresh slice: the first secret goes along and reaches the sink. The second comes too late.
use Rattle.std.specs.Prelude.{[], ◌∷◌, codes}
use Rattle.argot_plain.specs.Code.{Code}
use Rattle.argot_plain.specs.WellFormed.{WellFormed}
use Rattle.argot_plain.specs.declared.functions.Function.{Function}
use Rattle.argot_plain.specs.declared.instructions.Callee.TheVariants.{Static}
use Rattle.argot_plain.specs.declared.instructions.Kind.TheVariants.{Op, Join, Step, Read, Grow, Call, RunDefers, Leave, Goto}
use Rattle.argot_text.specs.declared.path.PathStep.TheVariants.{Element}
use Rattle.argot_facts.specs.declared.graphs.EdgeKind.TheVariants.{Plain}
use Rattle.argot_plain_worked_rules.specs.Worked.{HasEdge, HasNoEdge, on, one_leaf, declared, program, site_at, asked, Leaks, HasFlow, HasNoFlow}

abbrev pub main_function : Function
main_function = declared (codes "main") 3 14 27 0 0 (one_leaf ∷ one_leaf ∷ one_leaf ∷ one_leaf ∷ one_leaf ∷ one_leaf ∷ one_leaf ∷ one_leaf ∷ one_leaf ∷ one_leaf ∷ one_leaf ∷ [])

abbrev pub slices : Code
slices =
    program (main_function ∷ [])
    (on 3 (Goto 15) ∷ on 4 (Join 0 []) ∷ on 5 (Grow 1 0 []) ∷ on 6 (Call (2 ∷ []) (Static 1) []) ∷ on 6 (Grow 3 1 (2 ∷ []))
    ∷ on 7 (Op 4 []) ∷ on 7 (Grow 5 3 (4 ∷ [])) ∷ on 8 (Grow 6 5 (4 ∷ [])) ∷ on 9 (Step 7 6 (Element ∷ [])) ∷ on 9 (Read 8 7 one_leaf)
    ∷ on 9 (Call [] (Static 2) (8 ∷ [])) ∷ on 10 (Call (9 ∷ []) (Static 1) []) ∷ on 10 (Grow 10 6 (9 ∷ [])) ∷ on 11 RunDefers
    ∷ on 11 (Leave []) ∷ [])
    (site_at 16 ((Element ∷ []) ∷ []) ∷ site_at 18 ((Element ∷ []) ∷ []) ∷ site_at 20 ((Element ∷ []) ∷ []) ∷ site_at 21 ((Element ∷ []) ∷ []) ∷ site_at 26 ((Element ∷ []) ∷ []) ∷ [])

abbrev pub ItIsWellFormed : Type 0
ItIsWellFormed = WellFormed slices

-- the secret of line 6, the place 17, reaches the sink of line 9, the place 24
abbrev pub ItLeaks : Type 0
ItLeaks = Leaks slices asked 17 24 0

-- the elements that line 8 copies stand with the items that it adds
abbrev pub ItCopiesElements : Type 0
ItCopiesElements = HasEdge slices asked 21 2 Plain 21 1

-- what line 10 adds comes too late for the read of line 9: no edge leads there
abbrev pub ItComesTooLate : Type 0
ItComesTooLate = HasNoEdge slices asked 26 1 23 0

-- and not with those that line 7 adds
abbrev pub ItKeepsApart : Type 0
ItKeepsApart = HasNoEdge slices asked 21 2 20 1

-- the relation has the flow of line 6
abbrev pub ItFlows : Type 0
ItFlows = HasFlow slices asked 17 24 0

-- and none from line 10, the place 25
abbrev pub ItFlowsNot : Type 0
ItFlowsNot = HasNoFlow slices asked 25 24 0
