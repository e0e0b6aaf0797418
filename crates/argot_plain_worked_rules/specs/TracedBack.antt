-- Data is traced back from a point.
--   1 func source() string { return "secret" }
--   2 func sink(x string) {}
--   3 func main() {
--   4     a := "ok"
--   5     b := a + a
--   6     sink(b)
--   7     sink("ok")
--   8 }
-- Where sink is a point, the text of line 4 is an origin of its argument in line 6, and none of its argument in line 7. The sum
-- of line 5 is no origin, since data comes to it.
use Rattle.std.specs.Prelude.{◌==◌, ◌||◌, Bool, [], ◌∷◌, codes}
use Rattle.argot_plain.specs.Code.{Code}
use Rattle.argot_plain.specs.Counts.{traced_back}
use Rattle.argot_plain.specs.Leak.{LabelReaches, traced}
use Rattle.argot_plain.specs.Machine.{State}
use Rattle.argot_plain.specs.Nodes.{Mark, mark}
use Rattle.argot_plain.specs.WellFormed.{WellFormed}
use Rattle.argot_plain.specs.declared.functions.Function.{Function}
use Rattle.argot_plain.specs.declared.instructions.Callee.TheVariants.{Static}
use Rattle.argot_plain.specs.declared.instructions.Kind.TheVariants.{Op, Call, RunDefers, Leave, Goto}
use Rattle.argot_plain.specs.declared.problems.Problem.{Problem}
use Rattle.argot_facts.specs.declared.graphs.EdgeKind.TheVariants.{Plain}
use Rattle.argot_plain_worked_rules.specs.Worked.{HasNoEdge, IsReached, on, one_leaf, declared, program, asked, HasEdge}

abbrev pub main_function : Function
main_function = declared (codes "main") 3 14 20 0 0 (one_leaf ∷ one_leaf ∷ one_leaf ∷ [])

abbrev pub traced_program : Code
traced_program =
    program (main_function ∷ [])
    (on 3 (Goto 15) ∷ on 4 (Op 0 []) ∷ on 5 (Op 1 (0 ∷ 0 ∷ [])) ∷ on 6 (Call [] (Static 2) (1 ∷ [])) ∷ on 7 (Op 2 [])
    ∷ on 7 (Call [] (Static 2) (2 ∷ [])) ∷ on 8 RunDefers ∷ on 8 (Leave []) ∷ [])
    []

abbrev pub ItIsWellFormed : Type 0
ItIsWellFormed = WellFormed traced_program

abbrev pub pointed : Problem
pointed = record asked { sources = []; sinks = []; points = 2 ∷ [] }

-- labels begin at the texts of main
abbrev pub at_texts : Mark → Bool
at_texts m = (m.place == 15) || (m.place == 18)

-- the label of the text of line 4, the place 15, comes to the argument of the point in line 6, the place 17
abbrev pub ItComesToThePoint : Type 0
ItComesToThePoint = (x : State) × IsReached traced_program (traced pointed at_texts) x × LabelReaches traced_program (traced pointed at_texts) x (mark 15 0 []) 17 0

-- the text of line 4 comes to no argument of line 7: no edge leads there
abbrev pub ItIsAnother : Type 0
ItIsAnother = HasNoEdge traced_program (traced_back pointed) 15 0 19 0

-- it comes to the sum of line 5
abbrev pub ItIsAdded : Type 0
ItIsAdded = HasEdge traced_program (traced_back pointed) 15 0 Plain 16 0
