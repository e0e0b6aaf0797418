-- The program
--   1 package main
--   2 func source() string { return "secret" }
--   3 func sink(x string) {}
--   4
--   5 func main() {
--   6     x := source()
--   7     sink(x)
--   8 }
-- as its bytes, and its code as a whole program.
use Rattle.std.specs.Prelude.{◌↔◌, ℕ, List, [], ◌∷◌, ◌++◌, codes}
use Rattle.argot_first_form.specs.Tree.{File}
use Rattle.argot_first_form.specs.Form.{IsFirstForm, HasFirstForm}
use Rattle.argot_first.specs.Code.{code_of}
use Rattle.argot_plain.specs.Lists.{In}
use Rattle.argot_facts.specs.Graphs.{IsEdge}
use Rattle.argot_facts.specs.declared.graphs.EdgeKind.{EdgeKind}
use Rattle.argot_facts.specs.declared.nodes.Node.{Node}
use Rattle.argot_plain_worked.specs.FirstFlow.{HasTwentyPlaces, HasSevenNodes, its_edges}
use Rattle.argot_first_sound.specs.Whole.{whole_of, asked}

abbrev pub line : List ℕ → List ℕ → List ℕ
line text rest = text ++ (10 ∷ rest)

-- a tab is 9, and a quote is 34
abbrev pub its_text : List ℕ
its_text =
    line (codes "package main")
    (line (codes "func source() string { return " ++ (34 ∷ (codes "secret" ++ (34 ∷ codes " }"))))
    (line (codes "func sink(x string) {}")
    (line []
    (line (codes "func main() {")
    (line (9 ∷ codes "x := source()")
    (line (9 ∷ codes "sink(x)")
    (line (codes "}") [])))))))

-- its code, as a whole program, has exactly these places, nodes and edges
pub record IsDrawn (file : File) : Type 0 where
  pub places : HasTwentyPlaces (whole_of (code_of file))
  pub nodes : HasSevenNodes (whole_of (code_of file))
  pub edges : (a : Node) (kind : EdgeKind) (b : Node) → IsEdge (whole_of (code_of file)) (asked (code_of file)) a kind b ↔ In (a, kind, b) its_edges

-- the bytes have the first form
abbrev pub ItHasTheForm : Type 0
ItHasTheForm = HasFirstForm its_text

-- and so it is for each tree with these bytes
abbrev pub ItIsDrawn : Type 0
ItIsDrawn = (file : File) → IsFirstForm file its_text → IsDrawn file
