-- The tables that a tree determines.
use Rattle.std.specs.Prelude.{ℕ, Bool, List, Option}
use Rattle.argot_tree.specs.declared.tree.TreeNode.{TreeNode}
use Rattle.argot_files.specs.Forms.{IsFormed}
use Rattle.argot_files.specs.Parents.{AreParents}
use Rattle.argot_files.specs.Keys.{AreKeys}
use Rattle.argot_files.specs.Marks.{AreMarks}
use Rattle.argot_files.specs.declared.marks.Wanted.TheVariants.{Parameters}

-- the nodes are those of a tree; and these are their parents, the children that are looked for, and the methods
pub record AreTables (tree : List TreeNode) (ps ks : List (Option ℕ)) (rs : List Bool) : Type 0 where
  pub formed : IsFormed tree
  pub parents : AreParents tree ps
  pub keys : AreKeys tree ks
  pub receivers : AreMarks tree Parameters rs
