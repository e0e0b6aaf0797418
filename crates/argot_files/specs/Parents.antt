-- The parent of each node, as a table by number.
use Rattle.std.specs.Prelude.{◌≡◌, ℕ, ◌<◌, List, Option, Some, None, length, slice_get, slice_set}
use Rattle.argot_tree.specs.declared.tree.TreeNode.{TreeNode}
use Rattle.argot_names_rules.specs.Nodes.{IsChild}

pub record AreParents (tree : List TreeNode) (parents : List (Option ℕ)) : Type 0 where
  pub as_long : length parents ≡ length tree
  pub sound : (p c : ℕ) → slice_get parents c ≡ Some (Some p) → IsChild tree p c
  pub complete : (p c : ℕ) → IsChild tree p c → slice_get parents c ≡ Some (Some p)

-- the parent is put at the number where there is one
abbrev pub put : List (Option ℕ) → Option ℕ → Option ℕ → List (Option ℕ)
put parents None parent = parents
put parents (Some at) parent = slice_set parents at parent

-- the table as far as the first children of nodes before j and the siblings behind nodes before k have been put
pub record AreParentsUpTo (tree : List TreeNode) (j k : ℕ) (parents : List (Option ℕ)) : Type 0 where
  pub as_long : length parents ≡ length tree
  pub sound : (p c : ℕ) → slice_get parents c ≡ Some (Some p) → IsChild tree p c
  pub firsts : (p c : ℕ) (n : TreeNode) → p < j → slice_get tree p ≡ Some n → n.first ≡ Some c → slice_get parents c ≡ Some (Some p)
  pub nexts : (b c : ℕ) (n : TreeNode) → b < k → slice_get tree b ≡ Some n → n.next ≡ Some c → slice_get parents c ≡ slice_get parents b
