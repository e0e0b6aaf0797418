-- Nodes that have a child of a kind that is wanted.
use Rattle.std.specs.Prelude.{◌≡◌, ℕ, ◌<◌, Bool, true, false, List, Some, length, slice_get}
use Rattle.argot_tree.specs.declared.node_kind.NodeKind.{NodeKind}
use Rattle.argot_tree.specs.declared.node_kind.NodeKind.TheVariants as nodes
use Rattle.argot_tree.specs.declared.tree.TreeNode.{TreeNode}
use Rattle.argot_names_rules.specs.Nodes.{IsChild, is_params}
use Rattle.argot_files.specs.declared.marks.Wanted.{Wanted}
use Rattle.argot_files.specs.declared.marks.Wanted.TheVariants as wants

abbrev pub is_type_params : NodeKind → Bool
is_type_params nodes.TypeParams = true
is_type_params _ = false

abbrev pub passes : Wanted → NodeKind → Bool
passes wants.Parameters kind = is_params kind
passes wants.TypeParameters kind = is_type_params kind

-- a child of the node is wanted
pub record HasWanted (tree : List TreeNode) (wanted : Wanted) (parent : ℕ) : Type 0 where
  pub child : ℕ
  pub is : TreeNode
  pub under : IsChild tree parent child
  pub there : slice_get tree child ≡ Some is
  pub passes : passes wanted is.kind ≡ true

pub record AreMarks (tree : List TreeNode) (wanted : Wanted) (marks : List Bool) : Type 0 where
  pub as_long : length marks ≡ length tree
  pub sound : (p : ℕ) → slice_get marks p ≡ Some true → HasWanted tree wanted p
  pub complete : (p : ℕ) → slice_get marks p ≡ Some false → HasWanted tree wanted p → ⊥

-- as far as children before this number have been looked at
pub record AreMarksUpTo (tree : List TreeNode) (wanted : Wanted) (k : ℕ) (marks : List Bool) : Type 0 where
  pub as_long : length marks ≡ length tree
  pub sound : (p : ℕ) → slice_get marks p ≡ Some true → HasWanted tree wanted p
  pub complete : (p : ℕ) → slice_get marks p ≡ Some false → (h : HasWanted tree wanted p) → h.child < k → ⊥
