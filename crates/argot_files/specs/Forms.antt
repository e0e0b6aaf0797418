-- What is needed of the nodes of a tree.
use Rattle.std.specs.Prelude.{◌≡◌, ℕ, ◌<◌, ◌≤◌, true, List, Some, slice_get}
use Rattle.argot_tree.specs.declared.tree.TreeNode.{TreeNode}
use Rattle.argot_names_rules.specs.Blocks.{is_block, IsInnermost}
use Rattle.argot_files.specs.Links.{IsLinked}
use Rattle.argot_files.specs.Keys.{IsKeyChild}

-- the links are those of a tree, its nodes stand in the order of their tokens, those behind a block begin behind its first
-- token, one block is the innermost around a token, and each child that is looked for is one
pub record IsFormed (tree : List TreeNode) : Type 0 where
  pub links : IsLinked tree
  pub ascends : (j k : ℕ) (m n : TreeNode) → j < k → slice_get tree j ≡ Some m → slice_get tree k ≡ Some n → m.token ≤ n.token
  pub apart : (j k : ℕ) (m n : TreeNode) → j < k → slice_get tree j ≡ Some m → slice_get tree k ≡ Some n → is_block m.kind ≡ true → m.token < n.token
  pub one_block : (token a b c d : ℕ) → IsInnermost tree token a b → IsInnermost tree token c d → (a ≡ c) × (b ≡ d)
  pub one_key : (p a b : ℕ) → IsKeyChild tree p a → IsKeyChild tree p b → a ≡ b
