-- A node that is a path or a name.
use Rattle.std.specs.Prelude.{◌≡◌, ℕ, List, Option, Some, slice_get}
use Rattle.argot_tree.specs.declared.node_kind.NodeKind.TheVariants as nodes
use Rattle.argot_tree.specs.declared.tree.TreeNode.{TreeNode}

-- the node, where there is one, is a path with this token
pub record IsPathAt (tree : List TreeNode) (node : Option ℕ) (token : ℕ) : Type 0 where
  pub child : ℕ
  pub is : TreeNode
  pub node_is : node ≡ Some child
  pub there : slice_get tree child ≡ Some is
  pub kind_is : is.kind ≡ nodes.ImportPath
  pub token_is : is.token ≡ token

-- the node, where there is one, is a name with this token, and another stands next to it
pub record IsNameAt (tree : List TreeNode) (node : Option ℕ) (token : ℕ) (next : Option ℕ) : Type 0 where
  pub child : ℕ
  pub is : TreeNode
  pub node_is : node ≡ Some child
  pub there : slice_get tree child ≡ Some is
  pub kind_is : is.kind ≡ nodes.DeclName
  pub token_is : is.token ≡ token
  pub next_is : is.next ≡ next
