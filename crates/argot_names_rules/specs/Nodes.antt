-- The nodes of a tree: their kinds, the tokens that they span, and their children.
use Rattle.std.specs.Prelude.{◌≡◌, ℕ, Bool, true, false, List, Option, Some, slice_get}
use Rattle.argot_tree.specs.declared.node_kind.NodeKind.{NodeKind}
use Rattle.argot_tree.specs.declared.node_kind.NodeKind.TheVariants as nodes
use Rattle.argot_tree.specs.declared.tree.TreeNode.{TreeNode}

-- the node of this number has this kind, and spans the tokens from one to another
pub record Spans (tree : List TreeNode) (node : ℕ) (kind : NodeKind) (token last : ℕ) : Type 0 where
  pub first : Option ℕ
  pub next : Option ℕ
  pub there : slice_get tree node ≡ Some (record { kind = kind; token = token; last = last; first = first; next = next })

-- it is of a kind that passes the test
pub record IsOf (tree : List TreeNode) (node : ℕ) (test : NodeKind → Bool) (token last : ℕ) : Type 0 where
  pub kind : NodeKind
  pub spans : Spans tree node kind token last
  pub passes : test kind ≡ true

-- it is of this kind
pub record Is (tree : List TreeNode) (node : ℕ) (kind : NodeKind) : Type 0 where
  pub token : ℕ
  pub last : ℕ
  pub spans : Spans tree node kind token last

pub record IsFirstChild (tree : List TreeNode) (parent child : ℕ) : Type 0 where
  pub is : TreeNode
  pub there : slice_get tree parent ≡ Some is
  pub first : is.first ≡ Some child

-- the one stands right behind the other, below one parent
pub record IsNext (tree : List TreeNode) (before child : ℕ) : Type 0 where
  pub is : TreeNode
  pub there : slice_get tree before ≡ Some is
  pub next : is.next ≡ Some child

pub data IsChild (tree : List TreeNode) (parent : ℕ) : ℕ → Type 0 where
  first : {child : ℕ} → IsFirstChild tree parent child → IsChild tree parent child
  next : {before child : ℕ} → IsChild tree parent before → IsNext tree before child → IsChild tree parent child

-- some child of it has this kind
pub record HasChild (tree : List TreeNode) (parent : ℕ) (kind : NodeKind) : Type 0 where
  pub child : ℕ
  pub under : IsChild tree parent child
  pub is : Is tree child kind

-- a child of it is of a kind that passes the test
pub record HasChildOf (tree : List TreeNode) (parent : ℕ) (test : NodeKind → Bool) : Type 0 where
  pub child : ℕ
  pub token : ℕ
  pub last : ℕ
  pub under : IsChild tree parent child
  pub is : IsOf tree child test token last

-- a list of parameters
abbrev pub is_params : NodeKind → Bool
is_params nodes.Params = true
is_params nodes.NamedParams = true
is_params _ = false

-- a method's receiver stands before its name
abbrev pub HasReceiver : List TreeNode → ℕ → Type 0
HasReceiver tree node = HasChildOf tree node is_params
