-- Children that a node has at most once: the body of a function or of a `range` clause, the head of a type switch that gives
-- a name, that name, and the values of a case.
use Rattle.std.specs.Prelude.{◌≡◌, ℕ, ◌<◌, Bool, true, false, List, Option, Some, length, slice_get}
use Rattle.argot_tree.specs.declared.tree.TreeNode.{TreeNode}
use Rattle.argot_names_rules.specs.Nodes.{IsChild}
use Rattle.argot_tree.specs.declared.node_kind.NodeKind.{NodeKind}
use Rattle.argot_tree.specs.declared.node_kind.NodeKind.TheVariants as nodes
use Rattle.argot_files.specs.declared.keys.Key.{Key}
use Rattle.argot_files.specs.declared.keys.Key.TheVariants as keys

abbrev pub key_of : NodeKind → Key
key_of nodes.FuncDecl = keys.Body
key_of nodes.FuncLiteral = keys.Body
key_of nodes.DefineRange = keys.Body
key_of nodes.TypeSwitch = keys.Guard
key_of nodes.NamedGuard = keys.Name
key_of nodes.Case = keys.Values
key_of _ = keys.Nothing

abbrev pub is_braces : NodeKind → Bool
is_braces nodes.Block = true
is_braces _ = false

abbrev pub is_named_guard : NodeKind → Bool
is_named_guard nodes.NamedGuard = true
is_named_guard _ = false

abbrev pub is_declared : NodeKind → Bool
is_declared nodes.DeclName = true
is_declared _ = false

abbrev pub is_values : NodeKind → Bool
is_values nodes.Values = true
is_values _ = false

abbrev pub fits : Key → NodeKind → Bool
fits keys.Nothing kind = false
fits keys.Body kind = is_braces kind
fits keys.Guard kind = is_named_guard kind
fits keys.Name kind = is_declared kind
fits keys.Values kind = is_values kind

-- the child is the one that is looked for in the parent
pub record IsKeyChild (tree : List TreeNode) (parent child : ℕ) : Type 0 where
  pub above : TreeNode
  pub below : TreeNode
  pub under : IsChild tree parent child
  pub above_there : slice_get tree parent ≡ Some above
  pub below_there : slice_get tree child ≡ Some below
  pub fits : fits (key_of above.kind) below.kind ≡ true

-- the table has for each node that child, where there is one
pub record AreKeys (tree : List TreeNode) (keys : List (Option ℕ)) : Type 0 where
  pub as_long : length keys ≡ length tree
  pub sound : (p c : ℕ) → slice_get keys p ≡ Some (Some c) → IsKeyChild tree p c
  pub complete : (p c : ℕ) → IsKeyChild tree p c → slice_get keys p ≡ Some (Some c)

-- as far as children before this number have been looked at
pub record AreKeysUpTo (tree : List TreeNode) (k : ℕ) (keys : List (Option ℕ)) : Type 0 where
  pub as_long : length keys ≡ length tree
  pub sound : (p c : ℕ) → slice_get keys p ≡ Some (Some c) → IsKeyChild tree p c
  pub found : (p c : ℕ) → c < k → IsKeyChild tree p c → slice_get keys p ≡ Some (Some c)
