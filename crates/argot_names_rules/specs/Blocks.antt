-- The blocks of a file that lie in functions (Go specification: Blocks). Each begins with a token of its own, so the
-- innermost of those around a token is the one that begins last.
use Rattle.std.specs.Prelude.{ℕ, ◌≤◌, Bool, true, false, List}
use Rattle.argot_tree.specs.declared.node_kind.NodeKind.{NodeKind}
use Rattle.argot_tree.specs.declared.node_kind.NodeKind.TheVariants as nodes
use Rattle.argot_tree.specs.declared.tree.TreeNode.{TreeNode}
use Rattle.argot_names_rules.specs.Nodes.{IsOf}

-- braces, each `if`, `for` and `switch` as a whole, each clause of a `switch` or `select`
abbrev pub is_block : NodeKind → Bool
is_block nodes.Block = true
is_block nodes.If = true
is_block nodes.While = true
is_block nodes.For = true
is_block nodes.Range = true
is_block nodes.AssignRange = true
is_block nodes.DefineRange = true
is_block nodes.Switch = true
is_block nodes.TypeSwitch = true
is_block nodes.Case = true
is_block nodes.Default = true
is_block nodes.SendCase = true
is_block nodes.AssignCase = true
is_block nodes.DefineCase = true
is_block nodes.ReceiveCase = true
is_block _ = false

-- a block reaches from its first token to its last
pub record IsBlock (tree : List TreeNode) (opens closes : ℕ) : Type 0 where
  pub node : ℕ
  pub is : IsOf tree node is_block opens closes

-- a block around a token
pub record IsAround (tree : List TreeNode) (token opens closes : ℕ) : Type 0 where
  pub block : IsBlock tree opens closes
  pub from : opens ≤ token
  pub to : token ≤ closes

-- and no block around it begins later
pub record IsInnermost (tree : List TreeNode) (token opens closes : ℕ) : Type 0 where
  pub around : IsAround tree token opens closes
  pub innermost : (other end : ℕ) → IsAround tree token other end → other ≤ opens

-- no block is around it
abbrev pub IsOutside : List TreeNode → ℕ → Type 0
IsOutside tree token = (opens closes : ℕ) → IsAround tree token opens closes → ⊥
