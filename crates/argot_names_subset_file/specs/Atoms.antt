-- Expressions that denote types, by a table that says which names stand for types; and the selectors that they stand before.
use Rattle.std.specs.Prelude.{◌≡◌, ℕ, Bool, true, List, Some, slice_get}
use Rattle.argot_tree.specs.declared.node_kind.NodeKind.TheVariants as nodes
use Rattle.argot_tree.specs.declared.tree.TreeNode.{TreeNode}
use Rattle.argot_names_rules.specs.Nodes.{Is, IsOf, IsFirstChild, IsChild}
use Rattle.argot_names_rules.specs.Subset.{is_type_form, wraps_type}
use Rattle.argot_names_blocks.specs.declared.tables.Found.{Found}

-- an expression that denotes a type
pub data IsTyped (tree : List TreeNode) (typed : List Bool) : ℕ → Type 0 where
  name : {node : ℕ} → Is tree node nodes.NameUse → slice_get typed node ≡ Some true → IsTyped tree typed node
  member : {selector node : ℕ} → Is tree selector nodes.Selector → IsChild tree selector node → Is tree node nodes.SelectedName → slice_get typed node ≡ Some true → IsTyped tree typed selector
  wrapped : {node inner at last : ℕ} → IsOf tree node wraps_type at last → IsFirstChild tree node inner → IsTyped tree typed inner → IsTyped tree typed node
  form : {node at last : ℕ} → IsOf tree node is_type_form at last → IsTyped tree typed node

-- the node, or the name behind its dot, makes the expression denote a type, without parentheses and stars
pub data IsAtom (tree : List TreeNode) (typed : List Bool) : (node atom : ℕ) → Type 0 where
  name : {node : ℕ} → Is tree node nodes.NameUse → slice_get typed node ≡ Some true → IsAtom tree typed node node
  member : {selector node : ℕ} → Is tree selector nodes.Selector → IsChild tree selector node → Is tree node nodes.SelectedName → slice_get typed node ≡ Some true → IsAtom tree typed node selector
  form : {node at last : ℕ} → IsOf tree node is_type_form at last → IsAtom tree typed node node

-- the expression stands before the dot of this selector, in any number of parentheses and stars
pub data IsBeforeDot (tree : List TreeNode) : (node selector : ℕ) → Type 0 where
  direct : {node selector : ℕ} → Is tree selector nodes.Selector → IsFirstChild tree selector node → IsBeforeDot tree node selector
  wrapped : {node around selector at last : ℕ} → IsOf tree around wraps_type at last → IsFirstChild tree around node → IsBeforeDot tree around selector → IsBeforeDot tree node selector

-- the parent of a node, with its number
pub record IsAbove (tree : List TreeNode) (node : ℕ) (above : Found) : Type 0 where
  pub under : IsChild tree above.at node
  pub there : slice_get tree above.at ≡ Some above.node

-- the node is the first child of this one
pub record IsAboveFirst (tree : List TreeNode) (node : ℕ) (above : Found) : Type 0 where
  pub first : IsFirstChild tree above.at node
  pub there : slice_get tree above.at ≡ Some above.node

-- the node is a part of this selector
pub record IsSelectorOf (tree : List TreeNode) (node selector : ℕ) : Type 0 where
  pub is : Is tree selector nodes.Selector
  pub under : IsChild tree selector node
