-- Tables by the number of a node among those of all trees, in order of file and then in preorder.
use Rattle.std.specs.Prelude.{◌≡◌, ℕ, ◌+◌, ◌<◌, ◌↔◌, Bool, true, List, ◌++◌, Some, take, length, slice_get}
use Rattle.argot_tree.specs.declared.node_kind.NodeKind.TheVariants as nodes
use Rattle.argot_tree.specs.declared.tree.Tree.{Tree}
use Rattle.argot_tree.specs.declared.tree.TreeNode.{TreeNode}
use Rattle.argot_names_rules.specs.Nodes.{Is, IsOf, IsChild}
use Rattle.argot_names_rules.specs.Bindings.{specifies_type}
use Rattle.argot_names_rules.specs.Loaded.{count_nodes}
use Rattle.argot_files.specs.Links.{IsLinked}

-- the node is the name of a type that is declared
pub record IsTypeDeclared (tree : List TreeNode) (node : ℕ) : Type 0 where
  pub spec : ℕ
  pub at : ℕ
  pub last : ℕ
  pub is_spec : IsOf tree spec specifies_type at last
  pub under : IsChild tree spec node
  pub is_name : Is tree node nodes.DeclName

-- the links of all trees are those of trees
abbrev pub AreLinked : List Tree → Type 0
AreLinked trees = (file : ℕ) (tree : Tree) → slice_get trees file ≡ Some tree → IsLinked tree.nodes

-- the list has behind it, for each node before this number, whether it is such a name
pub record AreTypesUpTo (tree : List TreeNode) (k : ℕ) (old new : List Bool) : Type 0 where
  pub added : List Bool
  pub new_is : new ≡ old ++ added
  pub as_long : length added ≡ k
  pub each : (j : ℕ) → j < k → slice_get added j ≡ Some true ↔ IsTypeDeclared tree j

-- the list has this for each node of the trees before this one
pub record AreTypesBefore (trees : List Tree) (count : ℕ) (types : List Bool) : Type 0 where
  pub as_long : length types ≡ count_nodes (take count trees)
  pub each : (file node : ℕ) (tree : Tree) → file < count → slice_get trees file ≡ Some tree → node < length tree.nodes
      → slice_get types (count_nodes (take file trees) + node) ≡ Some true ↔ IsTypeDeclared tree.nodes node

abbrev pub AreTypes : List Tree → List Bool → Type 0
AreTypes trees types = AreTypesBefore trees (length trees) types

-- the number of nodes before each file
pub record AreBases (trees : List Tree) (bases : List ℕ) : Type 0 where
  pub as_long : length bases ≡ length trees
  pub each : (file base : ℕ) → slice_get bases file ≡ Some base → base ≡ count_nodes (take file trees)
