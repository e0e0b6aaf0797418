-- The tree of a token list.
use Rattle.std.specs.Prelude.{◌≡◌, ℕ, ◌≤◌, List, length}
use Rattle.argot_tree.specs.declared.token.Token.{Token}
use Rattle.argot_tree.specs.declared.tree.TreeNode.{TreeNode}
use Rattle.argot_tree.specs.declared.tree.Tree.{Tree}
use Rattle.argot_tree.specs.Forests.{Forest, nodes_from}
use Rattle.argot_tree.specs.Grammar.{Part, File, Spells}

-- the nodes are a tree that spells the tokens from one place up to another as this part
abbrev pub SpellsNodes : List Token → Part → List TreeNode → ℕ → ℕ → Type 0
SpellsNodes tokens part nodes from to = (x : Forest) × Spells tokens part x from to × (nodes ≡ nodes_from 0 x)

-- the tree spells the tokens, all of them, as a file
abbrev pub SpellsTree : Tree → List Token → Type 0
SpellsTree tree tokens = SpellsNodes tokens File tree.nodes 0 (length tokens)

-- and no tree of this part that begins there reaches further
pub record IsLongestPart (tokens : List Token) (part : Part) (nodes : List TreeNode) (from to : ℕ) : Type 0 where
  pub spelled : SpellsNodes tokens part nodes from to
  pub longest : (other : List TreeNode) (further : ℕ) → SpellsNodes tokens part other from further → further ≤ to

-- no tree of this part begins there
abbrev pub BeginsNoPart : List Token → Part → ℕ → Type 0
BeginsNoPart tokens part from = (nodes : List TreeNode) (to : ℕ) → SpellsNodes tokens part nodes from to → ⊥
