-- Trees side by side, and their nodes in preorder.
use Rattle.std.specs.Prelude.{ℕ, ◌+◌, ◌-◌, ◌==◌, List, [], ◌∷◌, ◌++◌, Option, Some, None, if◌then◌else◌}
use Rattle.argot_tree.specs.declared.node_kind.NodeKind.{NodeKind}
use Rattle.argot_tree.specs.declared.tree.TreeNode.{TreeNode}

-- no tree, or one with its kind, its first and last token and its children, and the trees beside it
pub data Forest : Type 0 where
  leaf : Forest
  tree : NodeKind → ℕ → ℕ → Forest → Forest → Forest

abbrev pub beside : Forest → Forest → Forest
beside leaf g = g
beside (tree kind token last kids rest) g = tree kind token last kids (beside rest g)

-- the last of the tokens from one place up to another; an empty node has the place itself
abbrev pub last_token : ℕ → ℕ → ℕ
last_token from to = if from == to then from else to - 1

-- one tree over these tokens
abbrev pub one : NodeKind → ℕ → ℕ → Forest → Forest
one kind from to kids = tree kind from (last_token from to) kids leaf

abbrev pub size : Forest → ℕ
size leaf = 0
size (tree kind token last kids rest) = (size kids + 1) + size rest

-- where the first of the trees stands
abbrev pub begins : ℕ → Forest → Option ℕ
begins at leaf = None
begins at (tree kind token last kids rest) = Some at

-- the nodes of trees side by side, each before its children, from a number on
abbrev pub nodes_from : ℕ → Forest → List TreeNode
nodes_from at leaf = []
nodes_from at (tree kind token last kids rest) =
    record { kind = kind; token = token; last = last; first = begins (at + 1) kids; next = begins (at + (size kids + 1)) rest }
    ∷ (nodes_from (at + 1) kids ++ nodes_from (at + (size kids + 1)) rest)
