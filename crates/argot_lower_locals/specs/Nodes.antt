-- The nodes of all files by one number each, in order of file and then in preorder: kinds, children, parents, texts, places.
use Rattle.std.specs.Prelude.{ℕ, zero, suc, ◌+◌, ◌-◌, nat_lt, ◌==◌, Bool, List, [], ◌∷◌, ◌++◌, map, length, take, find, Option, Some, None, slice_get, if◌then◌else◌}
use Rattle.std.specs.List.{list_any}
use Rattle.argot_text.specs.declared.position.Pos.{Pos}
use Rattle.argot_tree.specs.declared.node_kind.NodeKind.{NodeKind}
use Rattle.argot_tree.specs.declared.node_kind.NodeKind.TheVariants as nodes
use Rattle.argot_tree.specs.declared.token.Token.{Token}
use Rattle.argot_tree.specs.declared.tree.Tree.{Tree}
use Rattle.argot_tree.specs.declared.tree.TreeNode.{TreeNode}
use Rattle.argot_names_rules.specs.Files.{SourceFiles, read_of, text_at, position_of}
use Rattle.argot_names_rules.specs.Loaded.{count_nodes}
use Rattle.argot_lower_locals.specs.Typed.{Typed}

-- the numbers below this one, in order
abbrev pub below : ℕ → List ℕ
below zero = []
below (suc n) = below n ++ n ∷ []

abbrev pub holds : ℕ → List ℕ → Bool
holds n ns = list_any (λ m. m == n) ns

-- a file, and the number of a node in it
pub record Spot : Type 0 where
  pub file : ℕ
  pub node : ℕ

-- where the node of this number stands, the first of these trees being that of this file
abbrev pub locate : List Tree → ℕ → ℕ → Option Spot
locate [] file n = None
locate (tree ∷ trees) file n = if nat_lt n (length tree.nodes) then Some (record { file = file; node = n }) else locate trees (file + 1) (n - length tree.nodes)

-- a node: its kind, its file, its first and last token, its children
pub record Node : Type 0 where
  pub kind : NodeKind
  pub file : ℕ
  pub token : ℕ
  pub last : ℕ
  pub kids : List ℕ

abbrev pub next_in : Option TreeNode → Option ℕ
next_in None = None
next_in (Some n) = n.next

-- a node and those that stand behind it below one parent
abbrev pub siblings : ℕ → List TreeNode → Option ℕ → List ℕ
siblings zero tree n = []
siblings (suc k) tree None = []
siblings (suc k) tree (Some n) = n ∷ siblings k tree (next_in (slice_get tree n))

-- where there is no node: an empty statement
abbrev pub no_node : Node
no_node = record { kind = nodes.Empty; file = 0; token = 0; last = 0; kids = [] }

-- a node of a file whose first node has this number
abbrev pub numbered : ℕ → ℕ → List TreeNode → Option TreeNode → Node
numbered file base tree None = no_node
numbered file base tree (Some n) = record { kind = n.kind; file = file; token = n.token; last = n.last; kids = map (λ k. base + k) (siblings (length tree) tree n.first) }

abbrev pub node_in : SourceFiles → Option Spot → Node
node_in files None = no_node
node_in files (Some s) = numbered s.file (count_nodes (take s.file files.trees)) (read_of files s.file).nodes (slice_get (read_of files s.file).nodes s.node)

abbrev pub node : Typed → ℕ → Node
node t n = node_in t.files (locate t.files.trees 0 n)

abbrev pub kind : Typed → ℕ → NodeKind
kind t n = (node t n).kind

abbrev pub kids : Typed → ℕ → List ℕ
kids t n = (node t n).kids

abbrev pub node_count : Typed → ℕ
node_count t = count_nodes t.files.trees

abbrev pub all_nodes : Typed → List ℕ
all_nodes t = below (node_count t)

-- the node below which it stands
abbrev pub parent : Typed → ℕ → Option ℕ
parent t n = find (λ p. holds n (kids t p)) (below n)

-- those below which it stands, from the innermost out
abbrev pub climb : ℕ → Typed → Option ℕ → List ℕ
climb zero t n = []
climb (suc k) t None = []
climb (suc k) t (Some n) = n ∷ climb k t (parent t n)

abbrev pub ancestors : Typed → ℕ → List ℕ
ancestors t n = climb n t (parent t n)

abbrev pub stands_in : Typed → ℕ → ℕ → Bool
stands_in t whole n = holds whole (ancestors t n)

-- the first child of a kind that passes the test
abbrev pub kid_of : Typed → (NodeKind → Bool) → ℕ → Option ℕ
kid_of t test n = find (λ k. test (kind t k)) (kids t n)

-- the children of a child, none where it isn't there
abbrev pub kids_in : Typed → Option ℕ → List ℕ
kids_in t None = []
kids_in t (Some n) = kids t n

-- what stands inside parentheses
abbrev pub inside : (ℕ → ℕ) → ℕ → NodeKind → List ℕ → ℕ
inside again n nodes.Parens (x ∷ []) = again x
inside again n _ _ = n

abbrev pub strip_within : ℕ → Typed → ℕ → ℕ
strip_within zero t n = n
strip_within (suc k) t n = inside (strip_within k t) n (kind t n) (kids t n)

abbrev pub strip : Typed → ℕ → ℕ
strip t n = strip_within (node_count t) t n

-- the text of the node's first token
abbrev pub text_of : Typed → ℕ → List ℕ
text_of t n = text_at (read_of t.files (node t n).file) (node t n).token

abbrev pub start_in : Option Token → ℕ
start_in None = 0
start_in (Some token) = token.start

-- the first byte of a token
abbrev pub position_at : Typed → ℕ → ℕ → Pos
position_at t file token = position_of t.files (record { file = file; offset = start_in (slice_get (read_of t.files file).tokens token) })

-- the first byte of the node, as it is written
abbrev pub written : Typed → ℕ → Pos
written t n = position_at t (node t n).file (node t n).token

-- the first byte of what stands inside parentheses
abbrev pub at : Typed → ℕ → Pos
at t n = written t (strip t n)

-- the first byte of the node's last token, as a closing brace
abbrev pub closing : Typed → ℕ → Pos
closing t n = position_at t (node t n).file (node t n).last
