-- A program as typing reads it: its files and packages, and the nodes of all trees under one number each.
use Rattle.std.specs.Prelude.{ℕ, zero, suc, ◌+◌, ◌==◌, Bool, true, false, ◌||◌, List, [], ◌∷◌, ◌++◌, map, length, Option, Some, None, slice_get, option_map, unwrap_or, if◌then◌else◌}
use Rattle.argot_tree.specs.declared.node_kind.NodeKind.{NodeKind}
use Rattle.argot_tree.specs.declared.node_kind.NodeKind.TheVariants as nodes
use Rattle.argot_tree.specs.declared.tree.TreeNode.{TreeNode}
use Rattle.argot_tree.specs.declared.tree.Tree.{Tree}
use Rattle.argot_typed.specs.declared.program.Package.{Package}
use Rattle.argot_typed.specs.declared.program.Packages.{Packages}
use Rattle.argot_names_rules.specs.Files.{SourceFiles, read_of, text_at}

-- a node: the number of its file, its kind, the tokens that it spans, and its first child and its next sibling by their
-- numbers through all trees
pub record CodeNode : Type 0 where
  pub file : ℕ
  pub kind : NodeKind
  pub token : ℕ
  pub last : ℕ
  pub first : Option ℕ
  pub next : Option ℕ

pub record Code : Type 0 where
  pub files : SourceFiles
  pub packages : Packages
  pub nodes : List CodeNode

-- a node of a tree before whose nodes so many others stand
abbrev pub shifted : ℕ → ℕ → TreeNode → CodeNode
shifted file base n =
    record {
      file = file;
      kind = n.kind;
      token = n.token;
      last = n.last;
      first = option_map (λ k. base + k) n.first;
      next = option_map (λ k. base + k) n.next;
    }

abbrev pub nodes_of_trees : (file base : ℕ) → List Tree → List CodeNode
nodes_of_trees file base [] = []
nodes_of_trees file base (t ∷ ts) = map (shifted file base) t.nodes ++ nodes_of_trees (suc file) (base + length t.nodes) ts

abbrev pub code_of : SourceFiles → Packages → Code
code_of files packages = record { files = files; packages = packages; nodes = nodes_of_trees 0 0 files.trees }

abbrev pub kind_at : Code → ℕ → Option NodeKind
kind_at c n = option_map (λ x. x.kind) (slice_get c.nodes n)

abbrev pub file_at : Code → ℕ → Option ℕ
file_at c n = option_map (λ x. x.file) (slice_get c.nodes n)

abbrev pub first_at : Code → ℕ → Option ℕ
first_at c n = elim (slice_get c.nodes n) [ None ↦ None | Some x ↦ x.first ]

abbrev pub next_at : Code → ℕ → Option ℕ
next_at c n = elim (slice_get c.nodes n) [ None ↦ None | Some x ↦ x.next ]

-- a node and those beside it, at most so many
abbrev pub siblings : Code → ℕ → Option ℕ → List ℕ
siblings c zero at = []
siblings c (suc k) None = []
siblings c (suc k) (Some n) = n ∷ siblings c k (next_at c n)

abbrev pub children : Code → ℕ → List ℕ
children c n = siblings c (length c.nodes) (first_at c n)

abbrev pub is_among : ℕ → List ℕ → Bool
is_among n [] = false
is_among n (m ∷ ms) = n == m || is_among n ms

-- the first number, from `at` on, that passes a test, among so many
abbrev pub first_that : (ℕ → Bool) → (more at : ℕ) → Option ℕ
first_that test zero at = None
first_that test (suc more) at = if test at then Some at else first_that test more (suc at)

abbrev pub parent_of : Code → ℕ → Option ℕ
parent_of c n = first_that (λ m. is_among n (children c m)) (length c.nodes) 0

abbrev pub is_kind : (NodeKind → Bool) → Option NodeKind → Bool
is_kind test None = false
is_kind test (Some kind) = test kind

-- the node is of a kind that passes the test
abbrev pub is_of : Code → (NodeKind → Bool) → ℕ → Bool
is_of c test n = is_kind test (kind_at c n)

abbrev pub first_of : Code → (NodeKind → Bool) → List ℕ → Option ℕ
first_of c test [] = None
first_of c test (n ∷ ns) = if is_of c test n then Some n else first_of c test ns

abbrev pub all_of : Code → (NodeKind → Bool) → List ℕ → List ℕ
all_of c test [] = []
all_of c test (n ∷ ns) = if is_of c test n then n ∷ all_of c test ns else all_of c test ns

-- the first child of a kind that passes the test
abbrev pub child_of : Code → (NodeKind → Bool) → ℕ → Option ℕ
child_of c test n = first_of c test (children c n)

abbrev pub head_of : List ℕ → Option ℕ
head_of [] = None
head_of (n ∷ ns) = Some n

abbrev pub tail_of : List ℕ → List ℕ
tail_of [] = []
tail_of (n ∷ ns) = ns

-- the place of a number in a list
abbrev pub place_in : ℕ → List ℕ → ℕ
place_in n [] = 0
place_in n (m ∷ ms) = if n == m then 0 else suc (place_in n ms)

-- the children of the children
abbrev pub children_of_all : Code → List ℕ → List ℕ
children_of_all c [] = []
children_of_all c (n ∷ ns) = children c n ++ children_of_all c ns

-- the first token's bytes
abbrev pub text_of : Code → ℕ → List ℕ
text_of c n = elim (slice_get c.nodes n) [ None ↦ [] | Some x ↦ text_at (read_of c.files x.file) x.token ]

-- the bytes of the token that stands so many behind it
abbrev pub text_behind : Code → ℕ → ℕ → List ℕ
text_behind c k n = elim (slice_get c.nodes n) [ None ↦ [] | Some x ↦ text_at (read_of c.files x.file) (x.token + k) ]

-- the number of the package that has a file
abbrev pub package_among : ℕ → ℕ → List Package → Option ℕ
package_among file k [] = None
package_among file k (p ∷ ps) = if is_among file p.files then Some k else package_among file (suc k) ps

-- the package of a node; nodes of files that no reached package has, have none
abbrev pub package_of : Code → ℕ → Option ℕ
package_of c n = elim (file_at c n) [ None ↦ None | Some file ↦ package_among file 0 c.packages.packages ]

-- kinds of nodes that are looked for by name
abbrev pub is_names : NodeKind → Bool
is_names nodes.Names = true
is_names _ = false

abbrev pub is_decl_name : NodeKind → Bool
is_decl_name nodes.DeclName = true
is_decl_name _ = false

abbrev pub is_exprs : NodeKind → Bool
is_exprs nodes.Exprs = true
is_exprs _ = false

abbrev pub is_block : NodeKind → Bool
is_block nodes.Block = true
is_block _ = false

abbrev pub is_signature : NodeKind → Bool
is_signature nodes.Signature = true
is_signature _ = false

abbrev pub is_params : NodeKind → Bool
is_params nodes.Params = true
is_params nodes.NamedParams = true
is_params _ = false

abbrev pub is_parens : NodeKind → Bool
is_parens nodes.Parens = true
is_parens _ = false

abbrev pub is_call : NodeKind → Bool
is_call nodes.Call = true
is_call nodes.SpreadCall = true
is_call _ = false

abbrev pub is_name_use : NodeKind → Bool
is_name_use nodes.NameUse = true
is_name_use _ = false

abbrev pub is_function : NodeKind → Bool
is_function nodes.FuncDecl = true
is_function nodes.FuncLiteral = true
is_function _ = false

abbrev pub is_func_decl : NodeKind → Bool
is_func_decl nodes.FuncDecl = true
is_func_decl _ = false

abbrev pub is_const_spec : NodeKind → Bool
is_const_spec nodes.ConstSpec = true
is_const_spec _ = false

abbrev pub is_clause : NodeKind → Bool
is_clause nodes.Case = true
is_clause nodes.Default = true
is_clause nodes.SendCase = true
is_clause nodes.AssignCase = true
is_clause nodes.DefineCase = true
is_clause nodes.ReceiveCase = true
is_clause _ = false

abbrev pub is_default : NodeKind → Bool
is_default nodes.Default = true
is_default _ = false

abbrev pub is_empty : NodeKind → Bool
is_empty nodes.Empty = true
is_empty _ = false

abbrev pub is_labeled : NodeKind → Bool
is_labeled nodes.Labeled = true
is_labeled _ = false

-- what stands inside parentheses, through so many of them
abbrev pub inside_parens : Code → ℕ → ℕ → ℕ
inside_parens c zero n = n
inside_parens c (suc k) n = if is_of c is_parens n then unwrap_or (option_map (inside_parens c k) (head_of (children c n))) n else n

-- the expression, parentheses aside
abbrev pub stripped : Code → ℕ → ℕ
stripped c n = inside_parens c (length c.nodes) n
