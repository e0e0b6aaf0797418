-- Functions named `main`: which nodes declare one, and which files have one.
use Rattle.std.specs.Prelude.{◌≡◌, ℕ, nat_eq, Bool, true, false, not, ◌&&◌, List, Option, Some, None, codes, slice_get, if◌then◌else◌}
use Rattle.std.specs.Cmp.Lexicographic.{pointwise}
use Rattle.argot_tree.specs.declared.node_kind.NodeKind.{NodeKind}
use Rattle.argot_tree.specs.declared.node_kind.NodeKind.TheVariants as nodes
use Rattle.argot_tree.specs.declared.tree.TreeNode.{TreeNode}
use Rattle.argot_names_rules.specs.Files.{SourceFiles, SourceFile, read_of, text_at}
use Rattle.argot_names_rules.specs.PackageScope.{Function, IsTopName}
use Rattle.argot_names_imports.specs.declared.survey.Survey.{Survey}
use Rattle.argot_names_packages.specs.Standing.{IsLedBy}

abbrev pub is_declared : NodeKind → Bool
is_declared nodes.DeclName = true
is_declared _ = false

abbrev pub is_function : NodeKind → Bool
is_function nodes.FuncDecl = true
is_function _ = false

abbrev pub is_main_text : List ℕ → Bool
is_main_text text = pointwise nat_eq text (codes "main")

-- the node declares a function `main`
pub record IsMainNode (f : SourceFile) (node : ℕ) : Type 0 where
  pub token : ℕ
  pub is : IsTopName f.nodes Function node token
  pub named : text_at f token ≡ codes "main"

-- the file has one
abbrev pub HasMainNode : SourceFile → Type 0
HasMainNode f = (node : ℕ) × IsMainNode f node

-- a file of the package with this first file has one
pub record HasMainFile (s : Survey) (h : SourceFiles) (first : ℕ) : Type 0 where
  pub file : ℕ
  pub led : IsLedBy s file first
  pub has : HasMainNode (read_of h file)

abbrev pub is_main_name : Option (List ℕ) → Bool
is_main_name None = false
is_main_name (Some name) = is_main_text name
