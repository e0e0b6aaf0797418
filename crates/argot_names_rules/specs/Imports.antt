-- The imports of a file, and the packages that they lead to (Go specification: Import declarations).
use Rattle.std.specs.Prelude.{ℕ, List}
use Rattle.argot_tree.specs.declared.node_kind.NodeKind.TheVariants as nodes
use Rattle.argot_tree.specs.declared.tree.TreeNode.{TreeNode}
use Rattle.argot_names_rules.specs.Files.{SourceFiles, SourceFile, read_of, text_at}
use Rattle.argot_names_rules.specs.Nodes.{Spans, IsFirstChild, IsNext}
use Rattle.argot_names_rules.specs.TextValues.{TextValue}
use Rattle.argot_names_rules.specs.Packages.{IsFolder, IsFileOf, Finds}
use Rattle.argot_names_rules.specs.declared.alias.Alias.{Alias}
use Rattle.argot_names_rules.specs.declared.alias.Alias.TheVariants.{Unnamed, Dotted, Named}
use Rattle.argot_names_rules.specs.declared.package_key.PackageKey.{PackageKey}
use Rattle.argot_names_rules.specs.declared.package_key.PackageKey.TheVariants.{Folder}

-- a node is an import that begins with this token, has the text of its path at that one, and is named so
pub data IsImport (tree : List TreeNode) : ℕ → ℕ → ℕ → Alias → Type 0 where
  unnamed : {node child at path end last : ℕ} → Spans tree node nodes.Spec at end → IsFirstChild tree node child → Spans tree child nodes.ImportPath path last → IsImport tree node at path Unnamed
  dotted : {node child at path end last : ℕ} → Spans tree node nodes.DotSpec at end → IsFirstChild tree node child → Spans tree child nodes.ImportPath path last → IsImport tree node at path Dotted
  named : {node name child at path end name_at name_end last : ℕ} → Spans tree node nodes.NamedSpec at end → IsFirstChild tree node name → Spans tree name nodes.DeclName name_at name_end → IsNext tree name child → Spans tree child nodes.ImportPath path last → IsImport tree node at path (Named name_at)

-- and its path is this
pub record Imports (f : SourceFile) (node at path_at : ℕ) (alias : Alias) (path : List ℕ) : Type 0 where
  pub is : IsImport f.nodes node at path_at alias
  pub value : TextValue (text_at f path_at) path

-- an import of a package's file, which begins with the token `at`, finds another package
pub record Edge (h : SourceFiles) (home : PackageKey) (file at : ℕ) (target : PackageKey) : Type 0 where
  pub of : IsFileOf h home file
  pub node : ℕ
  pub path_at : ℕ
  pub alias : Alias
  pub path : List ℕ
  pub imports : Imports (read_of h file) node at path_at alias path
  pub finds : Finds h path target

-- imports lead from one package to another
pub data Leads (h : SourceFiles) (home : PackageKey) : PackageKey → Type 0 where
  stay : Leads h home home
  onward : {between target : PackageKey} {file at : ℕ} → Leads h home between → Edge h between file at target → Leads h home target

-- the packages that imports lead to from the main one
pub record IsReached (h : SourceFiles) (main : List ℕ) (home : PackageKey) : Type 0 where
  pub there : IsFolder h main
  pub leads : Leads h (Folder main) home

-- the file belongs to a package that is reached
pub record IsReachedFile (h : SourceFiles) (main : List ℕ) (home : PackageKey) (file : ℕ) : Type 0 where
  pub reached : IsReached h main home
  pub of : IsFileOf h home file
