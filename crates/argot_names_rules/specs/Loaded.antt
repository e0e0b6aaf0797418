-- The packages of a program, its declarations, and what each name stands for, by numbers.
use Rattle.std.specs.Prelude.{◌≡◌, ℕ, ◌+◌, ◌<◌, List, [], ◌∷◌, ◌++◌, take, length, map, Some, None, slice_get}
use Rattle.argot_tree.specs.declared.tree.Tree.{Tree}
use Rattle.argot_typed.specs.declared.program.Package.{Package}
use Rattle.argot_typed.specs.declared.program.Packages.{Packages}
use Rattle.argot_typed.specs.declared.program.Decl.{Decl}
use Rattle.argot_typed.specs.declared.program.Use.{Use}
use Rattle.argot_names_rules.specs.Lists.{IsListOf, IsSetOf}
use Rattle.argot_names_rules.specs.Files.{SourceFiles, Place, read_of, text_at}
use Rattle.argot_names_rules.specs.Packages.{IsFileOf, HasName, ImportPath}
use Rattle.argot_names_rules.specs.declared.package_key.PackageKey.{PackageKey}
use Rattle.argot_names_rules.specs.declared.package_key.PackageKey.TheVariants.{Folder}
use Rattle.argot_names_rules.specs.Imports.{IsReached}
use Rattle.argot_names_rules.specs.Bindings.{BindingKind, Brings, IsNew}
use Rattle.argot_names_rules.specs.Universe.{predeclared}
use Rattle.argot_names_rules.specs.Scopes.{Declaration, Predeclared, Declared}
use Rattle.argot_names_rules.specs.PackageScope.{Sort, IsTopName, IsImported}
use Rattle.argot_names_rules.specs.Uses.{StandsFor}

-- how many nodes these trees have
abbrev pub count_nodes : List Tree → ℕ
count_nodes [] = 0
count_nodes (tree ∷ trees) = length tree.nodes + count_nodes trees

-- the number of a node among those of all trees, in order of file and then in preorder
abbrev pub number_of : SourceFiles → (file node : ℕ) → ℕ
number_of h file node = count_nodes (take file h.trees) + node

-- a package's path, its name and the numbers of its files
pub record IsPackage (h : SourceFiles) (home : PackageKey) (is : Package) : Type 0 where
  pub path : ImportPath h home is.path
  pub name : HasName h home is.name
  pub files : IsListOf (λ (a b : ℕ). a < b) (IsFileOf h home) is.files

-- the node declares the name: outside functions, as an import, or in a function. `_` and functions named `init` are
-- declared too, though they are in no scope; methods, fields and labels aren't
pub data Declares (h : SourceFiles) (file : ℕ) : ℕ → List ℕ → Type 0 where
  top : {sort : Sort} {node token : ℕ} → IsTopName (read_of h file).nodes sort node token → Declares h file node (text_at (read_of h file) token)
  import_ : {name path : List ℕ} {node : ℕ} {place : Place} → IsImported h file name node path place → Declares h file node name
  local : {manner : BindingKind} {node token opens closes from : ℕ} → Brings (read_of h file).nodes manner node token opens closes from → IsNew (read_of h file) manner token opens → Declares h file node (text_at (read_of h file) token)

-- a declaration of one of the packages
pub record IsDeclaration (h : SourceFiles) (homes : List PackageKey) (decl : Decl) : Type 0 where
  pub number : ℕ
  pub home : PackageKey
  pub file : ℕ
  pub node : ℕ
  pub in_home : slice_get homes number ≡ Some home
  pub of : IsFileOf h home file
  pub declares : Declares h file node decl.name
  pub package_is : decl.package ≡ Some number
  pub node_is : decl.node ≡ Some (number_of h file node)

-- by node
pub record DeclBefore (a b : Decl) : Type 0 where
  pub one : ℕ
  pub other : ℕ
  pub a_is : a.node ≡ Some one
  pub b_is : b.node ≡ Some other
  pub before : one < other

abbrev pub predeclared_decl : List ℕ → Decl
predeclared_decl name = record { «package» = None; node = None; name = name }

-- the declarations: those of predeclared names, and those of the packages by node
pub record AreDecls (h : SourceFiles) (homes : List PackageKey) (decls : List Decl) : Type 0 where
  pub others : List Decl
  pub is : decls ≡ map predeclared_decl predeclared ++ others
  pub others_are : IsListOf DeclBefore (IsDeclaration h homes) others

-- the item is that of this declaration
abbrev pub IsThat : SourceFiles → Declaration → Decl → Type 0
IsThat h (Predeclared name) decl = (decl.node ≡ None) × (decl.name ≡ name)
IsThat h (Declared file node) decl = decl.node ≡ Some (number_of h file node)

-- a node of a package's file stands for a declaration
pub record IsUse (h : SourceFiles) (homes : List PackageKey) (decls : List Decl) (use_ : Use) : Type 0 where
  pub number : ℕ
  pub home : PackageKey
  pub file : ℕ
  pub node : ℕ
  pub meant : Declaration
  pub decl : Decl
  pub in_home : slice_get homes number ≡ Some home
  pub of : IsFileOf h home file
  pub stands : StandsFor h home file node meant
  pub node_is : use_.node ≡ number_of h file node
  pub there : slice_get decls use_.decl ≡ Some decl
  pub is : IsThat h meant decl

-- the packages that are reached, the main one first; their declarations; and the uses by node
pub record IsLoaded (h : SourceFiles) (main : List ℕ) (packages : Packages) : Type 0 where
  pub homes : List PackageKey
  pub reached : IsSetOf (IsReached h main) homes
  pub main_first : slice_get homes 0 ≡ Some (Folder main)
  pub as_many : length packages.packages ≡ length homes
  pub each : (k : ℕ) (home : PackageKey) (is : Package) → slice_get homes k ≡ Some home → slice_get packages.packages k ≡ Some is → IsPackage h home is
  pub decls : AreDecls h homes packages.decls
  pub uses : IsListOf (λ (a b : Use). a.node < b.node) (IsUse h homes packages.decls) packages.uses
