-- What the names of packages stand for, as tables by node.
use Rattle.std.specs.Prelude.{◌≡◌, ℕ, ◌↔◌, Bool, true, List, Option, Some, length, slice_get}
use Rattle.argot_tree.specs.declared.tree.TreeNode.{TreeNode}
use Rattle.argot_typed.specs.declared.program.Package.{Package}
use Rattle.argot_names_rules.specs.Lists.{In}
use Rattle.argot_names_rules.specs.Files.{SourceFiles, read_of}
use Rattle.argot_names_rules.specs.Packages.{IsFileOf, ImportPath}
use Rattle.argot_names_rules.specs.declared.package_key.PackageKey.{PackageKey}
use Rattle.argot_names_rules.specs.declared.package_key.PackageKey.TheVariants.{Folder}
use Rattle.argot_names_rules.specs.Scopes.{Declaration, Predeclared}
use Rattle.argot_names_rules.specs.Uses.{StandsFor}
use Rattle.argot_names_rules.specs.Loaded.{number_of, IsPackage}
use Rattle.argot_names_rules.specs.declared.flag.Feature.{Feature}
use Rattle.argot_names_rules.specs.Subset.{IsFeature, DeclaresType}
use Rattle.argot_names_imports.specs.Surveyed.{IsProper}

-- the node stands for a predeclared name that is left out
pub record IsFeatureName (h : SourceFiles) (home : PackageKey) (file node : ℕ) (feature : Feature) : Type 0 where
  pub name : List ℕ
  pub stands : StandsFor h home file node (Predeclared name)
  pub is : IsFeature name feature

-- the node stands for a type
pub record IsTypeName (h : SourceFiles) (home : PackageKey) (file node : ℕ) : Type 0 where
  pub meant : Declaration
  pub stands : StandsFor h home file node meant
  pub declares : DeclaresType h meant

-- the tables have for each node of the file what its name stands for
pub record AreMeant (h : SourceFiles) (home : PackageKey) (file : ℕ) (features : List (Option Feature)) (types : List Bool) : Type 0 where
  pub named : (node : ℕ) (feature : Feature) → slice_get features node ≡ Some (Some feature) ↔ IsFeatureName h home file node feature
  pub typed : (node : ℕ) → slice_get types node ≡ Some true ↔ IsTypeName h home file node

-- the tables have for each node of the packages' files, by its number among those of all trees, what its name stands for
pub record AreTables (h : SourceFiles) (homes : List PackageKey) (features : List (Option Feature)) (types : List Bool) : Type 0 where
  pub named : (home : PackageKey) (file node : ℕ) (is : TreeNode) (feature : Feature) → In home homes → IsFileOf h home file → slice_get (read_of h file).nodes node ≡ Some is
      → slice_get features (number_of h file node) ≡ Some (Some feature) ↔ IsFeatureName h home file node feature
  pub typed : (home : PackageKey) (file node : ℕ) (is : TreeNode) → In home homes → IsFileOf h home file → slice_get (read_of h file).nodes node ≡ Some is
      → slice_get types (number_of h file node) ≡ Some true ↔ IsTypeName h home file node

-- the path is that of the package, and is there where the package is a folder
pub record IsPathOf (h : SourceFiles) (home : PackageKey) (path : Option (List ℕ)) : Type 0 where
  pub sound : (p : List ℕ) → path ≡ Some p → (folder : List ℕ) × (home ≡ Folder folder) × ImportPath h (Folder folder) p
  pub complete : (folder p : List ℕ) → home ≡ Folder folder → ImportPath h (Folder folder) p → path ≡ Some p

-- the packages stand there
pub record ArePackageKeys (h : SourceFiles) (homes : List PackageKey) (packages : List Package) : Type 0 where
  pub as_many : length packages ≡ length homes
  pub proper : (home : PackageKey) → In home homes → IsProper home
  pub each : (k : ℕ) (home : PackageKey) (is : Package) → slice_get homes k ≡ Some home → slice_get packages k ≡ Some is → IsPackage h home is
