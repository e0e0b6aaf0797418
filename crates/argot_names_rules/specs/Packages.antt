-- Packages by where they stand: in a folder, or among the library packages that argot knows by itself.
use Rattle.std.specs.Prelude.{◌≡◌, ◌≢◌, ℕ, ◌<◌, nat_eq, true, List, [], ◌∷◌, ◌++◌, codes, Some, slice_get, unwrap_or, option_map}
use Rattle.std.specs.List.{ends_with}
use Rattle.std.specs.Path.{rsplit_once}
use Rattle.argot_stubs.specs.Stubs.{HasStub}
use Rattle.argot_tree.specs.declared.node_kind.NodeKind.TheVariants as nodes
use Rattle.argot_names_rules.specs.Files.{SourceFiles, SourceFile, read_of, text_at}
use Rattle.argot_names_rules.specs.Nodes.{Spans, IsFirstChild}
use Rattle.argot_names_rules.specs.declared.package_key.PackageKey.{PackageKey}
use Rattle.argot_names_rules.specs.declared.package_key.PackageKey.TheVariants.{Folder, Library}

-- the folder of a path: what stands before its last slash, or nothing
abbrev pub folder_of : List ℕ → List ℕ
folder_of path = unwrap_or (option_map (λ r. r.0) (rsplit_once 47 path)) []

abbrev pub HasPath : SourceFiles → ℕ → List ℕ → Type 0
HasPath h file path = slice_get h.sources.paths file ≡ Some path

-- the file is one of the package
pub data IsFileOf (h : SourceFiles) : PackageKey → ℕ → Type 0 where
  in_folder : {folder : List ℕ} {file : ℕ} (path : List ℕ) → HasPath h file path → ends_with nat_eq path (codes ".go") ≡ true → folder_of path ≡ folder → IsFileOf h (Folder folder) file
  in_library : {path : List ℕ} {file : ℕ} → HasPath h file (codes "stub:" ++ path) → IsFileOf h (Library path) file

-- the folder has a Go file
abbrev pub IsFolder : SourceFiles → List ℕ → Type 0
IsFolder h folder = (file : ℕ) × IsFileOf h (Folder folder) file

-- the first file of a package
pub record IsFirstFile (h : SourceFiles) (home : PackageKey) (file : ℕ) : Type 0 where
  pub is : IsFileOf h home file
  pub first : (other : ℕ) → IsFileOf h home other → other < file → ⊥

-- the name in a file's package clause
pub record HasClause (f : SourceFile) (name : List ℕ) : Type 0 where
  pub node : ℕ
  pub token : ℕ
  pub last : ℕ
  pub child : IsFirstChild f.nodes 0 node
  pub spans : Spans f.nodes node nodes.DeclName token last
  pub is : name ≡ text_at f token

-- a package has the name of its first file
pub record HasName (h : SourceFiles) (home : PackageKey) (name : List ℕ) : Type 0 where
  pub file : ℕ
  pub first : IsFirstFile h home file
  pub clause : HasClause (read_of h file) name

-- the import path of a folder: what follows `stubs/`, else the module's path, a slash and the folder; the folder at the
-- top has the module's path alone, or `main` where there is none
pub data FolderPath (module_ : List ℕ) : List ℕ → List ℕ → Type 0 where
  handwritten : (path : List ℕ) → FolderPath module_ (codes "stubs/" ++ path) path
  top : module_ ≢ [] → FolderPath module_ [] module_
  top_of_none : module_ ≡ [] → FolderPath module_ [] (codes "main")
  inner : {folder : List ℕ} → folder ≢ [] → ((path : List ℕ) → folder ≢ codes "stubs/" ++ path) → FolderPath module_ folder (module_ ++ 47 ∷ folder)

pub data ImportPath (h : SourceFiles) : PackageKey → List ℕ → Type 0 where
  of_folder : {folder path : List ℕ} → FolderPath h.sources.module folder path → ImportPath h (Folder folder) path
  of_library : {path : List ℕ} → ImportPath h (Library path) path

-- a package of the module that is imported by this path
pub record IsOfModule (h : SourceFiles) (path folder : List ℕ) : Type 0 where
  pub is : IsFolder h folder
  pub of_module : (rest : List ℕ) → folder ≢ codes "stubs/" ++ rest
  pub path_is : FolderPath h.sources.module folder path

-- paths whose packages are left out
pub data IsLeftOut : List ℕ → Type 0 where
  unsafe_ : IsLeftOut (codes "unsafe")
  reflect : IsLeftOut (codes "reflect")
  c : IsLeftOut (codes "C")

-- what an import path names: a folder of the module, else one below `stubs/`, else a text of the library
pub data Finds (h : SourceFiles) (path : List ℕ) : PackageKey → Type 0 where
  of_module : {folder : List ℕ} → (IsLeftOut path → ⊥) → IsOfModule h path folder → Finds h path (Folder folder)
  handwritten : (IsLeftOut path → ⊥) → ((folder : List ℕ) → IsOfModule h path folder → ⊥) → IsFolder h (codes "stubs/" ++ path) → Finds h path (Folder (codes "stubs/" ++ path))
  of_library : (text : List ℕ) → (IsLeftOut path → ⊥) → ((folder : List ℕ) → IsOfModule h path folder → ⊥) → (IsFolder h (codes "stubs/" ++ path) → ⊥) → HasStub path text → Finds h path (Library path)
