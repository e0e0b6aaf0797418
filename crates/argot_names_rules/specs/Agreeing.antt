-- The lists that are handed over agree: which files they have, in which order, and what is read of each.
use Rattle.std.specs.Prelude.{◌≡◌, ℕ, ◌<◌, ◌-◌, ◌^◌, nat_eq, Bool, true, not, ◌&&◌, ◌||◌, ◌==◌, List, [], ◌++◌, codes, length, map, filter, Some, slice_get}
use Rattle.std.specs.List.{starts_with, ends_with, list_all, slice_split}
use Rattle.std.specs.Ordering.{nat_cmp}
use Rattle.std.specs.declared.cmp.Ordering.TheVariants.{Less}
use Rattle.std.specs.Cmp.Lexicographic.{pointwise, slice_cmp}
use Rattle.argot_stubs.specs.Stubs.{HasStub}
use Rattle.argot_tree.specs.declared.lexed.Lexed.{Lexed}
use Rattle.argot_tree.specs.declared.tree.Tree.{Tree}
use Rattle.argot_tree.specs.Text.{SpellsText}
use Rattle.argot_tree.specs.Trees.{SpellsTree}
use Rattle.argot_names_rules.specs.Lists.{In, IsOrdered}
use Rattle.argot_names_rules.specs.Files.{SourceFiles, bytes_of}
use Rattle.argot_names_rules.specs.Packages.{HasPath, IsFileOf}
use Rattle.argot_names_rules.specs.declared.package_key.PackageKey.TheVariants.{Library}
use Rattle.argot_names_rules.specs.Imports.{IsReached}

-- no part of the path begins with `_` or `.` or is `testdata`
abbrev pub is_open_part : List ℕ → Bool
is_open_part part =
    not (starts_with nat_eq part (codes "_")) && (not (starts_with nat_eq part (codes ".")) && not (pointwise nat_eq part (codes "testdata")))

abbrev pub is_open_path : List ℕ → Bool
is_open_path path = list_all is_open_part (slice_split (λ b. b == 47) path)

abbrev pub is_go_file : List ℕ → Bool
is_go_file path = ends_with nat_eq path (codes ".go")

-- a Go file that is no test
abbrev pub is_kept : List ℕ → Bool
is_kept path = is_go_file path && (not (ends_with nat_eq path (codes "_test.go")) && is_open_path path)

abbrev pub is_assembly : List ℕ → Bool
is_assembly path = ends_with nat_eq path (codes ".s")

abbrev pub is_module_file : List ℕ → Bool
is_module_file path = pointwise nat_eq path (codes "go.mod")

-- the paths that are numbered
abbrev pub is_numbered : List ℕ → Bool
is_numbered path = is_module_file path || (is_kept path || is_assembly path && is_open_path path)

-- in byte order
abbrev pub PathBefore : List ℕ → List ℕ → Type 0
PathBefore a b = slice_cmp nat_cmp a b ≡ Less

abbrev pub library_path : List ℕ → List ℕ
library_path path = codes "stub:" ++ path

-- the tokens spell the file's bytes, and the tree spells the tokens
pub record IsRead (h : SourceFiles) (file : ℕ) : Type 0 where
  pub lexed : Lexed
  pub tree : Tree
  pub has_lexed : slice_get h.lexed file ≡ Some lexed
  pub has_tree : slice_get h.trees file ≡ Some tree
  pub spells_text : SpellsText lexed (bytes_of h file)
  pub spells_tree : SpellsTree tree lexed.tokens

-- nothing was read of it
pub record IsPassed (h : SourceFiles) (file : ℕ) : Type 0 where
  pub lexed : Lexed
  pub tree : Tree
  pub has_lexed : slice_get h.lexed file ≡ Some lexed
  pub has_tree : slice_get h.trees file ≡ Some tree
  pub no_tokens : lexed.tokens ≡ []
  pub no_directives : lexed.directives ≡ []
  pub no_nodes : tree.nodes ≡ []

-- the files of the folder in byte order of their paths, then texts of the library
pub record Agrees (h : SourceFiles) : Type 0 where
  pub files : List (List ℕ)
  pub library : List (List ℕ)
  pub paths : h.sources.paths ≡ files ++ map library_path library
  pub numbered : list_all is_numbered files ≡ true
  pub files_ordered : IsOrdered PathBefore files
  pub library_ordered : IsOrdered PathBefore library
  pub contents : length h.sources.contents ≡ length h.sources.paths
  pub lexed : length h.lexed ≡ length h.sources.paths
  pub trees : length h.trees ≡ length h.sources.paths
  pub assembly : h.sources.assembly ≡ filter is_assembly files
  pub short : (file : ℕ) → length (bytes_of h file) < 2 ^ 32 - 1
  pub go_files : (file : ℕ) (path : List ℕ) → HasPath h file path → is_go_file path ≡ true → IsRead h file
  pub texts : (file : ℕ) (path : List ℕ) → In path library → HasPath h file (library_path path) → HasStub path (bytes_of h file) × IsRead h file
  pub module_file : (file : ℕ) → HasPath h file (codes "go.mod") → IsPassed h file
  pub assembly_files : (file : ℕ) (path : List ℕ) → HasPath h file path → is_assembly path ≡ true → (bytes_of h file ≡ []) × IsPassed h file

-- the texts of the library that the program uses are there
abbrev pub HasLibrary : SourceFiles → List ℕ → Type 0
HasLibrary h main = (path : List ℕ) → IsReached h main (Library path) → (file : ℕ) × IsFileOf h (Library path) file
