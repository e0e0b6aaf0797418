-- The import path of a package by the path of one of its files.
use Rattle.std.specs.Prelude.{◌≡◌, ℕ, nat_eq, true, List, Option, Some, None, codes, drop, if◌then◌else◌}
use Rattle.std.specs.List.{starts_with}
use Rattle.argot_names_rules.specs.Agreeing.{is_go_file}
use Rattle.argot_names_rules.specs.Packages.{folder_of, FolderPath}
use Rattle.argot_names_imports.specs.Keys.{key_of}
use Rattle.argot_names_imports.specs.declared.firsts.Sort.TheVariants.{Libraries}

-- what follows `stubs/`
abbrev pub stubs_of : List ℕ → Option (List ℕ)
stubs_of folder = if starts_with nat_eq folder (codes "stubs/") then Some (drop 6 folder) else None

-- where the file is a Go file its folder's path, and where it is a text of the library what follows `stub:`
pub record IsPathBy (module_ path : List ℕ) (is : List ℕ) : Type 0 where
  pub go : is_go_file path ≡ true → FolderPath module_ (folder_of path) is
  pub text : (rest : List ℕ) → (is_go_file path ≡ true → ⊥) → key_of Libraries path ≡ Some rest → is ≡ rest
