-- The library packages that a program names, whose texts have to be handed over too.
use Rattle.std.specs.Prelude.{ℕ, List}
use Rattle.argot_names_rules.specs.Lists.{IsListOf}
use Rattle.argot_names_rules.specs.Files.{SourceFiles}
use Rattle.argot_names_rules.specs.declared.package_key.PackageKey.{PackageKey}
use Rattle.argot_names_rules.specs.declared.package_key.PackageKey.TheVariants.{Library}
use Rattle.argot_names_rules.specs.Imports.{Edge, IsReached}
use Rattle.argot_names_rules.specs.Agreeing.{PathBefore}

-- an import of a reached package finds the library's text at this path
pub record IsNamed (h : SourceFiles) (main path : List ℕ) : Type 0 where
  pub home : PackageKey
  pub file : ℕ
  pub at : ℕ
  pub reached : IsReached h main home
  pub edge : Edge h home file at (Library path)

-- these paths, in byte order and each once
abbrev pub AreNamed : SourceFiles → List ℕ → List (List ℕ) → Type 0
AreNamed h main paths = IsListOf PathBefore (IsNamed h main) paths
