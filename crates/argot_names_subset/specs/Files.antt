-- What is added of one file and of one package, by the tables of what names stand for.
use Rattle.std.specs.Prelude.{◌≡◌, ℕ, ◌+◌, ◌<◌, ◌↔◌, List, Option, Some, slice_get}
use Rattle.argot_typed.specs.declared.program.Package.{Package}
use Rattle.argot_names_rules.specs.Lists.{In}
use Rattle.argot_names_rules.specs.Loaded.{IsPackage}
use Rattle.argot_names_rules.specs.Packages.{IsFileOf}
use Rattle.argot_names_rules.specs.declared.package_key.PackageKey.{PackageKey}
use Rattle.argot_names_imports.specs.Surveyed.{IsProper}
use Rattle.argot_names_subset_file.specs.declared.spots.Spot.{Spot}
use Rattle.argot_names_subset_file.specs.Spots.{Adds}
use Rattle.argot_names_subset.specs.Inside.{IsInside, IsInPackage}
use Rattle.argot_names_subset.specs.Known.{handed_of}
use Rattle.argot_names_subset.specs.Meanings.{AreTables, IsPathOf}
use Rattle.argot_names_subset.specs.declared.known.Known.{Known}

-- as many items of the table, from this one on
abbrev pub IsPart : {A : Type 0} → List A → (from count : ℕ) → List A → Type 0
IsPart {A} table from count part = (k : ℕ) (x : A) → slice_get part k ≡ Some x ↔ ((k < count) × (slice_get table (from + k) ≡ Some x))

-- a file of one of the packages, whose names the tables have, with the import path of its package
pub record IsSource (k : Known) (homes : List PackageKey) (home : PackageKey) (file : ℕ) (path : Option (List ℕ)) : Type 0 where
  pub tables : AreTables (handed_of k) homes k.named.now k.typed.now
  pub among : In home homes
  pub of : IsFileOf (handed_of k) home file
  pub path_of : IsPathOf (handed_of k) home path

-- the spots have gained what is left out in the file
abbrev pub AddsSource : Known → (file : ℕ) (path : Option (List ℕ)) → (old new : List Spot) → Type 0
AddsSource k file path old new =
    (homes : List PackageKey) (home : PackageKey) → IsSource k homes home file path → Adds (IsInside (handed_of k) k.entries.now home file) old new

-- this is one of the packages, whose names the tables have
pub record IsPackageAmong (k : Known) (homes : List PackageKey) (home : PackageKey) (is : Package) : Type 0 where
  pub tables : AreTables (handed_of k) homes k.named.now k.typed.now
  pub among : In home homes
  pub proper : IsProper home
  pub is_package : IsPackage (handed_of k) home is

-- the spots have gained what is left out in the package
abbrev pub AddsPackage : Known → Package → (old new : List Spot) → Type 0
AddsPackage k is old new =
    (homes : List PackageKey) (home : PackageKey) → IsPackageAmong k homes home is → Adds (IsInPackage (handed_of k) k.entries.now home) old new
