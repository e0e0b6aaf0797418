-- What is added of packages, file by file and package by package.
use Rattle.std.proofs.Common.{◌≡◌, ℕ, ◌≤◌, List, Some, length, sym, ◌∙◌, subst, arith}
use Rattle.std.specs.Prelude.{slice_get}
use Rattle.argot_tree.specs.declared.entries.Entry.{Entry}
use Rattle.argot_typed.specs.declared.program.Package.{Package}
use Rattle.argot_names_rules.specs.Files.{SourceFiles, Place}
use Rattle.argot_names_rules.specs.Loaded.{IsPackage}
use Rattle.argot_names_rules.specs.declared.package_key.PackageKey.{PackageKey}
use Rattle.argot_names_rules.specs.declared.flag.Feature.{Feature}
use Rattle.argot_names_imports.proofs.Lists.{get_below, get_there}
use Rattle.argot_names_subset_file.specs.declared.spots.Spot.{Spot}
use Rattle.argot_names_subset_file.specs.Spots.{Adds}
use Rattle.argot_names_subset_file.proofs.Adding.{UpTo, adds_as, adds_all}
use Rattle.argot_names_subset.specs.Inside.{IsInside, IsInPackage, IsAmongKeys}
use Rattle.argot_names_subset.specs.Meanings.{ArePackageKeys}
use Rattle.argot_names_subset.proofs.Bridging.{some_is}

module _ (h : SourceFiles) (entries : List Entry) where
  -- in the file at this place of the list
  pub record IsFileNumbered (home : PackageKey) (files : List ℕ) (j : ℕ) (feature : Feature) (place : Place) : Type 0 where
    pub file : ℕ
    pub there : slice_get files j ≡ Some file
    pub inside : IsInside h entries home file feature place

  pub file_numbered : (home : PackageKey) (files : List ℕ) (j file : ℕ) (old new : List Spot) → slice_get files j ≡ Some file → Adds (IsInside h entries home file) old new → Adds (IsFileNumbered home files j) old new
  file_numbered home files j file old new there a =
      adds_as (IsInside h entries home file) (IsFileNumbered home files j) old new
      (λ f p i. record { file = file; there = there; inside = i })
      (λ f p n. subst (λ k. IsInside h entries home k f p) (some_is n.file file (sym n.there ∙ there)) n.inside) a

  pub files_all : (home : PackageKey) (p : Package) (count : ℕ) (old new : List Spot) → IsPackage h home p → length p.files ≤ count → Adds (UpTo (IsFileNumbered home p.files) count) old new → Adds (IsInPackage h entries home) old new
  files_all home p count old new is long a =
      adds_as (λ f q. (j : ℕ) × IsFileNumbered home p.files j f q) (IsInPackage h entries home) old new
      (λ f q n. record { file = n.1.file; of = is.files.sound n.1.file (n.0, n.1.there); inside = n.1.inside })
      (λ f q i. let k = is.files.complete i.file i.of in (k.0, record { file = i.file; there = k.1; inside = i.inside }))
      (adds_all (IsFileNumbered home p.files) count old new (λ j f q n. omega (arith, long, get_below p.files j n.file n.there)) a)

  -- in the package at this place of the list
  pub record IsKeyNumbered (homes : List PackageKey) (j : ℕ) (feature : Feature) (place : Place) : Type 0 where
    pub home : PackageKey
    pub there : slice_get homes j ≡ Some home
    pub is : IsInPackage h entries home feature place

  pub home_numbered : (homes : List PackageKey) (j : ℕ) (home : PackageKey) (old new : List Spot) → slice_get homes j ≡ Some home → Adds (IsInPackage h entries home) old new → Adds (IsKeyNumbered homes j) old new
  home_numbered homes j home old new there a =
      adds_as (IsInPackage h entries home) (IsKeyNumbered homes j) old new
      (λ f p i. record { home = home; there = there; is = i })
      (λ f p n. subst (λ k. IsInPackage h entries k f p) (some_is n.home home (sym n.there ∙ there)) n.is) a

  pub homes_all : (homes : List PackageKey) (count : ℕ) (old new : List Spot) → length homes ≤ count → Adds (UpTo (IsKeyNumbered homes) count) old new → Adds (IsAmongKeys h entries homes) old new
  homes_all homes count old new long a =
      adds_as (λ f q. (j : ℕ) × IsKeyNumbered homes j f q) (IsAmongKeys h entries homes) old new
      (λ f q n. record { home = n.1.home; among = (n.0, n.1.there); is = n.1.is })
      (λ f q i. (i.among.0, record { home = i.home; there = i.among.1; is = i.is }))
      (adds_all (IsKeyNumbered homes) count old new (λ j f q n. omega (arith, long, get_below homes j n.home n.there)) a)

-- the package at a place stands somewhere
pub home_at : (h : SourceFiles) (homes : List PackageKey) (packages : List Package) (k : ℕ) (p : Package) → ArePackageKeys h homes packages → slice_get packages k ≡ Some p → (home : PackageKey) × (slice_get homes k ≡ Some home) × IsPackage h home p
home_at h homes packages k p are there =
    let x = get_there homes k (omega (arith, are.as_many, get_below packages k p there)) in
    (x.0, x.1, are.each k x.0 p x.1 there)
