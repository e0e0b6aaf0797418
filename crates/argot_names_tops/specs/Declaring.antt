-- The declarations outside functions of all packages.
use Rattle.std.specs.Prelude.{◌≡◌, ℕ, ◌<◌, ◌⊎◌, List, Some, slice_get}
use Rattle.argot_names_rules.specs.declared.package_key.PackageKey.{PackageKey}
use Rattle.argot_names_rules.specs.Files.{SourceFiles, Place}
use Rattle.argot_names_rules.specs.PackageScope.{IsTop}
use Rattle.argot_names_tops.specs.declared.named.Named.{Named}
use Rattle.argot_files.specs.Places.{place_of}

-- by file, and in a file by node
abbrev pub ComesBefore : Named → Named → Type 0
ComesBefore a b = (a.place.file < b.place.file) ⊎ ((a.place.file ≡ b.place.file) × (a.of < b.of))

-- the item is a declaration of the package that has its scope's number
pub record IsDeclared (h : SourceFiles) (homes : List PackageKey) (n : Named) : Type 0 where
  pub home : PackageKey
  pub in_home : slice_get homes n.scope ≡ Some home
  pub top : IsTop h home n.name.now n.place.file n.of (place_of n.place)

-- the list has this item
pub record HasItem (items : List Named) (scope : ℕ) (name : List ℕ) (of : ℕ) (place : Place) : Type 0 where
  pub number : ℕ
  pub item : Named
  pub there : slice_get items number ≡ Some item
  pub scope_is : item.scope ≡ scope
  pub name_is : item.name.now ≡ name
  pub of_is : item.of ≡ of
  pub place_is : place_of item.place ≡ place

-- all of them, in order
pub record AreDeclared (h : SourceFiles) (homes : List PackageKey) (items : List Named) : Type 0 where
  pub ordered : (j k : ℕ) (a b : Named) → j < k → slice_get items j ≡ Some a → slice_get items k ≡ Some b → ComesBefore a b
  pub sound : (k : ℕ) (n : Named) → slice_get items k ≡ Some n → IsDeclared h homes n
  pub complete : (number : ℕ) (home : PackageKey) (name : List ℕ) (file node : ℕ) (place : Place) → slice_get homes number ≡ Some home → IsTop h home name file node place → HasItem items number name node place

-- those of one file, by node
pub record AreDeclaredIn (h : SourceFiles) (homes : List PackageKey) (file : ℕ) (items : List Named) : Type 0 where
  pub ordered : (j k : ℕ) (a b : Named) → j < k → slice_get items j ≡ Some a → slice_get items k ≡ Some b → a.of < b.of
  pub in_file : (k : ℕ) (n : Named) → slice_get items k ≡ Some n → n.place.file ≡ file
  pub sound : (k : ℕ) (n : Named) → slice_get items k ≡ Some n → IsDeclared h homes n
  pub complete : (number : ℕ) (home : PackageKey) (name : List ℕ) (node : ℕ) (place : Place) → slice_get homes number ≡ Some home → IsTop h home name file node place → HasItem items number name node place

-- those of the files below a number
pub record AreDeclaredBelow (h : SourceFiles) (homes : List PackageKey) (count : ℕ) (items : List Named) : Type 0 where
  pub ordered : (j k : ℕ) (a b : Named) → j < k → slice_get items j ≡ Some a → slice_get items k ≡ Some b → ComesBefore a b
  pub below : (k : ℕ) (n : Named) → slice_get items k ≡ Some n → n.place.file < count
  pub sound : (k : ℕ) (n : Named) → slice_get items k ≡ Some n → IsDeclared h homes n
  pub complete : (number : ℕ) (home : PackageKey) (name : List ℕ) (file node : ℕ) (place : Place) → file < count → slice_get homes number ≡ Some home → IsTop h home name file node place → HasItem items number name node place
