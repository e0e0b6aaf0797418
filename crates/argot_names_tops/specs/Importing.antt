-- The names of the imports of all files of packages.
use Rattle.std.specs.Prelude.{◌≡◌, ℕ, ◌<◌, List, Some, slice_get}
use Rattle.argot_names_rules.specs.Files.{SourceFiles, Place}
use Rattle.argot_names_rules.specs.PackageScope.{IsImported}
use Rattle.argot_names_imports.specs.declared.written.Written.{Written}
use Rattle.argot_names_imports.specs.declared.reached.Reached.{Reached}
use Rattle.argot_names_imports.specs.Numbers.{IsOfNumber}
use Rattle.argot_names_tops.specs.declared.named.Named.{Named}
use Rattle.argot_files.specs.Places.{place_of}
use Rattle.argot_names_tops.specs.Declaring.{HasItem}

-- the item is a name that the import of its number declares, in the file that has its scope's number, which is one of a package
pub record IsImportName (h : SourceFiles) (r : Reached) (n : Named) : Type 0 where
  pub import_ : Written
  pub package_ : ℕ
  pub of_package : IsOfNumber h r n.scope package_
  pub there : slice_get r.survey.imports.items n.of ≡ Some import_
  pub file_is : import_.file ≡ n.scope
  pub is : IsImported h n.scope n.name.now import_.node import_.path (place_of n.place)

-- the import of this number, and the name that it declares
pub record HasImport (items : List Named) (r : Reached) (file : ℕ) (name : List ℕ) (node : ℕ) (path : List ℕ) (place : Place) : Type 0 where
  pub number : ℕ
  pub import_ : Written
  pub there : slice_get r.survey.imports.items number ≡ Some import_
  pub file_is : import_.file ≡ file
  pub node_is : import_.node ≡ node
  pub path_is : import_.path ≡ path
  pub item : HasItem items file name number place

-- all of them, by the numbers of the imports
pub record AreImportNames (h : SourceFiles) (r : Reached) (items : List Named) : Type 0 where
  pub ordered : (j k : ℕ) (a b : Named) → j < k → slice_get items j ≡ Some a → slice_get items k ≡ Some b → a.of < b.of
  pub sound : (k : ℕ) (n : Named) → slice_get items k ≡ Some n → IsImportName h r n
  pub complete : (package_ file : ℕ) (name : List ℕ) (node : ℕ) (path : List ℕ) (place : Place) → IsOfNumber h r file package_ → IsImported h file name node path place → HasImport items r file name node path place
