-- What is answered of a name: the declaration that it means, or that it means none.
use Rattle.std.specs.Prelude.{◌≡◌, ℕ, List, Some, slice_get}
use Rattle.argot_names_rules.specs.declared.package_key.PackageKey.{PackageKey}
use Rattle.argot_names_rules.specs.Files.{SourceFiles, Place}
use Rattle.argot_names_rules.specs.PackageScope.{IsImported}
use Rattle.argot_names_rules.specs.Scopes.{Predeclared, Declared, Means, MeansNothing}
use Rattle.argot_names_rules.specs.Universe.{predeclared}
use Rattle.argot_names_imports.specs.declared.written.Written.{Written}
use Rattle.argot_names_imports.specs.declared.reached.Reached.{Reached}
use Rattle.argot_names_tops.specs.declared.meaning.Meaning.{Meaning}
use Rattle.argot_names_tops.specs.declared.meaning.Meaning.TheVariants as meanings

-- the name means the import of this number
pub record MeansImport (h : SourceFiles) (r : Reached) (home : PackageKey) (file token : ℕ) (name : List ℕ) (number : ℕ) : Type 0 where
  pub import_ : Written
  pub place : Place
  pub there : slice_get r.survey.imports.items number ≡ Some import_
  pub file_is : import_.file ≡ file
  pub imported : IsImported h file name import_.node import_.path place
  pub means : Means h home file token name (Declared file import_.node)

-- the name means the predeclared one of this number
pub record MeansPredeclared (h : SourceFiles) (home : PackageKey) (file token : ℕ) (name : List ℕ) (number : ℕ) : Type 0 where
  pub there : slice_get predeclared number ≡ Some name
  pub means : Means h home file token name (Predeclared name)

abbrev pub IsMeaning : SourceFiles → Reached → PackageKey → (file token : ℕ) → List ℕ → Meaning → Type 0
IsMeaning h r home file token name (meanings.Local node) = Means h home file token name (Declared file node)
IsMeaning h r home file token name (meanings.Import number) = MeansImport h r home file token name number
IsMeaning h r home file token name (meanings.PackageDecl top) = Means h home file token name (Declared top.file top.node)
IsMeaning h r home file token name (meanings.Predeclared number) = MeansPredeclared h home file token name number
IsMeaning h r home file token name meanings.Nothing = MeansNothing h home file token name
