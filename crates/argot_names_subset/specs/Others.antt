-- What is left out of files as a whole: assembly files in the folders of packages, and the `go` line of the module.
use Rattle.std.specs.Prelude.{◌≡◌, ℕ, true, List, codes, Some, slice_get}
use Rattle.argot_text.specs.declared.sources.Sources.{Sources}
use Rattle.argot_names_rules.specs.Files.{Place}
use Rattle.argot_names_rules.specs.Packages.{folder_of}
use Rattle.argot_names_rules.specs.Agreeing.{is_assembly}
use Rattle.argot_names_rules.specs.GoMod.{FirstLine}
use Rattle.argot_names_rules.specs.declared.flag.Feature.{Feature}
use Rattle.argot_names_rules.specs.declared.flag.Feature.TheVariants as features
use Rattle.argot_names_rules.specs.Subset.{IsLater}
use Rattle.argot_names_imports.specs.Firsts.{Numbers, found_at}
use Rattle.argot_names_imports.specs.Reads.{bytes_at}

-- the folder is in the table
abbrev pub HasFolder : Numbers → List ℕ → Type 0
HasFolder folders q = (first : ℕ) × (found_at folders q ≡ Some first)

-- the path is that of an assembly file in such a folder
pub record IsAssemblyAt (folders : Numbers) (file : ℕ) (path : List ℕ) (feature : Feature) (place : Place) : Type 0 where
  pub is : is_assembly path ≡ true
  pub known : HasFolder folders (folder_of path)
  pub feature_is : feature ≡ features.AssemblyFile
  pub place_is : place ≡ record { file = file; offset = 0 }

-- the first `go` line of the bytes
pub record IsLineAt (bytes : List ℕ) (file : ℕ) (feature : Feature) (place : Place) : Type 0 where
  pub offset : ℕ
  pub second : List ℕ
  pub first : FirstLine bytes (codes "go") offset second
  pub feature_is : feature ≡ features.GoLine
  pub place_is : place ≡ record { file = file; offset = offset }

-- the path is that of the module's file, whose `go` line is too late
pub record IsGoLineAt (sources : Sources) (file : ℕ) (path : List ℕ) (feature : Feature) (place : Place) : Type 0 where
  pub is : path ≡ codes "go.mod"
  pub later : IsLater sources.go_line
  pub line : IsLineAt (bytes_at sources file) file feature place

-- either, at one path
pub data IsOtherAt (sources : Sources) (folders : Numbers) (file : ℕ) (path : List ℕ) (feature : Feature) (place : Place) : Type 0 where
  assembly : IsAssemblyAt folders file path feature place → IsOtherAt sources folders file path feature place
  go_line : IsGoLineAt sources file path feature place → IsOtherAt sources folders file path feature place

-- at some path
pub record IsOther (sources : Sources) (folders : Numbers) (feature : Feature) (place : Place) : Type 0 where
  pub file : ℕ
  pub path : List ℕ
  pub there : slice_get sources.paths file ≡ Some path
  pub is : IsOtherAt sources folders file path feature place
