-- Names that their scope has from an earlier place.
use Rattle.std.specs.Prelude.{◌≡◌, ◌≢◌, ℕ, ◌<◌, List, Some, codes, slice_get}
use Rattle.argot_names_rules.specs.Files.{SourceFiles, Place as Byte, IsBefore, Begins, read_of, text_at}
use Rattle.argot_names_rules.specs.Imports.{IsReachedFile}
use Rattle.argot_names_rules.specs.Bindings.{Specified, Brings, HasEarlier}
use Rattle.argot_names_rules.specs.declared.package_key.PackageKey.{PackageKey}
use Rattle.argot_names_imports.specs.declared.reached.Reached.{Reached}
use Rattle.argot_names_imports.specs.Numbers.{IsOfNumber}
use Rattle.argot_names_tops.specs.declared.named.Named.{Named}
use Rattle.argot_files.specs.Places.{place_of}

-- one of the others is the same name of the same scope, and stands before the item, whose place this is
pub record IsItemBehind (others : List Named) (item : Named) (place : Byte) : Type 0 where
  pub number : ℕ
  pub other : Named
  pub there : slice_get others number ≡ Some other
  pub scope_is : other.scope ≡ item.scope
  pub name_is : other.name.now ≡ item.name.now
  pub before : IsBefore (place_of other.place) (place_of item.place)
  pub place_is : place ≡ place_of item.place

-- an item before this number stands there
pub record IsBehindBelow (items others : List Named) (count : ℕ) (place : Byte) : Type 0 where
  pub number : ℕ
  pub item : Named
  pub below : number < count
  pub there : slice_get items number ≡ Some item
  pub behind : IsItemBehind others item place

-- the name of an import, with its file's package as the scope
pub record GivesPackaged (h : SourceFiles) (r : Reached) (number : ℕ) (m n : Named) : Type 0 where
  pub name_is : n.name.now ≡ m.name.now
  pub place_is : n.place ≡ m.place
  pub of_package : IsOfNumber h r m.scope n.scope

-- a name in a function of the file is declared again in its block
pub record IsAgainIn (h : SourceFiles) (main : List ℕ) (file : ℕ) (place : Byte) : Type 0 where
  pub home : PackageKey
  pub node : ℕ
  pub token : ℕ
  pub opens : ℕ
  pub closes : ℕ
  pub from : ℕ
  pub reached : IsReachedFile h main home file
  pub brings : Brings (read_of h file).nodes Specified node token opens closes from
  pub named : text_at (read_of h file) token ≢ codes "_"
  pub earlier : HasEarlier (read_of h file) token opens
  pub begins : Begins h file token place

-- in a file below this number
pub record IsAgainBelow (h : SourceFiles) (main : List ℕ) (count : ℕ) (place : Byte) : Type 0 where
  pub file : ℕ
  pub below : file < count
  pub again : IsAgainIn h main file place
