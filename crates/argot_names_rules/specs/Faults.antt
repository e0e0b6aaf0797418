-- What is wrong with the packages and names of a folder: the places of each fault, and which one is named.
use Rattle.std.specs.Prelude.{◌≡◌, ◌≢◌, ◌<◌, ℕ, List, codes}
use Rattle.argot_text.specs.declared.position.Pos.{Pos}
use Rattle.argot_names_rules.specs.Files.{SourceFiles, Place, IsBefore, IsFirst, Begins, read_of, text_at, position_of}
use Rattle.argot_names_rules.specs.Packages.{IsFileOf, HasClause, HasName, IsLeftOut, Finds}
use Rattle.argot_names_rules.specs.declared.package_key.PackageKey.{PackageKey}
use Rattle.argot_names_rules.specs.declared.package_key.PackageKey.TheVariants.{Folder}
use Rattle.argot_names_rules.specs.Imports.{Imports, Edge, Leads, IsReached, IsReachedFile}
use Rattle.argot_names_rules.specs.declared.alias.Alias.{Alias}
use Rattle.argot_names_rules.specs.Bindings.{Specified, Brings, HasEarlier}
use Rattle.argot_names_rules.specs.PackageScope.{Function, IsTopName, IsTop, IsImported}
use Rattle.argot_names_rules.specs.Scopes.{MeansNothing}
use Rattle.argot_names_rules.specs.Uses.{IsKey, IsLookup, IsQualified, IsOfPackage, IsMember, IsPassedOver}
use Rattle.argot_names_rules.specs.declared.fault.NameFault.{NameFault}
use Rattle.argot_names_rules.specs.declared.fault.NameFault.TheVariants as faults

-- the main folder is a package `main` with a function `main`
pub record HasMain (h : SourceFiles) (main : List ℕ) : Type 0 where
  pub file : ℕ
  pub node : ℕ
  pub token : ℕ
  pub is_main : HasName h (Folder main) (codes "main")
  pub of : IsFileOf h (Folder main) file
  pub is : IsTopName (read_of h file).nodes Function node token
  pub named : text_at (read_of h file) token ≡ codes "main"

-- a package clause that differs from that of its package's first file
pub record IsSecondName (h : SourceFiles) (main : List ℕ) (place : Place) : Type 0 where
  pub home : PackageKey
  pub file : ℕ
  pub name : List ℕ
  pub other : List ℕ
  pub reached : IsReachedFile h main home file
  pub has_name : HasName h home name
  pub clause : HasClause (read_of h file) other
  pub differs : other ≢ name
  pub begins : Begins h file 0 place

-- the path of an import that finds no package and isn't left out
pub record FindsNone (h : SourceFiles) (main : List ℕ) (place : Place) : Type 0 where
  pub home : PackageKey
  pub file : ℕ
  pub node : ℕ
  pub at : ℕ
  pub path_at : ℕ
  pub alias : Alias
  pub path : List ℕ
  pub reached : IsReachedFile h main home file
  pub imports : Imports (read_of h file) node at path_at alias path
  pub known : IsLeftOut path → ⊥
  pub none : (target : PackageKey) → Finds h path target → ⊥
  pub begins : Begins h file path_at place

-- an import whose package leads back to the one that imports it
pub record IsOnCycle (h : SourceFiles) (main : List ℕ) (place : Place) : Type 0 where
  pub home : PackageKey
  pub file : ℕ
  pub at : ℕ
  pub target : PackageKey
  pub reached : IsReached h main home
  pub edge : Edge h home file at target
  pub back : Leads h target home
  pub begins : Begins h file at place

-- a name that its scope has from an earlier place
pub data IsRedeclared (h : SourceFiles) (main : List ℕ) (place : Place) : Type 0 where
  in_package : {home : PackageKey} {name : List ℕ} {file other node before : ℕ} {earlier : Place} → IsReached h main home → IsTop h home name other before earlier → IsTop h home name file node place → IsBefore earlier place → IsRedeclared h main place
  in_file : {home : PackageKey} {name path other_path : List ℕ} {file node before : ℕ} {earlier : Place} → IsReachedFile h main home file → IsImported h file name before other_path earlier → IsImported h file name node path place → IsBefore earlier place → IsRedeclared h main place
  -- an import beside a declaration of its package
  import_behind : {home : PackageKey} {name path : List ℕ} {file other node before : ℕ} {earlier : Place} → IsReachedFile h main home file → IsTop h home name other before earlier → IsImported h file name node path place → IsBefore earlier place → IsRedeclared h main place
  import_before : {home : PackageKey} {name path : List ℕ} {file other node before : ℕ} {earlier : Place} → IsReachedFile h main home file → IsImported h file name before path earlier → IsTop h home name other node place → IsBefore earlier place → IsRedeclared h main place
  in_function : {home : PackageKey} {file node token opens closes from : ℕ} → IsReachedFile h main home file → Brings (read_of h file).nodes Specified node token opens closes from → text_at (read_of h file) token ≢ codes "_" → HasEarlier (read_of h file) token opens → Begins h file token place → IsRedeclared h main place

-- a name for which no declaration is in scope, or that the package before its dot doesn't export
pub data IsUnresolved (h : SourceFiles) (main : List ℕ) (place : Place) : Type 0 where
  lone : {home : PackageKey} {file node token : ℕ} → IsReachedFile h main home file → IsLookup (read_of h file).nodes node token → (IsKey (read_of h file).nodes node → ⊥) → text_at (read_of h file) token ≢ codes "_" → MeansNothing h home file token (text_at (read_of h file) token) → (IsPassedOver (read_of h file).nodes token → ⊥) → Begins h file token place → IsUnresolved h main place
  member : {home : PackageKey} {file token member node : ℕ} {path : List ℕ} → IsReachedFile h main home file → IsQualified (read_of h file).nodes token member node → IsOfPackage h home file token path → (IsLeftOut path → ⊥) → ((other declared : ℕ) → IsMember h path (text_at (read_of h file) member) other declared → ⊥) → (IsPassedOver (read_of h file).nodes token → ⊥) → Begins h file member place → IsUnresolved h main place

-- what may be wrong at a place
pub data Wrong : Type 0 where
  SecondName : Wrong
  Missing : Wrong
  Cycle : Wrong
  Again : Wrong
  Unknown : Wrong

-- where it is
abbrev pub places : SourceFiles → List ℕ → Wrong → Place → Type 0
places h main SecondName = IsSecondName h main
places h main Missing = FindsNone h main
places h main Cycle = IsOnCycle h main
places h main Again = IsRedeclared h main
places h main Unknown = IsUnresolved h main

-- the order in which it is named
abbrev pub order : Wrong → ℕ
order SecondName = 0
order Missing = 1
order Cycle = 2
order Again = 3
order Unknown = 4

-- how it is named
abbrev pub fault_of : Wrong → Pos → NameFault
fault_of SecondName at = faults.TwoNames at
fault_of Missing at = faults.NoPackage at
fault_of Cycle at = faults.ImportCycle at
fault_of Again at = faults.Redeclared at
fault_of Unknown at = faults.Unresolved at

-- it is nowhere
abbrev pub IsNowhere : SourceFiles → List ℕ → Wrong → Type 0
IsNowhere h main wrong = (place : Place) → places h main wrong place → ⊥

-- which fault is answered: that there is no main function, else the first in order that is somewhere, at its first place.
-- Want of memory may come at any time
pub data Refuses (h : SourceFiles) (main : List ℕ) : NameFault → Type 0 where
  no_main : (HasMain h main → ⊥) → Refuses h main faults.NoMain
  named : (wrong : Wrong) (place : Place) → HasMain h main → ((earlier : Wrong) → order earlier < order wrong → IsNowhere h main earlier) → IsFirst (places h main wrong) place → Refuses h main (fault_of wrong (position_of h place))
  memory : Refuses h main faults.Memory

-- nothing is wrong
pub record IsResolved (h : SourceFiles) (main : List ℕ) : Type 0 where
  pub has_main : HasMain h main
  pub right : (wrong : Wrong) → IsNowhere h main wrong
