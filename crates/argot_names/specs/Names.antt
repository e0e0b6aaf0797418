-- The declarations of packages, and what their names stand for; or what is wrong with them.
use Rattle.std.specs.Prelude.{◌≡◌, ◌<◌, ◌^◌, ◌-◌, ℕ, List, Option, Some, Result, length, IfOk, IfErr, OnOk}
use Rattle.argot_typed.specs.declared.program.Use.{Use}
use Rattle.argot_names_rules.specs.declared.package_key.PackageKey.{PackageKey}
use Rattle.argot_names_rules.specs.declared.fault.NameFault.{NameFault}
use Rattle.argot_names_rules.specs.declared.fault.NameFault.TheVariants.{Unresolved}
use Rattle.argot_names_rules.specs.Lists.{IsListOf}
use Rattle.argot_names_rules.specs.Faults.{Refuses, IsResolved}
use Rattle.argot_names_rules.specs.Files.{SourceFiles, position_of}
use Rattle.argot_names_rules.specs.Loaded.{AreDecls, IsUse}
use Rattle.argot_files.specs.Places.{place_of}
use Rattle.argot_files.specs.declared.files.Files.{Files}
use Rattle.argot_files.specs.declared.place.Place.{Place}
use Rattle.argot_names_imports.specs.Reads.{bytes_at}
use Rattle.argot_names_imports.specs.Reached.{homes_of}
use Rattle.argot_names_imports.specs.declared.reached.Reached.{Reached}
use Rattle.argot_names.specs.declared.loading.Names.{Names}

-- no file is as long as numbers of bytes go
abbrev pub AreShort : Files → Type 0
AreShort files = (file : ℕ) → length (bytes_at files.sources.now file) < 2 ^ 32 - 1

pub record AreNames (h : SourceFiles) (homes : List PackageKey) (names : Names) : Type 0 where
  pub decls : AreDecls h homes names.decls.items
  pub uses : IsListOf (λ (a b : Use). a.node < b.node) (IsUse h homes names.decls.items) names.uses.items

-- the names of the packages are found, and nothing is wrong with them; or what is wrong is answered
pub record HasNames (h : SourceFiles) (main : List ℕ) (r : Reached) (result : Result Names NameFault) : Type 0 where
  pub ok : IfOk result (AreNames h (homes_of h r))
  pub fine : OnOk result (IsResolved h main)
  pub fault : IfErr result (Refuses h main)

-- the fault is that of the name at this place
pub record IsUnknownAt (h : SourceFiles) (unresolved : Option Place) (fault : NameFault) : Type 0 where
  pub place : Place
  pub there : unresolved ≡ Some place
  pub is : fault ≡ Unresolved (position_of h (place_of place))
