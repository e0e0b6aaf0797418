-- What the packages that are reached are: where they stand, by their numbers, and what is known of each.
use Rattle.std.specs.Prelude.{◌≡◌, ◌<◌, ◌^◌, ℕ, List, [], map, length, Some, slice_get, unwrap_or}
use Rattle.std.specs.Option.{option_and_then}
use Rattle.argot_typed.specs.declared.program.Package.{Package}
use Rattle.argot_names_rules.specs.declared.package_key.PackageKey.{PackageKey}
use Rattle.argot_names_rules.specs.declared.package_key.PackageKey.TheVariants.{Folder}
use Rattle.argot_names_rules.specs.Lists.{IsSetOf}
use Rattle.argot_names_rules.specs.Files.{SourceFiles}
use Rattle.argot_names_rules.specs.Packages.{IsFirstFile}
use Rattle.argot_names_rules.specs.Imports.{IsReached}
use Rattle.argot_names_rules.specs.Faults.{HasMain, IsNowhere, SecondName, Missing, Cycle}
use Rattle.argot_names_rules.specs.Loaded.{IsPackage}
use Rattle.argot_names_imports.specs.Surveyed.{owner_of, IsSurvey}
use Rattle.argot_names_imports.specs.declared.reached.Reached.{Reached}

-- where the package of a file stands, by the file's path
abbrev pub home_of : SourceFiles → ℕ → PackageKey
home_of h file = unwrap_or (option_and_then owner_of (slice_get h.sources.paths file)) (Folder [])

-- where the packages stand, by their numbers
abbrev pub homes_of : SourceFiles → Reached → List PackageKey
homes_of h r = map (home_of h) r.survey.reached.keys

-- the packages that are reached, the main one first, and nothing is wrong with them
pub record IsReach (h : SourceFiles) (main : List ℕ) (r : Reached) : Type 0 where
  pub survey : IsSurvey h main r.survey
  pub reached : IsSetOf (IsReached h main) (homes_of h r)
  pub main_first : slice_get (homes_of h r) 0 ≡ Some (Folder main)
  -- each package by its first file
  pub firsts : (k first : ℕ) (home : PackageKey) → slice_get r.survey.reached.keys k ≡ Some first → slice_get (homes_of h r) k ≡ Some home → IsFirstFile h home first
  -- each has a number
  pub few : length (homes_of h r) < 2 ^ 32
  pub as_many : length r.packages.items ≡ length (homes_of h r)
  pub each : (k : ℕ) (home : PackageKey) (is : Package) → slice_get (homes_of h r) k ≡ Some home → slice_get r.packages.items k ≡ Some is → IsPackage h home is
  pub has_main : HasMain h main
  pub one_name : IsNowhere h main SecondName
  pub all_found : IsNowhere h main Missing
  pub no_cycle : IsNowhere h main Cycle
