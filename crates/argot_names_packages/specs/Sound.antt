-- Packages and imports with which nothing is wrong.
use Rattle.std.specs.Prelude.{ℕ, List}
use Rattle.argot_names_rules.specs.Files.{SourceFiles}
use Rattle.argot_names_rules.specs.Faults.{HasMain, IsNowhere, SecondName, Missing, Cycle}

pub record IsSound (h : SourceFiles) (main : List ℕ) : Type 0 where
  pub has_main : HasMain h main
  pub one_name : IsNowhere h main SecondName
  pub all_found : IsNowhere h main Missing
  pub no_cycle : IsNowhere h main Cycle
