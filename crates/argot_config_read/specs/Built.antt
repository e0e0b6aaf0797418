-- A configuration whose patterns have been made, beside the one that is wanted.
use Rattle.std.specs.Prelude.{◌≡◌, ℕ, List, Option, Some, None}
use Rattle.std.specs.List.{AllZip}
use Rattle.argot_config_read.specs.declared.config.Config.{Config}
use Rattle.argot_config_read.specs.declared.config.Asked.{Asked}
use Rattle.argot_config_read.specs.declared.config.Matcher.{Matcher}
use Rattle.argot_config_read.specs.declared.config.Test.{Test}
use Rattle.argot_config_read.specs.declared.config.Test.TheVariants.{All, Whole, Built}
use Rattle.argot_config_read.specs.declared.wanted.Wanted.{Wanted}
use Rattle.argot_config_read.specs.declared.wanted.WantedMatcher.{WantedMatcher}
use Rattle.argot_config_read.specs.declared.wanted.WantedProblem.{WantedProblem}
use Rattle.argot_config_read.specs.Compiling.{IsPatternOf}

-- where a pattern is missing everything passes, else the test is the pattern
abbrev pub IsTestOf : Option (List ℕ) → Test → Type 0
IsTestOf None All = Unit {0}
IsTestOf None (Whole text) = ⊥
IsTestOf None (Built made) = ⊥
IsTestOf (Some wanted) All = ⊥
IsTestOf (Some wanted) (Whole text) = ⊥
IsTestOf (Some wanted) (Built made) = IsPatternOf wanted made

pub record IsMatcherOf (w : WantedMatcher) (m : Matcher) : Type 0 where
  pub same_kind : m.kind ≡ w.kind
  pub of_package : IsTestOf w.package m.package
  pub of_receiver : IsTestOf w.receiver m.receiver
  pub of_name : IsTestOf w.name m.name

pub record IsAskedOf (w : WantedProblem) (a : Asked) : Type 0 where
  pub same_name : a.name ≡ w.name
  pub of_sources : AllZip IsMatcherOf w.sources a.sources
  pub of_sinks : AllZip IsMatcherOf w.sinks a.sinks
  pub of_sanitizers : AllZip IsMatcherOf w.sanitizers a.sanitizers
  pub of_validators : AllZip IsMatcherOf w.validators a.validators
  pub of_points : AllZip IsMatcherOf w.points a.points
  pub same_escapes : a.escapes ≡ w.escapes

pub record IsConfigOf (w : Wanted) (c : Config) : Type 0 where
  pub same_main : c.main ≡ w.main
  pub of_problems : AllZip IsAskedOf w.problems c.problems
  pub same_externals : c.externals ≡ w.externals
