-- Imports on a cycle.
use Rattle.std.specs.Prelude.{◌≡◌, ℕ, List, Some, slice_get}
use Rattle.argot_tree.specs.declared.lexed.Lexed.{Lexed}
use Rattle.argot_names_rules.specs.Files.{Place}
use Rattle.argot_names_rules.specs.Lists.{In}
use Rattle.argot_names_imports.specs.declared.written.Written.{Written}
use Rattle.argot_names_imports.specs.declared.survey.Survey.{Survey}
use Rattle.argot_names_imports.specs.Graph.{IsStep, Reaches}
use Rattle.argot_names_packages.specs.declared.cycles.Search.{Search}
use Rattle.argot_names_packages.specs.Spots.{spot_in, IsAt}

-- the import of this number is one of a package that is reached, by first files
pub record IsStepAt (s : Survey) (k from to : ℕ) : Type 0 where
  pub step : IsStep s.leaders.items s.imports.items s.founds.items k from to
  pub reached : In from s.reached.keys

-- its package leads back, and the import begins there
pub record IsCycleAt (s : Survey) (lexed : List Lexed) (lists : List (List ℕ)) (k : ℕ) (place : Place) : Type 0 where
  pub import_ : Written
  pub from : ℕ
  pub to : ℕ
  pub is_import : slice_get s.imports.items k ≡ Some import_
  pub step : IsStepAt s k from to
  pub back : Reaches lists to from
  pub begins : IsAt (spot_in lexed import_.file import_.at) place

-- the same, of what is searched
abbrev pub IsCycleOf : Search → ℕ → Place → Type 0
IsCycleOf s = IsCycleAt s.survey.now s.lexed.now s.graph.now.lists
