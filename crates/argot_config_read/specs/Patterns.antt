-- The patterns of a configuration in order, each with its path, and which of them is refused.
use Rattle.std.specs.Prelude.{◌≡◌, ℕ, suc, List, [], ◌∷◌, ◌++◌, codes, ◌⊎◌, Option, Some, None}
use Rattle.argot_config_read.specs.declared.faults.ConfigFault.{ConfigFault}
use Rattle.argot_config_read.specs.declared.faults.ConfigFault.TheVariants.{NotJson, Key, Shape, BadPattern, PatternSize, Memory}
use Rattle.argot_config_read.specs.declared.wanted.Wanted.{Wanted}
use Rattle.argot_config_read.specs.declared.wanted.WantedMatcher.{WantedMatcher}
use Rattle.argot_config_read.specs.declared.wanted.WantedProblem.{WantedProblem}
use Rattle.argot_config_read.specs.Compiling.{HasReading, IsNoPattern, Rose}
use Rattle.argot_config_read.specs.Paths.{key_path, item_path}

-- a path and the text of the pattern there
abbrev pub Placed : Type 0
Placed = List ℕ × List ℕ

abbrev pub pattern_at : List ℕ → Option (List ℕ) → List Placed
pattern_at path None = []
pattern_at path (Some text) = (path, text) ∷ []

unfoldable pub patterns_of_matcher : List ℕ → WantedMatcher → List Placed
patterns_of_matcher path w =
    pattern_at (key_path path (codes "package")) w.package
    ++ (pattern_at (key_path path (codes "receiver")) w.receiver ++ pattern_at (key_path path (codes "name")) w.name)

-- those of a list of matchers, counted from i
abbrev pub patterns_of_matchers : List ℕ → ℕ → List WantedMatcher → List Placed
patterns_of_matchers path i [] = []
patterns_of_matchers path i (w ∷ ws) = patterns_of_matcher (item_path path i) w ++ patterns_of_matchers path (suc i) ws

unfoldable pub patterns_of_problem : List ℕ → WantedProblem → List Placed
patterns_of_problem path w =
    patterns_of_matchers (key_path path (codes "sources")) 0 w.sources
    ++ (patterns_of_matchers (key_path path (codes "sinks")) 0 w.sinks
    ++ (patterns_of_matchers (key_path path (codes "sanitizers")) 0 w.sanitizers
    ++ (patterns_of_matchers (key_path path (codes "validators")) 0 w.validators
    ++ patterns_of_matchers (key_path path (codes "points")) 0 w.points)))

abbrev pub patterns_of_problems : ℕ → List WantedProblem → List Placed
patterns_of_problems i [] = []
patterns_of_problems i (w ∷ ws) = patterns_of_problem (item_path (codes "problems") i) w ++ patterns_of_problems (suc i) ws

unfoldable pub patterns_of : Wanted → List Placed
patterns_of w = patterns_of_problems 0 w.problems

abbrev pub AllRead : List Placed → Type 0
AllRead [] = Unit {0}
AllRead (p ∷ ps) = HasReading p.1 × AllRead ps

-- each has a reading
pub record HaveReadings (ps : List Placed) : Type 0 where
  pub each : AllRead ps

-- the text stands at the path, and each pattern before it has a reading
abbrev pub StopsAt : List Placed → List ℕ → List ℕ → Type 0
StopsAt [] path text = ⊥
StopsAt (p ∷ ps) path text = ((p.0 ≡ path) × (p.1 ≡ text)) ⊎ (HasReading p.1 × StopsAt ps path text)

-- the text at the path is no pattern, and each one before it has a reading
pub record IsBadPattern (ps : List Placed) (path : List ℕ) : Type 0 where
  pub text : List ℕ
  pub stops : StopsAt ps path text
  pub is_none : IsNoPattern text

-- the pattern at the path was refused for its size, and each one before it has a reading
pub record IsTooLarge (ps : List Placed) (path : List ℕ) (before : ℕ) (now : ℕ) (last : Option (List ℕ)) : Type 0 where
  pub text : List ℕ
  pub stops : StopsAt ps path text
  pub rose : Rose before now
  pub is_last : last ≡ Some text

abbrev pub Refuses : List Placed → ℕ → ℕ → Option (List ℕ) → ConfigFault → Type 0
Refuses ps before now last NotJson = ⊥
Refuses ps before now last (Key path) = ⊥
Refuses ps before now last (Shape path) = ⊥
Refuses ps before now last (BadPattern path) = IsBadPattern ps path
Refuses ps before now last (PatternSize path) = IsTooLarge ps path before now last
Refuses ps before now last Memory = Unit {0}

-- why these patterns aren't all made, with the maker's count of refusals and the text that it refused last
pub record IsRefusal (ps : List Placed) (before : ℕ) (now : ℕ) (last : Option (List ℕ)) (e : ConfigFault) : Type 0 where
  pub cause : Refuses ps before now last e

-- a maker's count and the text that it refused last stay, unless the fault is a pattern's size
abbrev pub KeptBy : ConfigFault → ℕ → ℕ → Option (List ℕ) → Option (List ℕ) → Type 0
KeptBy (PatternSize path) before now last_before last_now = Unit {0}
KeptBy e before now last_before last_now = (now ≡ before) × (last_now ≡ last_before)
