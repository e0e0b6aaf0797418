-- Tests made ready to look at many texts, and what they look for.
use Rattle.std.specs.Prelude.{◌≡◌, ◌<◌, ◌≤◌, ◌&&◌, ℕ, List, Bool, true, false, bytes_eq, is_some, Option, Some, None, slice_get}
use Rattle.regex.specs.Patterns.{Re, find_str}
use Rattle.regex.specs.Strings.{matcher_pattern, regex_pattern}
use Rattle.argot_plain.specs.declared.functions.Ident.{Ident}
use Rattle.argot_plain.specs.declared.instructions.Tag.{Tag}
use Rattle.argot_config_read.specs.declared.config.MatchKind.{MatchKind}
use Rattle.argot_config_read.specs.declared.config.Test.{Test}
use Rattle.argot_config_read.specs.declared.config.Test.TheVariants.{All, Whole, Built}
use Rattle.argot_config_read.specs.declared.config.Matcher.{Matcher}
use Rattle.argot_config.specs.Matching.{looks_at_tags}
use Rattle.argot_config.specs.declared.looking.Looker.{Looker}
use Rattle.argot_config.specs.declared.looking.Looker.TheVariants as looker
use Rattle.argot_config.specs.declared.looking.Look.{Look}

-- what is looked for: any text, this one, or a match
pub data Sought : Type 0 where
  Anything : Sought
  Equal : List ℕ → Sought
  Match : Re → Sought

abbrev pub is_found : Sought → List ℕ → Bool
is_found Anything text = true
is_found (Equal wanted) text = bytes_eq text wanted
is_found (Match pattern) text = is_some (find_str pattern text 0)

abbrev pub sought_by : Test → Sought
sought_by All = Anything
sought_by (Whole wanted) = Equal wanted
sought_by (Built pattern) = Match (regex_pattern pattern)

abbrev pub seeks : Looker → Sought
seeks looker.All = Anything
seeks (looker.Whole wanted) = Equal wanted.now
seeks (looker.Built made) = Match (matcher_pattern made)

-- the three that a matcher seeks, in the package's path, the receiver's type and the name
pub record Three : Type 0 where
  pub in_package : Sought
  pub in_receiver : Sought
  pub in_name : Sought

abbrev pub three_of : Matcher → Three
three_of m = record { in_package = sought_by m.package; in_receiver = sought_by m.receiver; in_name = sought_by m.name }

abbrev pub three_in : Look → Three
three_in l = record { in_package = seeks l.package; in_receiver = seeks l.receiver; in_name = seeks l.name }

abbrev pub are_found : Three → Ident → Bool
are_found s ident = is_found s.in_package ident.package && (is_found s.in_receiver ident.receiver && is_found s.in_name ident.name)

abbrev pub finds_function : Three → Option Ident → Bool
finds_function s None = false
finds_function s (Some ident) = are_found s ident

abbrev pub finds_tag : Three → MatchKind → Tag → Bool
finds_tag s kind tag = looks_at_tags kind tag.global && are_found s tag.ident

-- the number of the first tag before the limit that is found, or else the limit
pub record IsFirstFound (s : Three) (kind : MatchKind) (tags : List Tag) (limit n : ℕ) : Type 0 where
  pub least : n ≤ limit
  pub earlier : (k : ℕ) (t : Tag) → k < n → slice_get tags k ≡ Some t → finds_tag s kind t ≡ false
  pub here : (t : Tag) → n < limit → slice_get tags n ≡ Some t → finds_tag s kind t ≡ true
