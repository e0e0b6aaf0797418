-- The making of one pattern from its text.
use Rattle.std.specs.Prelude.{◌≡◌, ℕ, ◌+◌, ◌-◌, ◌^◌, ◌<◌, ◌≤◌, ◌⊎◌, min, List, chars, Option, Some, None, IfSome, IsSome, Result, Ok, Err}
use Rattle.regex.specs.Strings.{regex_source, regex_config, IsReadFromSource}
use Rattle.regex.specs.declared.string.regex.Regex.{Regex}
use Rattle.regex_syntax.specs.Grammar as grammar
use Rattle.regex_syntax.specs.Verdict.{default_config}
use Rattle.argot_config_read.specs.declared.patterns.PatternFault.{PatternFault}
use Rattle.argot_config_read.specs.declared.patterns.PatternFault.TheVariants.{NoPattern, Size, Memory}

-- the pattern is what the grammar reads from the text, by its default options
pub record IsPatternOf (text : List ℕ) (made : Regex) : Type 0 where
  pub source : regex_source made ≡ text
  pub options : regex_config made ≡ default_config
  pub is_read : IsReadFromSource made

-- the grammar reads a pattern from the text
abbrev pub HasReading : List ℕ → Type 0
HasReading text = IsSome (grammar.read default_config (chars text))

-- it reads none, or one that nests too deeply
abbrev pub IsNoPattern : List ℕ → Type 0
IsNoPattern text =
    (grammar.read default_config (chars text) ≡ None)
    ⊎ IfSome (grammar.read default_config (chars text)) (λ (re, _). default_config.nest_limit < re.depth)

-- one more, or the last value of the type
abbrev pub counted : ℕ → ℕ
counted n = min (n + 1) (2 ^ 64 - 1)

-- the count has risen, or stands at the last value of its type
abbrev pub Rose : ℕ → ℕ → Type 0
Rose before now = min (before + 1) (2 ^ 64 - 1) ≤ now

-- what a maker of patterns may answer for the text, with its count of refusals and the text that was refused last
abbrev pub Compiles : List ℕ → Result Regex PatternFault → ℕ → ℕ → Option (List ℕ) → Option (List ℕ) → Type 0
Compiles text (Ok made) before now last_before last_now = IsPatternOf text made × (now ≡ before) × (last_now ≡ last_before)
Compiles text (Err NoPattern) before now last_before last_now = IsNoPattern text × (now ≡ before) × (last_now ≡ last_before)
Compiles text (Err Size) before now last_before last_now = Rose before now × (last_now ≡ Some text)
Compiles text (Err Memory) before now last_before last_now = (now ≡ before) × (last_now ≡ last_before)
