-- A maker of patterns as contracts see it, and when it refuses a text for its size.
use Rattle.std.specs.Prelude.{◌≡◌, ◌≢◌, ◌⊎◌, ℕ, List, Option, Some, Result, Ok, Err}
use Rattle.regex.specs.declared.string.regex.Regex.{Regex}
use Rattle.argot_config_read.specs.Compiling.{HasReading, counted}
use Rattle.argot_config_read.specs.declared.patterns.PatternFault.{PatternFault}
use Rattle.argot_config_read.specs.declared.patterns.PatternFault.TheVariants.{NoPattern, Size, Memory}

-- the number of the call that it refuses, how many calls there were and how many refusals for size, and the text that
-- was refused last
pub record Making : Type 0 where
  pub refusing : ℕ
  pub calls : ℕ
  pub refusals : ℕ
  pub last : Option (List ℕ)

-- the call of the number that is refused answers Size, where there is memory; any other call does so only for a pattern
abbrev pub Refuses : Making → List ℕ → Result Regex PatternFault → Type 0
Refuses m text (Ok made) = counted m.calls ≢ m.refusing
Refuses m text (Err NoPattern) = counted m.calls ≢ m.refusing
Refuses m text (Err Size) = (counted m.calls ≡ m.refusing) ⊎ HasReading text
Refuses m text (Err Memory) = Unit {0}

-- the call is counted, and with it the refusal, by one and with its text
abbrev pub Counts : Making → Making → List ℕ → Result Regex PatternFault → Type 0
Counts old new text (Ok made) = new ≡ record old { calls = counted old.calls }
Counts old new text (Err NoPattern) = new ≡ record old { calls = counted old.calls }
Counts old new text (Err Size) = new ≡ record old { calls = counted old.calls; refusals = counted old.refusals; last = Some text }
Counts old new text (Err Memory) = new ≡ record old { calls = counted old.calls }
