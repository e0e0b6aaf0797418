-- A pattern that was made has a reading.
use Rattle.std.proofs.Common.{◌≢◌, inl, inr, ℕ, List, Option, Some, None, IsSome, IsSomeAnd, chars, refl, string_bytes}
use Rattle.regex.specs.declared.string.regex.Regex.{Regex}
use Rattle.regex.specs.Failures.{IsPattern}
use Rattle.regex_syntax.specs.Grammar as grammar
use Rattle.regex_syntax.specs.Verdict.{default_config, Reads, Refuses}
use Rattle.regex_syntax.specs.declared.error.ErrorKind.{ErrorKind}
use Rattle.regex_syntax.specs.declared.error.ErrorKind.TheVariants.{OutOfMemory}
use Rattle.argot_config_read.specs.Compiling.{HasReading, IsNoPattern, IsPatternOf}

some_of : {T : Type 0} (o : Option T) (P : T → Type 0) → IsSomeAnd o P → IsSome o
some_of None P h = absurd h
some_of (Some x) P h = refl

pub has_reading : (text : List ℕ) (made : Regex) → IsPatternOf text made → HasReading text
unfolding Reads
has_reading text made h =
    let found : IsSome (grammar.read made.pattern.config (chars (string_bytes made.pattern.source))) = some_of _ _ h.is_read in
    rw (h.options, h.source) at found

-- what is too large is a pattern
pub too_large_is_read : (text : List ℕ) → IsPattern default_config text → HasReading text
unfolding Reads
too_large_is_read text h = some_of _ _ h.2

-- a text that the parser refuses for another cause than memory is no pattern
pub no_pattern : (text : List ℕ) (kind : ErrorKind) → kind ≢ OutOfMemory → Refuses default_config text kind → IsNoPattern text
unfolding Refuses
no_pattern text kind ne h = elim h [ inl memory ↦ absurd (ne memory) | inr other ↦ elim other [ inl none ↦ inl none | inr deep ↦ inr deep.1 ] ]
