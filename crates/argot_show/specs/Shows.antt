-- What was shown of a file.
use Rattle.std.specs.Prelude.{◌≡◌, ◌⊎◌, ℕ, Bool, List, Option, if◌then◌else◌}
use Rattle.argot_io.specs.Told.{Entry, ReadsTold}
use Rattle.argot_io.specs.Taken.{taken_with}
use Rattle.argot_tree.specs.declared.lexed.Lexed.{Lexed}
use Rattle.argot_tree.specs.Text.{SpellsText}
use Rattle.argot_io.specs.Faults.{Rose}
use Rattle.argot_show.specs.declared.status.Status.{Status}
use Rattle.argot_show.specs.declared.status.Status.TheVariants as statuses
use Rattle.argot_show.specs.declared.tokens.Outcome.{Outcome}
use Rattle.argot_show.specs.declared.tokens.Outcome.TheVariants as outcomes
use Rattle.argot_show.specs.declared.tokens.Fault.{Fault}
use Rattle.argot_show.specs.declared.tokens.Fault.TheVariants as faults
use Rattle.argot_show.specs.Lines.{shown, counted}

-- the output took the lines of the tokens that spell the file, or their number
pub record ShowsTokens (told : Option (List Entry)) (path : List ℕ) (count : Bool) (before now : Option (List ℕ)) : Type 0 where
  pub bytes : List ℕ
  pub read : ReadsTold told path bytes
  pub lexed : Lexed
  pub spelled : SpellsText lexed bytes
  pub taken : now ≡ taken_with before (if count then counted lexed else shown bytes lexed)

-- no tokens spell the file
pub record SpellsNothing (told : Option (List Entry)) (path : List ℕ) : Type 0 where
  pub bytes : List ℕ
  pub read : ReadsTold told path bytes
  pub none : (lexed : Lexed) → SpellsText lexed bytes → ⊥

-- an output failed, and its count rose; or there was no memory
abbrev pub IsCause : ℕ → ℕ → Fault → Type 0
IsCause before now faults.Write = Rose before now
IsCause before now faults.Read = ⊥
IsCause before now faults.Memory = Unit {0}

-- what was made of the file is so
abbrev pub IsOutcome : Option (List Entry) → List ℕ → Bool → Option (List ℕ) → Option (List ℕ) → Outcome → Type 0
IsOutcome told path count before now outcomes.Shown = ShowsTokens told path count before now
IsOutcome told path count before now (outcomes.Bad at) = SpellsNothing told path

-- the files or the output failed, and the count rose; or there was no memory
abbrev pub IsFault : ℕ → ℕ → ℕ → ℕ → Fault → Type 0
IsFault files_before files_now out_before out_now faults.Read = Rose files_before files_now
IsFault files_before files_now out_before out_now faults.Write = Rose out_before out_now
IsFault files_before files_now out_before out_now faults.Memory = Unit {0}

-- the status of the cause, or that the line couldn't be written or made
abbrev pub IsTold : Status → ℕ → ℕ → Status → Type 0
IsTold cause before now result = (result ≡ cause) ⊎ (((result ≡ statuses.WriteFault) × Rose before now) ⊎ (result ≡ statuses.Memory))
