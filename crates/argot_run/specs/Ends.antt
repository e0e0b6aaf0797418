-- How a run of the program ends, by what the sinks took.
use Rattle.std.specs.Prelude.{◌≡◌, ℕ, ◌<◌, Bool, true, false, List, length, take, Option}
use Rattle.argot_io.specs.Faults.{Rose}
use Rattle.argot_io.specs.Taken.{taken_with}
use Rattle.argot_run.specs.Due.{Due, Outside}
use Rattle.argot_run.specs.declared.answer.Answer.{Answer}
use Rattle.argot_run.specs.declared.status.Status.{Status}
use Rattle.argot_run.specs.declared.status.Status.TheVariants.{Clean, Found, WriteFault, Memory}

-- a sink before and after: its count of faults, and what it took where it tells
pub record Sunk : Type 0 where
  pub faults_before : ℕ
  pub faults_now : ℕ
  pub taken_before : Option (List ℕ)
  pub taken_now : Option (List ℕ)

-- nothing was written to it
pub record IsUntouched (sink : Sunk) : Type 0 where
  pub faults : sink.faults_now ≡ sink.faults_before
  pub taken : sink.taken_now ≡ sink.taken_before

-- it took the whole text
pub record TookAll (text : List ℕ) (sink : Sunk) : Type 0 where
  pub faults : sink.faults_now ≡ sink.faults_before
  pub taken : sink.taken_now ≡ taken_with sink.taken_before text

-- it failed after a proper prefix of the text
pub record TookPart (text : List ℕ) (sink : Sunk) : Type 0 where
  pub rose : Rose sink.faults_before sink.faults_now
  pub count : ℕ
  pub proper : count < length text
  pub taken : sink.taken_now ≡ taken_with sink.taken_before (take count text)

-- a report goes to the output, every other text to the error stream
abbrev pub is_report : Status → Bool
is_report Clean = true
is_report Found = true
is_report _ = false

-- the text of the answer went where it belongs, whole, or in part where the run ends with a write fault; the other sink took nothing
pub data Delivers (answer : Answer) (out err : Sunk) : Status → Type 0 where
  reported : is_report answer.status ≡ true → TookAll answer.text out → IsUntouched err → Delivers answer out err answer.status
  told : is_report answer.status ≡ false → TookAll answer.text err → IsUntouched out → Delivers answer out err answer.status
  out_failed : is_report answer.status ≡ true → TookPart answer.text out → IsUntouched err → Delivers answer out err WriteFault
  err_failed : is_report answer.status ≡ false → TookPart answer.text err → IsUntouched out → Delivers answer out err WriteFault

-- the run ends with the answer that is due, delivered; or for want of memory, with nothing written
pub data Ends (words : List (List ℕ)) (outside : Outside) (out err : Sunk) : Status → Type 0 where
  answered : {status : Status} (answer : Answer) → Due words outside answer → Delivers answer out err status → Ends words outside out err status
  no_memory : IsUntouched out → IsUntouched err → Ends words outside out err Memory
