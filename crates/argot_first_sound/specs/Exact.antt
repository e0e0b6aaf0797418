-- A report by the whole relation: exactly its flows, each once, in order.
use Rattle.std.specs.Prelude.{◌≡◌, ℕ, ◌+◌, List, Some, length, slice_get}
use Rattle.argot_first_form.specs.Tree.{File}
use Rattle.argot_first_form.specs.Form.{IsFirstForm}
use Rattle.argot_plain.specs.First as First
use Rattle.argot_first.specs.Code.{code_of}
use Rattle.argot_first.specs.Answer.{IsBefore, IsReport, report}
use Rattle.argot_first.specs.declared.found.Flow as Found
use Rattle.argot_facts.specs.Flows.{Flow}
use Rattle.argot_first_sound.specs.Whole.{whole_of, asked}

-- data of the source's call at s reaches the argument k of the sink's call at t
abbrev pub IsWholeFlow : First.Code → ℕ → ℕ → ℕ → Type 0
IsWholeFlow code s t k = Flow (whole_of code) (asked code) s t k

-- each flow of the whole relation, once, in order of source, sink and argument
pub record AreWholeFlows (code : First.Code) (flows : List Found.Flow) : Type 0 where
  pub ordered : (i : ℕ) (a b : Found.Flow) → slice_get flows i ≡ Some a → slice_get flows (i + 1) ≡ Some b → IsBefore a b
  pub sound : (i : ℕ) (a : Found.Flow) → slice_get flows i ≡ Some a → IsWholeFlow code a.source a.sink a.argument
  pub complete : (s t k : ℕ) → IsWholeFlow code s t k → (i : ℕ) × (slice_get flows i ≡ Some (record { source = s; sink = t; argument = k }))

-- the number of these flows, and their report
pub record IsWholeReport (file : File) (bytes : List ℕ) (count : ℕ) (text : List ℕ) : Type 0 where
  pub flows : List Found.Flow
  pub are_flows : AreWholeFlows (code_of file) flows
  pub counted : count ≡ length flows
  pub reported : text ≡ report bytes (code_of file) flows

-- a report of the form's own flows is one of the whole relation
abbrev pub ReportsAreExact : Type 0
ReportsAreExact = (bytes text : List ℕ) (count : ℕ) → IsReport bytes count text → (file : File) → IsFirstForm file bytes → IsWholeReport file bytes count text
