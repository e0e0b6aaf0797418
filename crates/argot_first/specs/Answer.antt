-- The report of a program, and the answer for a file.
use Rattle.std.specs.Prelude.{◌≡◌, ℕ, ◌+◌, ◌<◌, List, [], ◌∷◌, ◌++◌, length, Option, Some, None, slice_get, codes}
use Rattle.std.specs.List.{flat_map}
use Rattle.std.specs.Fmt.{decimal}
use Rattle.argot_text.specs.Lines.{line_of, column_of}
use Rattle.argot_first_form.specs.Tree.{File}
use Rattle.argot_first_form.specs.Form.{IsFirstForm, HasFirstForm}
use Rattle.argot_first.specs.declared.found.Flow.{Flow}
use Rattle.argot_first.specs.declared.found.Answer.{Answer}
use Rattle.argot_first.specs.declared.found.Answer.TheVariants.{Unsupported, Report}
use Rattle.argot_plain.specs.First.{Code, Instr, IsFlow}
use Rattle.argot_first.specs.Code.{code_of}

-- by source, sink and argument
pub data IsBefore (a b : Flow) : Type 0 where
  by_source : a.source < b.source → IsBefore a b
  by_sink : a.source ≡ b.source → a.sink < b.sink → IsBefore a b
  by_argument : a.source ≡ b.source → a.sink ≡ b.sink → a.argument < b.argument → IsBefore a b

-- each flow, once, in order
pub record AreFlows (code : Code) (flows : List Flow) : Type 0 where
  pub ordered : (i : ℕ) (a b : Flow) → slice_get flows i ≡ Some a → slice_get flows (i + 1) ≡ Some b → IsBefore a b
  pub sound : (i : ℕ) (a : Flow) → slice_get flows i ≡ Some a → IsFlow code a.source a.sink a.argument
  pub complete : (s t k : ℕ) → IsFlow code s t k → (i : ℕ) × (slice_get flows i ≡ Some (record { source = s; sink = t; argument = k }))

abbrev pub offset_in : Option Instr → ℕ
offset_in None = 0
offset_in (Some x) = x.at

-- the position of the instruction at a place: `main.go:LINE:COL`
abbrev pub position_text : List ℕ → Code → ℕ → List ℕ
position_text bytes code i =
    let at = offset_in (slice_get code.instrs i) in
    codes "main.go:" ++ (decimal (line_of bytes at) ++ (codes ":" ++ decimal (column_of bytes at)))

abbrev pub flow_line : List ℕ → Code → Flow → List ℕ
flow_line bytes code f =
    codes "flow default: " ++ (position_text bytes code f.source ++ (codes " main.source -> " ++ (position_text bytes code f.sink ++ (codes " main.sink arg " ++ (decimal f.argument ++ 10 ∷ [])))))

abbrev pub report : List ℕ → Code → List Flow → List ℕ
report bytes code flows = flat_map (flow_line bytes code) flows ++ (decimal (length flows) ++ (codes " flows, 0 escapes" ++ 10 ∷ []))

-- the number of a program's flows, and its report
pub record IsReportOf (file : File) (bytes : List ℕ) (count : ℕ) (text : List ℕ) : Type 0 where
  pub flows : List Flow
  pub are_flows : AreFlows (code_of file) flows
  pub counted : count ≡ length flows
  pub reported : text ≡ report bytes (code_of file) flows

-- the bytes have the first form, and this is the report of whatever tree has them as its text
pub record IsReport (bytes : List ℕ) (count : ℕ) (text : List ℕ) : Type 0 where
  pub form : HasFirstForm bytes
  pub each : (file : File) → IsFirstForm file bytes → IsReportOf file bytes count text

-- what is answered for a file with these bytes
abbrev pub IsAnswer : List ℕ → Answer → Type 0
IsAnswer bytes Unsupported = HasFirstForm bytes → ⊥
IsAnswer bytes (Report count text) = IsReport bytes count text
