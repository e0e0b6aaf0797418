-- What reading a file gives.
use Rattle.std.specs.Prelude.{◌≡◌, ℕ, List, Option, Some, None}
use Rattle.argot_first_form.specs.declared.lines.Program.{Program}
use Rattle.argot_first_form.specs.Tree.{File}
use Rattle.argot_first_form.specs.Steps.{functions_of, steps_of}
use Rattle.argot_first_form.specs.Form.{IsFirstForm, HasFirstForm, FunctionsFit, StepsFit}

-- the names of the program meet the conditions
pub record NamesFit (p : Program) : Type 0 where
  pub functions : FunctionsFit p.functions
  pub steps : StepsFit p.functions p.steps

-- the functions and the steps of a file with this text
pub record IsProgram (bytes : List ℕ) (p : Program) : Type 0 where
  pub file : File
  pub form : IsFirstForm file bytes
  pub functions : p.functions ≡ functions_of file.items
  pub steps : p.steps ≡ steps_of file

abbrev pub IsProgramOf : List ℕ → Option Program → Type 0
IsProgramOf bytes None = HasFirstForm bytes → ⊥
IsProgramOf bytes (Some p) = IsProgram bytes p
