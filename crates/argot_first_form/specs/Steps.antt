-- The steps of main: one for each text in quotes, each call and each assignment, operands first.
use Rattle.std.specs.Prelude.{ℕ, ◌+◌, ◌-◌, List, [], ◌∷◌, ◌++◌, length, codes}
use Rattle.argot_first_form.specs.declared.steps.Operand.{Operand}
use Rattle.argot_first_form.specs.declared.steps.Operand.TheVariants as operands
use Rattle.argot_first_form.specs.declared.steps.Action.{Action}
use Rattle.argot_first_form.specs.declared.steps.Action.TheVariants as actions
use Rattle.argot_first_form.specs.declared.steps.Step.{Step}
use Rattle.argot_first_form.specs.declared.functions.Function.{Function}
use Rattle.argot_first_form.specs.declared.functions.Returned.{Returned}
use Rattle.argot_first_form.specs.declared.functions.Returned.TheVariants as returns
use Rattle.argot_first_form.specs.Tree.{Value, Variable, Quoted, Called, Values, no_value, beside, Statement, Define, Assign, Do, Atom, Parameter, Fixed, Item, Blank, Func, Void, File, value_text, more_text, statement_text, body_text, blanks_text, text_of}

-- how many steps a value has
abbrev mutual
  pub value_size : Value → ℕ
  value_size (Variable n) = 0
  value_size (Quoted t) = 1
  value_size (Called f vs) = values_size vs + 1

  pub values_size : Values → ℕ
  values_size no_value = 0
  values_size (beside v vs) = value_size v + values_size vs

-- where a value stands whose steps begin at this number
abbrev pub operand_of : ℕ → Value → Operand
operand_of place (Variable n) = operands.Variable n
operand_of place (Quoted t) = operands.Step place
operand_of place (Called f vs) = operands.Step (place + values_size vs)

abbrev pub operands_of : ℕ → Values → List Operand
operands_of place no_value = []
operands_of place (beside v vs) = operand_of place v ∷ operands_of (place + value_size v) vs

-- the offset at which a text begins that goes on to the end of a file of this length
abbrev pub offset_of : ℕ → List ℕ → ℕ
offset_of total text = total - length text

abbrev pub step_at : ℕ → List ℕ → Action → List Step
step_at total text action = record { at = offset_of total text; action = action } ∷ []

-- the steps of a value in a file of this length, from this number on, where this text follows
abbrev mutual
  pub value_steps : Value → ℕ → ℕ → List ℕ → List Step
  value_steps (Variable n) total place rest = []
  value_steps (Quoted t) total place rest = step_at total (value_text (Quoted t) rest) actions.Text
  value_steps (Called f vs) total place rest = values_steps vs total place (41 ∷ rest) ++ step_at total (value_text (Called f vs) rest) (actions.Call f (operands_of place vs))

  pub values_steps : Values → ℕ → ℕ → List ℕ → List Step
  values_steps no_value total place rest = []
  values_steps (beside v vs) total place rest = value_steps v total place (more_text vs rest) ++ values_steps vs total (place + value_size v) rest

abbrev pub statement_size : Statement → ℕ
statement_size (Define n v) = value_size v + 1
statement_size (Assign n v) = value_size v + 1
statement_size (Do f vs) = values_size vs + 1

abbrev pub statement_steps : Statement → ℕ → ℕ → List ℕ → List Step
statement_steps (Define n v) total place rest = value_steps v total place rest ++ step_at total (statement_text (Define n v) rest) (actions.Define n (operand_of place v))
statement_steps (Assign n v) total place rest = value_steps v total place rest ++ step_at total (statement_text (Assign n v) rest) (actions.Assign n (operand_of place v))
statement_steps (Do f vs) total place rest = value_steps (Called f vs) total place rest

abbrev pub body_steps : List Statement → ℕ → ℕ → List ℕ → List Step
body_steps [] total place rest = []
body_steps (x ∷ xs) total place rest = statement_steps x total place (10 ∷ body_text xs rest) ++ body_steps xs total (place + statement_size x) rest

-- main's steps
abbrev pub steps_of : File → List Step
steps_of file = body_steps file.body (length (text_of file)) 0 (codes "}" ++ (10 ∷ blanks_text file.blanks))

abbrev pub returned_of : Atom → Returned
returned_of (Parameter n) = returns.Parameter n
returned_of (Fixed t) = returns.Text

-- the functions that stand before main
abbrev pub functions_of : List Item → List Function
functions_of [] = []
functions_of (Blank ∷ xs) = functions_of xs
functions_of (Func f ps a ∷ xs) = record { name = f; parameters = ps; returned = returned_of a } ∷ functions_of xs
functions_of (Void f ps ∷ xs) = record { name = f; parameters = ps; returned = returns.Nothing } ∷ functions_of xs
