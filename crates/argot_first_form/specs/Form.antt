-- The first form: a tree with this text, and the conditions on its names.
use Rattle.std.specs.Prelude.{◌≡◌, ℕ, ◌+◌, ◌≤◌, List, [], ◌∷◌, ◌++◌, length, take, Bool, true, false, not, ◌&&◌, ◌||◌, ◌==◌, Option, Some, None, slice_get, count_by}
use Rattle.std.specs.List.{list_all, list_any, find}
use Rattle.std.specs.Str.{bytes_eq}
use Rattle.argot_first_form.specs.declared.steps.Operand.{Operand}
use Rattle.argot_first_form.specs.declared.steps.Operand.TheVariants as operands
use Rattle.argot_first_form.specs.declared.steps.Action.{Action}
use Rattle.argot_first_form.specs.declared.steps.Action.TheVariants as actions
use Rattle.argot_first_form.specs.declared.steps.Step.{Step}
use Rattle.argot_first_form.specs.declared.functions.Function.{Function}
use Rattle.argot_first_form.specs.declared.functions.Returned.{Returned}
use Rattle.argot_first_form.specs.declared.functions.Returned.TheVariants as returns
use Rattle.argot_first_form.specs.Tree.{File, text_of}
use Rattle.argot_first_form.specs.Words.{FileWords}
use Rattle.argot_first_form.specs.Steps.{functions_of, steps_of}

-- the name is among these
abbrev pub among : List (List ℕ) → List ℕ → Bool
among names n = list_any (λ m. bytes_eq m n) names

abbrev pub distinct : List (List ℕ) → Bool
distinct [] = true
distinct (n ∷ ns) = not (among ns n) && distinct ns

abbrev pub names_of : List Function → List (List ℕ)
names_of [] = []
names_of (f ∷ fs) = f.name ∷ names_of fs

-- the name after `return` is a parameter's
abbrev pub returns_own : List (List ℕ) → Returned → Bool
returns_own parameters (returns.Parameter n) = among parameters n
returns_own parameters returns.Text = true
returns_own parameters returns.Nothing = true

pub record FunctionsFit (functions : List Function) : Type 0 where
  -- no two functions have one name
  pub functions_differ : distinct (names_of functions) ≡ true
  -- no two parameters of a function have one name
  pub parameters_differ : list_all (λ f. distinct f.parameters) functions ≡ true
  -- no parameter has a function's name
  pub parameters_apart : list_all (λ f. list_all (λ p. not (among (names_of functions) p)) f.parameters) functions ≡ true
  pub returned_own : list_all (λ f. returns_own f.parameters f.returned) functions ≡ true

-- the variables that these steps declare
abbrev pub declared_by : Action → List (List ℕ)
declared_by (actions.Define n v) = n ∷ []
declared_by actions.Text = []
declared_by (actions.Call f vs) = []
declared_by (actions.Assign n v) = []

abbrev pub declared : List Step → List (List ℕ)
declared [] = []
declared (s ∷ ss) = declared_by s.action ++ declared ss

abbrev pub operands_in : Action → List Operand
operands_in actions.Text = []
operands_in (actions.Call f vs) = vs
operands_in (actions.Define n v) = v ∷ []
operands_in (actions.Assign n v) = v ∷ []

-- each step passes a test, which sees the steps before it
abbrev pub each_step : (List Step → Action → Bool) → List Step → List Step → Bool
each_step test before [] = true
each_step test before (s ∷ ss) = test before s.action && each_step test (before ++ s ∷ []) ss

-- a `:=` names a variable that has no earlier one and is no function's name
abbrev pub declares_new : List Function → List Step → Action → Bool
declares_new functions before (actions.Define n v) = not (among (declared before) n) && not (among (names_of functions) n)
declares_new functions before actions.Text = true
declares_new functions before (actions.Call f vs) = true
declares_new functions before (actions.Assign n v) = true

-- a variable that is given another value has an earlier `:=`
abbrev pub assigns_old : List Step → Action → Bool
assigns_old before (actions.Assign n v) = among (declared before) n
assigns_old before actions.Text = true
assigns_old before (actions.Call f vs) = true
assigns_old before (actions.Define n v) = true

-- a variable that is read has an earlier `:=`
abbrev pub reads_old : List Step → Operand → Bool
reads_old before (operands.Variable n) = among (declared before) n
reads_old before (operands.Step i) = true

abbrev pub named : List Function → List ℕ → Option Function
named functions n = find (λ f. bytes_eq f.name n) functions

abbrev pub has_parameters : ℕ → Option Function → Bool
has_parameters n None = false
has_parameters n (Some f) = n == length f.parameters

-- a call names a function with as many parameters as it has arguments
abbrev pub calls_known : List Function → Action → Bool
calls_known functions (actions.Call f vs) = has_parameters (length vs) (named functions f)
calls_known functions actions.Text = true
calls_known functions (actions.Define n v) = true
calls_known functions (actions.Assign n v) = true

abbrev pub is_nothing : Returned → Bool
is_nothing returns.Nothing = true
is_nothing returns.Text = false
is_nothing (returns.Parameter n) = false

abbrev pub has_result : Option Function → Bool
has_result None = false
has_result (Some f) = not (is_nothing f.returned)

abbrev pub action_gives : List Function → Action → Bool
action_gives functions (actions.Call f vs) = has_result (named functions f)
action_gives functions actions.Text = true
action_gives functions (actions.Define n v) = true
action_gives functions (actions.Assign n v) = true

abbrev pub gives_value : List Function → Option Step → Bool
gives_value functions None = true
gives_value functions (Some s) = action_gives functions s.action

-- a call that stands for a value names a function with a result
abbrev pub uses_result : List Function → List Step → Operand → Bool
uses_result functions before (operands.Variable n) = true
uses_result functions before (operands.Step i) = gives_value functions (slice_get before i)

pub record StepsFit (functions : List Function) (steps : List Step) : Type 0 where
  pub declares : each_step (declares_new functions) [] steps ≡ true
  pub assigns : each_step assigns_old [] steps ≡ true
  pub reads : each_step (λ before a. list_all (reads_old before) (operands_in a)) [] steps ≡ true
  pub calls : each_step (λ before a. calls_known functions a) [] steps ≡ true
  pub results : each_step (λ before a. list_all (uses_result functions before) (operands_in a)) [] steps ≡ true

abbrev pub is_opening : ℕ → Bool
is_opening b = (b == 40) || ((b == 91) || (b == 123))

abbrev pub is_closing : ℕ → Bool
is_closing b = (b == 41) || ((b == 93) || (b == 125))

-- at most 100 brackets are open at any byte
abbrev pub BracketsFit : List ℕ → Type 0
BracketsFit bytes = (n : ℕ) → n ≤ length bytes → count_by is_opening (take n bytes) ≤ count_by is_closing (take n bytes) + 100

-- the bytes are this tree's text, and its names meet the conditions
pub record IsFirstForm (file : File) (bytes : List ℕ) : Type 0 where
  pub text : text_of file ≡ bytes
  pub words : FileWords file
  pub functions : FunctionsFit (functions_of file.items)
  pub steps : StepsFit (functions_of file.items) (steps_of file)
  pub short : length bytes ≤ 4096
  pub brackets : BracketsFit bytes

abbrev pub HasFirstForm : List ℕ → Type 0
HasFirstForm bytes = (file : File) × IsFirstForm file bytes
