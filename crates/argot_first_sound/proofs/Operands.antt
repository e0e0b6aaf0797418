-- The operands of main's steps name steps of the list.
use Rattle.std.proofs.Common.{◌≡◌, ℕ, zero, suc, ◌+◌, ◌≤◌, List, [], ◌∷◌, ◌++◌, Some, length, subst, arith, length-append}
use Rattle.std.specs.Prelude.{slice_get}
use Rattle.argot_first_form.proofs.Files.{length-statement_steps}
use Rattle.argot_first_form.specs.Tree.{Value, Variable, Quoted, Called, Values, no_value, beside, more_text, Statement, Define, Assign, Do, body_text}
use Rattle.argot_first_form.specs.Steps.{value_size, values_size, value_steps, values_steps, statement_steps, statement_size, body_steps, operand_of, operands_of}
use Rattle.argot_first_form.specs.Form.{operands_in}
use Rattle.argot_first_form.specs.declared.steps.Operand.{Operand}
use Rattle.argot_first_form.specs.declared.steps.Operand.TheVariants as operands
use Rattle.argot_first_form.specs.declared.steps.Step.{Step}
use Rattle.argot_first_sound.proofs.Maps.{some-same}

abbrev pub OperandBelow : ℕ → Operand → Type 0
OperandBelow n (operands.Variable name) = Unit {0}
OperandBelow n (operands.Step i) = i ≤ n

abbrev pub OperandsBelow : ℕ → List Operand → Type 0
OperandsBelow n [] = Unit {0}
OperandsBelow n (v ∷ vs) = OperandBelow n v × OperandsBelow n vs

abbrev pub StepsBelow : ℕ → List Step → Type 0
StepsBelow n [] = Unit {0}
StepsBelow n (s ∷ ss) = OperandsBelow n (operands_in s.action) × StepsBelow n ss

below-append : (n : ℕ) (xs ys : List Step) → StepsBelow n xs → StepsBelow n ys → StepsBelow n (xs ++ ys)
below-append n [] ys a b = b
below-append n (x ∷ xs) ys a b = (a.0, below-append n xs ys a.1 b)

operand-below : (n place : ℕ) (v : Value) → place + value_size v ≤ n → OperandBelow n (operand_of place v)
operand-below n place (Variable name) h = tt
operand-below n place (Quoted t) h = omega arith
operand-below n place (Called f vs) h = omega arith

operands-below : (n place : ℕ) (vs : Values) → place + values_size vs ≤ n → OperandsBelow n (operands_of place vs)
operands-below n place no_value h = tt
operands-below n place (beside v vs) h = (operand-below n place v (omega arith), operands-below n (place + value_size v) vs (omega arith))

mutual
  value-below : (n : ℕ) (v : Value) (total place : ℕ) (r : List ℕ) → place + value_size v ≤ n → StepsBelow n (value_steps v total place r)
  value-below n (Variable name) total place r h = tt
  value-below n (Quoted t) total place r h = (tt, tt)
  value-below n (Called f vs) total place r h = below-append n (values_steps vs total place (41 ∷ r)) _ (values-below n vs total place (41 ∷ r) (omega arith)) (operands-below n place vs (omega arith), tt)

  values-below : (n : ℕ) (vs : Values) (total place : ℕ) (r : List ℕ) → place + values_size vs ≤ n → StepsBelow n (values_steps vs total place r)
  values-below n no_value total place r h = tt
  values-below n (beside v vs) total place r h = below-append n (value_steps v total place (more_text vs r)) (values_steps vs total (place + value_size v) r) (value-below n v total place (more_text vs r) (omega arith)) (values-below n vs total (place + value_size v) r (omega arith))

statement-below : (n : ℕ) (x : Statement) (total place : ℕ) (r : List ℕ) → place + statement_size x ≤ n → StepsBelow n (statement_steps x total place r)
statement-below n (Define name v) total place r h = below-append n (value_steps v total place r) _ (value-below n v total place r (omega arith)) ((operand-below n place v (omega arith), tt), tt)
statement-below n (Assign name v) total place r h = below-append n (value_steps v total place r) _ (value-below n v total place r (omega arith)) ((operand-below n place v (omega arith), tt), tt)
statement-below n (Do f vs) total place r h = value-below n (Called f vs) total place r (omega arith)

pub body-below : (n : ℕ) (xs : List Statement) (total place : ℕ) (r : List ℕ) → place + length (body_steps xs total place r) ≤ n → StepsBelow n (body_steps xs total place r)
body-below n [] total place r h = tt
body-below n (x ∷ xs) total place r h =
    let here = statement_steps x total place (10 ∷ body_text xs r) in
    let more = body_steps xs total (place + statement_size x) r in
    let a = length-statement_steps x total place (10 ∷ body_text xs r) in
    let b = length-append here more in
    below-append n here more (statement-below n x total place (10 ∷ body_text xs r) (omega arith)) (body-below n xs total (place + statement_size x) r (omega arith))

pub below-at : (n : ℕ) (ss : List Step) (i : ℕ) (s : Step) → StepsBelow n ss → slice_get ss i ≡ Some s → OperandsBelow n (operands_in s.action)
below-at n [] i s b h = absurd (cc h)
below-at n (x ∷ ss) zero s b h = subst (λ (y : Step). OperandsBelow n (operands_in y.action)) (some-same h) b.0
below-at n (x ∷ ss) (suc i) s b h = below-at n ss i s b.1 h
