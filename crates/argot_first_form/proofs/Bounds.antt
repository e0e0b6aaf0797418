-- How many functions and steps a file of the first form has, and where its steps stand.
use Rattle.std.proofs.Common.{◌≡◌, ℕ, zero, suc, ◌+◌, ◌≤◌, List, [], ◌∷◌, ◌++◌, Some, length, ap, subst, arith, length-append}
use Rattle.std.specs.Prelude.{codes, slice_get}
use Rattle.argot_first_form.specs.Tree.{Value, Variable, Quoted, Called, Values, no_value, beside, value_text, values_text, more_text, Statement, Define, Assign, Do, statement_text, body_text, Item, Blank, Func, Void, blanks_text, main_text, File, text_of}
use Rattle.argot_first_form.specs.Steps.{value_size, values_size, value_steps, values_steps, statement_steps, statement_size, body_steps, steps_of, functions_of}
use Rattle.argot_first_form.specs.Form.{IsFirstForm}
use Rattle.argot_first_form.specs.declared.steps.Step.{Step}
use Rattle.argot_first_form.proofs.Files.{items-longer, length-statement_steps}

mutual
  value-room : (v : Value) (r : List ℕ) → value_size v + length r ≤ length (value_text v r)
  value-room (Variable n) r = simp length-append (omega arith)
  value-room (Quoted t) r = simp length-append (omega arith)
  value-room (Called f vs) r = simp length-append (omega (arith, values-room vs (41 ∷ r)))

  values-room : (vs : Values) (r : List ℕ) → values_size vs + length r ≤ length (values_text vs r)
  values-room no_value r = omega arith
  values-room (beside v vs) r = omega (arith, value-room v (more_text vs r), more-room vs r)

  more-room : (vs : Values) (r : List ℕ) → values_size vs + length r ≤ length (more_text vs r)
  more-room no_value r = omega arith
  more-room (beside v vs) r = omega (arith, value-room v (more_text vs r), more-room vs r)

statement-room : (x : Statement) (r : List ℕ) → statement_size x + length r ≤ length (statement_text x r)
statement-room (Define n v) r = omega (arith, value-room v r, length-append n (codes " := " ++ value_text v r))
statement-room (Assign n v) r = omega (arith, value-room v r, length-append n (codes " = " ++ value_text v r))
statement-room (Do f vs) r = omega (arith, values-room vs (41 ∷ r), length-append f (40 ∷ values_text vs (41 ∷ r)))

body-room : (xs : List Statement) (total place : ℕ) (r : List ℕ) → length (body_steps xs total place r) + length r ≤ length (body_text xs r)
body-room [] total place r = omega arith
body-room (x ∷ xs) total place r =
    simp length-append (omega (arith, length-statement_steps x total place (10 ∷ body_text xs r), body-room xs total (place + statement_size x) r, statement-room x (10 ∷ body_text xs r)))

functions-few : (xs : List Item) → length (functions_of xs) ≤ length xs
functions-few [] = omega arith
functions-few (Blank ∷ xs) = omega (arith, functions-few xs)
functions-few (Func f ps a ∷ xs) = omega (arith, functions-few xs)
functions-few (Void f ps ∷ xs) = omega (arith, functions-few xs)

-- there are no more functions than bytes
pub few-functions : (file : File) (bytes : List ℕ) → IsFirstForm file bytes → length (functions_of file.items) ≤ 4096
few-functions file bytes f =
    let s = f.short in
    omega (arith, functions-few file.items, items-longer file.items (main_text file.body file.blanks), ap length f.text)

-- and no more steps
pub few-steps : (file : File) (bytes : List ℕ) → IsFirstForm file bytes → length (steps_of file) ≤ 4096
few-steps file bytes f =
    let s = f.short in
    omega (arith, body-room file.body (length (text_of file)) 0 (codes "}" ++ (10 ∷ blanks_text file.blanks)), items-longer file.items (main_text file.body file.blanks), ap length f.text)

-- each step stands in the file
abbrev pub Within : ℕ → List Step → Type 0
Within total [] = Unit {0}
Within total (s ∷ ss) = (s.at ≤ total) × Within total ss

within-append : (total : ℕ) (xs ys : List Step) → Within total xs → Within total ys → Within total (xs ++ ys)
within-append total [] ys a b = b
within-append total (x ∷ xs) ys a b = (a.0, within-append total xs ys a.1 b)

mutual
  value-within : (v : Value) (total place : ℕ) (r : List ℕ) → Within total (value_steps v total place r)
  value-within (Variable n) total place r = tt
  value-within (Quoted t) total place r = (omega arith, tt)
  value-within (Called f vs) total place r = within-append total (values_steps vs total place (41 ∷ r)) _ (values-within vs total place (41 ∷ r)) (omega arith, tt)

  values-within : (vs : Values) (total place : ℕ) (r : List ℕ) → Within total (values_steps vs total place r)
  values-within no_value total place r = tt
  values-within (beside v vs) total place r = within-append total (value_steps v total place (more_text vs r)) (values_steps vs total (place + value_size v) r) (value-within v total place (more_text vs r)) (values-within vs total (place + value_size v) r)

statement-within : (x : Statement) (total place : ℕ) (r : List ℕ) → Within total (statement_steps x total place r)
statement-within (Define n v) total place r = within-append total (value_steps v total place r) _ (value-within v total place r) (omega arith, tt)
statement-within (Assign n v) total place r = within-append total (value_steps v total place r) _ (value-within v total place r) (omega arith, tt)
statement-within (Do f vs) total place r = value-within (Called f vs) total place r

body-within : (xs : List Statement) (total place : ℕ) (r : List ℕ) → Within total (body_steps xs total place r)
body-within [] total place r = tt
body-within (x ∷ xs) total place r = within-append total (statement_steps x total place (10 ∷ body_text xs r)) (body_steps xs total (place + statement_size x) r) (statement-within x total place (10 ∷ body_text xs r)) (body-within xs total (place + statement_size x) r)

within-at : (total : ℕ) (ss : List Step) (i : ℕ) (s : Step) → Within total ss → slice_get ss i ≡ Some s → s.at ≤ total
within-at total [] i s w h = absurd (cc h)
within-at total (x ∷ ss) zero s w h = let e : x ≡ s = cc h in subst (λ y. y.at ≤ total) e w.0
within-at total (x ∷ ss) (suc i) s w h = within-at total ss i s w.1 h

pub step-within : (file : File) (bytes : List ℕ) → IsFirstForm file bytes → (i : ℕ) (s : Step) → slice_get (steps_of file) i ≡ Some s → s.at ≤ length bytes
step-within file bytes f i s h =
    subst (λ y. s.at ≤ length y) f.text (within-at (length (text_of file)) (steps_of file) i s (body-within file.body (length (text_of file)) 0 (codes "}" ++ (10 ∷ blanks_text file.blanks))) h)
