-- What the tables of names say of a program's registers and functions.
use Rattle.std.proofs.Common.{◌≡◌, ◌≤◌, ℕ, ◌+◌, List, length, Option, Bool, not, sym, ap, ◌∙◌, zero-add, arith}
use Rattle.std.specs.Prelude.{unwrap_or}
use Rattle.std.specs.HashMap.{HashMap}
use Rattle.std.proofs.lemmas.List.Sums.{prefix_len-le-length}
use Rattle.std.specs.List.{position_or_len}
use Rattle.std.specs.Str.{bytes_eq}
use denote.Ref.{Bor}
use Rattle.argot_first_form.specs.declared.steps.Step.{Step}
use Rattle.argot_first_form.specs.declared.functions.Function.{Function}
use Rattle.argot_first_form.specs.Form.{among, declared_by}
use Rattle.argot_first_form.specs.Names.{place, number_at, HasFunctions, HasSteps}
use Rattle.argot_first_form.proofs.Tables.{place-position}
use Rattle.argot_first.specs.Code.{variable, function_number}

-- the first place of what passes, or the end
first-place : {A : Type 0} (p : A → Bool) (xs : List A) (o : Option ℕ) → o ≡ place p 0 xs → unwrap_or o (length xs) ≡ position_or_len p xs
first-place p xs o h = ap (λ x. unwrap_or x (length xs)) h ∙ (ap (unwrap_or (place p 0 xs)) (sym (zero-add (length xs))) ∙ (place-position p 0 xs ∙ zero-add (position_or_len p xs)))

pub variable-is : {S : Type 0} (table : HashMap (Bor (List ℕ)) ℕ S) (steps : List Step) → HasSteps table 0 steps → (n : List ℕ) → unwrap_or (number_at table n) (length steps) ≡ variable steps n
variable-is table steps has n = first-place (λ (s : Step). among (declared_by s.action) n) steps (number_at table n) (has n)

pub function-is : {S : Type 0} (table : HashMap (Bor (List ℕ)) ℕ S) (functions : List Function) → HasFunctions table 0 functions → (n : List ℕ) → unwrap_or (number_at table n) (length functions) + 1 ≡ function_number functions n
function-is table functions has n = ap (λ x. x + 1) (first-place (λ (f : Function). bytes_eq f.name n) functions (number_at table n) (has n))

-- a function's number is at most one more than there are functions
pub number-least : (functions : List Function) (n : List ℕ) → function_number functions n ≤ length functions + 1
number-least functions n = let least = prefix_len-le-length (λ (f : Function). not (bytes_eq f.name n)) functions in omega arith
