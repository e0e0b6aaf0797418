-- The text of a value is read as that value.
use Rattle.std.proofs.Common.{◌≡◌, ℕ, zero, suc, ◌+◌, ◌-◌, ◌≤◌, List, [], ◌∷◌, ◌++◌, Some, Bool, true, false, ◌&&◌, length, refl, sym, ap, ◌∙◌, arith, nat_eq, append_assoc, length-append}
use Rattle.std.specs.List.{prefix_len, starts_with}
use Rattle.std.specs.Char.{is_ascii_alphanumeric, is_ascii_alphabetic}
use Rattle.std.proofs.lemmas.Bool.Decides.{Decides-eqb}
use Rattle.std.proofs.lemmas.Bool.{false≢true}
use Rattle.std.proofs.Common.{append-nil}
use Rattle.argot_first_form.specs.declared.steps.Operand.TheVariants as operands
use Rattle.argot_first_form.specs.declared.steps.Action.TheVariants as actions
use Rattle.argot_first_form.specs.Bytes.{begins_with_letter}
use Rattle.argot_first_form.specs.Tree.{Value, Variable, Quoted, Called, Values, no_value, beside, value_text, values_text, more_text}
use Rattle.argot_first_form.specs.Words.{IsName, IsQuotable, HasWords, HaveWords}
use Rattle.argot_first_form.specs.Steps.{value_size, values_size, operand_of, operands_of, value_steps, values_steps}
use Rattle.argot_first_form.specs.declared.steps.Operand.{Operand}
use Rattle.argot_first_form.specs.declared.steps.Step.{Step}
use Rattle.argot_first_form.specs.Reading.{value, value_by, call_by, arguments_by, arguments}
use Rattle.argot_first_form.proofs.Pieces.{front, name-exact, name-letter, quoted-exact}

-- how many calls of the reader a value takes within each other
abbrev mutual
  pub value_need : Value → ℕ
  value_need (Variable n) = 1
  value_need (Quoted t) = 1
  value_need (Called f vs) = values_need vs + 1

  pub values_need : Values → ℕ
  values_need no_value = 0
  values_need (beside v vs) = value_need v + values_need vs + 1

mutual
  pub length-value_steps : (v : Value) (total place : ℕ) (r : List ℕ) → length (value_steps v total place r) ≡ value_size v
  length-value_steps (Variable n) total place r = refl
  length-value_steps (Quoted t) total place r = refl
  length-value_steps (Called f vs) total place r = simp length-append (omega (arith, length-values_steps vs total place (41 ∷ r)))

  pub length-values_steps : (vs : Values) (total place : ℕ) (r : List ℕ) → length (values_steps vs total place r) ≡ values_size vs
  length-values_steps no_value total place r = refl
  length-values_steps (beside v vs) total place r = simp length-append (omega (arith, length-value_steps v total place (more_text vs r), length-values_steps vs total (place + value_size v) r))

-- what may follow a value
pub record Stops (r : List ℕ) : Type 0 where
  pub word : prefix_len is_ascii_alphanumeric r ≡ 0
  pub call : starts_with nat_eq r (40 ∷ []) ≡ false

letter-by : (c : Bool) (b x : ℕ) → nat_eq b x ≡ c → is_ascii_alphabetic x ≡ true → is_ascii_alphabetic b ≡ false → (c && true) ≡ false
letter-by true b x e h z = absurd (false≢true (sym z ∙ (ap is_ascii_alphabetic ((Decides-eqb b x).0 e) ∙ h)))
letter-by false b x e h z = refl

-- a byte that is no letter doesn't begin what begins with a name
pub letter-begins : (b : ℕ) (n r : List ℕ) → begins_with_letter n ≡ true → begins_with_letter (b ∷ []) ≡ false → starts_with nat_eq (n ++ r) (b ∷ []) ≡ false
letter-begins b [] r h z = absurd (cc h)
letter-begins b (x ∷ xs) r h z = letter-by (nat_eq b x) b x refl h z

-- what follows a value inside brackets
pub stops-comma : (r : List ℕ) → Stops (44 ∷ r)
stops-comma r = record { word = refl; call = refl }

pub stops-bracket : (r : List ℕ) → Stops (41 ∷ r)
stops-bracket r = record { word = refl; call = refl }

pub stops-newline : (r : List ℕ) → Stops (10 ∷ r)
stops-newline r = record { word = refl; call = refl }

-- no value begins with a closing bracket
pub value-opens : (v : Value) (r : List ℕ) → HasWords v → starts_with nat_eq (value_text v r) (41 ∷ []) ≡ false
value-opens (Variable n) r h = letter-begins 41 n r (name-letter n h) refl
value-opens (Quoted t) r h = refl
value-opens (Called f vs) r h = letter-begins 41 f (40 ∷ values_text vs (41 ∷ r)) (name-letter f h.0) refl

-- a value's text is read as that value, whatever may follow it
abbrev pub Exact : Value → Type 0
Exact v = (n total : ℕ) (r : List ℕ) (steps : List Step) → value_need v ≤ n → Stops r → value n (front total (value_text v r) steps) ≡ Some (operand_of (length steps) v, front total r (steps ++ value_steps v total (length steps) r))

-- the text of arguments is read as these arguments
abbrev pub ExactArguments : Values → ℕ → Type 0
ExactArguments vs n = (total : ℕ) (r : List ℕ) (steps : List Step) → arguments_by (arguments n []) (front total (values_text vs (41 ∷ r)) steps) ≡ Some (operands_of (length steps) vs, front total r (steps ++ values_steps vs total (length steps) (41 ∷ r)))

pub call-exact : (f : List ℕ) (vs : Values) (n at total : ℕ) (r : List ℕ) (steps : List Step) → ExactArguments vs n → call_by (arguments n []) at f (front total (40 ∷ values_text vs (41 ∷ r)) steps) ≡ Some (operand_of (length steps) (Called f vs), front total r (steps ++ (values_steps vs total (length steps) (41 ∷ r) ++ record { at = at; action = actions.Call f (operands_of (length steps) vs) } ∷ [])))
call-exact f vs n at total r steps e =
    rw (e total r steps, append_assoc, length-append, length-values_steps vs total (length steps) (41 ∷ r)) refl

called-exact : (f : List ℕ) (vs : Values) (n total : ℕ) (r : List ℕ) (steps : List Step) → IsName f → ExactArguments vs n → value_by (arguments n []) (front total (value_text (Called f vs) r) steps) ≡ Some (operand_of (length steps) (Called f vs), front total r (steps ++ value_steps (Called f vs) total (length steps) r))
called-exact f vs n total r steps h e =
    rw (letter-begins 34 f (40 ∷ values_text vs (41 ∷ r)) (name-letter f h) refl, name-exact total f (40 ∷ values_text vs (41 ∷ r)) steps h refl)
    (call-exact f vs n (total - length (value_text (Called f vs) r)) total r steps e)

variable-exact : (m : List ℕ) (n total : ℕ) (r : List ℕ) (steps : List Step) → IsName m → Stops r → value_by (arguments n []) (front total (m ++ r) steps) ≡ Some (operands.Variable m, front total r (steps ++ []))
variable-exact m n total r steps h s =
    rw (letter-begins 34 m r (name-letter m h) refl, name-exact total m r steps h s.word, s.call, append-nil) refl

quoted-value : (t : List ℕ) (n total : ℕ) (r : List ℕ) (steps : List Step) → IsQuotable t → value_by (arguments n []) (front total (value_text (Quoted t) r) steps) ≡ Some (operands.Step (length steps), front total r (steps ++ value_steps (Quoted t) total (length steps) r))
quoted-value t n total r steps h = rw (quoted-exact total t r steps h) refl

-- arguments in brackets, from what reads them without
in_brackets : (v : Value) (vs : Values) (n total : ℕ) (r : List ℕ) (steps : List Step) → HasWords v → arguments n [] (front total (values_text (beside v vs) (41 ∷ r)) steps) ≡ Some (operands_of (length steps) (beside v vs), front total (41 ∷ r) (steps ++ values_steps (beside v vs) total (length steps) (41 ∷ r))) → arguments_by (arguments n []) (front total (values_text (beside v vs) (41 ∷ r)) steps) ≡ Some (operands_of (length steps) (beside v vs), front total r (steps ++ values_steps (beside v vs) total (length steps) (41 ∷ r)))
in_brackets v vs n total r steps h e = rw (value-opens v (more_text vs (41 ∷ r)) h, e) refl

-- what is read behind the first of some values, joined to it
joined : (v w : Value) (ws : Values) (n total : ℕ) (read : List Operand) (r : List ℕ) (steps : List Step) →
    let place = length (steps ++ value_steps v total (length steps) (more_text (beside w ws) (41 ∷ r))) in
    arguments n (read ++ operand_of (length steps) v ∷ []) (front total (values_text (beside w ws) (41 ∷ r)) (steps ++ value_steps v total (length steps) (more_text (beside w ws) (41 ∷ r)))) ≡ Some ((read ++ operand_of (length steps) v ∷ []) ++ operands_of place (beside w ws), front total (41 ∷ r) ((steps ++ value_steps v total (length steps) (more_text (beside w ws) (41 ∷ r))) ++ values_steps (beside w ws) total place (41 ∷ r))) →
    arguments n (read ++ operand_of (length steps) v ∷ []) (front total (values_text (beside w ws) (41 ∷ r)) (steps ++ value_steps v total (length steps) (more_text (beside w ws) (41 ∷ r)))) ≡ Some (read ++ operands_of (length steps) (beside v (beside w ws)), front total (41 ∷ r) (steps ++ values_steps (beside v (beside w ws)) total (length steps) (41 ∷ r)))
joined v w ws n total read r steps p =
    let place = length (steps ++ value_steps v total (length steps) (more_text (beside w ws) (41 ∷ r))) in
    let e : place ≡ length steps + value_size v = rw (length-append, length-value_steps v total (length steps) (more_text (beside w ws) (41 ∷ r))) refl in
    p ∙ (ap (λ k. Some ((read ++ operand_of (length steps) v ∷ []) ++ operands_of k (beside w ws), front total (41 ∷ r) ((steps ++ value_steps v total (length steps) (more_text (beside w ws) (41 ∷ r))) ++ values_steps (beside w ws) total k (41 ∷ r)))) e ∙ simp append_assoc)

mutual
  unfolding value

  pub value-exact : (v : Value) → HasWords v → Exact v
  value-exact (Variable m) h zero total r steps fits s = absurd (omega arith)
  value-exact (Variable m) h (suc n) total r steps fits s = variable-exact m n total r steps h s
  value-exact (Quoted t) h zero total r steps fits s = absurd (omega arith)
  value-exact (Quoted t) h (suc n) total r steps fits s = quoted-value t n total r steps h
  value-exact (Called f vs) h zero total r steps fits s = absurd (omega arith)
  value-exact (Called f vs) h (suc n) total r steps fits s = called-exact f vs n total r steps h.0 (λ t q ss. arguments-exact vs h.1 n t q ss (omega arith))

  pub arguments-exact : (vs : Values) → HaveWords vs → (n total : ℕ) (r : List ℕ) (steps : List Step) → values_need vs ≤ n → arguments_by (arguments n []) (front total (values_text vs (41 ∷ r)) steps) ≡ Some (operands_of (length steps) vs, front total r (steps ++ values_steps vs total (length steps) (41 ∷ r)))
  arguments-exact no_value h n total r steps fits = rw append-nil refl
  arguments-exact (beside v vs) h n total r steps fits = in_brackets v vs n total r steps h.0 (rest-exact vs h.1 v (value-exact v h.0) n total [] r steps (omega arith))

  pub rest-exact : (vs : Values) → HaveWords vs → (v : Value) → Exact v → (n total : ℕ) (read : List Operand) (r : List ℕ) (steps : List Step) → values_need (beside v vs) ≤ n → arguments n read (front total (values_text (beside v vs) (41 ∷ r)) steps) ≡ Some (read ++ operands_of (length steps) (beside v vs), front total (41 ∷ r) (steps ++ values_steps (beside v vs) total (length steps) (41 ∷ r)))
  rest-exact no_value h v e zero total read r steps fits = absurd (omega arith)
  rest-exact no_value h v e (suc n) total read r steps fits = rw (e n total (41 ∷ r) steps (omega arith) (stops-bracket r), append-nil) refl
  rest-exact (beside w ws) h v e zero total read r steps fits = absurd (omega arith)
  rest-exact (beside w ws) h v e (suc n) total read r steps fits = rw (e n total (more_text (beside w ws) (41 ∷ r)) steps (omega arith) (stops-comma _)) (joined v w ws n total read r steps (rest-exact ws h.1 w (value-exact w h.0) n total (read ++ operand_of (length steps) v ∷ []) r (steps ++ value_steps v total (length steps) (more_text (beside w ws) (41 ∷ r))) (omega arith)))
