-- One turn of the reading of a text.
use Rattle.std.proofs.Common.{◌≡◌, ℕ, ◌+◌, ◌<◌, List, [], ◌∷◌, ◌++◌, length, drop, Option, Some, None, sym, ap, ◌∙◌, subst}
use Rattle.std.specs.Prelude.{◌==◌, not, filter, Result, Ok, Err, IfOk, IfSome}
use Rattle.argot_names_rules.specs.TextValues.{ElementsValue, TextValue, chars, raw}
use Rattle.argot_names_imports.specs.declared.escapes.Stands.{Stands}
use Rattle.argot_names_imports.specs.Elements.{element_of}
use Rattle.argot_names_imports.specs.Standing.{bytes_of, read_of}
use Rattle.argot_names_imports.proofs.Values.{IsReadTo, read_more, read_none}

pub step_more : (text rest : List ℕ) (at : ℕ) (value new : List ℕ) (n : ℕ) (s : Stands) → IsReadTo text at value → rest ≡ drop at text → Some (n, bytes_of s) ≡ element_of rest → new ≡ value ++ bytes_of s → IsReadTo text (at + n) new
step_more text rest at value new n s done rest_is found new_is =
    subst (IsReadTo text (at + n)) (sym new_is) (read_more text at value n (bytes_of s) done (ap element_of (sym rest_is) ∙ sym found))

pub step_none : (text rest : List ℕ) (at : ℕ) (value : List ℕ) (o : Option (ℕ × Stands)) → IsReadTo text at value → at < length text → rest ≡ drop at text → read_of o ≡ element_of rest → o ≡ None → (whole : List ℕ) → ElementsValue text whole → ⊥
step_none text rest at value o done more rest_is found none =
    read_none text at value done more (ap element_of (sym rest_is) ∙ sym found ∙ ap read_of none)

-- the value of a literal by that of what stands between its quotes
pub chars_is : {V E : Type 0} (items : V → List ℕ) (literal inner : List ℕ) → literal ≡ 34 ∷ (inner ++ 34 ∷ []) → (r : Result (Option V) E) → IfOk r (λ o. IfSome o (λ v. ElementsValue inner (items v))) → IfOk r (λ o. IfSome o (λ v. TextValue literal (items v)))
chars_is items literal inner e (Ok None) h = h
chars_is items literal inner e (Ok (Some v)) h = subst (λ l. TextValue l (items v)) (sym e) (chars h)
chars_is items literal inner e (Err x) h = h

pub raw_is : (literal inner value : List ℕ) → literal ≡ 96 ∷ (inner ++ 96 ∷ []) → value ≡ filter (λ c. not (c == 13)) inner → TextValue literal value
raw_is literal inner value e is = subst (λ l. TextValue l value) (sym e) (subst (TextValue (96 ∷ (inner ++ 96 ∷ []))) (sym is) (raw inner))
