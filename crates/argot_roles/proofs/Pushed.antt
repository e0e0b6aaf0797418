-- Lists of answers to which one more is pushed.
use Rattle.std.proofs.Common.{◌≡◌, ℕ, zero, suc, ◌+◌, ◌++◌, ◌∷◌, [], List, Some, length, ap, ◌∙◌, arith, subst, inl, inr}
use Rattle.std.specs.List.{slice_get}
use Rattle.std.proofs.lemmas.List.{length-append}
use Rattle.argot_facts.proofs.Listed.{get-append}

-- each item is what the function gives at its number
abbrev pub AreAnswers : {A : Type 0} → (ℕ → A) → List A → Type 0
AreAnswers {A} f xs = (i : ℕ) (b : A) → slice_get xs i ≡ Some b → b ≡ f i

pub answered_more : {A : Type 0} (f : ℕ → A) (xs ys : List A) (n : ℕ) (r : A) → ys ≡ xs ++ r ∷ [] → length xs ≡ n → r ≡ f n → AreAnswers f xs → AreAnswers f ys
answered_more {A} f xs ys n r items long is before i b g = elim (get-append xs (r ∷ []) i b (subst (λ zs. slice_get zs i ≡ Some b) items g)) [
  | inl h ↦ before i b h
  | inr h ↦ last h.0 h.1 (h.2 ∙ ap (λ k. k + h.0) long)
]
  where
    last : (t : ℕ) → slice_get (r ∷ []) t ≡ Some b → i ≡ n + t → b ≡ f i
    last zero h e = (let z : b ≡ r = cc in z ∙ is ∙ ap f (omega (arith, e)))
    last (suc t) h e = absurd cc

pub one_more : {A : Type 0} (xs ys : List A) (n : ℕ) (r : A) → ys ≡ xs ++ r ∷ [] → length xs ≡ n → length ys ≡ n + 1
one_more xs ys n r items long = ap length items ∙ (length-append xs (r ∷ []) ∙ ap (λ k. k + 1) long)
