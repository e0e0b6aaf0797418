-- The front of a text of which something holds.
use Rattle.std.proofs.Common.{◌≡◌, ℕ, ◌≤◌, List, ◌++◌, length, take, drop, sym, ap, ◌∙◌, subst, arith, length-append}
use Rattle.std.proofs.Math.Seq.{take-append_seam, drop-append_seam}

-- the first n bytes of the text are such bytes
pub record Fronts (claim : List ℕ → Type 0) (n : ℕ) (text : List ℕ) : Type 0 where
  pub front : List ℕ
  pub rest : List ℕ
  pub text_is : text ≡ front ++ rest
  pub length_is : n ≡ length front
  pub holds : claim front

pub fronts_take : (claim : List ℕ → Type 0) (n : ℕ) (text : List ℕ) (f : Fronts claim n text) → take n text ≡ f.front
fronts_take claim n text f = (λ i. take (f.length_is i) (f.text_is i)) ∙ take-append_seam f.front f.rest

pub fronts_drop : (claim : List ℕ → Type 0) (n : ℕ) (text : List ℕ) (f : Fronts claim n text) → drop n text ≡ f.rest
fronts_drop claim n text f = (λ i. drop (f.length_is i) (f.text_is i)) ∙ drop-append_seam f.front f.rest

pub fronts_within : (claim : List ℕ → Type 0) (n : ℕ) (text : List ℕ) (f : Fronts claim n text) → n ≤ length text
fronts_within claim n text f = omega (arith, f.length_is, ap length f.text_is ∙ length-append f.front f.rest)

pub fronts_holds : (claim : List ℕ → Type 0) (n : ℕ) (text : List ℕ) → Fronts claim n text → claim (take n text)
fronts_holds claim n text f = subst claim (sym (fronts_take claim n text f)) f.holds
