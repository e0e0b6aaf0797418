-- A realizable list from a source's result leads only to what the marks say.
use Rattle.std.proofs.Common.{◌≡◌, ℕ, zero, suc, ◌+◌, ◌<◌, ◌≤◌, List, [], ◌∷◌, Some, length, refl, sym, ◌∙◌, subst, arith}
use Rattle.std.specs.Prelude.{slice_get}
use Rattle.argot_first_form.specs.declared.functions.Function.{Function}
use Rattle.argot_first_form.specs.declared.functions.Returned.{Returned}
use Rattle.argot_first_form.specs.declared.functions.Returned.TheVariants as returns
use Rattle.argot_plain.specs.declared.first.Kind.{Kind}
use Rattle.argot_plain.specs.First.{Plain, Code, IsAt, GoesOn, Defines, Reaches, next, onward, Takes}
use Rattle.argot_first.specs.Code.{number_of}
use Rattle.argot_first.proofs.Lookup.{some-same}
use Rattle.argot_first.proofs.Blocks.{IsBlock, block_of, last_of}

pub reaches-defines : (code : Code) (d k r i : ℕ) → Reaches code d k r i → Defines code d k r
reaches-defines code d k r i (next h s) = h
reaches-defines code d k r i (onward p n s) = reaches-defines code d k r _ p

-- two kinds at one place are one kind
pub same-kind : (code : Code) (i : ℕ) (a b : Kind) → IsAt code i a → IsAt code i b → a ≡ b
same-kind code i a b h k = some-same (sym h ∙ k)

-- what stands in a block
pub block-at : (code : Code) (fn : Function) (pl : Plain) → IsBlock code fn pl → (i : ℕ) (kind : Kind) → slice_get (block_of fn.parameters fn.returned pl.entry) i ≡ Some kind → IsAt code (pl.entry + i) kind
block-at code fn pl b i kind h = b.kinds i kind h

module _ (ps : List (List ℕ)) where
  -- the places of a block go on one after another
  pub block-next : (r : Returned) (e i x : ℕ) (kind : Kind) → slice_get (block_of ps r e) i ≡ Some kind → GoesOn (Some kind) (e + i) x → (x ≡ e + (i + 1)) × (i < last_of r)
  block-next returns.Nothing e zero x kind h g = let q : x ≡ e + 1 = subst (λ k. GoesOn (Some k) (e + 0) x) (sym (some-same h)) g in (omega arith, omega arith)
  block-next returns.Nothing e (suc zero) x kind h g = let q : x ≡ e + 1 + 1 = subst (λ k. GoesOn (Some k) (e + 1) x) (sym (some-same h)) g in (omega arith, omega arith)
  block-next returns.Nothing e (suc (suc zero)) x kind h g = absurd (subst (λ k. GoesOn (Some k) (e + 2) x) (sym (some-same h)) g)
  block-next returns.Nothing e (suc (suc (suc i))) x kind h g = absurd (cc h)
  block-next returns.Text e zero x kind h g = let q : x ≡ e + 1 = subst (λ k. GoesOn (Some k) (e + 0) x) (sym (some-same h)) g in (omega arith, omega arith)
  block-next returns.Text e (suc zero) x kind h g = let q : x ≡ e + 1 + 1 = subst (λ k. GoesOn (Some k) (e + 1) x) (sym (some-same h)) g in (omega arith, omega arith)
  block-next returns.Text e (suc (suc zero)) x kind h g = let q : x ≡ e + 2 + 1 = subst (λ k. GoesOn (Some k) (e + 2) x) (sym (some-same h)) g in (omega arith, omega arith)
  block-next returns.Text e (suc (suc (suc zero))) x kind h g = let q : x ≡ e + 4 = subst (λ k. GoesOn (Some k) (e + 3) x) (sym (some-same h)) g in (omega arith, omega arith)
  block-next returns.Text e (suc (suc (suc (suc zero)))) x kind h g = let q : x ≡ e + 4 + 1 = subst (λ k. GoesOn (Some k) (e + 4) x) (sym (some-same h)) g in (omega arith, omega arith)
  block-next returns.Text e (suc (suc (suc (suc (suc zero))))) x kind h g = absurd (subst (λ k. GoesOn (Some k) (e + 5) x) (sym (some-same h)) g)
  block-next returns.Text e (suc (suc (suc (suc (suc (suc i)))))) x kind h g = absurd (cc h)
  block-next (returns.Parameter n) e zero x kind h g = let q : x ≡ e + 1 = subst (λ k. GoesOn (Some k) (e + 0) x) (sym (some-same h)) g in (omega arith, omega arith)
  block-next (returns.Parameter n) e (suc zero) x kind h g = let q : x ≡ e + 1 + 1 = subst (λ k. GoesOn (Some k) (e + 1) x) (sym (some-same h)) g in (omega arith, omega arith)
  block-next (returns.Parameter n) e (suc (suc zero)) x kind h g = let q : x ≡ e + 3 = subst (λ k. GoesOn (Some k) (e + 2) x) (sym (some-same h)) g in (omega arith, omega arith)
  block-next (returns.Parameter n) e (suc (suc (suc zero))) x kind h g = let q : x ≡ e + 3 + 1 = subst (λ k. GoesOn (Some k) (e + 3) x) (sym (some-same h)) g in (omega arith, omega arith)
  block-next (returns.Parameter n) e (suc (suc (suc (suc zero)))) x kind h g = absurd (subst (λ k. GoesOn (Some k) (e + 4) x) (sym (some-same h)) g)
  block-next (returns.Parameter n) e (suc (suc (suc (suc (suc i))))) x kind h g = absurd (cc h)

  -- each place of a block has a kind
  pub block-has : (r : Returned) (e i : ℕ) → i ≤ last_of r → (kind : Kind) × (slice_get (block_of ps r e) i ≡ Some kind)
  block-has returns.Nothing e zero h = (_, refl)
  block-has returns.Nothing e (suc zero) h = (_, refl)
  block-has returns.Nothing e (suc (suc zero)) h = (_, refl)
  block-has returns.Nothing e (suc (suc (suc i))) h = absurd (omega arith)
  block-has returns.Text e zero h = (_, refl)
  block-has returns.Text e (suc zero) h = (_, refl)
  block-has returns.Text e (suc (suc zero)) h = (_, refl)
  block-has returns.Text e (suc (suc (suc zero))) h = (_, refl)
  block-has returns.Text e (suc (suc (suc (suc zero)))) h = (_, refl)
  block-has returns.Text e (suc (suc (suc (suc (suc zero))))) h = (_, refl)
  block-has returns.Text e (suc (suc (suc (suc (suc (suc i)))))) h = absurd (omega arith)
  block-has (returns.Parameter n) e zero h = (_, refl)
  block-has (returns.Parameter n) e (suc zero) h = (_, refl)
  block-has (returns.Parameter n) e (suc (suc zero)) h = (_, refl)
  block-has (returns.Parameter n) e (suc (suc (suc zero))) h = (_, refl)
  block-has (returns.Parameter n) e (suc (suc (suc (suc zero)))) h = (_, refl)
  block-has (returns.Parameter n) e (suc (suc (suc (suc (suc i))))) h = absurd (omega arith)

  no-parameter : (l k : ℕ) → k < length ps → slice_get (length ps ∷ []) l ≡ Some k → ⊥
  no-parameter zero k w h = let q : length ps ≡ k = some-same h in omega arith
  no-parameter (suc l) k w h = cc h

  first-only : (l k : ℕ) → slice_get (k ∷ []) l ≡ Some k → l ≡ 0
  first-only zero k h = refl
  first-only (suc l) k h = absurd (cc h)

  -- a parameter's register is taken by nothing but the Move of a function that gives it back
  pub block-takes : (r : Returned) (e i l k : ℕ) (kind : Kind) → slice_get (block_of ps r e) i ≡ Some kind → k < length ps → Takes (Some kind) l k → (n : List ℕ) × (r ≡ returns.Parameter n) × (k ≡ number_of ps n) × (i ≡ 1) × (l ≡ 0)
  block-takes returns.Nothing e zero l k kind h w t = absurd (subst (λ x. Takes (Some x) l k) (sym (some-same h)) t)
  block-takes returns.Nothing e (suc zero) l k kind h w t = absurd (subst (λ x. Takes (Some x) l k) (sym (some-same h)) t)
  block-takes returns.Nothing e (suc (suc zero)) l k kind h w t = let q = subst (λ x. Takes (Some x) l k) (sym (some-same h)) t in absurd (cc q)
  block-takes returns.Nothing e (suc (suc (suc i))) l k kind h w t = absurd (cc h)
  block-takes returns.Text e zero l k kind h w t = absurd (subst (λ x. Takes (Some x) l k) (sym (some-same h)) t)
  block-takes returns.Text e (suc zero) l k kind h w t = let q = subst (λ x. Takes (Some x) l k) (sym (some-same h)) t in absurd (cc q.1.1)
  block-takes returns.Text e (suc (suc zero)) l k kind h w t = let q : (l ≡ 0) × (k ≡ length ps + 1) = subst (λ x. Takes (Some x) l k) (sym (some-same h)) t in absurd (omega (arith, q.1))
  block-takes returns.Text e (suc (suc (suc zero))) l k kind h w t = absurd (subst (λ x. Takes (Some x) l k) (sym (some-same h)) t)
  block-takes returns.Text e (suc (suc (suc (suc zero)))) l k kind h w t = absurd (subst (λ x. Takes (Some x) l k) (sym (some-same h)) t)
  block-takes returns.Text e (suc (suc (suc (suc (suc zero))))) l k kind h w t = absurd (no-parameter l k w (subst (λ x. Takes (Some x) l k) (sym (some-same h)) t))
  block-takes returns.Text e (suc (suc (suc (suc (suc (suc i)))))) l k kind h w t = absurd (cc h)
  block-takes (returns.Parameter n) e zero l k kind h w t = absurd (subst (λ x. Takes (Some x) l k) (sym (some-same h)) t)
  block-takes (returns.Parameter n) e (suc zero) l k kind h w t = let q : (l ≡ 0) × (k ≡ number_of ps n) = subst (λ x. Takes (Some x) l k) (sym (some-same h)) t in (n, refl, q.1, refl, q.0)
  block-takes (returns.Parameter n) e (suc (suc zero)) l k kind h w t = absurd (subst (λ x. Takes (Some x) l k) (sym (some-same h)) t)
  block-takes (returns.Parameter n) e (suc (suc (suc zero))) l k kind h w t = absurd (subst (λ x. Takes (Some x) l k) (sym (some-same h)) t)
  block-takes (returns.Parameter n) e (suc (suc (suc (suc zero)))) l k kind h w t = absurd (no-parameter l k w (subst (λ x. Takes (Some x) l k) (sym (some-same h)) t))
  block-takes (returns.Parameter n) e (suc (suc (suc (suc (suc i))))) l k kind h w t = absurd (cc h)

  -- the result's register is taken by the Leave alone
  pub result-takes : (n : List ℕ) (e i l : ℕ) (kind : Kind) → slice_get (block_of ps (returns.Parameter n) e) i ≡ Some kind → 1 < i → Takes (Some kind) l (length ps) → (i ≡ 4) × (l ≡ 0)
  result-takes n e zero l kind h w t = absurd (omega arith)
  result-takes n e (suc zero) l kind h w t = absurd (omega arith)
  result-takes n e (suc (suc zero)) l kind h w t = absurd (subst (λ x. Takes (Some x) l (length ps)) (sym (some-same h)) t)
  result-takes n e (suc (suc (suc zero))) l kind h w t = absurd (subst (λ x. Takes (Some x) l (length ps)) (sym (some-same h)) t)
  result-takes n e (suc (suc (suc (suc zero)))) l kind h w t = (refl, first-only l (length ps) (subst (λ x. Takes (Some x) l (length ps)) (sym (some-same h)) t))
  result-takes n e (suc (suc (suc (suc (suc i))))) l kind h w t = absurd (cc h)
