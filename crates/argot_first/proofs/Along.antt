-- What a link leads to, when a step more is known.
use Rattle.std.proofs.Common.{◌≡◌, ℕ, zero, suc, ◌-◌, ◌<◌, ◌≤◌, List, [], ◌∷◌, ◌++◌, Bool, true, false, ◌||◌, length, refl, ap, ◌∙◌, arith, nat_eq, ◌⊎◌, inl, inr}
use Rattle.std.proofs.lemmas.List.{get_or_append_left, get_or_push, get_or-append_right}
use Rattle.std.proofs.lemmas.Bool.{eqb-true, cases_lt}
use Rattle.std.specs.Prelude.{slice_index}
use Rattle.argot_first.specs.Links.{leads, leads_to, AreDown}

module _ (nexts : List ℕ) (down : AreDown nexts) (s : ℕ) where
  -- two bounds that are both enough
  pub enough : (k m link : ℕ) → link ≤ k → link ≤ m → leads k nexts s link ≡ leads m nexts s link
  enough zero zero link p q = refl
  enough zero (suc m) zero p q = refl
  enough zero (suc m) (suc j) p q = absurd (omega arith)
  enough (suc k) zero zero p q = refl
  enough (suc k) zero (suc j) p q = absurd (omega arith)
  enough (suc k) (suc m) zero p q = refl
  enough (suc k) (suc m) (suc j) p q = let d = down j in ap (λ b. nat_eq j s || b) (enough k m (slice_index nexts j) (omega arith) (omega arith))

  -- one call further
  pub one-further : (j : ℕ) → leads_to nexts s (suc j) ≡ (nat_eq j s || leads_to nexts s (slice_index nexts j))
  one-further j = ap (λ b. nat_eq j s || b) (enough j (slice_index nexts j) (slice_index nexts j) (down j) (omega arith))

  other-false : (j : ℕ) → j < s → nat_eq j s ≡ false
  other-false j l = other-by (nat_eq j s) refl
    where
      other-by : (b : Bool) → nat_eq j s ≡ b → b ≡ false
      other-by true e = let x = eqb-true j s e in absurd (omega arith)
      other-by false e = refl

  -- no link leads to a step that comes later
  pub not-later : (k link : ℕ) → link ≤ s → leads k nexts s link ≡ false
  not-later zero link l = refl
  not-later (suc k) zero l = refl
  not-later (suc k) (suc j) l = let d = down j in ap (λ b. b || leads k nexts s (slice_index nexts j)) (other-false j (omega arith)) ∙ not-later k (slice_index nexts j) (omega arith)

  -- a step more changes nothing for earlier links
  pub with-more : (x k link : ℕ) → link ≤ length nexts → leads k (nexts ++ x ∷ []) s link ≡ leads k nexts s link
  with-more x zero link l = refl
  with-more x (suc k) zero l = refl
  with-more x (suc k) (suc j) l =
      let d = down j in
      let same : slice_index (nexts ++ x ∷ []) j ≡ slice_index nexts j = get_or_append_left nexts (x ∷ []) 0 j (omega arith) in
      ap (λ n. nat_eq j s || leads k (nexts ++ x ∷ []) s n) same ∙ ap (λ b. nat_eq j s || b) (with-more x k (slice_index nexts j) (omega arith))

single-within : (x k : ℕ) → slice_index (x ∷ []) k ≤ x
single-within x zero = omega arith
single-within x (suc k) = omega arith

-- a step that leads to an earlier one
pub down-more : (nexts : List ℕ) (x : ℕ) → AreDown nexts → x ≤ length nexts → AreDown (nexts ++ x ∷ [])
down-more nexts x d l j = more-by (cases_lt j (length nexts))
  where
    more-by : (j < length nexts) ⊎ (length nexts ≤ j) → slice_index (nexts ++ x ∷ []) j ≤ j
    more-by (inl w) = rw (get_or_append_left nexts (x ∷ []) 0 j w) (d j)
    more-by (inr w) = let e = get_or-append_right nexts (x ∷ []) (length nexts) j 0 refl w in let y = single-within x (j - length nexts) in rw e (omega arith)

pub last-is : (nexts : List ℕ) (x i : ℕ) → length nexts ≡ i → slice_index (nexts ++ x ∷ []) i ≡ x
last-is nexts x i e = get_or_push nexts x 0 i e
