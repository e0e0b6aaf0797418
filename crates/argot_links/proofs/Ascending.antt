-- Ascending lists, and the columns that pass a test.
use Rattle.std.proofs.Common.{◌≡◌, ℕ, zero, suc, ◌+◌, ◌-◌, ◌<◌, ◌≤◌, Bool, true, false, ◌||◌, nat_eq, List, [], ◌∷◌, length, refl, sym, ap, ◌∙◌, subst, inl, inr, arith, eqb-true, eq-eqb}
use Rattle.std.proofs.lemmas.Bool.{or_cases, or_left, or_right, cases_eq, cases_order, cases_Bool, both_ways}
use Rattle.argot_links.specs.Members.{has, IsAscendingFrom, IsAscending}
use Rattle.argot_links.specs.Table.{columns}
use Rattle.argot_links.proofs.Having.{has_first, has_rest}

-- ---- ascending lists

lower : (low high : ℕ) (xs : List ℕ) → low ≤ high → IsAscendingFrom high xs → IsAscendingFrom low xs
lower low high [] l a = tt
lower low high (x ∷ xs) l a = (omega (arith, a.0), a.1)

-- nothing stands below the start
not_below : (low : ℕ) (xs : List ℕ) (i : ℕ) → IsAscendingFrom low xs → i < low → has xs i ≡ false
not_below low [] i a l = refl
not_below low (x ∷ xs) i a l =
    let above = a.0 in
    has_rest x xs i (λ e. omega arith) ∙ not_below (suc x) xs i a.1 (omega arith)

-- the lesser of two first numbers would stand in one list alone
apart : (x y : ℕ) (xs ys : List ℕ) → x < y → IsAscendingFrom (suc y) ys → ((i : ℕ) → has (x ∷ xs) i ≡ has (y ∷ ys) i) → ⊥
apart x y xs ys l b same =
    both_ways (has (y ∷ ys) x) (has_rest y ys x (λ e. omega arith) ∙ not_below (suc y) ys x b (omega arith)) (sym (same x) ∙ has_first x xs)

heads : (x y : ℕ) (xs ys : List ℕ) → IsAscendingFrom (suc x) xs → IsAscendingFrom (suc y) ys → ((i : ℕ) → has (x ∷ xs) i ≡ has (y ∷ ys) i) → x ≡ y
heads x y xs ys a b same = elim (cases_order x y) [
  | inl e ↦ e
  | inr o ↦ elim o [ inl l ↦ absurd (apart x y xs ys l b same) | inr l ↦ absurd (apart y x ys xs l a (λ i. sym (same i))) ]
]

tails : (x : ℕ) (xs ys : List ℕ) → IsAscendingFrom (suc x) xs → IsAscendingFrom (suc x) ys → ((i : ℕ) → has (x ∷ xs) i ≡ has (x ∷ ys) i) → (i : ℕ) → has xs i ≡ has ys i
tails x xs ys a b same i = elim (cases_eq i x) [
  | inl q ↦ not_below (suc x) xs i a (omega (arith, q)) ∙ sym (not_below (suc x) ys i b (omega (arith, q)))
  | inr n ↦ sym (has_rest x xs i n) ∙ (same i ∙ has_rest x ys i n)
]

known : (low : ℕ) (xs ys : List ℕ) → IsAscendingFrom low xs → IsAscendingFrom low ys → ((i : ℕ) → has xs i ≡ has ys i) → xs ≡ ys
known low [] [] a b same = refl
known low [] (y ∷ ys) a b same = absurd (both_ways (has [] y) refl (same y ∙ has_first y ys))
known low (x ∷ xs) [] a b same = absurd (both_ways (has [] x) refl (sym (same x) ∙ has_first x xs))
known low (x ∷ xs) (y ∷ ys) a b same =
    let first = heads x y xs ys a.1 b.1 same in
    let later : IsAscendingFrom (suc x) ys = subst (λ z. IsAscendingFrom (suc z) ys) (sym first) b.1 in
    let alike : (i : ℕ) → has (x ∷ xs) i ≡ has (x ∷ ys) i = subst (λ z. (i : ℕ) → has (x ∷ xs) i ≡ has (z ∷ ys) i) (sym first) same in
    subst (λ z. x ∷ xs ≡ z ∷ ys) first (ap (λ zs. x ∷ zs) (known (suc x) xs ys a.1 later (tails x xs ys a.1 later alike)))

pub ascending_known : (xs ys : List ℕ) → IsAscending xs → IsAscending ys → ((i : ℕ) → has xs i ≡ has ys i) → xs ≡ ys
ascending_known xs ys a b same = known 0 xs ys a b same

-- ---- the columns that pass a test

pub columns_ascend : (f : ℕ → Bool) (at n : ℕ) → IsAscendingFrom at (columns f at n)
columns_ascend f at zero = tt
columns_ascend f at (suc n) = elim (cases_Bool (f at)) [
  | inl y ↦ rw y (omega arith, columns_ascend f (suc at) n)
  | inr o ↦ rw o (lower at (suc at) (columns f (suc at) n) (omega arith) (columns_ascend f (suc at) n))
]

pub columns_have : (f : ℕ → Bool) (at n c : ℕ) → f c ≡ true → at ≤ c → c < at + n → has (columns f at n) c ≡ true
columns_have f at zero c t l m = absurd (omega arith)
columns_have f at (suc n) c t l m = elim (cases_eq at c) [
  | inl e ↦ rw (subst (λ x. f x ≡ true) (sym e) t) (or_left _ _ (eq-eqb at c e))
  | inr ne ↦ let rest = columns_have f (suc at) n c t (omega arith) (omega arith) in
      elim (cases_Bool (f at)) [ inl y ↦ rw y (or_right _ _ rest) | inr o ↦ rw o rest ]
]

pub columns_only : (f : ℕ → Bool) (at n c : ℕ) → has (columns f at n) c ≡ true → f c ≡ true
columns_only f at zero c h = cc
columns_only f at (suc n) c h = elim (cases_Bool (f at)) [
  | inl y ↦ let k : (nat_eq at c || has (columns f (suc at) n) c) ≡ true = rw y at h in
      elim (or_cases _ _ k) [
        | inl e ↦ let same = eqb-true at c e in subst (λ x. f x ≡ true) same y
        | inr r ↦ columns_only f (suc at) n c r
      ]
  | inr o ↦ let k : has (columns f (suc at) n) c ≡ true = rw o at h in columns_only f (suc at) n c k
]

pub columns_same : (f g : ℕ → Bool) (at n : ℕ) → ((b : ℕ) → f b ≡ g b) → columns f at n ≡ columns g at n
columns_same f g at zero e = refl
columns_same f g at (suc n) e = rw (e at, columns_same f g (suc at) n e) refl

pub columns_none : (f : ℕ → Bool) (at n : ℕ) → ((b : ℕ) → at ≤ b → f b ≡ false) → columns f at n ≡ []
columns_none f at zero h = refl
columns_none f at (suc n) h = rw (h at (omega arith)) (columns_none f (suc at) n (λ b l. h b (omega arith)))

columns_next : (f : ℕ → Bool) (at n c : ℕ) → at ≤ c → c < at + n → f c ≡ true → ((b : ℕ) → at ≤ b → b < c → f b ≡ false) → columns f at n ≡ c ∷ columns f (c + 1) (at + n - (c + 1))
columns_next f at zero c l m t h = absurd (omega arith)
columns_next f at (suc n) c l m t h = elim (cases_eq at c) [
  | inl e ↦ let y : f at ≡ true = subst (λ x. f x ≡ true) (sym e) t in
      let k : at + suc n - (c + 1) ≡ n = omega arith in
      rw (y, k, ← e) (ap (λ x. at ∷ columns f x n) (omega arith))
  | inr ne ↦ let o = h at (omega arith) (omega arith) in
      let k : at + suc n - (c + 1) ≡ suc at + n - (c + 1) = omega arith in
      rw (o, k) (columns_next f (suc at) n c (omega arith) (omega arith) t (λ b p q. h b (omega arith) q))
]

-- one step of a walk that goes on to the next column
pub walk_next : (f : ℕ → Bool) (at all c : ℕ) → at ≤ c → c < all → f c ≡ true → ((b : ℕ) → at ≤ b → b < c → f b ≡ false) → columns f at (all - at) ≡ c ∷ columns f (c + 1) (all - (c + 1))
walk_next f at all c l m t h =
    let k : at + (all - at) - (c + 1) ≡ all - (c + 1) = omega arith in
    columns_next f at (all - at) c l (omega arith) t h ∙ ap (λ n. c ∷ columns f (c + 1) n) k

pub walk_shorter : (f : ℕ → Bool) (at all c : ℕ) → at ≤ c → c < all → f c ≡ true → ((b : ℕ) → at ≤ b → b < c → f b ≡ false) → length (columns f (c + 1) (all - (c + 1))) < length (columns f at (all - at))
walk_shorter f at all c l m t h = rw (walk_next f at all c l m t h) (omega arith)
