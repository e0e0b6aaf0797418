-- Bits of one word.
use Rattle.std.proofs.Common.{◌≡◌, ℕ, zero, suc, ◌+◌, ◌-◌, ◌/◌, ◌%◌, ◌^◌, ◌<◌, ◌≤◌, ◌⊎◌, Bool, true, false, ◌&&◌, nat_eq, max, bit_or, w64, sym, ap, ◌∙◌, inl, inr, arith, eqb-true, eq-eqb}
use Rattle.std.specs.Int.{bit_at, trailing_zeros}
use Rattle.std.proofs.lemmas.Bool.{and_parts, and_from, cases_eq, cases_lt, cases_Bool, both_ways}
use Rattle.std.proofs.lemmas.Nat.{or_lt, pow-add}
use Rattle.std.proofs.lemmas.Nat.Bits.{bit_at-lt, bit_at-zero, bit_at_or, bit_at_above, bit_at-trailing_zeros, same_from_bits_below}
use Rattle.std.proofs.Math.Nat.{div-div-eq-div-mul, div-le_self}

-- a shift to the right moves each bit down
bit_at_shifted : (n s i : ℕ) → bit_at (n / 2 ^ s) i ≡ bit_at n (s + i)
bit_at_shifted n s i = ap (λ m. m % 2) (div-div-eq-div-mul n (2 ^ s) (2 ^ i) ∙ ap (λ p. n / p) (sym (pow-add 2 s i)))

pub rest_none : (n s : ℕ) → n / 2 ^ s ≡ 0 → (i : ℕ) → s ≤ i → bit_at n i ≡ 0
rest_none n s e i l =
    let place : s + (i - s) ≡ i = omega arith in
    ap (bit_at n) (sym place) ∙ (sym (bit_at_shifted n s (i - s)) ∙ (ap (λ m. bit_at m (i - s)) e ∙ bit_at-zero (i - s)))

module _ (n s : ℕ) (l : n < 2 ^ 64) (some : 0 < n / 2 ^ s) where
  pub rest_found : bit_at n (s + trailing_zeros w64 (n / 2 ^ s)) ≡ 1
  rest_found =
      let below : n / 2 ^ s < 2 ^ 64 = omega (arith, div-le_self n (2 ^ s)) in
      let t = bit_at-trailing_zeros w64 (n / 2 ^ s) some below in
      sym (bit_at_shifted n s (trailing_zeros w64 (n / 2 ^ s))) ∙ t.1

  pub rest_first : (i : ℕ) → s ≤ i → i < s + trailing_zeros w64 (n / 2 ^ s) → bit_at n i ≡ 0
  rest_first i m k =
      let below : n / 2 ^ s < 2 ^ 64 = omega (arith, div-le_self n (2 ^ s)) in
      let t = bit_at-trailing_zeros w64 (n / 2 ^ s) some below in
      let place : s + (i - s) ≡ i = omega arith in
      let low : i - s < trailing_zeros w64 (n / 2 ^ s) = omega arith in
      ap (bit_at n) (sym place) ∙ (sym (bit_at_shifted n s (i - s)) ∙ t.2 (i - s) low)

  pub rest_below : s + trailing_zeros w64 (n / 2 ^ s) < 64
  rest_below = elim (cases_lt (s + trailing_zeros w64 (n / 2 ^ s)) 64) [
    | inl k ↦ k
    | inr k ↦ let none = bit_at_above n 64 (s + trailing_zeros w64 (n / 2 ^ s)) l k in absurd (omega (arith, none, rest_found))
  ]

-- ---- a word that grows has a bit that it gains

some_below : (f : ℕ → Bool) (n : ℕ) → ((i : ℕ) × (i < n) × (f i ≡ true)) ⊎ ((i : ℕ) → i < n → f i ≡ false)
some_below f zero = inr (λ i l. absurd (omega arith))
some_below f (suc n) = elim (cases_Bool (f n)) [
  | inl t ↦ inl (n, omega arith, t)
  | inr o ↦ elim (some_below f n) [
    | inl (i, l, t) ↦ inl (i, omega arith, t)
    | inr none ↦ inr (λ i l. elim (cases_eq i n) [ inl e ↦ rw e o | inr ne ↦ none i (omega arith) ])
  ]
]

gains : ℕ → ℕ → ℕ → Bool
gains a b i = nat_eq (bit_at a i) 0 && nat_eq (bit_at b i) 1

no_gain : (x y : ℕ) → x < 2 → y < 2 → (nat_eq x 0 && nat_eq y 1) ≡ false → max x y ≡ x
no_gain x y l m e = elim (cases_eq x 0) [
  | inl z ↦ elim (cases_eq y 1) [
    | inl o ↦ absurd (both_ways _ e (and_from _ _ (eq-eqb x 0 z) (eq-eqb y 1 o)))
    | inr n ↦ omega arith
  ]
  | inr n ↦ omega arith
]

pub bit_gained : (a b : ℕ) → a < 2 ^ 64 → b < 2 ^ 64 → (bit_or a b ≡ a → ⊥) → (i : ℕ) × (i < 64) × (bit_at a i ≡ 0) × (bit_at b i ≡ 1)
unfolding gains
bit_gained a b la lb ne = elim (some_below (gains a b) 64) [
  | inl (i, l, t) ↦ let p = and_parts _ _ t in (i, l, eqb-true _ _ p.0, eqb-true _ _ p.1)
  | inr none ↦ absurd (ne (same_from_bits_below 64 (bit_or a b) a (or_lt 64 a b la lb) la (λ i l.
      bit_at_or a b i ∙ no_gain (bit_at a i) (bit_at b i) (bit_at-lt a i) (bit_at-lt b i) (none i l))))
]

pub max_cases : (x y : ℕ) → x < 2 → y < 2 → max x y ≡ 1 → (x ≡ 1) ⊎ (y ≡ 1)
max_cases x y l m e = elim (cases_eq x 1) [ inl o ↦ inl o | inr n ↦ inr (omega arith) ]

pub max_left : (x y : ℕ) → x ≡ 1 → y < 2 → max x y ≡ 1
max_left x y e l = omega arith

pub max_right : (x y : ℕ) → x < 2 → y ≡ 1 → max x y ≡ 1
max_right x y l e = omega arith
