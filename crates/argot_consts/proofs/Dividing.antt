-- Quotients, remainders and right shifts.
use Rattle.std.proofs.Common.{◌≡◌, ℕ, zero, suc, ◌+◌, ◌*◌, ◌/◌, ◌%◌, ◌^◌, ◌<◌, ◌≤◌, ◌⊎◌, ℤ, pos, negsuc, neg_ℤ, ◌+ℤ◌, ◌*ℤ◌, ◌≤ℤ◌, ◌<ℤ◌, unsigned_abs, int_div, int_rem, refl, inl, inr, arith}
use Rattle.std.proofs.lemmas.Int.{quot-rem, rem_below, ints}
use Rattle.std.proofs.lemmas.Nat.{pow_pos}
use Rattle.std.proofs.Math.Nat.{div-mul-le_self, lt-div-mul-add}
use Rattle.argot_consts.specs.Whole.{is_below_zero, shifted_right}
use Rattle.argot_consts.specs.Laws.{AreQuotientAndRemainder, IsRoundedDown}

some_abs : (b : ℤ) → (b ≡ pos 0 → ⊥) → 0 < unsigned_abs b
some_abs (pos zero) ne = absurd (ne refl)
some_abs (pos (suc n)) ne = omega arith
some_abs (negsuc n) ne = omega arith

neg_sign : (r : ℕ) (a : ℕ) → (neg_ℤ (pos r) ≡ pos 0) ⊎ (is_below_zero (neg_ℤ (pos r)) ≡ is_below_zero (negsuc a))
neg_sign zero a = inl refl
neg_sign (suc r) a = inr refl

rem_sign : (a b : ℤ) → (int_rem a b ≡ pos 0) ⊎ (is_below_zero (int_rem a b) ≡ is_below_zero a)
rem_sign (pos a) b = inr refl
rem_sign (negsuc a) b = neg_sign (suc a % unsigned_abs b) a

pub division_right : (a b : ℤ) → (b ≡ pos 0 → ⊥) → AreQuotientAndRemainder a b (int_div a b) (int_rem a b)
division_right a b ne = record {
  make_a = quot-rem a b;
  near = rem_below a b (some_abs b ne);
  sign = rem_sign a b;
}

-- q times p and the next multiple of p have a between them
down_from : (a p q : ℕ) → q * p ≤ a → a < q * p + p → ((pos q *ℤ pos p) ≤ℤ pos a) × (pos a <ℤ ((pos q +ℤ pos 1) *ℤ pos p))
down_from a p q l m =
    let next : (q + 1) * p ≡ q * p + p = grind arith in
    (omega (arith, ints), omega (arith, ints))

next_below : (q : ℕ) → negsuc q +ℤ pos 1 ≡ neg_ℤ (pos q)
next_below q = omega (arith, ints)

neg_times : (q p : ℕ) → neg_ℤ (pos q) *ℤ pos p ≡ neg_ℤ (pos (q * p))
neg_times zero p = omega (arith, ints)
neg_times (suc q) p = refl

down_below : (a p q : ℕ) → q * p ≤ a → a < q * p + p → ((negsuc q *ℤ pos p) ≤ℤ negsuc a) × (negsuc a <ℤ ((negsuc q +ℤ pos 1) *ℤ pos p))
down_below a p q l m =
    let times : suc q * p ≡ q * p + p = grind arith in
    (omega (arith, ints), rw (next_below q, neg_times q p) (omega (arith, ints)))

pub right_shift_right : (z : ℤ) (n : ℕ) → IsRoundedDown z n (shifted_right z n)
right_shift_right (pos a) n =
    let d = down_from a (2 ^ n) (a / 2 ^ n) (div-mul-le_self a (2 ^ n)) (lt-div-mul-add (pow_pos n)) in
    record { at_most = d.0; greatest = d.1 }
right_shift_right (negsuc a) n =
    let d = down_below a (2 ^ n) (a / 2 ^ n) (div-mul-le_self a (2 ^ n)) (lt-div-mul-add (pow_pos n)) in
    record { at_most = d.0; greatest = d.1 }
