-- Shifts by more than the bits of a number.
use Rattle.std.proofs.Common.{◌≡◌, ℕ, zero, suc, ◌*◌, ◌/◌, ◌^◌, ◌<◌, ◌≤◌, ◌%◌, true, false, ℤ, pos, negsuc, ◌*ℤ◌, unsigned_abs, int_lt, FitsSigned, to_z, Err, sym, refl, ap, arith, lit<}
use Rattle.std.specs.Int.{w128}
use Rattle.std.proofs.lemmas.Bool.{le-ltb, ltb-true}
use Rattle.std.proofs.lemmas.Int.{unsigned_abs-mul, to_z_pos}
use Rattle.std.proofs.lemmas.Nat.{pow_below}
use Rattle.std.proofs.Math.Nat.{pow-le-pow_right, div-eq_of_lt}
use Rattle.argot_consts.specs.declared.constants.ConstFault.TheVariants.{TooWide}
use Rattle.argot_consts.specs.Fold.{Folded, whole_value}
use Rattle.argot_consts.specs.Whole.{shifted_left, shifted_right}

-- a number that is more than 2 ^ 127 away from 0 is too wide
pub too_wide : (z : ℤ) → 2 ^ 127 < unsigned_abs z → ◌≡◌ {A = Folded} (Err TooWide) (whole_value z)
too_wide (pos n) l = rw (le-ltb n (2 ^ 127) (omega arith)) refl
too_wide (negsuc n) l = rw (le-ltb n (2 ^ 127) (omega arith)) refl

some_abs : (a : ℤ) → (a ≡ pos 0 → ⊥) → 1 ≤ unsigned_abs a
some_abs (pos zero) ne = absurd (ne refl)
some_abs (pos (suc n)) ne = omega arith
some_abs (negsuc n) ne = omega arith

-- a product with a number that isn't 0
more : (m p : ℕ) → 1 ≤ m → p ≤ m * p
more m p l = grind arith

pub left_past : (a : ℤ) (n : ℕ) → (a ≡ pos 0 → ⊥) → 127 < n → ◌≡◌ {A = Folded} (Err TooWide) (whole_value (shifted_left a n))
left_past a n ne l =
    let power : 2 ^ 128 ≤ 2 ^ n = pow-le-pow_right {n = 2} (lit< tt) {i = 128} {j = n} (omega arith) in
    let times : unsigned_abs (a *ℤ pos (2 ^ n)) ≡ unsigned_abs a * 2 ^ n = unsigned_abs-mul a (pos (2 ^ n)) in
    let wide : 2 ^ 127 < unsigned_abs (a *ℤ pos (2 ^ n)) = rw times (omega (arith, power, more (unsigned_abs a) (2 ^ n) (some_abs a ne))) in
    too_wide (shifted_left a n) wide

-- what `1 << k` gives
pub power_is : (k : ℕ) → k < 127 → to_z w128 (1 * 2 ^ k % 2 ^ 128) ≡ pos (2 ^ k)
power_is k l =
    let below : 2 ^ k < 2 ^ 127 = pow_below k 127 l in
    let small : 2 ^ k < 2 ^ 128 = omega arith in
    let same : 1 * 2 ^ k % 2 ^ 128 ≡ 2 ^ k = omega arith in
    rw same (to_z_pos w128 (2 ^ k) below)

-- a shift by all bits leaves the sign
no_bits : (m n : ℕ) → m < 2 ^ 127 → 127 ≤ n → m / 2 ^ n ≡ 0
no_bits m n l k =
    let power : 2 ^ 127 ≤ 2 ^ n = pow-le-pow_right {n = 2} (lit< tt) {i = 127} {j = n} k in
    let below : m < 2 ^ n = omega arith in
    div-eq_of_lt below

pub past_right_below : (a : ℤ) (n : ℕ) → FitsSigned w128 a → 127 ≤ n → int_lt a (pos 0) ≡ true → negsuc 0 ≡ shifted_right a n
past_right_below (pos m) n f k t = let l : m < 0 = ltb-true m 0 t in absurd (omega arith)
past_right_below (negsuc m) n f k t = ap negsuc (sym (no_bits m n f.sfits k))

pub past_right_from : (a : ℤ) (n : ℕ) → FitsSigned w128 a → 127 ≤ n → int_lt a (pos 0) ≡ false → pos 0 ≡ shifted_right a n
past_right_from (pos m) n f k t = ap pos (sym (no_bits m n f.sfits k))
past_right_from (negsuc m) n f k t = cc
