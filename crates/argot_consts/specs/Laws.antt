-- What the operators on whole numbers mean, in words that name no operator of a machine.
use Rattle.std.specs.Prelude.{◌≡◌, ℕ, ◌+◌, ◌-◌, ◌^◌, ◌%◌, ◌<◌, min, max, ◌⊎◌, ℤ, pos, ◌+ℤ◌, ◌*ℤ◌, ◌≤ℤ◌, ◌<ℤ◌, unsigned_abs, int_div, int_rem}
use Rattle.argot_consts.specs.Whole.{is_below_zero, shifted_right, bit_of, and_of, or_of, xor_of, clear_of, complement_of}

-- q and r are quotient and remainder of a by b: q times b and r make a, r is nearer to zero than b, and r is zero or has
-- the sign of a, so that q is rounded toward zero
pub record AreQuotientAndRemainder (a b q r : ℤ) : Type 0 where
  pub make_a : q *ℤ b +ℤ r ≡ a
  pub near : unsigned_abs r < unsigned_abs b
  pub sign : (r ≡ pos 0) ⊎ (is_below_zero r ≡ is_below_zero a)

abbrev pub DivisionIsRight : Type 0
DivisionIsRight = (a b : ℤ) → (b ≡ pos 0 → ⊥) → AreQuotientAndRemainder a b (int_div a b) (int_rem a b)

-- s is the greatest number that times 2 ^ n is at most z
pub record IsRoundedDown (z : ℤ) (n : ℕ) (s : ℤ) : Type 0 where
  pub at_most : (s *ℤ pos (2 ^ n)) ≤ℤ z
  pub greatest : z <ℤ ((s +ℤ pos 1) *ℤ pos (2 ^ n))

abbrev pub RightShiftIsRight : Type 0
RightShiftIsRight = (z : ℤ) (n : ℕ) → IsRoundedDown z n (shifted_right z n)

-- the operators on bits go bit by bit
pub record BitsAreRight : Type 0 where
  pub both : (a b : ℤ) (k : ℕ) → bit_of (and_of a b) k ≡ min (bit_of a k) (bit_of b k)
  pub either : (a b : ℤ) (k : ℕ) → bit_of (or_of a b) k ≡ max (bit_of a k) (bit_of b k)
  pub unlike : (a b : ℤ) (k : ℕ) → bit_of (xor_of a b) k ≡ (bit_of a k + bit_of b k) % 2
  pub without : (a b : ℤ) (k : ℕ) → bit_of (clear_of a b) k ≡ min (bit_of a k) (1 - bit_of b k)
  pub turned : (a : ℤ) (k : ℕ) → bit_of (complement_of a) k ≡ 1 - bit_of a k

-- a number is known by its bits
abbrev pub BitsAreAll : Type 0
BitsAreAll = (a b : ℤ) → ((k : ℕ) → bit_of a k ≡ bit_of b k) → a ≡ b
