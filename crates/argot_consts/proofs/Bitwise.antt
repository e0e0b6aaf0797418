-- The operators on bits, bit by bit.
use Rattle.std.proofs.Common.{◌≡◌, ℕ, zero, suc, ◌+◌, ◌-◌, ◌^◌, ◌%◌, ◌<◌, min, max, ℤ, pos, negsuc, bit_and, bit_xor, refl, sym, ap, ◌∙◌, arith, lit<}
use Rattle.std.specs.Int.{bit_at}
use Rattle.std.specs.Int.Bits.{xor_add_and}
use Rattle.std.proofs.lemmas.Nat.Bits.{bit_at_and, bit_at_or, bit_at_xor, bit_at-lt, same_from_bits, bit_at_above}
use Rattle.argot_consts.specs.Whole.{bit_of, bits_without, and_of, or_of, xor_of, complement_of}
use Rattle.argot_consts.specs.Laws.{BitsAreRight}

-- the bits that a has of its own part are that part
and_part : (a b : ℕ) → bit_and a (bit_and a b) ≡ bit_and a b
and_part a b = same_from_bits _ _ (λ i. omega (arith, bit_at_and a (bit_and a b) i, bit_at_and a b i))

-- taking a part away turns its bits
without_is_xor : (a b : ℕ) → bits_without a b ≡ bit_xor a (bit_and a b)
without_is_xor a b = omega (arith, xor_add_and a (bit_and a b), and_part a b)

without_bit : (a b k : ℕ) → bit_at (bits_without a b) k ≡ min (bit_at a k) (1 - bit_at b k)
without_bit a b k = ap (λ n. bit_at n k) (without_is_xor a b) ∙ (bit_at_xor a (bit_and a b) k ∙ turned (bit_at a k) (bit_at b k) (bit_at (bit_and a b) k) (bit_at-lt a k) (bit_at-lt b k) (bit_at_and a b k))
  where
    turned : (x y z : ℕ) → x < 2 → y < 2 → z ≡ min x y → (x + z) % 2 ≡ min x (1 - y)
    turned x y z l m e = omega arith

both_bit : (a b : ℤ) (k : ℕ) → bit_of (and_of a b) k ≡ min (bit_of a k) (bit_of b k)
both_bit (pos a) (pos b) k = bit_at_and a b k
both_bit (pos a) (negsuc b) k = without_bit a b k
both_bit (negsuc a) (pos b) k = omega (arith, without_bit b a k)
both_bit (negsuc a) (negsuc b) k = omega (arith, bit_at_or a b k, bit_at-lt a k, bit_at-lt b k)

either_bit : (a b : ℤ) (k : ℕ) → bit_of (or_of a b) k ≡ max (bit_of a k) (bit_of b k)
either_bit (pos a) (pos b) k = bit_at_or a b k
either_bit (pos a) (negsuc b) k = omega (arith, without_bit b a k, bit_at-lt a k, bit_at-lt b k)
either_bit (negsuc a) (pos b) k = omega (arith, without_bit a b k, bit_at-lt a k, bit_at-lt b k)
either_bit (negsuc a) (negsuc b) k = omega (arith, bit_at_and a b k, bit_at-lt a k, bit_at-lt b k)

unlike_bit : (a b : ℤ) (k : ℕ) → bit_of (xor_of a b) k ≡ (bit_of a k + bit_of b k) % 2
unlike_bit (pos a) (pos b) k = bit_at_xor a b k
unlike_bit (pos a) (negsuc b) k = omega (arith, bit_at_xor a b k, bit_at-lt a k, bit_at-lt b k)
unlike_bit (negsuc a) (pos b) k = omega (arith, bit_at_xor a b k, bit_at-lt a k, bit_at-lt b k)
unlike_bit (negsuc a) (negsuc b) k = omega (arith, bit_at_xor a b k, bit_at-lt a k, bit_at-lt b k)

turned_bit : (a : ℤ) (k : ℕ) → bit_of (complement_of a) k ≡ 1 - bit_of a k
turned_bit (pos a) k = refl
turned_bit (negsuc a) k = omega (arith, bit_at-lt a k)

pub bits_right : BitsAreRight
bits_right = record {
  both = both_bit;
  either = either_bit;
  unlike = unlike_bit;
  without = λ a b k. both_bit a (complement_of b) k ∙ ap (λ y. min (bit_of a k) y) (turned_bit b k);
  turned = turned_bit;
}

below_power : (n : ℕ) → n < 2 ^ n
below_power zero = lit< tt
below_power (suc n) = grind (arith, below_power n)

-- far enough up, a number from 0 on has zeros and one below 0 has ones
apart : (a b : ℕ) → ((k : ℕ) → bit_at a k ≡ 1 - bit_at b k) → ⊥
apart a b same =
    let zeros : bit_at a (a + b) ≡ 0 = bit_at_above a a (a + b) (below_power a) (omega arith) in
    let ones : bit_at b (a + b) ≡ 0 = bit_at_above b b (a + b) (below_power b) (omega arith) in
    omega (arith, same (a + b))

pub bits_all : (a b : ℤ) → ((k : ℕ) → bit_of a k ≡ bit_of b k) → a ≡ b
bits_all (pos a) (pos b) same = ap pos (same_from_bits a b same)
bits_all (pos a) (negsuc b) same = absurd (apart a b same)
bits_all (negsuc a) (pos b) same = absurd (apart b a (λ k. sym (same k)))
bits_all (negsuc a) (negsuc b) same = ap negsuc (same_from_bits a b (λ k. omega (arith, same k, bit_at-lt a k, bit_at-lt b k)))
