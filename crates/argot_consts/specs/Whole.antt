-- Whole numbers without bounds, and the operators of constant expressions that the library has no word for
-- (The Go Programming Language Specification, "Arithmetic operators" and "Constant expressions").
-- `pos n` is n, and `negsuc n` is -1 - n.
use Rattle.std.specs.Prelude.{ℕ, ◌-◌, ◌/◌, ◌^◌, ℤ, pos, negsuc, ◌*ℤ◌, Bool, true, false, nat_lt, bit_and, bit_or, bit_xor}
use Rattle.std.specs.Int.{bit_at}

-- below zero
abbrev pub is_below_zero : ℤ → Bool
is_below_zero (pos n) = false
is_below_zero (negsuc n) = true

-- a signed number of 128 bits
abbrev pub fits : ℤ → Bool
fits (pos n) = nat_lt n (2 ^ 127)
fits (negsuc n) = nat_lt n (2 ^ 127)

-- the number with n zero bits behind it
abbrev pub shifted_left : ℤ → ℕ → ℤ
shifted_left z n = z *ℤ pos (2 ^ n)

-- the number without its last n bits, which rounds down
abbrev pub shifted_right : ℤ → ℕ → ℤ
shifted_right (pos a) n = pos (a / 2 ^ n)
shifted_right (negsuc a) n = negsuc (a / 2 ^ n)

-- bit k in two's complement of unlimited width: a negative number has ones without end in front
abbrev pub bit_of : ℤ → ℕ → ℕ
bit_of (pos a) k = bit_at a k
bit_of (negsuc a) k = 1 - bit_at a k

-- each bit turned
abbrev pub complement_of : ℤ → ℤ
complement_of (pos a) = negsuc a
complement_of (negsuc a) = pos a

-- the bits of a that b doesn't have
abbrev pub bits_without : ℕ → ℕ → ℕ
bits_without a b = a - bit_and a b

-- the bits that both have
abbrev pub and_of : ℤ → ℤ → ℤ
and_of (pos a) (pos b) = pos (bit_and a b)
and_of (pos a) (negsuc b) = pos (bits_without a b)
and_of (negsuc a) (pos b) = pos (bits_without b a)
and_of (negsuc a) (negsuc b) = negsuc (bit_or a b)

-- the bits that one has
abbrev pub or_of : ℤ → ℤ → ℤ
or_of (pos a) (pos b) = pos (bit_or a b)
or_of (pos a) (negsuc b) = negsuc (bits_without b a)
or_of (negsuc a) (pos b) = negsuc (bits_without a b)
or_of (negsuc a) (negsuc b) = negsuc (bit_and a b)

-- the bits that exactly one has
abbrev pub xor_of : ℤ → ℤ → ℤ
xor_of (pos a) (pos b) = pos (bit_xor a b)
xor_of (pos a) (negsuc b) = negsuc (bit_xor a b)
xor_of (negsuc a) (pos b) = negsuc (bit_xor a b)
xor_of (negsuc a) (negsuc b) = pos (bit_xor a b)

-- the bits of the first that the second doesn't have
abbrev pub clear_of : ℤ → ℤ → ℤ
clear_of a b = and_of a (complement_of b)
