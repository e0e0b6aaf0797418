-- Bits of two numbers below 2 ^ 127 make one.
use Rattle.std.proofs.Common.{ℕ, ◌^◌, ◌<◌, bit_or, bit_xor}
use Rattle.std.proofs.lemmas.Nat.{or_lt, xor_lt}

pub or_narrow : (a b : ℕ) → a < 2 ^ 127 → b < 2 ^ 127 → bit_or a b < 2 ^ 127
or_narrow a b l m = or_lt 127 a b l m

pub xor_narrow : (a b : ℕ) → a < 2 ^ 127 → b < 2 ^ 127 → bit_xor a b < 2 ^ 127
xor_narrow a b l m = xor_lt 127 a b l m
