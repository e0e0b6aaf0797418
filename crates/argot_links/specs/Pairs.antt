-- A set of pairs of numbers, by the test of what it has.
use Rattle.std.specs.Prelude.{◌≡◌, ℕ, zero, suc, ◌+◌, ◌⊎◌, Bool, true, cond}

-- new is old with the pair r, c
pub record AddsPair (old new : ℕ → ℕ → Bool) (r c : ℕ) : Type 0 where
  pub there : new r c ≡ true
  pub kept : (a b : ℕ) → old a b ≡ true → new a b ≡ true
  pub only : (a b : ℕ) → new a b ≡ true → (old a b ≡ true) ⊎ ((a ≡ r) × (b ≡ c))

-- new is old with all of row source in row target too
pub record JoinsRow (old new : ℕ → ℕ → Bool) (source target : ℕ) : Type 0 where
  pub there : (b : ℕ) → old source b ≡ true → new target b ≡ true
  pub kept : (a b : ℕ) → old a b ≡ true → new a b ≡ true
  pub only : (a b : ℕ) → new a b ≡ true → (old a b ≡ true) ⊎ ((a ≡ target) × (old source b ≡ true))

-- how many numbers below n the test refuses
abbrev pub refused_below : (ℕ → Bool) → ℕ → ℕ
refused_below f zero = 0
refused_below f (suc n) = refused_below f n + cond (f n) 0 1

-- how many pairs of the first m rows and n columns the test refuses
abbrev pub refused : (ℕ → ℕ → Bool) → ℕ → ℕ → ℕ
refused f zero n = 0
refused f (suc m) n = refused f m n + refused_below (f m) n
