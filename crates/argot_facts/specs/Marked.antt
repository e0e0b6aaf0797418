-- Flags by number.
use Rattle.std.specs.Prelude.{◌≡◌, ◌⊎◌, ℕ, Bool, true, List, Some, length, slice_get}

-- the flag of the number is set
abbrev pub IsSet : List Bool → ℕ → Type 0
IsSet flags n = slice_get flags n ≡ Some true

-- new is old with the flag of the number n
pub record Sets (old new : List Bool) (n : ℕ) : Type 0 where
  pub count : length new ≡ length old
  pub there : IsSet new n
  pub kept : (m : ℕ) → IsSet old m → IsSet new m
  pub only : (m : ℕ) → IsSet new m → IsSet old m ⊎ (m ≡ n)
