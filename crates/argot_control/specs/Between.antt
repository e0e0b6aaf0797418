-- Steps between blocks, of a list of pairs of places.
use Rattle.std.specs.Prelude.{◌≡◌, ℕ, ◌<◌, List}
use Rattle.argot_plain.specs.Lists.{In}
use Rattle.argot_control.specs.Blocks.{IsHead}

-- the step from the block of the place a to that of b, which is its first one
pub record IsStepOf (block : ℕ → ℕ) (a b x y : ℕ) : Type 0 where
  pub from : x ≡ block a
  pub to : y ≡ block b
  pub head : IsHead block b

-- the step of one of these pairs
abbrev pub IsStep : (ℕ → ℕ) → List (ℕ × ℕ) → ℕ → ℕ → Type 0
IsStep block pairs x y = (a : ℕ) × (b : ℕ) × In {A = ℕ × ℕ} (a, b) pairs × IsStepOf block a b x y

-- the pairs are of places below n
abbrev pub AreInside : ℕ → List (ℕ × ℕ) → Type 0
AreInside n pairs = (a b : ℕ) → In {A = ℕ × ℕ} (a, b) pairs → (a < n) × (b < n)
