-- Flags that are set for the numbers with a property.
use Rattle.std.specs.Prelude.{◌≡◌, ◌⊎◌, ℕ, ◌<◌, Bool, List, length}
use Rattle.argot_facts.specs.Marked.{IsSet}

-- new has the flags of old and those of the numbers with the property, as far as there are flags, and no others
pub record Marks (A : ℕ → Type 0) (old new : List Bool) : Type 0 where
  pub count : length new ≡ length old
  pub kept : (m : ℕ) → IsSet old m → IsSet new m
  pub there : (m : ℕ) → A m → m < length old → IsSet new m
  pub only : (m : ℕ) → IsSet new m → IsSet old m ⊎ A m

-- the flags are those of the numbers with the property
pub record AreMarked (A : ℕ → Type 0) (n : ℕ) (flags : List Bool) : Type 0 where
  pub count : length flags ≡ n
  pub there : (m : ℕ) → A m → m < n → IsSet flags m
  pub only : (m : ℕ) → IsSet flags m → A m
