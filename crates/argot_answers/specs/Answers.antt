-- What an answer says: the one thing with a property, the first thing with it, and a list that gains what has it.
use Rattle.std.specs.Prelude.{◌≡◌, ◌⊎◌, ℕ, List, Option, Some, None, slice_get}

-- the item stands in the list
abbrev pub In : {A : Type 0} → A → List A → Type 0
In x xs = (k : ℕ) × (slice_get xs k ≡ Some x)

-- the answer is the one thing with the property, and none where nothing has it
pub record Exactly {A : Type 0} (Holds : A → Type 0) (answer : Option A) : Type 0 where
  pub sound : (x : A) → answer ≡ Some x → Holds x
  pub complete : (x : A) → Holds x → answer ≡ Some x

-- the answer is a thing with the property such that none with it comes before, and none where nothing has it
pub record Least {A : Type 0} (Before : A → A → Type 0) (Holds : A → Type 0) (answer : Option A) : Type 0 where
  pub sound : (x : A) → answer ≡ Some x → Holds x
  pub least : (x y : A) → answer ≡ Some x → Holds y → Before y x → ⊥
  pub none : answer ≡ None → (y : A) → Holds y → ⊥

-- the list has kept what it had, and gained just what has the property
pub record Adds {A : Type 0} (Holds : A → Type 0) (old new : List A) : Type 0 where
  pub kept : (x : A) → In x old → In x new
  pub added : (x : A) → Holds x → In x new
  pub only : (x : A) → In x new → In x old ⊎ Holds x
