-- Members of a list, and lists that have exactly what a claim holds of, in order.
use Rattle.std.specs.Prelude.{◌≡◌, ℕ, ◌+◌, List, Some, slice_get}

-- the item stands in the list
abbrev pub In : {A : Type 0} → A → List A → Type 0
In x xs = (k : ℕ) × (slice_get xs k ≡ Some x)

-- each item stands before the next one, so that none stands twice
abbrev pub IsOrdered : {A : Type 0} → (A → A → Type 0) → List A → Type 0
IsOrdered {A} Before xs = (k : ℕ) (a b : A) → slice_get xs k ≡ Some a → slice_get xs (k + 1) ≡ Some b → Before a b

-- the list has exactly the items that the claim holds of, in this order
pub record IsListOf {A : Type 0} (Before : A → A → Type 0) (Holds : A → Type 0) (xs : List A) : Type 0 where
  pub ordered : IsOrdered Before xs
  pub sound : (x : A) → In x xs → Holds x
  pub complete : (x : A) → Holds x → In x xs

-- the list has exactly the items that the claim holds of, each once, in any order
pub record IsSetOf {A : Type 0} (Holds : A → Type 0) (xs : List A) : Type 0 where
  pub once : (j k : ℕ) (x : A) → slice_get xs j ≡ Some x → slice_get xs k ≡ Some x → j ≡ k
  pub sound : (x : A) → In x xs → Holds x
  pub complete : (x : A) → Holds x → In x xs
