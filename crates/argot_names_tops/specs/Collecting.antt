-- Lists of names that are made from other lists, item by item.
use Rattle.std.specs.Prelude.{◌≡◌, ℕ, ◌<◌, List, Option, Some, None, slice_get}
use Rattle.argot_names_tops.specs.declared.named.Named.{Named}

-- a name that the item of a number gives
pub record IsGiven {A : Type 0} (Gives : ℕ → A → Named → Type 0) (xs : List A) (count : ℕ) (n : Named) : Type 0 where
  pub number : ℕ
  pub item : A
  pub below : number < count
  pub there : slice_get xs number ≡ Some item
  pub gives : Gives number item n

-- the list has a name that the item of this number gives
pub record HasGiven {A : Type 0} (Gives : ℕ → A → Named → Type 0) (number : ℕ) (item : A) (ys : List Named) : Type 0 where
  pub place : ℕ
  pub name : Named
  pub there : slice_get ys place ≡ Some name
  pub gives : Gives number item name

-- two names of the list come from items in the same order
pub record AreGivenInOrder {A : Type 0} (Gives : ℕ → A → Named → Type 0) (xs : List A) (a b : Named) : Type 0 where
  pub one : ℕ
  pub other : ℕ
  pub x : A
  pub y : A
  pub before : one < other
  pub x_there : slice_get xs one ≡ Some x
  pub y_there : slice_get xs other ≡ Some y
  pub a_is : Gives one x a
  pub b_is : Gives other y b

-- the names that the items before a number give, in their order
pub record AreCollected {A : Type 0} (Gives : ℕ → A → Named → Type 0) (xs : List A) (count : ℕ) (ys : List Named) : Type 0 where
  pub sound : (k : ℕ) (n : Named) → slice_get ys k ≡ Some n → IsGiven Gives xs count n
  pub complete : (j : ℕ) (x : A) (n : Named) → j < count → slice_get xs j ≡ Some x → Gives j x n → HasGiven Gives j x ys
  pub ordered : (i k : ℕ) (a b : Named) → i < k → slice_get ys i ≡ Some a → slice_get ys k ≡ Some b → AreGivenInOrder Gives xs a b

-- a name, or that there is none
pub data IsOffered {A : Type 0} (Gives : ℕ → A → Named → Type 0) (number : ℕ) (item : A) : Option Named → Type 0 where
  some : {n : Named} → Gives number item n → IsOffered Gives number item (Some n)
  none : ((n : Named) → Gives number item n → ⊥) → IsOffered Gives number item None
