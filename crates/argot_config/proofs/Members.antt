-- Members of a list, at its end and by their index.
use Rattle.std.proofs.Common.{◌≡◌, ◌≢◌, ℕ, zero, suc, ◌<◌, List, [], ◌∷◌, ◌++◌, ◌⊎◌, inl, inr, Some, length, slice_get, get_or, set, replicate, take, drop, take_all, refl, ap, arith}
use Rattle.std.proofs.lemmas.List.{append-nil, drop_all}
use Rattle.argot_plain.specs.Lists.{In}
use Rattle.argot_plain.specs.Lists.In.{here, there}

pub in_none : {A : Type 0} (x : A) → In x [] → ⊥
in_none x m = elim m [ ]

pub in_push : {A : Type 0} (x y : A) (xs : List A) → In x xs → In x (xs ++ y ∷ [])
in_push x y [] m = absurd (in_none x m)
in_push x y (z ∷ xs) (here e) = here e
in_push x y (z ∷ xs) (there m) = there (in_push x y xs m)

pub in_last : {A : Type 0} (x : A) (xs : List A) → In x (xs ++ x ∷ [])
in_last x [] = here refl
in_last x (z ∷ xs) = there (in_last x xs)

pub in_pushed : {A : Type 0} (x y : A) (xs : List A) → In x (xs ++ y ∷ []) → In x xs ⊎ (x ≡ y)
in_pushed x y [] (here e) = inr e
in_pushed x y [] (there m) = absurd (in_none x m)
in_pushed x y (z ∷ xs) (here e) = inl (here e)
in_pushed x y (z ∷ xs) (there m) = elim (in_pushed x y xs m) [ inl before ↦ inl (there before) | inr last ↦ inr last ]

pub in_at : {A : Type 0} (xs : List A) (k : ℕ) (d : A) → k < length xs → In (get_or xs k d) xs
in_at [] k d h = absurd (omega arith)
in_at (x ∷ xs) zero d h = here refl
in_at (x ∷ xs) (suc k) d h = there (in_at xs k d (omega arith))

-- the item at an index below the length
pub item_at : {A : Type 0} (xs : List A) (k : ℕ) → k < length xs → (x : A) × (slice_get xs k ≡ Some x)
item_at [] k h = absurd (omega arith)
item_at (x ∷ xs) zero h = (x, refl)
item_at (x ∷ xs) (suc k) h = item_at xs k (omega arith)

-- an item that is written, and the others
pub set_at : {A : Type 0} (xs : List A) (n : ℕ) (v : A) → n < length xs → slice_get (set xs n v) n ≡ Some v
set_at [] n v h = absurd (omega arith)
set_at (x ∷ xs) zero v h = refl
set_at (x ∷ xs) (suc n) v h = set_at xs n v (omega arith)

pub set_other : {A : Type 0} (xs : List A) (n k : ℕ) (v : A) → k ≢ n → slice_get (set xs n v) k ≡ slice_get xs k
set_other [] n k v h = refl
set_other (x ∷ xs) zero zero v h = absurd (h refl)
set_other (x ∷ xs) zero (suc k) v h = refl
set_other (x ∷ xs) (suc n) zero v h = refl
set_other (x ∷ xs) (suc n) (suc k) v h = set_other xs n k v (λ e. h (ap suc e))

pub all_alike : {A : Type 0} (n k : ℕ) (v : A) → k < n → slice_get (replicate n v) k ≡ Some v
all_alike zero k v h = absurd (omega arith)
all_alike (suc n) zero v h = refl
all_alike (suc n) (suc k) v h = all_alike n k v (omega arith)

pub length_alike : {A : Type 0} (n : ℕ) (v : A) → length (replicate n v) ≡ n
length_alike zero v = refl
length_alike (suc n) v = ap suc (length_alike n v)

pub same_item : {A : Type 0} (x y : A) → Some x ≡ Some y → x ≡ y
same_item x y e = cc

-- a list that was written back whole
pub whole_again : {A : Type 0} (new old : List A) (n : ℕ) → length new ≡ length old → n ≡ length old → take n (new ++ drop (length new) old) ≡ new
whole_again new old n same is =
    let none : drop (length new) old ≡ [] = drop_all (length new) old (omega arith) in
    rw (none, append-nil) (take_all n new (omega arith))
