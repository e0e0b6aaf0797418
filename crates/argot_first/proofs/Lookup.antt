-- Elements of joined lists.
use Rattle.std.proofs.Common.{◌≡◌, ℕ, zero, suc, ◌+◌, List, [], ◌∷◌, ◌++◌, Some, length, refl, sym, ap, ◌∙◌, arith, zero-add, ◌⊎◌, inl, inr}
use Rattle.std.proofs.Math.Nat.{suc-add}
use Rattle.std.specs.Prelude.{slice_get}

pub some-same : {A : Type 0} {x y : A} → Some x ≡ Some y → x ≡ y
some-same h = cc h

pub get-left : {A : Type 0} (xs ys : List A) (i : ℕ) (x : A) → slice_get xs i ≡ Some x → slice_get (xs ++ ys) i ≡ Some x
get-left [] ys i x h = absurd (cc h)
get-left (z ∷ xs) ys zero x h = h
get-left (z ∷ xs) ys (suc i) x h = get-left xs ys i x h

pub get-right : {A : Type 0} (xs ys : List A) (i : ℕ) → slice_get (xs ++ ys) (length xs + i) ≡ slice_get ys i
get-right [] ys i = rw zero-add refl
get-right (z ∷ xs) ys i = rw suc-add (get-right xs ys i)

-- as get-right, at a number that is equal to it
pub get-at : {A : Type 0} (xs ys : List A) (n i : ℕ) → n ≡ length xs + i → slice_get (xs ++ ys) n ≡ slice_get ys i
get-at xs ys n i e = ap (slice_get (xs ++ ys)) e ∙ get-right xs ys i

shifted : {A : Type 0} (z : A) (xs ys : List A) (i : ℕ) (x : A) → (slice_get xs i ≡ Some x) ⊎ ((j : ℕ) × (i ≡ length xs + j) × (slice_get ys j ≡ Some x)) → (slice_get (z ∷ xs) (suc i) ≡ Some x) ⊎ ((j : ℕ) × (suc i ≡ length (z ∷ xs) + j) × (slice_get ys j ≡ Some x))
shifted z xs ys i x (inl h) = inl h
shifted z xs ys i x (inr h) = inr (h.0, omega (arith, h.1), h.2)

-- an element of joined lists is one of the first or of the second
pub get-either : {A : Type 0} (xs ys : List A) (i : ℕ) (x : A) → slice_get (xs ++ ys) i ≡ Some x → (slice_get xs i ≡ Some x) ⊎ ((j : ℕ) × (i ≡ length xs + j) × (slice_get ys j ≡ Some x))
get-either [] ys i x h = inr (i, sym (zero-add i), h)
get-either (z ∷ xs) ys zero x h = inl h
get-either (z ∷ xs) ys (suc i) x h = shifted z xs ys i x (get-either xs ys i x h)
