-- What stands in lists that are put together from parts.
use Rattle.std.proofs.Common.{◌≡◌, ℕ, zero, suc, ◌+◌, ◌<◌, List, [], ◌∷◌, ◌++◌, Some, map, take, drop, refl, sym, ap, ◌∙◌, inl, inr, arith, subst}
use Rattle.std.specs.Prelude.{◌⊎◌, slice_get, length}
use Rattle.argot_plain.specs.Lists.{In, here, there}

pub In-append : {A : Type 0} (x : A) (xs ys : List A) → In x (xs ++ ys) → In x xs ⊎ In x ys
In-append x [] ys h = inr h
In-append x (y ∷ xs) ys (here e) = inl (here e)
In-append x (y ∷ xs) ys (there h) = elim (In-append x xs ys h) [ inl a ↦ inl (there a) | inr b ↦ inr b ]

pub In-left : {A : Type 0} (x : A) (xs ys : List A) → In x xs → In x (xs ++ ys)
In-left x (y ∷ xs) ys (here e) = here e
In-left x (y ∷ xs) ys (there h) = there (In-left x xs ys h)
In-left x [] ys h = elim h [ ]

pub In-right : {A : Type 0} (x : A) (xs ys : List A) → In x ys → In x (xs ++ ys)
In-right x [] ys h = h
In-right x (y ∷ xs) ys h = there (In-right x xs ys h)

pub In-mapped : {A B : Type 0} (f : A → B) (y : B) (xs : List A) → In y (map f xs) → (x : A) × (In x xs) × (y ≡ f x)
In-mapped f y [] h = elim h [ ]
In-mapped f y (x ∷ xs) (here e) = (x, here refl, e)
In-mapped f y (x ∷ xs) (there h) = let r = In-mapped f y xs h in (r.0, there r.1, r.2)

pub In-map : {A B : Type 0} (f : A → B) (x : A) (xs : List A) → In x xs → In (f x) (map f xs)
In-map f x (y ∷ xs) (here e) = here (ap f e)
In-map f x (y ∷ xs) (there h) = there (In-map f x xs h)
In-map f x [] h = elim h [ ]

pub number_of : {A : Type 0} (x : A) (xs : List A) → In x xs → (a : ℕ) × (slice_get xs a ≡ Some x)
number_of x (y ∷ ys) (here e) = (0, ap Some (sym e))
number_of x (y ∷ ys) (there m) = let r = number_of x ys m in (suc r.0, r.1)
number_of x [] m = elim m [ ]

pub in_of_get : {X : Type 0} (xs : List X) (m : ℕ) (x : X) → slice_get xs m ≡ Some x → In x xs
in_of_get [] m x h = absurd cc
in_of_get (y ∷ xs) zero x h = here cc
in_of_get (y ∷ xs) (suc m) x h = there (in_of_get xs m x h)

pub get_within : {X : Type 0} (xs : List X) (m : ℕ) (x : X) → slice_get xs m ≡ Some x → m < length xs
get_within [] m x h = absurd cc
get_within (y ∷ xs) zero x h = omega arith
get_within (y ∷ xs) (suc m) x h = omega (arith, get_within xs m x h)

pub get_at : {X : Type 0} (xs : List X) (m : ℕ) → m < length xs → (x : X) × (slice_get xs m ≡ Some x)
get_at [] m h = absurd (omega arith)
get_at (y ∷ xs) zero h = (y, refl)
get_at (y ∷ xs) (suc m) h = get_at xs m (omega arith)

pub get-map : {A B : Type 0} (f : A → B) (xs : List A) (m : ℕ) (y : B) → slice_get (map f xs) m ≡ Some y → (x : A) × (slice_get xs m ≡ Some x) × (y ≡ f x)
get-map f [] m y h = absurd cc
get-map f (x ∷ xs) zero y h = (x, refl, cc)
get-map f (x ∷ xs) (suc m) y h = get-map f xs m y h

pub map-get : {A B : Type 0} (f : A → B) (xs : List A) (m : ℕ) (x : A) → slice_get xs m ≡ Some x → slice_get (map f xs) m ≡ Some (f x)
map-get f [] m x h = absurd cc
map-get f (y ∷ xs) zero x h = cc
map-get f (y ∷ xs) (suc m) x h = map-get f xs m x h

pub get-take : {X : Type 0} (n : ℕ) (xs : List X) (m : ℕ) (x : X) → slice_get (take n xs) m ≡ Some x → (m < n) × (slice_get xs m ≡ Some x)
get-take zero xs m x h = absurd cc
get-take (suc n) [] m x h = absurd cc
get-take (suc n) (y ∷ xs) zero x h = (omega arith, h)
get-take (suc n) (y ∷ xs) (suc m) x h = let r = get-take n xs m x h in (omega (arith, r.0), r.1)

pub take-get : {X : Type 0} (n : ℕ) (xs : List X) (m : ℕ) (x : X) → m < n → slice_get xs m ≡ Some x → slice_get (take n xs) m ≡ Some x
take-get zero xs m x l h = absurd (omega arith)
take-get (suc n) [] m x l h = absurd cc
take-get (suc n) (y ∷ xs) zero x l h = h
take-get (suc n) (y ∷ xs) (suc m) x l h = take-get n xs m x (omega arith) h

pub get-drop : {X : Type 0} (n : ℕ) (xs : List X) (m : ℕ) → slice_get (drop n xs) m ≡ slice_get xs (n + m)
get-drop zero xs m = let e : m ≡ 0 + m = omega arith in ap (slice_get xs) e
get-drop (suc n) [] m = refl
get-drop (suc n) (x ∷ xs) m = let e : suc (n + m) ≡ suc n + m = omega arith in get-drop n xs m ∙ ap (slice_get (x ∷ xs)) e

-- an item of two lists, one behind the other
pub get-append : {X : Type 0} (xs ys : List X) (m : ℕ) (x : X) → slice_get (xs ++ ys) m ≡ Some x → (slice_get xs m ≡ Some x) ⊎ ((k : ℕ) × (slice_get ys k ≡ Some x) × (m ≡ length xs + k))
get-append [] ys m x h = inr (m, h, omega arith)
get-append (y ∷ xs) ys zero x h = inl h
get-append (y ∷ xs) ys (suc m) x h = elim (get-append xs ys m x h) [ inl a ↦ inl a | inr b ↦ inr (b.0, b.1, omega (arith, b.2)) ]

-- each item stands before all that follow
abbrev pub Sorted : {X : Type 0} → (X → X → Type 0) → List X → Type 0
Sorted {X} R xs = (m n : ℕ) (a b : X) → m < n → slice_get xs m ≡ Some a → slice_get xs n ≡ Some b → R a b

pub sorted_append : {X : Type 0} (R : X → X → Type 0) (xs ys : List X) → Sorted R xs → Sorted R ys → ((a b : X) → In a xs → In b ys → R a b) → Sorted R (xs ++ ys)
sorted_append R xs ys s t c m n a b l h k = elim (get-append xs ys m a h) [
  | inl e ↦ elim (get-append xs ys n b k) [ inl f ↦ s m n a b l e f | inr f ↦ c a b (in_of_get xs m a e) (in_of_get ys f.0 b f.1) ]
  | inr e ↦ elim (get-append xs ys n b k) [
    | inl f ↦ absurd (omega (arith, e.2, get_within xs n b f))
    | inr f ↦ t e.0 f.0 a b (omega (arith, e.2, f.2)) e.1 f.1
  ]
]

pub sorted_cons : {X : Type 0} (R : X → X → Type 0) (x : X) (ys : List X) → Sorted R ys → ((b : X) → In b ys → R x b) → Sorted R (x ∷ ys)
sorted_cons R x ys t c m zero a b l h k = absurd (omega arith)
sorted_cons R x ys t c zero (suc n) a b l h k = let e : x ≡ a = cc in subst (λ z. R z b) e (c b (in_of_get ys n b k))
sorted_cons R x ys t c (suc m) (suc n) a b l h k = t m n a b (omega arith) h k
