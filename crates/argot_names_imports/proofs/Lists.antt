-- Lists that have exactly what a claim holds of, item by item.
use Rattle.std.proofs.Common.{◌≡◌, ℕ, zero, suc, ◌+◌, ◌<◌, ◌≤◌, ◌⊎◌, inl, inr, List, [], ◌∷◌, ◌++◌, length, take, Some, None, None, refl, sym, ap, ◌∙◌, subst, arith, length-append}
use Rattle.std.specs.Prelude.{map, slice_get}
use Rattle.argot_names_rules.specs.Lists.{In, IsListOf}

-- the item last, or among those before
pub get_last : {A : Type 0} (xs : List A) (x : A) → slice_get (xs ++ x ∷ []) (length xs) ≡ Some x
get_last [] x = refl
get_last (y ∷ xs) x = get_last xs x

pub get_before : {A : Type 0} (xs ys : List A) (k : ℕ) (y : A) → slice_get xs k ≡ Some y → slice_get (xs ++ ys) k ≡ Some y
get_before [] ys k y e = absurd (cc)
get_before (x ∷ xs) ys zero y e = e
get_before (x ∷ xs) ys (suc k) y e = get_before xs ys k y e

pub get_either : {A : Type 0} (xs : List A) (x : A) (k : ℕ) (y : A) → slice_get (xs ++ x ∷ []) k ≡ Some y → (slice_get xs k ≡ Some y) ⊎ ((k ≡ length xs) × (y ≡ x))
get_either [] x zero y e = inr (refl, cc)
get_either [] x (suc k) y e = absurd (cc)
get_either (z ∷ xs) x zero y e = inl e
get_either (z ∷ xs) x (suc k) y e =
    elim (get_either xs x k y e) [ inl h ↦ inl h | inr h ↦ inr (omega (arith, h.0), h.1) ]

pub get_below : {A : Type 0} (xs : List A) (k : ℕ) (y : A) → slice_get xs k ≡ Some y → k < length xs
get_below [] k y e = absurd (cc)
get_below (x ∷ xs) zero y e = omega arith
get_below (x ∷ xs) (suc k) y e = let l = get_below xs k y e in omega (arith, l)

pub get_none : {A : Type 0} (xs : List A) (k : ℕ) → slice_get xs k ≡ None → length xs ≤ k
get_none [] k e = omega arith
get_none (x ∷ xs) zero e = absurd (cc)
get_none (x ∷ xs) (suc k) e = let l = get_none xs k e in omega (arith, l)

pub in_last : {A : Type 0} (xs : List A) (x : A) → In x (xs ++ x ∷ [])
in_last xs x = (length xs, get_last xs x)

pub in_before : {A : Type 0} (xs ys : List A) (y : A) → In y xs → In y (xs ++ ys)
in_before xs ys y h = (h.0, get_before xs ys h.0 y h.1)

pub nothing_in : {A : Type 0} (x : A) → In x [] → ⊥
nothing_in x h = absurd (not_there x h.0 h.1)
  where
    not_there : {A : Type 0} (x : A) (k : ℕ) → slice_get [] k ≡ Some x → ⊥
    not_there x k e = cc

pub in_either : {A : Type 0} (xs : List A) (x y : A) → In y (xs ++ x ∷ []) → In y xs ⊎ (y ≡ x)
in_either xs x y h = elim (get_either xs x h.0 y h.1) [ inl e ↦ inl (h.0, e) | inr e ↦ inr e.1 ]

-- an item of two lists
pub get_two : {A : Type 0} (xs ys : List A) (k : ℕ) (y : A) → slice_get (xs ++ ys) k ≡ Some y → (slice_get xs k ≡ Some y) ⊎ ((j : ℕ) × (k ≡ length xs + j) × (slice_get ys j ≡ Some y))
get_two [] ys k y e = inr (k, omega arith, e)
get_two (x ∷ xs) ys zero y e = inl e
get_two (x ∷ xs) ys (suc k) y e = elim (get_two xs ys k y e) [ inl h ↦ inl h | inr h ↦ inr (h.0, omega (arith, h.1), h.2) ]

pub get_behind : {A : Type 0} (xs ys : List A) (k : ℕ) (y : A) → slice_get ys k ≡ Some y → slice_get (xs ++ ys) (length xs + k) ≡ Some y
get_behind [] ys k y e = let at : k ≡ 0 + k = omega arith in subst (λ j. slice_get ys j ≡ Some y) at e
get_behind (x ∷ xs) ys k y e = let at : suc (length xs + k) ≡ length (x ∷ xs) + k = omega arith in subst (λ j. slice_get (x ∷ (xs ++ ys)) j ≡ Some y) at (get_behind xs ys k y e)

pub in_behind : {A : Type 0} (xs ys : List A) (y : A) → In y ys → In y (xs ++ ys)
in_behind xs ys y h = (length xs + h.0, get_behind xs ys h.0 y h.1)

pub in_two : {A : Type 0} (xs ys : List A) (y : A) → In y (xs ++ ys) → In y xs ⊎ In y ys
in_two xs ys y h = elim (get_two xs ys h.0 y h.1) [ inl e ↦ inl (h.0, e) | inr e ↦ inr (e.0, e.2) ]

module _ {A : Type 0} (Before : A → A → Type 0) where
  pub list_none : (Holds : A → Type 0) → ((y : A) → Holds y → ⊥) → IsListOf Before Holds []
  list_none Holds none =
      record { ordered = λ k a b e f. absurd (cc); sound = λ x h. absurd (nothing_in x h); complete = λ x h. absurd (none x h) }

  pub list_same : (Holds Holds' : A → Type 0) (xs : List A) → IsListOf Before Holds xs → ((y : A) → Holds y → Holds' y) → ((y : A) → Holds' y → Holds y) → IsListOf Before Holds' xs
  list_same Holds Holds' xs is to from =
      record { ordered = is.ordered; sound = λ x h. to x (is.sound x h); complete = λ x h. is.complete x (from x h) }

  pub list_more : (Holds Holds' : A → Type 0) (xs : List A) (x : A) → IsListOf Before Holds xs → Holds' x → ((y : A) → Holds y → Before y x) → ((y : A) → Holds y → Holds' y)
      → ((y : A) → Holds' y → Holds y ⊎ (y ≡ x)) → IsListOf Before Holds' (xs ++ x ∷ [])
  list_more Holds Holds' xs x is holds behind to from =
      record {
        ordered = λ k a b e f. order k a b e f;
        sound = λ y h. elim (in_either xs x y h) [ inl i ↦ to y (is.sound y i) | inr e ↦ subst Holds' (sym e) holds ];
        complete = λ y h. elim (from y h) [ inl i ↦ in_before xs (x ∷ []) y (is.complete y i) | inr e ↦ subst (λ z. In z (xs ++ x ∷ [])) (sym e) (in_last xs x) ];
      }
    where
      order : (k : ℕ) (a b : A) → slice_get (xs ++ x ∷ []) k ≡ Some a → slice_get (xs ++ x ∷ []) (k + 1) ≡ Some b → Before a b
      order k a b e f =
          elim (get_either xs x k a e) [
            | inl g ↦ elim (get_either xs x (k + 1) b f) [ inl h ↦ is.ordered k a b g h | inr h ↦ subst (Before a) (sym h.1) (behind a (is.sound a (k, g))) ]
            | inr g ↦ absurd (omega (arith, g.0, get_below (xs ++ x ∷ []) (k + 1) b f, length-append xs (x ∷ [])))
          ]

  -- a list and another behind it
  pub list_joined : (Holds More Both : A → Type 0) (xs ys : List A) → IsListOf Before Holds xs → IsListOf Before More ys → ((x y : A) → Holds x → More y → Before x y)
      → ((x : A) → Holds x → Both x) → ((x : A) → More x → Both x) → ((x : A) → Both x → Holds x ⊎ More x) → IsListOf Before Both (xs ++ ys)
  list_joined Holds More Both xs ys is more between left right from =
      record {
        ordered = λ k a b e f. order k a b e f;
        sound = λ x h. elim (in_two xs ys x h) [ inl i ↦ left x (is.sound x i) | inr i ↦ right x (more.sound x i) ];
        complete = λ x h. elim (from x h) [ inl i ↦ in_before xs ys x (is.complete x i) | inr i ↦ in_behind xs ys x (more.complete x i) ];
      }
    where
      order : (k : ℕ) (a b : A) → slice_get (xs ++ ys) k ≡ Some a → slice_get (xs ++ ys) (k + 1) ≡ Some b → Before a b
      order k a b e f =
          elim (get_two xs ys k a e) [
            | inl g ↦ elim (get_two xs ys (k + 1) b f) [ inl h ↦ is.ordered k a b g h | inr h ↦ between a b (is.sound a (k, g)) (more.sound b (h.0, h.2)) ]
            | inr g ↦ elim (get_two xs ys (k + 1) b f) [
              | inl h ↦ absurd (omega (arith, get_below xs (k + 1) b h, g.1))
              | inr h ↦ let at : h.0 ≡ g.0 + 1 = omega (arith, g.1, h.1) in more.ordered g.0 a b g.2 (subst (λ j. slice_get ys j ≡ Some b) at h.2)
            ]
          ]

-- another order of the same items
pub list_reorder : {A : Type 0} (Before Before' : A → A → Type 0) (Holds : A → Type 0) (xs : List A) → IsListOf Before Holds xs → ((a b : A) → Holds a → Holds b → Before a b → Before' a b) → IsListOf Before' Holds xs
list_reorder Before Before' Holds xs is to =
    record { ordered = λ k a b e f. to a b (is.sound a (k, e)) (is.sound b (k + 1, f)) (is.ordered k a b e f); sound = is.sound; complete = is.complete }

-- one item more from the front on
pub take_one : {A : Type 0} (xs : List A) (k : ℕ) (x : A) → slice_get xs k ≡ Some x → take (k + 1) xs ≡ take k xs ++ x ∷ []
take_one [] k x e = absurd (cc)
take_one (y ∷ xs) zero x e = let same : y ≡ x = cc in ap (λ z. z ∷ []) same
take_one (y ∷ xs) (suc k) x e = let at : suc k + 1 ≡ suc (k + 1) = omega arith in rw at (ap (λ zs. y ∷ zs) (take_one xs k x e))

pub map_one : {A B : Type 0} (f : A → B) (xs : List A) (k : ℕ) (x : A) → slice_get xs k ≡ Some x → map f (take (k + 1) xs) ≡ map f (take k xs) ++ f x ∷ []
map_one f xs k x e = ap (map f) (take_one xs k x e) ∙ map_join f (take k xs) x
  where
    map_join : {A B : Type 0} (f : A → B) (xs : List A) (x : A) → map f (xs ++ x ∷ []) ≡ map f xs ++ f x ∷ []
    map_join f [] x = refl
    map_join f (y ∷ xs) x = ap (λ ys. f y ∷ ys) (map_join f xs x)

pub get_map : {A B : Type 0} (f : A → B) (xs : List A) (k : ℕ) (y : B) → slice_get (map f xs) k ≡ Some y → (x : A) × (slice_get xs k ≡ Some x) × (f x ≡ y)
get_map f [] k y e = absurd (cc)
get_map f (x ∷ xs) zero y e = (x, refl, cc)
get_map f (x ∷ xs) (suc k) y e = get_map f xs k y e

pub map_get : {A B : Type 0} (f : A → B) (xs : List A) (k : ℕ) (x : A) → slice_get xs k ≡ Some x → slice_get (map f xs) k ≡ Some (f x)
map_get f [] k x e = absurd (cc)
map_get f (y ∷ xs) zero x e = let same : y ≡ x = cc in ap (λ z. Some (f z)) same
map_get f (y ∷ xs) (suc k) x e = map_get f xs k x e

pub get_there : {A : Type 0} (xs : List A) (k : ℕ) → k < length xs → (x : A) × (slice_get xs k ≡ Some x)
get_there [] k l = absurd (omega arith)
get_there (x ∷ xs) zero l = (x, refl)
get_there (x ∷ xs) (suc k) l = get_there xs k (omega arith)
