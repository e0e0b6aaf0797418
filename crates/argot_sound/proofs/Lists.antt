-- What is in a list, and at which number.
use Rattle.std.proofs.Common.{subst, ◌≡◌, ℕ, zero, suc, Bool, true, false, cond, not, List, [], ◌∷◌, ◌++◌, Option, Some, None, refl, sym, ap, ◌∙◌, inl, inr, arith, map}
use Rattle.std.proofs.lemmas.Bool.Decides.{nat_tests}
use Rattle.std.specs.Prelude.{◌⊎◌, slice_get, slice_set, ◌&&◌, ◌==◌, ◌||◌, if◌then◌else◌}
use Rattle.std.specs.List.{filter, filter_map, cons_option}
use Rattle.argot_plain.specs.Lists.{In, here, there, member, same_step, same_path, has_path, below, begins_with, leads_on}
use Rattle.argot_text.specs.declared.path.PathStep.{PathStep}
use Rattle.argot_text.specs.declared.path.PathStep.TheVariants.{Field, Element, Key, Value, Channel, Capture}

pub In-append : {A : Type 0} (x : A) (xs ys : List A) → In x (xs ++ ys) → In x xs ⊎ In x ys
In-append x [] ys h = inr h
In-append x (y ∷ xs) ys (here e) = inl (here e)
In-append x (y ∷ xs) ys (there h) = elim (In-append x xs ys h) [ inl a ↦ inl (there a) | inr b ↦ inr b ]

pub In-one : {A : Type 0} (x y : A) → In x (y ∷ []) → x ≡ y
In-one x y (here e) = e
In-one x y (there m) = elim m [ ]

pub In-map : {A B : Type 0} (f : A → B) (y : B) (xs : List A) → In y (map f xs) → (x : A) × (In x xs) × (y ≡ f x)
In-map f y [] h = elim h [ ]
In-map f y (x ∷ xs) (here e) = (x, here refl, e)
In-map f y (x ∷ xs) (there h) = let r = In-map f y xs h in (r.0, there r.1, r.2)

In-filter_case : {A : Type 0} (t : A → Bool) (x y : A) (xs : List A) (b : Bool) → t y ≡ b → (In x (filter t xs) → In x xs × (t x ≡ true))
    → In x (cond b (y ∷ filter t xs) (filter t xs)) → In x (y ∷ xs) × (t x ≡ true)
In-filter_case t x y xs true e rec (here s) = (here s, ap t s ∙ e)
In-filter_case t x y xs true e rec (there g) = let r = rec g in (there r.0, r.1)
In-filter_case t x y xs false e rec g = let r = rec g in (there r.0, r.1)

pub In-filter : {A : Type 0} (t : A → Bool) (x : A) (xs : List A) → In x (filter t xs) → In x xs × (t x ≡ true)
In-filter t x [] h = elim h [ ]
In-filter t x (y ∷ xs) h = In-filter_case t x y xs (t y) refl (In-filter t x xs) h

In-filter_map_case : {A B : Type 0} (f : A → Option B) (x : B) (y : A) (xs : List A) (o : Option B) → f y ≡ o → (In x (filter_map f xs) → (a : A) × (In a xs) × (f a ≡ Some x))
    → In x (cons_option o (filter_map f xs)) → (a : A) × (In a (y ∷ xs)) × (f a ≡ Some x)
In-filter_map_case f x y xs (Some b) e rec (here s) = (y, here refl, e ∙ ap Some (sym s))
In-filter_map_case f x y xs (Some b) e rec (there g) = let r = rec g in (r.0, there r.1, r.2)
In-filter_map_case f x y xs None e rec g = let r = rec g in (r.0, there r.1, r.2)

pub In-filter_map : {A B : Type 0} (f : A → Option B) (x : B) (xs : List A) → In x (filter_map f xs) → (a : A) × (In a xs) × (f a ≡ Some x)
In-filter_map f x [] h = elim h [ ]
In-filter_map f x (y ∷ xs) h = In-filter_map_case f x y xs (f y) refl (In-filter_map f x xs) h

-- in a list that stands under a test
pub In-if : {A : Type 0} (x : A) (xs : List A) (b : Bool) → In x (if b then xs else []) → (b ≡ true) × In x xs
In-if x xs true h = (refl, h)
In-if x xs false h = elim h [ ]

pub In-unless : {A : Type 0} (x : A) (xs : List A) (b : Bool) → In x (if b then [] else xs) → (b ≡ false) × In x xs
In-unless x xs true h = elim h [ ]
In-unless x xs false h = (refl, h)

pub Some-if : {A : Type 0} (x y : A) (b : Bool) → (if b then Some x else None) ≡ Some y → (b ≡ true) × (x ≡ y)
Some-if x y true h = (refl, cc)
Some-if x y false h = cc

pub not_true : (b : Bool) → not b ≡ true → b ≡ false
not_true true e = sym e
not_true false e = refl

pub and_both : (a b : Bool) → (a && b) ≡ true → (a ≡ true) × (b ≡ true)
and_both true b h = (refl, h)
and_both false b h = cc

pub or_either : (a b : Bool) → (a || b) ≡ true → (a ≡ true) ⊎ (b ≡ true)
or_either true b h = inl refl
or_either false b h = inr h

pub or_right : (a b : Bool) → b ≡ true → (a || b) ≡ true
or_right true b h = refl
or_right false b h = h

pub or_left : (a b : Bool) → a ≡ true → (a || b) ≡ true
or_left true b h = refl
or_left false b h = cc

pub and_true : (a b : Bool) → a ≡ true → b ≡ true → (a && b) ≡ true
and_true true b h g = g
and_true false b h g = cc

-- two numbers that the test finds equal
pub same_number : (m n : ℕ) → (m == n) ≡ true → m ≡ n
same_number m n h = grind (arith, nat_tests)

pub same_test : (n : ℕ) → (n == n) ≡ true
same_test n = grind (arith, nat_tests)

-- a number that the list has at an index is a member
member_at_case : (r m : ℕ) (ms : List ℕ) (b : Bool) → (r == m) ≡ b → (member r ms ≡ true ⊎ (r ≡ m)) → (b || member r ms) ≡ true
member_at_case r m ms true e h = refl
member_at_case r m ms false e (inl h) = h
member_at_case r m ms false e (inr h) = absurd (grind (arith, nat_tests))

pub member_at : (rs : List ℕ) (k r : ℕ) → slice_get rs k ≡ Some r → member r rs ≡ true
member_at [] k r h = cc
member_at (m ∷ ms) zero r h = member_at_case r m ms (r == m) refl (inr cc)
member_at (m ∷ ms) (suc k) r h = member_at_case r m ms (r == m) refl (inl (member_at ms k r h))

pub same_step_is : (s t : PathStep) → same_step s t ≡ true → s ≡ t
same_step_is (Field a) (Field b) h = ap Field (same_number a b h)
same_step_is Element Element h = refl
same_step_is Key Key h = refl
same_step_is Value Value h = refl
same_step_is Channel Channel h = refl
same_step_is (Capture a) (Capture b) h = ap Capture (same_number a b h)
same_step_is _ _ h = cc

pub same_step_self : (s : PathStep) → same_step s s ≡ true
same_step_self (Field a) = same_test a
same_step_self Element = refl
same_step_self Key = refl
same_step_self Value = refl
same_step_self Channel = refl
same_step_self (Capture a) = same_test a

pub same_path_is : (p q : List PathStep) → same_path p q ≡ true → p ≡ q
same_path_is [] [] h = refl
same_path_is [] (t ∷ q) h = cc
same_path_is (s ∷ p) [] h = cc
same_path_is (s ∷ p) (t ∷ q) h = let b = and_both (same_step s t) (same_path p q) h in let x = same_step_is s t b.0 in let y = same_path_is p q b.1 in cc

-- a path that a list has
pub has_path_in : (q : List PathStep) (qs : List (List PathStep)) → has_path q qs ≡ true → In q qs
has_path_in q [] h = cc
has_path_in q (p ∷ ps) h = elim (or_either (same_path q p) (has_path q ps) h) [ inl a ↦ here (same_path_is q p a) | inr b ↦ there (has_path_in q ps b) ]

begins_itself : (p : List PathStep) → begins_with p p ≡ true
begins_itself [] = refl
begins_itself (s ∷ p) = and_true (same_step s s) (begins_with p p) (same_step_self s) (begins_itself p)

-- leads on to itself
pub leads_itself : (q : List PathStep) (qs : List (List PathStep)) → has_path q qs ≡ true → leads_on q qs ≡ true
leads_itself q [] h = h
leads_itself q (p ∷ ps) h = elim (or_either (same_path q p) (has_path q ps) h) [
  | inl a ↦ or_left (begins_with q p) (leads_on q ps) (subst (λ x. begins_with q x ≡ true) (same_path_is q p a) (begins_itself q))
  | inr b ↦ or_right (begins_with q p) (leads_on q ps) (leads_itself q ps b)
]

-- the path of what stands below another
pub below_is : (p q q' : List PathStep) → below p q ≡ Some q' → q ≡ p ++ q'
below_is [] q q' h = cc
below_is (s ∷ p) [] q' h = cc
below_is (s ∷ p) (t ∷ q) q' h = below_case (same_step s t) refl h (below_is p q q')
  where
    below_case : (b : Bool) → same_step s t ≡ b → (if b then below p q else None) ≡ Some q' → (below p q ≡ Some q' → q ≡ p ++ q') → (t ∷ q) ≡ (s ∷ (p ++ q'))
    below_case true e h rec = let a = same_step_is s t e in let b = rec h in cc
    below_case false e h rec = cc

-- the number of what is in a list
pub number_of : {A : Type 0} (x : A) (xs : List A) → In x xs → (a : ℕ) × (slice_get xs a ≡ Some x)
number_of x (y ∷ ys) (here e) = (0, ap Some (sym e))
number_of x (y ∷ ys) (there m) = let r = number_of x ys m in (suc r.0, r.1)
number_of x [] m = elim m [ ]

pub in_of_get : {X : Type 0} (xs : List X) (m : ℕ) (x : X) → slice_get xs m ≡ Some x → In x xs
in_of_get [] m x h = absurd cc
in_of_get (y ∷ xs) zero x h = here cc
in_of_get (y ∷ xs) (suc m) x h = there (in_of_get xs m x h)

-- the first item of a list that has any
pub first_of_list : {X : Type 0} (xs : List X) (x : X) → In x xs → (y : X) × (slice_get xs 0 ≡ Some y)
first_of_list [] x m = elim m [ ]
first_of_list (y ∷ ys) x m = (y, refl)

pub get-append : {X : Type 0} (xs ys : List X) (m : ℕ) (x : X) → slice_get xs m ≡ Some x → slice_get (xs ++ ys) m ≡ Some x
get-append [] ys m x h = absurd cc
get-append (y ∷ xs) ys zero x h = h
get-append (y ∷ xs) ys (suc m) x h = get-append xs ys m x h

get-append_cases : {X : Type 0} (xs ys : List X) (m : ℕ) (x : X) → slice_get (xs ++ ys) m ≡ Some x → (slice_get xs m ≡ Some x) ⊎ In x ys
get-append_cases [] ys m x h = inr (in_of_get ys m x h)
get-append_cases (y ∷ xs) ys zero x h = inl h
get-append_cases (y ∷ xs) ys (suc m) x h = get-append_cases xs ys m x h

get-set_cases : {X : Type 0} (xs : List X) (g : ℕ) (new : X) (m : ℕ) (x : X) → slice_get (slice_set xs g new) m ≡ Some x → ((m ≡ g) × (x ≡ new)) ⊎ (slice_get xs m ≡ Some x)
get-set_cases [] g new m x h = inr h
get-set_cases (y ∷ xs) zero new zero x h = inl (refl, cc)
get-set_cases (y ∷ xs) zero new (suc m) x h = inr h
get-set_cases (y ∷ xs) (suc g) new zero x h = inr h
get-set_cases (y ∷ xs) (suc g) new (suc m) x h = elim (get-set_cases xs g new m x h) [ inl a ↦ inl (ap suc a.0, a.1) | inr b ↦ inr b ]

-- the list after one item is replaced and others are added
pub replaced_cases : {X : Type 0} (xs : List X) (g : ℕ) (new : X) (started : List X) (m : ℕ) (x : X) → slice_get (slice_set xs g new ++ started) m ≡ Some x
    → ((m ≡ g) × (x ≡ new)) ⊎ ((slice_get xs m ≡ Some x) ⊎ In x started)
replaced_cases xs g new started m x h = elim (get-append_cases (slice_set xs g new) started m x h) [
  | inl a ↦ elim (get-set_cases xs g new m x a) [ inl b ↦ inl b | inr b ↦ inr (inl b) ]
  | inr b ↦ inr (inr b)
]

get-set_at : {X : Type 0} (xs : List X) (g : ℕ) (new x : X) → slice_get xs g ≡ Some x → slice_get (slice_set xs g new) g ≡ Some new
get-set_at [] g new x h = absurd cc
get-set_at (y ∷ xs) zero new x h = refl
get-set_at (y ∷ xs) (suc g) new x h = get-set_at xs g new x h

get-set_beside : {X : Type 0} (xs : List X) (g : ℕ) (new : X) (m : ℕ) (x : X) → slice_get xs m ≡ Some x → (m ≡ g) ⊎ (slice_get (slice_set xs g new) m ≡ Some x)
get-set_beside [] g new m x h = inr h
get-set_beside (y ∷ xs) zero new zero x h = inl refl
get-set_beside (y ∷ xs) zero new (suc m) x h = inr h
get-set_beside (y ∷ xs) (suc g) new zero x h = inr h
get-set_beside (y ∷ xs) (suc g) new (suc m) x h = elim (get-set_beside xs g new m x h) [ inl a ↦ inl (ap suc a) | inr b ↦ inr b ]

-- an item that stays, or is the one that is replaced
pub replaced_keeps : {X : Type 0} (xs : List X) (g : ℕ) (new : X) (started : List X) (m : ℕ) (x : X) → slice_get xs m ≡ Some x → (m ≡ g) ⊎ (slice_get (slice_set xs g new ++ started) m ≡ Some x)
replaced_keeps xs g new started m x h = elim (get-set_beside xs g new m x h) [ inl a ↦ inl a | inr b ↦ inr (get-append (slice_set xs g new) started m x b) ]

pub replaced_at : {X : Type 0} (xs : List X) (g : ℕ) (new : X) (started : List X) (x : X) → slice_get xs g ≡ Some x → slice_get (slice_set xs g new ++ started) g ≡ Some new
replaced_at xs g new started x h = get-append (slice_set xs g new) started g new (get-set_at xs g new x h)
