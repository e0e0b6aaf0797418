-- What stands in the lists of rules: each rule of a list, and each rule that a list has.
use Rattle.std.proofs.Common.{◌≡◌, ℕ, zero, suc, ◌+◌, Bool, true, false, List, [], ◌∷◌, ◌++◌, Some, refl, sym, ap, inl, inr, arith, subst}
use Rattle.std.specs.Prelude.{◌⊎◌, slice_get, if◌then◌else◌}
use Rattle.argot_plain.specs.Lists.{In, here, there}
use Rattle.argot_text.specs.declared.path.PathStep.{PathStep}
use Rattle.argot_facts.specs.Numbers.{node}
use Rattle.argot_facts.specs.declared.nodes.Node.{Node}
use Rattle.argot_points_rules.specs.declared.rules.Owned.{Owned}
use Rattle.argot_points_rules.specs.declared.rules.Rule.TheVariants.{Copy, Shift, Keep, Load, Store}
use Rattle.argot_points_rules.specs.Column.{owned, copies, shifts, keeps, loads, stores, value_copies, value_loads, value_stores}

pub In-append : {A : Type 0} (x : A) (xs ys : List A) → In x (xs ++ ys) → In x xs ⊎ In x ys
In-append x [] ys h = inr h
In-append x (y ∷ xs) ys (here e) = inl (here e)
In-append x (y ∷ xs) ys (there h) = elim (In-append x xs ys h) [ inl a ↦ inl (there a) | inr b ↦ inr b ]

pub In-left : {A : Type 0} (x : A) (xs ys : List A) → In x xs → In x (xs ++ ys)
In-left x (y ∷ xs) ys (here e) = here e
In-left x (y ∷ xs) ys (there h) = there (In-left x xs ys h)
In-left x [] ys h = elim h [ ]

pub In-right : {A : Type 0} (x : A) (xs ys : List A) → In x ys → In x (xs ++ ys)
In-right x [] ys h = h
In-right x (y ∷ xs) ys h = there (In-right x xs ys h)

-- a list under a test
pub In-if : {A : Type 0} (x : A) (xs : List A) (b : Bool) → In x (if b then xs else []) → (b ≡ true) × In x xs
In-if x xs true h = (refl, h)
In-if x xs false h = elim h [ ]

pub if-In : {A : Type 0} (x : A) (xs : List A) (b : Bool) → b ≡ true → In x xs → In x (if b then xs else [])
if-In x xs true e h = h
if-In x xs false e h = cc

pub In-unless : {A : Type 0} (x : A) (xs : List A) (b : Bool) → In x (if b then [] else xs) → (b ≡ false) × In x xs
In-unless x xs true h = elim h [ ]
In-unless x xs false h = (refl, h)

pub unless-In : {A : Type 0} (x : A) (xs : List A) (b : Bool) → b ≡ false → In x xs → In x (if b then [] else xs)
unless-In x xs true e h = cc
unless-In x xs false e h = h

pub one-In : {A : Type 0} (x y : A) → In x (y ∷ []) → x ≡ y
one-In x y (here e) = e
one-In x y (there m) = elim m [ ]

pub each_copies : (P : Owned → Type 0) (o : Owned) (h : ℕ) (to : Node) (a : ℕ) (xs : List (ℕ × ℕ)) → In o (copies h to a xs) → ((x : ℕ × ℕ) → In x xs → P (owned h (Copy to (node x.0 x.1 a)))) → P o
each_copies P o h to a [] m f = elim m [ ]
each_copies P o h to a (x ∷ xs) (here e) f = subst P (sym e) (f x (here refl))
each_copies P o h to a (x ∷ xs) (there m) f = each_copies P o h to a xs m (λ y i. f y (there i))

pub copies_have : (h : ℕ) (to : Node) (a : ℕ) (xs : List (ℕ × ℕ)) (x : ℕ × ℕ) → In x xs → In (owned h (Copy to (node x.0 x.1 a))) (copies h to a xs)
copies_have h to a [] x m = elim m [ ]
copies_have h to a (y ∷ xs) x (here e) = here (ap (λ (x : ℕ × ℕ). owned h (Copy to (node x.0 x.1 a))) e)
copies_have h to a (y ∷ xs) x (there m) = there (copies_have h to a xs x m)

pub each_shifts : (P : Owned → Type 0) (o : Owned) (h : ℕ) (to : Node) (path : List PathStep) (xs : List (ℕ × ℕ)) → In o (shifts h to path xs) → ((x : ℕ × ℕ) → In x xs → P (owned h (Shift to (node x.0 x.1 0) path))) → P o
each_shifts P o h to path [] m f = elim m [ ]
each_shifts P o h to path (x ∷ xs) (here e) f = subst P (sym e) (f x (here refl))
each_shifts P o h to path (x ∷ xs) (there m) f = each_shifts P o h to path xs m (λ y i. f y (there i))

pub shifts_have : (h : ℕ) (to : Node) (path : List PathStep) (xs : List (ℕ × ℕ)) (x : ℕ × ℕ) → In x xs → In (owned h (Shift to (node x.0 x.1 0) path)) (shifts h to path xs)
shifts_have h to path [] x m = elim m [ ]
shifts_have h to path (y ∷ xs) x (here e) = here (ap (λ (x : ℕ × ℕ). owned h (Shift to (node x.0 x.1 0) path)) e)
shifts_have h to path (y ∷ xs) x (there m) = there (shifts_have h to path xs x m)

pub each_keeps : (P : Owned → Type 0) (o : Owned) (h : ℕ) (to : Node) (target : ℕ) (xs : List (ℕ × ℕ)) → In o (keeps h to target xs) → ((x : ℕ × ℕ) → In x xs → P (owned h (Keep to (node x.0 x.1 0) target))) → P o
each_keeps P o h to target [] m f = elim m [ ]
each_keeps P o h to target (x ∷ xs) (here e) f = subst P (sym e) (f x (here refl))
each_keeps P o h to target (x ∷ xs) (there m) f = each_keeps P o h to target xs m (λ y i. f y (there i))

pub keeps_have : (h : ℕ) (to : Node) (target : ℕ) (xs : List (ℕ × ℕ)) (x : ℕ × ℕ) → In x xs → In (owned h (Keep to (node x.0 x.1 0) target)) (keeps h to target xs)
keeps_have h to target [] x m = elim m [ ]
keeps_have h to target (y ∷ xs) x (here e) = here (ap (λ (x : ℕ × ℕ). owned h (Keep to (node x.0 x.1 0) target)) e)
keeps_have h to target (y ∷ xs) x (there m) = there (keeps_have h to target xs x m)

pub each_loads : (P : Owned → Type 0) (o : Owned) (h : ℕ) (to : Node) (path : List PathStep) (xs : List (ℕ × ℕ)) → In o (loads h to path xs) → ((x : ℕ × ℕ) → In x xs → P (owned h (Load to (node x.0 x.1 0) path))) → P o
each_loads P o h to path [] m f = elim m [ ]
each_loads P o h to path (x ∷ xs) (here e) f = subst P (sym e) (f x (here refl))
each_loads P o h to path (x ∷ xs) (there m) f = each_loads P o h to path xs m (λ y i. f y (there i))

pub loads_have : (h : ℕ) (to : Node) (path : List PathStep) (xs : List (ℕ × ℕ)) (x : ℕ × ℕ) → In x xs → In (owned h (Load to (node x.0 x.1 0) path)) (loads h to path xs)
loads_have h to path [] x m = elim m [ ]
loads_have h to path (y ∷ xs) x (here e) = here (ap (λ (x : ℕ × ℕ). owned h (Load to (node x.0 x.1 0) path)) e)
loads_have h to path (y ∷ xs) x (there m) = there (loads_have h to path xs x m)

pub each_stores : (P : Owned → Type 0) (o : Owned) (h : ℕ) (path : List PathStep) (source : Node) (xs : List (ℕ × ℕ)) → In o (stores h path source xs) → ((x : ℕ × ℕ) → In x xs → P (owned h (Store (node x.0 x.1 0) path source))) → P o
each_stores P o h path source [] m f = elim m [ ]
each_stores P o h path source (x ∷ xs) (here e) f = subst P (sym e) (f x (here refl))
each_stores P o h path source (x ∷ xs) (there m) f = each_stores P o h path source xs m (λ y i. f y (there i))

pub stores_have : (h : ℕ) (path : List PathStep) (source : Node) (xs : List (ℕ × ℕ)) (x : ℕ × ℕ) → In x xs → In (owned h (Store (node x.0 x.1 0) path source)) (stores h path source xs)
stores_have h path source [] x m = elim m [ ]
stores_have h path source (y ∷ xs) x (here e) = here (ap (λ (x : ℕ × ℕ). owned h (Store (node x.0 x.1 0) path source)) e)
stores_have h path source (y ∷ xs) x (there m) = there (stores_have h path source xs x m)

pub each_value_copies : (P : Owned → Type 0) (o : Owned) (h i k a : ℕ) (qs : List (List PathStep)) (xs : List (ℕ × ℕ)) → In o (value_copies h i k a qs xs)
    → ((c b : ℕ) (q : List PathStep) → c ≡ a + b → slice_get qs b ≡ Some q → (x : ℕ × ℕ) → In x xs → P (owned h (Copy (node i k c) (node x.0 x.1 c)))) → P o
each_value_copies P o h i k a [] xs m f = elim m [ ]
each_value_copies P o h i k a (q ∷ qs) xs m f = elim (In-append o (copies h (node i k a) a xs) (value_copies h i k (a + 1) qs xs) m) [
  | inl l ↦ each_copies P o h (node i k a) a xs l (λ x y. f a 0 q (omega arith) refl x y)
  | inr l ↦ each_value_copies P o h i k (a + 1) qs xs l (λ c b q e g x y. f c (suc b) q (omega (arith, e)) g x y)
]

pub value_copies_have : (h i k a : ℕ) (qs : List (List PathStep)) (xs : List (ℕ × ℕ)) (c b : ℕ) (q : List PathStep) → c ≡ a + b → slice_get qs b ≡ Some q → (x : ℕ × ℕ) → In x xs → In (owned h (Copy (node i k c) (node x.0 x.1 c))) (value_copies h i k a qs xs)
value_copies_have h i k a [] xs c b q e g x m = absurd cc
value_copies_have h i k a (p ∷ qs) xs c zero q e g x m =
    let z : a ≡ c = omega (arith, e) in let y : p ≡ q = cc in
    In-left (owned h (Copy (node i k c) (node x.0 x.1 c))) (copies h (node i k a) a xs) (value_copies h i k (a + 1) qs xs) (subst (λ c. In (owned h (Copy (node i k c) (node x.0 x.1 c))) (copies h (node i k a) a xs)) z (subst (λ q. In (owned h (Copy (node i k a) (node x.0 x.1 a))) (copies h (node i k a) a xs)) y (copies_have h (node i k a) a xs x m)))
value_copies_have h i k a (p ∷ qs) xs c (suc b) q e g x m = In-right (owned h (Copy (node i k c) (node x.0 x.1 c))) (copies h (node i k a) a xs) (value_copies h i k (a + 1) qs xs) (value_copies_have h i k (a + 1) qs xs c b q (omega (arith, e)) g x m)

pub each_value_loads : (P : Owned → Type 0) (o : Owned) (h i k a : ℕ) (qs : List (List PathStep)) (xs : List (ℕ × ℕ)) → In o (value_loads h i k a qs xs)
    → ((c b : ℕ) (q : List PathStep) → c ≡ a + b → slice_get qs b ≡ Some q → (x : ℕ × ℕ) → In x xs → P (owned h (Load (node i k c) (node x.0 x.1 0) q))) → P o
each_value_loads P o h i k a [] xs m f = elim m [ ]
each_value_loads P o h i k a (q ∷ qs) xs m f = elim (In-append o (loads h (node i k a) q xs) (value_loads h i k (a + 1) qs xs) m) [
  | inl l ↦ each_loads P o h (node i k a) q xs l (λ x y. f a 0 q (omega arith) refl x y)
  | inr l ↦ each_value_loads P o h i k (a + 1) qs xs l (λ c b q e g x y. f c (suc b) q (omega (arith, e)) g x y)
]

pub value_loads_have : (h i k a : ℕ) (qs : List (List PathStep)) (xs : List (ℕ × ℕ)) (c b : ℕ) (q : List PathStep) → c ≡ a + b → slice_get qs b ≡ Some q → (x : ℕ × ℕ) → In x xs → In (owned h (Load (node i k c) (node x.0 x.1 0) q)) (value_loads h i k a qs xs)
value_loads_have h i k a [] xs c b q e g x m = absurd cc
value_loads_have h i k a (p ∷ qs) xs c zero q e g x m =
    let z : a ≡ c = omega (arith, e) in let y : p ≡ q = cc in
    In-left (owned h (Load (node i k c) (node x.0 x.1 0) q)) (loads h (node i k a) p xs) (value_loads h i k (a + 1) qs xs) (subst (λ c. In (owned h (Load (node i k c) (node x.0 x.1 0) q)) (loads h (node i k a) p xs)) z (subst (λ q. In (owned h (Load (node i k a) (node x.0 x.1 0) q)) (loads h (node i k a) p xs)) y (loads_have h (node i k a) p xs x m)))
value_loads_have h i k a (p ∷ qs) xs c (suc b) q e g x m = In-right (owned h (Load (node i k c) (node x.0 x.1 0) q)) (loads h (node i k a) p xs) (value_loads h i k (a + 1) qs xs) (value_loads_have h i k (a + 1) qs xs c b q (omega (arith, e)) g x m)

pub each_value_stores : (P : Owned → Type 0) (o : Owned) (h i k a : ℕ) (qs : List (List PathStep)) (xs : List (ℕ × ℕ)) → In o (value_stores h i k a qs xs)
    → ((c b : ℕ) (q : List PathStep) → c ≡ a + b → slice_get qs b ≡ Some q → (x : ℕ × ℕ) → In x xs → P (owned h (Store (node x.0 x.1 0) q (node i k c)))) → P o
each_value_stores P o h i k a [] xs m f = elim m [ ]
each_value_stores P o h i k a (q ∷ qs) xs m f = elim (In-append o (stores h q (node i k a) xs) (value_stores h i k (a + 1) qs xs) m) [
  | inl l ↦ each_stores P o h q (node i k a) xs l (λ x y. f a 0 q (omega arith) refl x y)
  | inr l ↦ each_value_stores P o h i k (a + 1) qs xs l (λ c b q e g x y. f c (suc b) q (omega (arith, e)) g x y)
]

pub value_stores_have : (h i k a : ℕ) (qs : List (List PathStep)) (xs : List (ℕ × ℕ)) (c b : ℕ) (q : List PathStep) → c ≡ a + b → slice_get qs b ≡ Some q → (x : ℕ × ℕ) → In x xs → In (owned h (Store (node x.0 x.1 0) q (node i k c))) (value_stores h i k a qs xs)
value_stores_have h i k a [] xs c b q e g x m = absurd cc
value_stores_have h i k a (p ∷ qs) xs c zero q e g x m =
    let z : a ≡ c = omega (arith, e) in let y : p ≡ q = cc in
    In-left (owned h (Store (node x.0 x.1 0) q (node i k c))) (stores h p (node i k a) xs) (value_stores h i k (a + 1) qs xs) (subst (λ c. In (owned h (Store (node x.0 x.1 0) q (node i k c))) (stores h p (node i k a) xs)) z (subst (λ q. In (owned h (Store (node x.0 x.1 0) q (node i k a))) (stores h p (node i k a) xs)) y (stores_have h p (node i k a) xs x m)))
value_stores_have h i k a (p ∷ qs) xs c (suc b) q e g x m = In-right (owned h (Store (node x.0 x.1 0) q (node i k c))) (stores h p (node i k a) xs) (value_stores h i k (a + 1) qs xs) (value_stores_have h i k (a + 1) qs xs c b q (omega (arith, e)) g x m)
