-- What the tests of lists say.
use Rattle.std.proofs.Common.{◌≡◌, ℕ, zero, suc, ◌<◌, Bool, true, false, List, [], ◌∷◌, ◌++◌, Some, None, Option, map, refl, sym, ap, ◌∙◌, inl, inr, subst, eqb-true, eq-eqb, ltb-true}
use Rattle.std.specs.Prelude.{slice_get, ◌==◌, not, nat_lt}
use Rattle.std.specs.List.{filter_map}
use Rattle.std.proofs.lemmas.Bool.{and_parts, and_from, or_cases, or_left, or_right}
use Rattle.argot_plain.specs.Lists.{In, here, there, IsDistinct, same_step, same_path, has_path, below, member, without_first}
use Rattle.argot_plain_parts.specs.Leaves.{same_paths, is_root, is_of_element, are_of_elements, is_of_capture, are_of_captures, same_elements, are_joined, no_path_twice, is_next, behind_next, same_below}
use Rattle.argot_plain_parts.specs.Numbers.{all_below, no_number_twice}
use Rattle.argot_text.specs.declared.path.PathStep.{PathStep}
use Rattle.argot_text.specs.declared.path.PathStep.TheVariants.{Field, Element, Key, Value, Channel, Capture}

same_step_is : (s t : PathStep) → same_step s t ≡ true → s ≡ t
same_step_is (Field a) (Field b) h = ap Field (eqb-true a b h)
same_step_is Element Element h = refl
same_step_is Key Key h = refl
same_step_is Value Value h = refl
same_step_is Channel Channel h = refl
same_step_is (Capture a) (Capture b) h = ap Capture (eqb-true a b h)
same_step_is _ _ h = cc

pub same_path_is : (p q : List PathStep) → same_path p q ≡ true → p ≡ q
same_path_is [] [] h = refl
same_path_is [] (t ∷ q) h = cc
same_path_is (s ∷ p) [] h = cc
same_path_is (s ∷ p) (t ∷ q) h = let b = and_parts (same_step s t) (same_path p q) h in let x = same_step_is s t b.0 in let y = same_path_is p q b.1 in cc

pub same_paths_is : (ps qs : List (List PathStep)) → same_paths ps qs ≡ true → ps ≡ qs
same_paths_is [] [] h = refl
same_paths_is [] (q ∷ qs) h = cc
same_paths_is (p ∷ ps) [] h = cc
same_paths_is (p ∷ ps) (q ∷ qs) h = let b = and_parts (same_path p q) (same_paths ps qs) h in let x = same_path_is p q b.0 in let y = same_paths_is ps qs b.1 in cc

pub root_is : (ps : List (List PathStep)) → is_root ps ≡ true → ps ≡ [] ∷ []
root_is [] h = cc
root_is ([] ∷ []) h = refl
root_is ([] ∷ q ∷ qs) h = cc
root_is ((s ∷ p) ∷ qs) h = cc

element_is : (q : List PathStep) → is_of_element q ≡ true → (rest : List PathStep) × (q ≡ Element ∷ rest)
element_is [] h = absurd cc
element_is (Element ∷ p) h = (p, refl)
element_is (Field n ∷ p) h = absurd cc
element_is (Key ∷ p) h = absurd cc
element_is (Value ∷ p) h = absurd cc
element_is (Channel ∷ p) h = absurd cc
element_is (Capture n ∷ p) h = absurd cc

pub elements_are : (qs : List (List PathStep)) (q : List PathStep) → are_of_elements qs ≡ true → In q qs → (rest : List PathStep) × (q ≡ Element ∷ rest)
elements_are [] q h m = elim m [ ]
elements_are (p ∷ ps) q h (here e) = subst (λ x. (rest : List PathStep) × (x ≡ Element ∷ rest)) (sym e) (element_is p (and_parts (is_of_element p) (are_of_elements ps) h).0)
elements_are (p ∷ ps) q h (there m) = elements_are ps q (and_parts (is_of_element p) (are_of_elements ps) h).1 m

capture_is : (q : List PathStep) → is_of_capture q ≡ true → (k : ℕ) × (rest : List PathStep) × (q ≡ Capture k ∷ rest)
capture_is [] h = absurd cc
capture_is (Capture n ∷ p) h = (n, p, refl)
capture_is (Field n ∷ p) h = absurd cc
capture_is (Key ∷ p) h = absurd cc
capture_is (Value ∷ p) h = absurd cc
capture_is (Channel ∷ p) h = absurd cc
capture_is (Element ∷ p) h = absurd cc

pub captures_are : (qs : List (List PathStep)) (q : List PathStep) → are_of_captures qs ≡ true → In q qs → (k : ℕ) × (rest : List PathStep) × (q ≡ Capture k ∷ rest)
captures_are [] q h m = elim m [ ]
captures_are (p ∷ ps) q h (here e) = subst (λ x. (k : ℕ) × (rest : List PathStep) × (x ≡ Capture k ∷ rest)) (sym e) (capture_is p (and_parts (is_of_capture p) (are_of_captures ps) h).0)
captures_are (p ∷ ps) q h (there m) = captures_are ps q (and_parts (is_of_capture p) (are_of_captures ps) h).1 m

pub same_elements_are : (ps qs : List (List PathStep)) → same_elements ps qs ≡ true → ps ≡ map without_first qs
same_elements_are [] [] h = refl
same_elements_are [] (q ∷ qs) h = cc
same_elements_are (p ∷ ps) [] h = cc
same_elements_are (p ∷ ps) (q ∷ qs) h = let b = and_parts (same_path p (without_first q)) (same_elements ps qs) h in let x = same_path_is p (without_first q) b.0 in let y = same_elements_are ps qs b.1 in cc

has_is : (q : List PathStep) (qs : List (List PathStep)) → has_path q qs ≡ true → In q qs
has_is q [] h = cc
has_is q (p ∷ ps) h = elim (or_cases (same_path q p) (has_path q ps) h) [ inl a ↦ here (same_path_is q p a) | inr b ↦ there (has_is q ps b) ]

pub joined_are : (front : List PathStep) (qs whole : List (List PathStep)) (q : List PathStep) → are_joined front qs whole ≡ true → In q qs → In (front ++ q) whole
joined_are front [] whole q h m = elim m [ ]
joined_are front (p ∷ ps) whole q h (here e) = has_is (front ++ q) whole (subst (λ x. has_path (front ++ x) whole ≡ true) (sym e) (and_parts (has_path (front ++ p) whole) (are_joined front ps whole) h).0)
joined_are front (p ∷ ps) whole q h (there m) = joined_are front ps whole q (and_parts (has_path (front ++ p) whole) (are_joined front ps whole) h).1 m

same_step_self : (s : PathStep) → same_step s s ≡ true
same_step_self (Field n) = eq-eqb n n refl
same_step_self Element = refl
same_step_self Key = refl
same_step_self Value = refl
same_step_self Channel = refl
same_step_self (Capture n) = eq-eqb n n refl

same_path_self : (p : List PathStep) → same_path p p ≡ true
same_path_self [] = refl
same_path_self (s ∷ p) = and_from (same_step s s) (same_path p p) (same_step_self s) (same_path_self p)

got_has : (q : List PathStep) (qs : List (List PathStep)) (n : ℕ) → slice_get qs n ≡ Some q → has_path q qs ≡ true
got_has q [] n h = absurd cc
got_has q (p ∷ ps) zero h = or_left (same_path q p) (has_path q ps) (subst (λ x. same_path q x ≡ true) (let e : q ≡ p = cc in e) (same_path_self q))
got_has q (p ∷ ps) (suc n) h = or_right (same_path q p) (has_path q ps) (got_has q ps n h)

not_true : (b : Bool) → not b ≡ true → b ≡ true → ⊥
not_true true h e = cc
not_true false h e = cc

pub paths_distinct : (qs : List (List PathStep)) → no_path_twice qs ≡ true → IsDistinct qs
paths_distinct [] h a b x e f = absurd cc
paths_distinct (p ∷ ps) h zero zero x e f = refl
paths_distinct (p ∷ ps) h zero (suc b) x e f = absurd (not_true (has_path p ps) (and_parts (not (has_path p ps)) (no_path_twice ps) h).0 (subst (λ y. has_path y ps ≡ true) (let s : x ≡ p = cc in s) (got_has x ps b f)))
paths_distinct (p ∷ ps) h (suc a) zero x e f = absurd (not_true (has_path p ps) (and_parts (not (has_path p ps)) (no_path_twice ps) h).0 (subst (λ y. has_path y ps ≡ true) (let s : x ≡ p = cc in s) (got_has x ps a e)))
paths_distinct (p ∷ ps) h (suc a) (suc b) x e f = ap suc (paths_distinct ps (and_parts (not (has_path p ps)) (no_path_twice ps) h).1 a b x e f)

got_member : (m : ℕ) (ns : List ℕ) (n : ℕ) → slice_get ns n ≡ Some m → member m ns ≡ true
got_member m [] n h = absurd cc
got_member m (p ∷ ps) zero h = or_left (m == p) (member m ps) (eq-eqb m p (let e : m ≡ p = cc in e))
got_member m (p ∷ ps) (suc n) h = or_right (m == p) (member m ps) (got_member m ps n h)

pub numbers_distinct : (ns : List ℕ) → no_number_twice ns ≡ true → IsDistinct ns
numbers_distinct [] h a b x e f = absurd cc
numbers_distinct (p ∷ ps) h zero zero x e f = refl
numbers_distinct (p ∷ ps) h zero (suc b) x e f = absurd (not_true (member p ps) (and_parts (not (member p ps)) (no_number_twice ps) h).0 (subst (λ y. member y ps ≡ true) (let s : x ≡ p = cc in s) (got_member x ps b f)))
numbers_distinct (p ∷ ps) h (suc a) zero x e f = absurd (not_true (member p ps) (and_parts (not (member p ps)) (no_number_twice ps) h).0 (subst (λ y. member y ps ≡ true) (let s : x ≡ p = cc in s) (got_member x ps a e)))
numbers_distinct (p ∷ ps) h (suc a) (suc b) x e f = ap suc (numbers_distinct ps (and_parts (not (member p ps)) (no_number_twice ps) h).1 a b x e f)

next_is : (q : List PathStep) (ts : List (List PathStep)) → is_next (Some q) ts ≡ true → ts ≡ q ∷ behind_next (Some q) ts
next_is q [] h = cc
next_is q (t ∷ ts) h = ap (λ x. x ∷ ts) (sym (same_path_is q t h))

-- the list that goes on with the next path, where there is one
goes_on : (o : Option (List PathStep)) (path : List PathStep) (qs ts : List (List PathStep)) → is_next o ts ≡ true → behind_next o ts ≡ filter_map (below path) qs → (q : List PathStep) → below path q ≡ o → ts ≡ filter_map (below path) (q ∷ qs)
goes_on None path qs ts h rest q e = rw e rest
goes_on (Some left) path qs ts h rest q e = rw e (next_is left ts h ∙ ap (λ x. left ∷ x) rest)

pub below_are : (path : List PathStep) (qs ts : List (List PathStep)) → same_below path qs ts ≡ true → ts ≡ filter_map (below path) qs
below_are path [] [] h = refl
below_are path [] (t ∷ ts) h = cc
below_are path (q ∷ qs) ts h =
    let b = and_parts (is_next (below path q) ts) (same_below path qs (behind_next (below path q) ts)) h in
    goes_on (below path q) path qs ts b.0 (below_are path qs (behind_next (below path q) ts) b.1) q refl

pub all_are_below : (n : ℕ) (rs : List ℕ) (r : ℕ) → all_below n rs ≡ true → In r rs → r < n
all_are_below n [] r h m = elim m [ ]
all_are_below n (s ∷ rs) r h (here e) = subst (λ x. x < n) (sym e) (ltb-true s n (and_parts (nat_lt s n) (all_below n rs) h).0)
all_are_below n (s ∷ rs) r h (there m) = all_are_below n rs r (and_parts (nat_lt s n) (all_below n rs) h).1 m
