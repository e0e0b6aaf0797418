-- Locations by their site and path.
use Rattle.std.proofs.Common.{◌≡◌, true, ℕ, zero, suc, List, [], ◌∷◌, Some, refl, sym, ap, ◌∙◌, eqb-true, eq-eqb}
use Rattle.std.specs.Prelude.{slice_get}
use Rattle.std.proofs.lemmas.Bool.{and_parts, and_from}
use Rattle.argot_plain.specs.Lists.{In, here, there, same_step, same_path}
use Rattle.argot_text.specs.declared.path.PathStep.{PathStep}
use Rattle.argot_text.specs.declared.path.PathStep.TheVariants.{Field, Element, Key, Value, Channel, Capture}
use Rattle.argot_facts.specs.Numbers.{location}
use Rattle.argot_facts.specs.declared.pointing.Loc.{Loc}

same_step_is : (s t : PathStep) → same_step s t ≡ true → s ≡ t
same_step_is (Field a) (Field b) h = ap Field (eqb-true a b h)
same_step_is Element Element h = refl
same_step_is Key Key h = refl
same_step_is Value Value h = refl
same_step_is Channel Channel h = refl
same_step_is (Capture a) (Capture b) h = ap Capture (eqb-true a b h)
same_step_is _ _ h = cc

pub same_step_self : (s : PathStep) → same_step s s ≡ true
same_step_self (Field n) = eq-eqb n n refl
same_step_self Element = refl
same_step_self Key = refl
same_step_self Value = refl
same_step_self Channel = refl
same_step_self (Capture n) = eq-eqb n n refl

pub same_path_is : (p q : List PathStep) → same_path p q ≡ true → p ≡ q
same_path_is [] [] h = refl
same_path_is [] (t ∷ q) h = cc
same_path_is (s ∷ p) [] h = cc
same_path_is (s ∷ p) (t ∷ q) h = let b = and_parts (same_step s t) (same_path p q) h in let x = same_step_is s t b.0 in let y = same_path_is p q b.1 in cc

pub same_path_self : (p : List PathStep) → same_path p p ≡ true
same_path_self [] = refl
same_path_self (s ∷ p) = and_from (same_step s s) (same_path p p) (same_step_self s) (same_path_self p)

pub its_location : (l : Loc) (s : ℕ) (q : List PathStep) → l.site ≡ s → same_path l.path q ≡ true → l ≡ location s q
its_location l s q e h = ap (λ x. location x l.path) e ∙ ap (location s) (same_path_is l.path q h)

pub number_of : {A : Type 0} (x : A) (xs : List A) → In x xs → (a : ℕ) × (slice_get xs a ≡ Some x)
number_of x (y ∷ ys) (here e) = (0, ap Some (sym e))
number_of x (y ∷ ys) (there m) = let r = number_of x ys m in (suc r.0, r.1)
number_of x [] m = elim m [ ]

pub in_of_get : {X : Type 0} (xs : List X) (m : ℕ) (x : X) → slice_get xs m ≡ Some x → In x xs
in_of_get [] m x h = absurd cc
in_of_get (y ∷ xs) zero x h = here cc
in_of_get (y ∷ xs) (suc m) x h = there (in_of_get xs m x h)
