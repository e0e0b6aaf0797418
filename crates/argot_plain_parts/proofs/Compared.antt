-- Paths, compared step by step.
use Rattle.std.proofs.Common.{◌≡◌, Bool, true, false, suc, ◌<◌, ◌≤◌, List, [], ◌∷◌, ◌++◌, Some, None, arith, refl, sym, ap, ◌∙◌, take, drop, length-append, inl, inr}
use Rattle.std.specs.Prelude.{length, ◌&&◌}
use Rattle.std.proofs.lemmas.Bool.{false_from_ne_true}
use Rattle.std.proofs.lemmas.Bool.{and_parts, cases_Bool}
use Rattle.argot_plain.specs.Lists.{same_step, same_path, begins_with, below, without_first}
use Rattle.argot_plain_parts.specs.Leaves.{same_paths, same_elements}
use Rattle.argot_text.specs.declared.path.PathStep.{PathStep}

same_length : (p q : List PathStep) → same_path p q ≡ true → length p ≡ length q
same_length [] [] h = refl
same_length [] (t ∷ q) h = cc
same_length (s ∷ p) [] h = cc
same_length (s ∷ p) (t ∷ q) h = ap suc (same_length p q (and_parts (same_step s t) (same_path p q) h).1)

-- paths of two lengths are two
pub two_lengths : (p q : List PathStep) → (length p ≡ length q → ⊥) → same_path p q ≡ false
two_lengths p q h = false_from_ne_true (same_path p q) (λ e. h (same_length p q e))

same_counts : (ps qs : List (List PathStep)) → same_paths ps qs ≡ true → length ps ≡ length qs
same_counts [] [] h = refl
same_counts [] (q ∷ qs) h = cc
same_counts (p ∷ ps) [] h = cc
same_counts (p ∷ ps) (q ∷ qs) h = ap suc (same_counts ps qs (and_parts (same_path p q) (same_paths ps qs) h).1)

-- lists of two lengths are two
pub two_counts : (ps qs : List (List PathStep)) → (length ps ≡ length qs → ⊥) → same_paths ps qs ≡ false
two_counts ps qs h = false_from_ne_true (same_paths ps qs) (λ e. h (same_counts ps qs e))

same_sizes : (ps qs : List (List PathStep)) → same_elements ps qs ≡ true → length ps ≡ length qs
same_sizes [] [] h = refl
same_sizes [] (q ∷ qs) h = cc
same_sizes (p ∷ ps) [] h = cc
same_sizes (p ∷ ps) (q ∷ qs) h = ap suc (same_sizes ps qs (and_parts (same_path p (without_first q)) (same_elements ps qs) h).1)

pub two_sizes : (ps qs : List (List PathStep)) → (length ps ≡ length qs → ⊥) → same_elements ps qs ≡ false
two_sizes ps qs h = false_from_ne_true (same_elements ps qs) (λ e. h (same_sizes ps qs e))

and_assoc : (a b c : Bool) → (a && (b && c)) ≡ ((a && b) && c)
and_assoc true b c = refl
and_assoc false b c = refl

-- a path is two others where its front is the one and its rest the other
pub joined_is : (w p r : List PathStep) → length p ≤ length w → same_path (p ++ r) w ≡ (same_path p (take (length p) w) && same_path r (drop (length p) w))
joined_is w [] r h = refl
joined_is [] (s ∷ p) r h = absurd (omega arith)
joined_is (t ∷ w) (s ∷ p) r h = ap (λ b. same_step s t && b) (joined_is w p r (omega arith)) ∙ and_assoc (same_step s t) (same_path p (take (length p) w)) (same_path r (drop (length p) w))

pub joined_short : (w p r : List PathStep) → length w < length p → same_path (p ++ r) w ≡ false
joined_short w p r h = two_lengths (p ++ r) w (λ e. omega (arith, length-append p r))

begins_shorter : (p q : List PathStep) → begins_with p q ≡ true → length p ≤ length q
begins_shorter [] q h = omega arith
begins_shorter (s ∷ p) [] h = cc
begins_shorter (s ∷ p) (t ∷ q) h = omega (arith, begins_shorter p q (and_parts (same_step s t) (begins_with p q) h).1)

-- a longer path leads to no shorter one
pub longer : (p q : List PathStep) → length q < length p → begins_with p q ≡ false
longer p q h = false_from_ne_true (begins_with p q) (λ e. omega (arith, begins_shorter p q e))

pub begins_below : (p q : List PathStep) → begins_with p q ≡ true → below p q ≡ Some (drop (length p) q)
begins_below [] q h = refl
begins_below (s ∷ p) [] h = cc
begins_below (s ∷ p) (t ∷ q) h =
    let b = and_parts (same_step s t) (begins_with p q) h in
    rw b.0 (begins_below p q b.1)

pub begins_not : (p q : List PathStep) → begins_with p q ≡ false → below p q ≡ None
begins_not [] q h = cc
begins_not (s ∷ p) [] h = refl
begins_not (s ∷ p) (t ∷ q) h = elim (cases_Bool (same_step s t)) [
  | inl t ↦ rw t (begins_not p q (sym (ap (λ b. b && begins_with p q) t) ∙ h))
  | inr f ↦ rw f refl
]
