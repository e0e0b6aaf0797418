-- Paths, compared step by step.
use Rattle.std.proofs.Common.{◌≡◌, Bool, true, false, ℕ, zero, suc, ◌+◌, ◌<◌, ◌≤◌, List, [], ◌∷◌, ◌++◌, Some, arith, refl, sym, ap, ◌∙◌, take, drop, length-append}
use Rattle.std.specs.Prelude.{slice_get, length, ◌&&◌}
use Rattle.std.proofs.lemmas.Bool.{false_from_ne_true}
use Rattle.std.proofs.lemmas.Bool.{and_parts}
use Rattle.argot_plain.specs.Lists.{same_step, same_path, begins_with}
use Rattle.argot_text.specs.declared.path.PathStep.{PathStep}
use Rattle.argot_facts.specs.Numbers.{with_path, with_prefixes}
use Rattle.argot_points_rules.proofs.Counting.{drop_next}

same_length : (p q : List PathStep) → same_path p q ≡ true → length p ≡ length q
same_length [] [] h = refl
same_length [] (t ∷ q) h = cc
same_length (s ∷ p) [] h = cc
same_length (s ∷ p) (t ∷ q) h = ap suc (same_length p q (and_parts (same_step s t) (same_path p q) h).1)

-- paths of two lengths are two
pub two_lengths : (p q : List PathStep) → (length p ≡ length q → ⊥) → same_path p q ≡ false
two_lengths p q h = false_from_ne_true (same_path p q) (λ e. h (same_length p q e))

begins_shorter : (p q : List PathStep) → begins_with p q ≡ true → length p ≤ length q
begins_shorter [] q h = omega arith
begins_shorter (s ∷ p) [] h = cc
begins_shorter (s ∷ p) (t ∷ q) h = omega (arith, begins_shorter p q (and_parts (same_step s t) (begins_with p q) h).1)

-- a longer path leads to no shorter one
pub longer : (p q : List PathStep) → length q < length p → begins_with p q ≡ false
longer p q h = false_from_ne_true (begins_with p q) (λ e. omega (arith, begins_shorter p q e))

and_assoc : (a b c : Bool) → (a && (b && c)) ≡ ((a && b) && c)
and_assoc true b c = refl
and_assoc false b c = refl

-- a path is two others where its front is the one and its rest the other
pub joined_is : (w p r : List PathStep) → length p ≤ length w → same_path w (p ++ r) ≡ (same_path (take (length p) w) p && same_path (drop (length p) w) r)
joined_is w [] r h = refl
joined_is [] (s ∷ p) r h = absurd (omega arith)
joined_is (t ∷ w) (s ∷ p) r h = ap (λ b. same_step t s && b) (joined_is w p r (omega arith)) ∙ and_assoc (same_step t s) (same_path (take (length p) w) p) (same_path (drop (length p) w) r)

pub joined_short : (w p r : List PathStep) → length w < length p → same_path w (p ++ r) ≡ false
joined_short w p r h = two_lengths w (p ++ r) (λ e. omega (arith, length-append p r))

take_suc : {X : Type 0} (xs : List X) (n : ℕ) (x : X) → slice_get xs n ≡ Some x → take (suc n) xs ≡ take n xs ++ x ∷ []
take_suc [] n x h = absurd cc
take_suc (y ∷ xs) zero x h = cc
take_suc (y ∷ xs) (suc n) x h = ap (λ ys. y ∷ ys) (take_suc xs n x h)

one_more : (n : ℕ) → suc n ≡ n + 1
one_more n = omega arith

take_next : {X : Type 0} (xs : List X) (n : ℕ) (x : X) → slice_get xs n ≡ Some x → take n xs ++ x ∷ [] ≡ take (n + 1) xs
take_next xs n x h = sym (take_suc xs n x h) ∙ ap (λ m. take m xs) (one_more n)

pub next_prefix : (qs : List (List PathStep)) (leaf : List PathStep) (n : ℕ) (s : PathStep) → slice_get leaf n ≡ Some s → with_prefixes qs (take n leaf) (drop n leaf) ≡ with_prefixes (with_path qs (take (n + 1) leaf)) (take (n + 1) leaf) (drop (n + 1) leaf)
next_prefix qs leaf n s h = ap (with_prefixes qs (take n leaf)) (drop_next leaf n s h) ∙ ap (λ front. with_prefixes (with_path qs front) front (drop (n + 1) leaf)) (take_next leaf n s h)
