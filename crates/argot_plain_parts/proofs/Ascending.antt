-- Paths that ascend are distinct.
use Rattle.std.proofs.Common.{◌≡◌, ℕ, ◌<◌, true, false, List, [], ◌∷◌, refl, sym, ap, ◌∙◌, inl, inr, arith, subst, eqb-true, ltb-true, drop, length-drop}
use Rattle.std.specs.Prelude.{◌==◌, ◌&&◌, not, nat_lt, length}
use Rattle.std.proofs.lemmas.List.{drop_all}
use Rattle.std.proofs.lemmas.Bool.{and_parts, and_from, or_cases, false_from_ne_true, cases_lt, lt-ltb}
use Rattle.argot_plain.specs.Lists.{same_path, has_path}
use Rattle.argot_plain_parts.proofs.Alike.{same_path_is}
use Rattle.argot_plain_parts.specs.Leaves.{rank, path_before, before_first, are_ascending, no_path_twice}
use Rattle.argot_text.specs.declared.path.PathStep.{PathStep}

-- the first path is the shorter one, or has the smaller first step that differs
data Before : List PathStep → List PathStep → Type 0 where
  by_end : {t : PathStep} {q : List PathStep} → Before [] (t ∷ q)
  by_step : {s t : PathStep} {p q : List PathStep} → rank s < rank t → Before (s ∷ p) (t ∷ q)
  by_rest : {s t : PathStep} {p q : List PathStep} → rank s ≡ rank t → Before p q → Before (s ∷ p) (t ∷ q)

before_is : (p q : List PathStep) → path_before p q ≡ true → Before p q
before_is [] [] h = absurd cc
before_is [] (t ∷ q) h = by_end
before_is (s ∷ p) [] h = absurd cc
before_is (s ∷ p) (t ∷ q) h = elim (or_cases (nat_lt (rank s) (rank t)) ((rank s == rank t) && path_before p q) h) [
  | inl a ↦ by_step (ltb-true (rank s) (rank t) a)
  | inr b ↦ let c = and_parts (rank s == rank t) (path_before p q) b in by_rest (eqb-true (rank s) (rank t) c.0) (before_is p q c.1)
]

in_turn : (p q r : List PathStep) → Before p q → Before q r → Before p r
in_turn [] [] r a b = elim a [ ]
in_turn [] (t ∷ q) [] a b = elim b [ ]
in_turn [] (t ∷ q) (u ∷ r) by_end b = by_end
in_turn (s ∷ p) [] r a b = elim a [ ]
in_turn (s ∷ p) (t ∷ q) [] a b = elim b [ ]
in_turn (s ∷ p) (t ∷ q) (u ∷ r) (by_step a) (by_step b) = by_step (omega arith)
in_turn (s ∷ p) (t ∷ q) (u ∷ r) (by_step a) (by_rest e b) = by_step (omega arith)
in_turn (s ∷ p) (t ∷ q) (u ∷ r) (by_rest d a) (by_step b) = by_step (omega arith)
in_turn (s ∷ p) (t ∷ q) (u ∷ r) (by_rest d a) (by_rest e b) = by_rest (d ∙ e) (in_turn p q r a b)

not_itself : (p : List PathStep) → Before p p → ⊥
not_itself [] b = elim b [ ]
not_itself (s ∷ p) (by_step a) = omega arith
not_itself (s ∷ p) (by_rest e b) = not_itself p b

none_same : (p : List PathStep) (qs : List (List PathStep)) → are_ascending qs ≡ true → ((q : List PathStep) (rest : List (List PathStep)) → qs ≡ q ∷ rest → Before p q) → has_path p qs ≡ true → ⊥
none_same p [] h first has = cc
none_same p (q ∷ qs) h first has =
    let b = first q qs refl in
    let a = and_parts (before_first q qs) (are_ascending qs) h in
    elim (or_cases (same_path p q) (has_path p qs) has) [
      | inl same ↦ not_itself p (subst (Before p) (sym (same_path_is p q same)) b)
      | inr later ↦ none_same p qs a.1 (λ r rest e. in_turn p q r b (before_is q r (subst (λ (l : List (List PathStep)). before_first q l ≡ true) e a.0))) later
    ]

pub ascending_distinct : (qs : List (List PathStep)) → are_ascending qs ≡ true → no_path_twice qs ≡ true
ascending_distinct [] h = refl
ascending_distinct (q ∷ qs) h =
    let a = and_parts (before_first q qs) (are_ascending qs) h in
    let no = false_from_ne_true (has_path q qs) (none_same q qs a.1 (λ r rest e. before_is q r (subst (λ (l : List (List PathStep)). before_first q l ≡ true) e a.0))) in
    and_from (not (has_path q qs)) (no_path_twice qs) (ap not no) (ascending_distinct qs a.1)

pub past_end : (p : List PathStep) → path_before p [] ≡ false
past_end [] = refl
past_end (s ∷ p) = refl

from_end : (q : List PathStep) → path_before [] q ≡ nat_lt 0 (length q)
from_end [] = refl
from_end (t ∷ q) = sym (lt-ltb 0 (length (t ∷ q)) (omega arith))

same_test : (a b c d : ℕ) → (a < b → c < d) → (c < d → a < b) → nat_lt a b ≡ nat_lt c d
same_test a b c d f g = elim (cases_lt a b) [
  | inl low ↦ lt-ltb a b low ∙ sym (lt-ltb c d (f low))
  | inr high ↦ elim (cases_lt c d) [
    | inl low ↦ lt-ltb a b (g low) ∙ sym (lt-ltb c d low)
    | inr over ↦ false_from_ne_true (nat_lt a b) (λ e. let x = ltb-true a b e in omega arith) ∙ sym (false_from_ne_true (nat_lt c d) (λ e. let x = ltb-true c d e in omega arith))
  ]
]

-- where the first path ends without a difference, it stands before a longer one
pub at_end : (a b : List PathStep) (n : ℕ) → n ≡ length a → path_before (drop n a) (drop n b) ≡ path_before a b → nat_lt (length a) (length b) ≡ path_before a b
at_end a b n is same =
    let ended : drop n a ≡ [] = drop_all n a (omega arith) in
    ap (λ m. nat_lt m (length b)) (sym is)
    ∙ same_test n (length b) 0 (length (drop n b)) (λ x. omega (arith, length-drop n b)) (λ x. omega (arith, length-drop n b))
    ∙ sym (from_end (drop n b)) ∙ ap (λ (x : List PathStep). path_before x (drop n b)) (sym ended) ∙ same
