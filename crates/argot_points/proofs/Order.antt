-- Nodes in order, and where one stands in a list of them.
use Rattle.std.proofs.Common.{◌≡◌, ℕ, ◌<◌, List, Some, arith, sym, ap, ◌∙◌, inl, inr, subst}
use Rattle.std.specs.Prelude.{slice_get}
use Rattle.std.proofs.lemmas.Bool.{cases_lt, cases_eq}
use Rattle.argot_facts.specs.Graphs.{IsBefore, by_place, by_index, by_leaf}
use Rattle.argot_facts.specs.Numbers.{node}
use Rattle.argot_facts.specs.declared.nodes.Node.{Node}

pub never_both : (a b : Node) → IsBefore a b → IsBefore b a → ⊥
never_both a b (by_place h) (by_place k) = omega arith
never_both a b (by_place h) (by_index e k) = omega arith
never_both a b (by_place h) (by_leaf e f k) = omega arith
never_both a b (by_index e h) (by_place k) = omega arith
never_both a b (by_index e h) (by_index e' k) = omega arith
never_both a b (by_index e h) (by_leaf e' f k) = omega arith
never_both a b (by_leaf e f h) (by_place k) = omega arith
never_both a b (by_leaf e f h) (by_index e' k) = omega arith
never_both a b (by_leaf e f h) (by_leaf e' f' k) = omega arith

same_node : (a b : Node) → a.place ≡ b.place → a.index ≡ b.index → a.leaf ≡ b.leaf → a ≡ b
same_node a b p i l = ap (λ x. node x a.index a.leaf) p ∙ ap (λ x. node b.place x a.leaf) i ∙ ap (λ x. node b.place b.index x) l

pub neither : (a b : Node) → (IsBefore a b → ⊥) → (IsBefore b a → ⊥) → a ≡ b
neither a b h k = elim (cases_eq a.place b.place) [
  | inl p ↦ elim (cases_eq a.index b.index) [
    | inl i ↦ elim (cases_eq a.leaf b.leaf) [
      | inl l ↦ same_node a b p i l
      | inr l ↦ elim (cases_lt a.leaf b.leaf) [ inl m ↦ absurd (h (by_leaf p i m)) | inr m ↦ absurd (k (by_leaf (sym p) (sym i) (omega arith))) ]
    ]
    | inr i ↦ elim (cases_lt a.index b.index) [ inl m ↦ absurd (h (by_index p m)) | inr m ↦ absurd (k (by_index (sym p) (omega arith))) ]
  ]
  | inr p ↦ elim (cases_lt a.place b.place) [ inl m ↦ absurd (h (by_place m)) | inr m ↦ absurd (k (by_place (omega arith))) ]
]

module _ (nodes : List Node) (ordered : (m n : ℕ) (a b : Node) → m < n → slice_get nodes m ≡ Some a → slice_get nodes n ≡ Some b → IsBefore a b) where
  -- what stands before the node number m has a lesser number
  pub before_it : (k m : ℕ) (here node : Node) → slice_get nodes k ≡ Some here → slice_get nodes m ≡ Some node → IsBefore here node → k < m
  before_it k m here node e f h = elim (cases_lt k m) [
    | inl l ↦ l
    | inr l ↦ elim (cases_eq k m) [
      | inl s ↦ let x : here ≡ node = cc in absurd (never_both here here (subst (λ y. IsBefore here y) (sym x) h) (subst (λ y. IsBefore here y) (sym x) h))
      | inr s ↦ absurd (never_both here node h (ordered m k node here (omega arith) f e))
    ]
  ]

  -- a node has one number
  pub one_row : (m n : ℕ) (a : Node) → slice_get nodes m ≡ Some a → slice_get nodes n ≡ Some a → m ≡ n
  one_row m n a e f = elim (cases_eq m n) [
    | inl s ↦ s
    | inr s ↦ elim (cases_lt m n) [
      | inl l ↦ let h = ordered m n a a l e f in absurd (never_both a a h h)
      | inr l ↦ let h = ordered n m a a (omega arith) f e in absurd (never_both a a h h)
    ]
  ]
