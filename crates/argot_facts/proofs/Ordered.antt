-- Lists in order, and nodes in node order.
use Rattle.std.proofs.Common.{◌≡◌, ℕ, zero, suc, ◌+◌, ◌<◌, ◌≤◌, List, Some, arith, sym, ap, ◌∙◌, inl, inr, subst}
use Rattle.std.specs.Prelude.{slice_get}
use Rattle.std.proofs.lemmas.Bool.{cases_lt, cases_eq}
use Rattle.argot_facts.specs.Graphs.{IsOrdered, IsBefore, by_place, by_index, by_leaf}
use Rattle.argot_facts.specs.Numbers.{node}
use Rattle.argot_facts.specs.declared.nodes.Node.{Node}
use Rattle.argot_facts.proofs.Listed.{Sorted, get_at, get_within}

-- where each item stands before the next one, it stands before all that follow
pub ordered_sorted : {X : Type 0} (R : X → X → Type 0) → ((a b c : X) → R a b → R b c → R a c) → (xs : List X) → IsOrdered R xs → Sorted R xs
ordered_sorted R t xs o m zero a b l h k = absurd (omega arith)
ordered_sorted R t xs o m (suc n) a b l h k =
    let e : n + 1 ≡ suc n = omega arith in
    let k' : slice_get xs (n + 1) ≡ Some b = ap (slice_get xs) e ∙ k in
    elim (cases_eq m n) [
      | inl s ↦ o n a b (ap (slice_get xs) (sym s) ∙ h) k'
      | inr s ↦ let x = get_at xs n (omega (arith, get_within xs (suc n) b k)) in t a x.0 b (ordered_sorted R t xs o m n a x.0 (omega arith) h x.1) (o n x.0 b x.1 k')
    ]

pub sorted_ordered : {X : Type 0} (R : X → X → Type 0) (xs : List X) → Sorted R xs → IsOrdered R xs
sorted_ordered R xs s = λ k a b h f. s k (k + 1) a b (omega arith) h f

pub before_on : (a b c : Node) → IsBefore a b → IsBefore b c → IsBefore a c
before_on a b c (by_place h) (by_place k) = by_place (omega arith)
before_on a b c (by_place h) (by_index e k) = by_place (omega arith)
before_on a b c (by_place h) (by_leaf e f k) = by_place (omega arith)
before_on a b c (by_index e h) (by_place k) = by_place (omega arith)
before_on a b c (by_index e h) (by_index e' k) = by_index (e ∙ e') (omega arith)
before_on a b c (by_index e h) (by_leaf e' f k) = by_index (e ∙ e') (omega arith)
before_on a b c (by_leaf e f h) (by_place k) = by_place (omega arith)
before_on a b c (by_leaf e f h) (by_index e' k) = by_index (e ∙ e') (omega arith)
before_on a b c (by_leaf e f h) (by_leaf e' f' k) = by_leaf (e ∙ e') (f ∙ f') (omega arith)

pub never_both : (a b : Node) → IsBefore a b → IsBefore b a → ⊥
never_both a b (by_place h) (by_place k) = omega arith
never_both a b (by_place h) (by_index e k) = omega arith
never_both a b (by_place h) (by_leaf e f k) = omega arith
never_both a b (by_index e h) (by_place k) = omega arith
never_both a b (by_index e h) (by_index e' k) = omega arith
never_both a b (by_index e h) (by_leaf e' f k) = omega arith
never_both a b (by_leaf e f h) (by_place k) = omega arith
never_both a b (by_leaf e f h) (by_index e' k) = omega arith
never_both a b (by_leaf e f h) (by_leaf e' f' k) = omega arith

pub same_node : (a b : Node) → a.place ≡ b.place → a.index ≡ b.index → a.leaf ≡ b.leaf → a ≡ b
same_node a b p i l = ap (λ x. node x a.index a.leaf) p ∙ ap (λ x. node b.place x a.leaf) i ∙ ap (λ x. node b.place b.index x) l

pub neither : (a b : Node) → (IsBefore a b → ⊥) → (IsBefore b a → ⊥) → a ≡ b
neither a b h k = elim (cases_eq a.place b.place) [
  | inl p ↦ elim (cases_eq a.index b.index) [
    | inl i ↦ elim (cases_eq a.leaf b.leaf) [
      | inl l ↦ same_node a b p i l
      | inr l ↦ elim (cases_lt a.leaf b.leaf) [ inl m ↦ absurd (h (by_leaf p i m)) | inr m ↦ absurd (k (by_leaf (sym p) (sym i) (omega arith))) ]
    ]
    | inr i ↦ elim (cases_lt a.index b.index) [ inl m ↦ absurd (h (by_index p m)) | inr m ↦ absurd (k (by_index (sym p) (omega arith))) ]
  ]
  | inr p ↦ elim (cases_lt a.place b.place) [ inl m ↦ absurd (h (by_place m)) | inr m ↦ absurd (k (by_place (omega arith))) ]
]

module _ (nodes : List Node) (ordered : IsOrdered IsBefore nodes) where
  pub nodes_apart : Sorted IsBefore nodes
  nodes_apart = ordered_sorted IsBefore before_on nodes ordered

  -- a node has one number
  pub one_number : (m n : ℕ) (a : Node) → slice_get nodes m ≡ Some a → slice_get nodes n ≡ Some a → m ≡ n
  one_number m n a e f = elim (cases_eq m n) [
    | inl s ↦ s
    | inr s ↦ elim (cases_lt m n) [
      | inl l ↦ let h = nodes_apart m n a a l e f in absurd (never_both a a h h)
      | inr l ↦ let h = nodes_apart n m a a (omega arith) f e in absurd (never_both a a h h)
    ]
  ]

  -- all up to one that stands before a node stand before it
  pub low_moves : (n : Node) (k : ℕ) (x : Node) → slice_get nodes k ≡ Some x → IsBefore x n → (m : ℕ) (a : Node) → slice_get nodes m ≡ Some a → m < k + 1 → IsBefore a n
  low_moves n k x e h m a f l = elim (cases_eq m k) [
    | inl s ↦ let z : slice_get nodes k ≡ Some a = ap (slice_get nodes) (sym s) ∙ f in let y : x ≡ a = cc in subst (λ b. IsBefore b n) y h
    | inr s ↦ before_on a x n (nodes_apart m k a x (omega arith) f e) h
  ]

  -- and none from one on that doesn't
  pub high_moves : (n : Node) (k : ℕ) (x : Node) → slice_get nodes k ≡ Some x → (IsBefore x n → ⊥) → (m : ℕ) (a : Node) → slice_get nodes m ≡ Some a → k ≤ m → IsBefore a n → ⊥
  high_moves n k x e h m a f l b = elim (cases_eq m k) [
    | inl s ↦ let z : slice_get nodes k ≡ Some a = ap (slice_get nodes) (sym s) ∙ f in let y : a ≡ x = cc in h (subst (λ c. IsBefore c n) y b)
    | inr s ↦ h (before_on x a n (nodes_apart k m x a (omega arith) e f) b)
  ]
