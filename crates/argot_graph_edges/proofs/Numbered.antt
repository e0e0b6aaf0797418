-- Nodes and their numbers.
use Rattle.std.proofs.Common.{◌≡◌, ℕ, ◌<◌, ◌≤◌, List, Some, arith, sym, ap, ◌∙◌, inl, inr, subst, refl}
use Rattle.std.specs.Prelude.{◌⊎◌, slice_get}
use Rattle.std.proofs.lemmas.Bool.{cases_lt, cases_eq}
use Rattle.argot_facts.specs.Graphs.{IsBefore, IsOrdered}
use Rattle.argot_facts.specs.declared.graphs.Edge.{Edge}
use Rattle.argot_facts.specs.declared.graphs.EdgeKind.{EdgeKind}
use Rattle.argot_facts.specs.declared.nodes.Node.{Node}
use Rattle.argot_facts.proofs.Listed.{Sorted, get_at, get_within}
use Rattle.argot_facts.proofs.Ordered.{ordered_sorted, before_on, never_both, neither}
use Rattle.argot_graph_edges.specs.Rows.{IsNumberedAs, Just}

module _ (ns : List Node) (ordered : IsOrdered IsBefore ns) where
  sorted : Sorted IsBefore ns
  sorted = ordered_sorted IsBefore before_on ns ordered

  -- a node has one number
  pub one_number : (m n : ℕ) (a : Node) → slice_get ns m ≡ Some a → slice_get ns n ≡ Some a → m ≡ n
  one_number m n a e f = elim (cases_eq m n) [
    | inl s ↦ s
    | inr s ↦ elim (cases_lt m n) [
      | inl l ↦ let h = sorted m n a a l e f in absurd (never_both a a h h)
      | inr l ↦ let h = sorted n m a a (omega arith) f e in absurd (never_both a a h h)
    ]
  ]

  -- the first node that doesn't stand before this one is this one, or it isn't there
  pub at_first : (first m : ℕ) (node : Node) → ((k : ℕ) (a : Node) → slice_get ns k ≡ Some a → k < first → IsBefore a node)
      → ((k : ℕ) (a : Node) → slice_get ns k ≡ Some a → first ≤ k → IsBefore a node → ⊥) → slice_get ns m ≡ Some node → m ≡ first
  at_first first m node before behind e = elim (cases_lt m first) [
    | inl l ↦ (let h = before m node e l in absurd (never_both node node h h))
    | inr l ↦ elim (cases_eq m first) [
      | inl s ↦ s
      | inr s ↦
          let x = get_at ns first (omega (arith, get_within ns m node e)) in
          absurd (behind first x.0 x.1 (omega arith) (sorted first m x.0 node (omega arith) x.1 e))
    ]
  ]

-- an edge between the nodes of these numbers
pub just_numbered : (ns : List Node) → IsOrdered IsBefore ns → (m n : ℕ) (a b : Node) (kind : EdgeKind) → slice_get ns m ≡ Some a → slice_get ns n ≡ Some b
    → (e : Edge) → (e ≡ record { from = m; to = n; kind = kind } → IsNumberedAs ns (Just a kind b) e) × (IsNumberedAs ns (Just a kind b) e → e ≡ record { from = m; to = n; kind = kind })
just_numbered ns ordered m n a b kind f g e = (
  λ s. subst (IsNumberedAs ns (Just a kind b)) (sym s) (record { from = a; to = b; is_from = f; is_to = g; row = (refl, refl, refl) }),
  λ x.
      let p = one_number ns ordered e.from m a (x.is_from ∙ ap Some x.row.0) f in
      let q = one_number ns ordered e.to n b (x.is_to ∙ ap Some x.row.2) g in
      ap (λ w. record { from = w; to = e.to; kind = e.kind }) p ∙ (ap (λ w. record { from = m; to = w; kind = e.kind }) q ∙ ap (λ w. record { from = m; to = n; kind = w }) x.row.1),
)
