-- Flows that are added one after the other.
use Rattle.std.proofs.Common.{◌≡◌, ℕ, ◌++◌, ◌∷◌, [], List, Some, refl, sym, ap, ◌∙◌, subst, inl, inr}
use Rattle.std.specs.Prelude.{◌⊎◌, slice_get}
use Rattle.argot_plain.specs.Lists.{In, here, there}
use Rattle.argot_facts.specs.Lists.{Joins}
use Rattle.argot_facts.specs.Reached.{IsEdgeIn, IsLesserRank}
use Rattle.argot_facts.specs.declared.findings.Flow.{Flow}
use Rattle.argot_facts.specs.declared.graphs.Edge.{Edge}
use Rattle.argot_facts.specs.declared.nodes.Node.{Node}
use Rattle.argot_facts.proofs.Listed.{In-append, In-left, In-right}
use Rattle.argot_flow_laws.proofs.Balanced.{facts_join}
use Rattle.argot_flow_ends.specs.Linking.{AddsFlows, IsLink, flow_of}
use Rattle.argot_flow_ends.specs.declared.lists.End.{End}

pub adds_none : (A : Flow → Type 0) (old : List Flow) → ((f : Flow) → A f → ⊥) → AddsFlows A old old
adds_none A old none f = (λ m. inl m, λ s. elim s [ inl m ↦ m | inr a ↦ absurd (none f a) ])

-- first those with the one property, then those with the other
pub adds_both : (A B C : Flow → Type 0) (a b c : List Flow) → ((f : Flow) → A f ⊎ B f → C f) → ((f : Flow) → C f → A f ⊎ B f) → AddsFlows A a b → AddsFlows B b c → AddsFlows C a c
adds_both A B C a b c to from v w f = (
  λ m. elim ((w f).0 m) [
    | inl n ↦ elim ((v f).0 n) [ inl o ↦ inl o | inr x ↦ inr (to f (inl x)) ]
    | inr x ↦ inr (to f (inr x))
  ],
  λ s. elim s [
    | inl m ↦ (w f).1 (inl ((v f).1 (inl m)))
    | inr x ↦ elim (from f x) [ inl y ↦ (w f).1 (inl ((v f).1 (inr y))) | inr y ↦ (w f).1 (inr y) ]
  ],
)

pub adds_as : (A B : Flow → Type 0) (a b : List Flow) → ((f : Flow) → A f → B f) → ((f : Flow) → B f → A f) → AddsFlows A a b → AddsFlows B a b
adds_as A B a b to from v f = (
  λ m. elim ((v f).0 m) [ inl n ↦ inl n | inr x ↦ inr (to f x) ],
  λ s. elim s [ inl m ↦ (v f).1 (inl m) | inr x ↦ (v f).1 (inr (from f x)) ],
)

-- what is said of one item more of a list
pub adds_more : {X : Type 0} (A : X → Flow → Type 0) (xs ys : List X) (x : X) (a b c : List Flow) → ys ≡ xs ++ x ∷ []
    → AddsFlows (λ f. (y : X) × In y xs × A y f) a b → AddsFlows (A x) b c → AddsFlows (λ f. (y : X) × In y ys × A y f) a c
adds_more {X} A xs ys x a b c e = adds_both (λ f. (y : X) × In y xs × A y f) (A x) (λ f. (y : X) × In y ys × A y f) a b c
    (λ f s. elim s [
      | inl h ↦ (h.0, subst (In h.0) (sym e) (In-left h.0 xs (x ∷ []) h.1), h.2)
      | inr h ↦ (x, subst (In x) (sym e) (In-right x xs (x ∷ []) (here refl)), h)
    ])
    (λ f h. elim (In-append h.0 xs (x ∷ []) (subst (In h.0) e h.1)) [ inl m ↦ inl (h.0, m, h.2) | inr m ↦ inr (subst (λ y. A y f) (only h.0 m) h.2) ])
  where
    only : (y : X) → In y (x ∷ []) → y ≡ x
    only y (here s) = s
    only y (there m) = elim m [ ]

-- the flow of two nodes that a realizable list joins
pub link_pushed : (edges : List Edge) (ns : List Node) (problem s : ℕ) (e : End) (a b : Node) (old : List Flow) → slice_get ns s ≡ Some a → slice_get ns e.node ≡ Some b → Joins (IsEdgeIn edges) s e.node
    → AddsFlows (IsLink edges ns problem s e) old (old ++ flow_of problem a b e.arg ∷ [])
link_pushed edges ns problem s e a b old ga gb joins f = (
  λ m. elim (In-append f old _ m) [ inl x ↦ inl x | inr x ↦ inr (record { joins = joins; from = a; to = b; is_from = ga; is_to = gb; flow = only x }) ],
  λ h. elim h [
    | inl x ↦ In-left f old _ x
    | inr x ↦ In-right f old _ (here (x.flow ∙ same x.from x.to x.is_from x.is_to))
  ],
)
  where
    only : In f (flow_of problem a b e.arg ∷ []) → f ≡ flow_of problem a b e.arg
    only (here x) = x
    only (there x) = elim x [ ]

    same : (c d : Node) → slice_get ns s ≡ Some c → slice_get ns e.node ≡ Some d
        → flow_of problem c d e.arg ≡ flow_of problem a b e.arg
    same c d gc gd =
        let x : Some c ≡ Some a = sym gc ∙ ga in
        let y : Some d ≡ Some b = sym gd ∙ gb in
        let x' : c ≡ a = cc in
        let y' : d ≡ b = cc in
        ap (λ (n : Node). flow_of problem n d e.arg) x'
        ∙ ap (λ (n : Node). flow_of problem a n e.arg) y'

-- a node that has a rank is joined
pub ranked_joins : (edges : List Edge) (s n r : ℕ) → IsLesserRank (IsEdgeIn edges) s n r → Joins (IsEdgeIn edges) s n
ranked_joins edges s n r h = facts_join (IsEdgeIn edges) (record { way = h.way; rounds = r; within = h.has.within })
