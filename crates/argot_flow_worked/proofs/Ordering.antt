-- The worked lists are in order, and make a graph.
use Rattle.std.proofs.Common.{◌≡◌, ℕ, zero, suc, ◌+◌, ◌<◌, List, [], ◌∷◌, length, Some, refl, subst, sym, arith}
use Rattle.std.specs.Prelude.{slice_get}
use Rattle.argot_plain.specs.Lists.{In, here, there}
use Rattle.argot_facts.specs.Graphs as graphs
use Rattle.argot_facts.specs.Graphs.{Drawn, EdgeBefore, IsBefore, IsGraph, IsOrdered}
use Rattle.argot_facts.specs.declared.graphs.Edge.{Edge}
use Rattle.argot_facts.specs.declared.graphs.EdgeKind.{EdgeKind}
use Rattle.argot_facts.specs.declared.graphs.EdgeKind.TheVariants.{Plain, Call, Return}
use Rattle.argot_facts.proofs.Listed.{Sorted, sorted_cons, get_within}
use Rattle.argot_facts.proofs.Ordered.{sorted_ordered}
use Rattle.argot_flow_worked.specs.Worked.{call_edges, edge, four_nodes, leaf}

no_items : {X : Type 0} (R : X → X → Type 0) → Sorted R []
no_items R m n a b l h k = absurd (omega (arith, get_within [] n b k))

-- where each item stands before the one behind it, the list is in order
ordered_four : {X : Type 0} (R : X → X → Type 0) (x y z w : X) → R x y → R x z → R x w → R y z → R y w → R z w → IsOrdered R (x ∷ y ∷ z ∷ w ∷ [])
ordered_four {X = X} R x y z w xy xz xw yz yw zw = sorted_ordered R (x ∷ y ∷ z ∷ w ∷ [])
    (sorted_cons R x (y ∷ z ∷ w ∷ [])
    (sorted_cons R y (z ∷ w ∷ [])
    (sorted_cons R z (w ∷ []) (sorted_cons R w [] (no_items R) (λ b m. elim m [ ])) by_last)
    by_third)
    by_second)
  where
    by_last : (b : X) → In b (w ∷ []) → R z b
    by_last b (here e) = subst (R z) (sym e) zw
    by_last b (there m) = elim m [ ]

    by_third : (b : X) → In b (z ∷ w ∷ []) → R y b
    by_third b (here e) = subst (R y) (sym e) yz
    by_third b (there (here e)) = subst (R y) (sym e) yw
    by_third b (there (there m)) = elim m [ ]

    by_second : (b : X) → In b (y ∷ z ∷ w ∷ []) → R x b
    by_second b (here e) = subst (R x) (sym e) xy
    by_second b (there (here e)) = subst (R x) (sym e) xz
    by_second b (there (there (here e))) = subst (R x) (sym e) xw
    by_second b (there (there (there m))) = elim m [ ]

before : (a b : ℕ) → a < b → IsBefore (leaf a) (leaf b)
before a b l = graphs.by_leaf refl refl l

rises : {b d : ℕ} {k l : EdgeKind} (a c : ℕ) → a < c → EdgeBefore (edge a b k) (edge c d l)
rises a c l = graphs.by_from l

ends : (e : Edge) → In e call_edges → (e.from < 4) × (e.to < 4)
ends e (here q) = subst (λ (f : Edge). (f.from < 4) × (f.to < 4)) (sym q) (omega arith, omega arith)
ends e (there (here q)) = subst (λ (f : Edge). (f.from < 4) × (f.to < 4)) (sym q) (omega arith, omega arith)
ends e (there (there (here q))) = subst (λ (f : Edge). (f.from < 4) × (f.to < 4)) (sym q) (omega arith, omega arith)
ends e (there (there (there (here q)))) = subst (λ (f : Edge). (f.from < 4) × (f.to < 4)) (sym q) (omega arith, omega arith)
ends e (there (there (there (there m)))) = elim m [ ]

pub worked_graph : IsGraph (record { nodes = four_nodes; edges = call_edges })
worked_graph = record {
  nodes = ordered_four IsBefore (leaf 0) (leaf 1) (leaf 2) (leaf 3) (before 0 1 (omega arith)) (before 0 2 (omega arith)) (before 0 3 (omega arith)) (before 1 2 (omega arith)) (before 1 3 (omega arith)) (before 2 3 (omega arith));
  edges = ordered_four EdgeBefore (edge 0 1 (Call 5)) (edge 1 2 Plain) (edge 2 3 (Return 5)) (edge 3 1 (Call 6)) (rises 0 1 (omega arith)) (rises 0 2 (omega arith)) (rises 0 3 (omega arith)) (rises 1 2 (omega arith)) (rises 1 3 (omega arith)) (rises 2 3 (omega arith));
  ends = ends;
}
