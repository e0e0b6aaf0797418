-- Edge lists between numbers of nodes, and between the nodes.
use Rattle.std.proofs.Common.{◌≡◌, ℕ, List, [], ◌∷◌, Some, sym, ◌∙◌, subst}
use Rattle.std.specs.List.{slice_get}
use Rattle.argot_plain.specs.Code.{Code}
use Rattle.argot_plain.specs.declared.problems.Problem.{Problem}
use Rattle.argot_facts.specs.Graphs.{Drawn, IsGraphOf, IsEdge}
use Rattle.argot_facts.specs.Lists.{Leads, stay, go, Joins}
use Rattle.argot_facts.specs.Reached.{IsEdgeIn}
use Rattle.argot_facts.specs.declared.graphs.EdgeKind.{EdgeKind}
use Rattle.argot_facts.specs.declared.nodes.Node.{Node}
use Rattle.argot_facts.proofs.Listed.{number_of}
use Rattle.argot_facts.proofs.Ordered.{one_number}

pub one_node : (ns : List Node) (a : ℕ) (x y : Node) → slice_get ns a ≡ Some x → slice_get ns a ≡ Some y → x ≡ y
one_node ns a x y g h = let z : Some x ≡ Some y = sym g ∙ h in cc

module _ (p : Code) (pr : Problem) (d : Drawn) (graph : IsGraphOf p pr d) where
  up : (ks : List EdgeKind) (a b : ℕ) (x y : Node) → slice_get d.nodes a ≡ Some x → slice_get d.nodes b ≡ Some y → Leads (IsEdgeIn d.edges) a ks b → Leads (IsEdge p pr) x ks y
  up [] a b x y ga gb stay = subst (λ z. Leads (IsEdge p pr) x [] z) (one_node d.nodes a x y ga gb) stay
  up (k ∷ ks) a b x y ga gb (go {b = c} e l) =
      let n = (graph.each (record { from = a; to = c; kind = k })).0 e in
      let first = subst (λ z. IsEdge p pr z k n.to) (one_node d.nodes a n.from x n.is_from ga) n.edge in
      go first (up ks c b n.to y n.is_to gb l)

  down : (ks : List EdgeKind) (a b : ℕ) (x y : Node) → slice_get d.nodes a ≡ Some x → slice_get d.nodes b ≡ Some y → Leads (IsEdge p pr) x ks y → Leads (IsEdgeIn d.edges) a ks b
  down [] a b x y ga gb stay = subst (λ n. Leads (IsEdgeIn d.edges) a [] n) (one_number d.nodes graph.nodes.ordered a b x ga gb) stay
  down (k ∷ ks) a b x y ga gb (go {b = z} e l) =
      let c = number_of z d.nodes ((graph.nodes.each z).1 (e.to, e.is_to)) in
      go ((graph.each (record { from = a; to = c.0; kind = k })).1 (record { from = x; to = z; is_from = ga; is_to = c.1; edge = e })) (down ks c.0 b z y c.1 gb l)

  pub nodes_joined : (a b : ℕ) (x y : Node) → slice_get d.nodes a ≡ Some x → slice_get d.nodes b ≡ Some y → Joins (IsEdgeIn d.edges) a b → Joins (IsEdge p pr) x y
  nodes_joined a b x y ga gb j = record { kinds = j.kinds; calls = j.calls; leads = up j.kinds a b x y ga gb j.leads; realizable = j.realizable }

  pub numbers_joined : (a b : ℕ) (x y : Node) → slice_get d.nodes a ≡ Some x → slice_get d.nodes b ≡ Some y → Joins (IsEdge p pr) x y → Joins (IsEdgeIn d.edges) a b
  numbers_joined a b x y ga gb j = record { kinds = j.kinds; calls = j.calls; leads = down j.kinds a b x y ga gb j.leads; realizable = j.realizable }
