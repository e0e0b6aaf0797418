use Rattle.std.proofs.Common.{◌≡◌, refl, sym, ap, ◌∙◌, subst, Some, None}
use Rattle.std.specs.Prelude.{slice_index_or}
use Rattle.argot_facts.specs.declared.graphs.Edge.{Edge}
use Rattle.argot_facts.specs.declared.graphs.EdgeKind.TheVariants.{Plain}
use Rattle.argot_summary.proofs.Edging.{edge_in, edge_at, read_edge}
use Rattle.argot_flow.specs.Steps.{leads, by_edge}
use Rattle.argot_flow.specs.Searching.{IsVisited}
use Rattle.argot_flow.proofs.Stepping.{step_below, grows_none}
use Rattle.argot_facts.specs.Reached.{IsEdgeIn}
use Rattle.argot_flow.proofs.search.follow_edge.Goals as goal

abbrev d : Edge
d = record { from = 0; to = 0; kind = Plain }

pub put-requires-clause-rule : goal.put-requires-clause-rule
put-requires-clause-rule c =
    let es = c.args.lists.now.net.edges.now in
    let e = slice_index_or es c.args.k d in
    let at = edge_at es c.args.k d c.requires.k in
    let v = c.args.visit in
    step_below (IsEdgeIn es) c.args.search.now.from v.node e.to v.rank c.args.rank v.down c.in-Some.down c.requires.within c.requires.older
    (by_edge e.kind (edge_in es c.args.k v.node e.to e.kind e at (c.requires.leads e at) refl refl) (sym c.way_behind.ensures ∙ c.in-Some.is))

pub returns-in-Some-clause-closed : goal.returns-in-Some-clause-closed
returns-in-Some-clause-closed c = λ e b at is.
    let es = c.args.lists.now.net.edges.now in
    let same = read_edge es c.args.k d e at in
    let way : Some c.in-Some.down ≡ Some b = sym c.in-Some.is ∙ c.way_behind.ensures ∙ ap (λ (y : Edge). leads c.args.visit.down y.kind) same ∙ is in
    let down : c.in-Some.down ≡ b = cc in
    subst (λ z. IsVisited c.put.new.search.visits.items z e.to c.args.rank) down (subst (λ (y : Edge). IsVisited c.put.new.search.visits.items c.in-Some.down y.to c.args.rank) same c.put.ensures.there)

pub returns-in-None-clause-grows : goal.returns-in-None-clause-grows
returns-in-None-clause-grows c = grows_none c.args.lists.now c.args.search.now c.args.rank c.requires.state

pub returns-in-None-clause-closed : goal.returns-in-None-clause-closed
returns-in-None-clause-closed c = λ e b at is.
    let same = read_edge c.args.lists.now.net.edges.now c.args.k d e at in
    let bad : None ≡ Some b = sym c.in-None.is ∙ c.way_behind.ensures ∙ ap (λ (y : Edge). leads c.args.visit.down y.kind) same ∙ is in
    absurd cc
