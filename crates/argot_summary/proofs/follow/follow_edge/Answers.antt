use Rattle.std.proofs.Common.{◌≡◌, ℕ, refl, sym, subst, Some}
use Rattle.std.specs.Prelude.{slice_get, slice_index_or}
use Rattle.argot_facts.specs.declared.graphs.Edge.{Edge}
use Rattle.argot_facts.specs.declared.graphs.EdgeKind.TheVariants.{Plain, Call, Return, Reset}
use Rattle.argot_facts.specs.declared.summaries.Same.{Same}
use Rattle.argot_summary.specs.Stepping.{IsDone}
use Rattle.argot_summary.proofs.Edging.{edge_in, edge_at}
use Rattle.argot_summary.proofs.Growing.{grows_none}
use Rattle.argot_summary.proofs.follow.follow_edge.Goals as goal
use Rattle.std.proofs.Common.{List}
use Rattle.argot_facts.specs.declared.graphs.EdgeKind.{EdgeKind}
use Rattle.argot_summary.proofs.Edging.{read_edge}
use Rattle.argot_summary.proofs.Ruling.{within_plain, within_over, ok_map}
use Rattle.argot_summary.specs.declared.net.Net.{Net}

abbrev d : Edge
d = record { from = 0; to = 0; kind = Plain }

pub put-requires-clause-rule : goal.put-requires-clause-rule
put-requires-clause-rule c =
    let x = c.args.round.now.net.now in
    let es = x.edges.now in
    let e = slice_index_or es c.args.k d in
    let at = edge_at es c.args.k d c.requires.k in
    let f = c.args.fact in
    within_plain x f.from f.rank c.args.round.now.rank f.to e.to c.requires.within c.requires.older (edge_in es c.args.k f.to e.to Plain e at (c.requires.leads e at) c.in-Plain.is refl)

pub descend-requires-clause-entry : goal.descend-requires-clause-entry
descend-requires-clause-entry c =
    let es = c.args.round.now.net.now.edges.now in
    (c.requires.ready.net.ends c.args.k (slice_index_or es c.args.k d) (edge_at es c.args.k d c.requires.k)).1

pub descend-requires-clause-rule : goal.descend-requires-clause-rule
descend-requires-clause-rule c = λ l n k h less back.
    let x = c.args.round.now.net.now in
    let es = x.edges.now in
    let e = slice_index_or es c.args.k d in
    let at = edge_at es c.args.k d c.requires.k in
    let f = c.args.fact in
    within_over x f.from f.rank c.args.round.now.rank f.to e.to l n k c.in-Call.call c.requires.within c.requires.older (edge_in es c.args.k f.to e.to (Call c.in-Call.call) e at (c.requires.leads e at) c.in-Call.is refl) h less back

pub ascend-requires-clause-n : goal.ascend-requires-clause-n
ascend-requires-clause-n c =
    let es = c.args.round.now.net.now.edges.now in
    (c.requires.ready.net.ends c.args.k (slice_index_or es c.args.k d) (edge_at es c.args.k d c.requires.k)).1

pub ascend-requires-clause-rule : goal.ascend-requires-clause-rule
ascend-requires-clause-rule c = λ p m j h less call.
    let x = c.args.round.now.net.now in
    let es = x.edges.now in
    let e = slice_index_or es c.args.k d in
    let at = edge_at es c.args.k d c.requires.k in
    let f = c.args.fact in
    within_over x p j c.args.round.now.rank m f.from f.to e.to f.rank c.in-Return.call h less call c.requires.within c.requires.older (edge_in es c.args.k f.to e.to (Return c.in-Return.call) e at (c.requires.leads e at) c.in-Return.is refl)

-- what is said of the edge that is read is said of each edge at its place
each : (x : Net) (fs : List Same) (count : ℕ) (f : Same) (rank k : ℕ) (kind : EdgeKind) → (slice_index_or x.edges.now k d).kind ≡ kind → IsDone x fs count f rank kind (slice_index_or x.edges.now k d).to
    → (e : Edge) → slice_get x.edges.now k ≡ Some e → IsDone x fs count f rank e.kind e.to
each x fs count f rank k kind is h e at =
    subst (λ (y : Edge). IsDone x fs count f rank y.kind y.to) (read_edge x.edges.now k d e at)
    (subst (λ z. IsDone x fs count f rank z (slice_index_or x.edges.now k d).to) (sym is) h)

pub returns-in-Plain-clause-closed : goal.returns-in-Plain-clause-closed
returns-in-Plain-clause-closed c = ok_map c.put.result (each c.args.round.now.net.now c.put.new.found.facts.items c.args.round.now.published.now.count c.args.fact c.args.round.now.rank c.args.k Plain c.in-Plain.is) c.put.ensures.there

pub returns-in-Call-clause-closed : goal.returns-in-Call-clause-closed
returns-in-Call-clause-closed c = ok_map c.descend.result (each c.args.round.now.net.now c.descend.new.found.facts.items c.args.round.now.published.now.count c.args.fact c.args.round.now.rank c.args.k (Call c.in-Call.call) c.in-Call.is) c.descend.ensures.closed

pub returns-in-Return-clause-closed : goal.returns-in-Return-clause-closed
returns-in-Return-clause-closed c = ok_map c.ascend.result (each c.args.round.now.net.now c.ascend.new.found.facts.items c.args.round.now.published.now.count c.args.fact c.args.round.now.rank c.args.k (Return c.in-Return.call) c.in-Return.is) c.ascend.ensures.closed

pub returns-in-Reset-clause-grows : goal.returns-in-Reset-clause-grows
returns-in-Reset-clause-grows c = grows_none c.args.round.now.net.now c.args.found.now c.args.round.now.rank c.requires.ready.state

pub returns-in-Reset-clause-closed : goal.returns-in-Reset-clause-closed
returns-in-Reset-clause-closed c = each c.args.round.now.net.now c.args.found.now.facts.items c.args.round.now.published.now.count c.args.fact c.args.round.now.rank c.args.k Reset c.in-Reset.is tt
