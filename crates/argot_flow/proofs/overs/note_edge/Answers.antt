use Rattle.std.proofs.Common.{◌≡◌, refl, sym, ap, ◌∙◌, subst}
use Rattle.std.specs.Prelude.{slice_index_or}
use Rattle.argot_facts.specs.declared.graphs.Edge.{Edge}
use Rattle.argot_facts.specs.declared.graphs.EdgeKind.TheVariants.{Plain, Call, Return}
use Rattle.argot_summary.specs.Buckets.{IsListed}
use Rattle.argot_summary.specs.Stepping.{Edged}
use Rattle.argot_summary.proofs.Edging.{edge_in, edge_at, read_edge}
use Rattle.argot_summary.proofs.Ruling.{ok_map}
use Rattle.argot_flow.proofs.Noting.{notes_none}
use Rattle.argot_flow.proofs.overs.note_edge.Goals as goal

abbrev d : Edge
d = record { from = 0; to = 0; kind = Plain }

pub note_calls-requires-clause-rule : goal.note_calls-requires-clause-rule
note_calls-requires-clause-rule c = λ m call.
    let es = c.args.net.now.edges.now in
    let e = slice_index_or es c.args.k d in
    let at = edge_at es c.args.k d c.requires.k in
    record {
      q = c.args.fact.from;
      l = c.args.fact.to;
      c = c.in-Return.call;
      call = call;
      within = c.requires.fact;
      back = edge_in es c.args.k c.args.fact.to e.to (Return c.in-Return.call) e at (c.requires.leads e at) c.in-Return.is refl;
    }

pub returns-in-Return-clause-closed : goal.returns-in-Return-clause-closed
returns-in-Return-clause-closed c = ok_map c.note_calls.result (λ listed e i m at is call.
    let same = read_edge c.args.net.now.edges.now c.args.k d e at in
    let kind : Return c.in-Return.call ≡ Return i = sym c.in-Return.is ∙ ap (λ (y : Edge). y.kind) same ∙ is in
    let place : c.in-Return.call ≡ i = cc in
    subst (λ (y : Edge). IsListed c.note_calls.new.overs.lists m y.to) same (listed m (subst (λ z. Edged c.args.net.now m (Call z) c.args.fact.from) (sym place) call))) c.note_calls.ensures.closed

pub returns-in_default : goal.returns-in_default
returns-in_default c = record {
  notes = notes_none c.args.net.now c.args.overs.now.lists c.requires.overs;
  closed = λ e i m at is call. absurd (c.in_default.not-Return i (ap (λ (y : Edge). y.kind) (read_edge c.args.net.now.edges.now c.args.k d e at) ∙ is));
}
