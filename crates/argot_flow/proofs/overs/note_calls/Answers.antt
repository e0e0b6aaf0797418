use Rattle.std.proofs.Common.{◌≡◌, [], refl, sym, subst, inl, inr, true}
use Rattle.std.specs.Prelude.{slice_index_or}
use Rattle.argot_links.specs.Members.{has as contains}
use Rattle.argot_links.proofs.Having.{pushed_cases}
use Rattle.argot_facts.proofs.Listed.{number_of}
use Rattle.argot_facts.specs.declared.graphs.Edge.{Edge}
use Rattle.argot_facts.specs.declared.graphs.EdgeKind.TheVariants.{Call}
use Rattle.argot_summary.specs.Buckets.{slot_of}
use Rattle.argot_summary.proofs.Walking.{next_stands, next_rest, all_yielded}
use Rattle.argot_flow.proofs.Noting.{notes_on}
use Rattle.argot_flow.proofs.overs.note_calls.Goals as goal

pub note_over-requires-clause-k : goal.note_over-requires-clause-k
note_over-requires-clause-k c =
    let x = c.args.net.now in
    let h = slot_of c.args.entry.node c.args.entry.call x.heads in
    c.requires.net.calls.inside h c.in-Some.k (next_stands c.loop-k.yielded c.loop-k.k-iterator c.next.new.self (slice_index_or x.calls.lists h []) c.in-Some.k c.in-Some.ensures.steps c.loop-k.invariant.rest)

pub loop-k-preserved : goal.loop-k-preserved
loop-k-preserved c =
    let x = c.args.net.now in
    let h = slot_of c.args.entry.node c.args.entry.call x.heads in
    let i = c.loop-k.invariant in
    let notes = c.in_ok-note_over.ensures.notes in
    record {
      rest = next_rest c.loop-k.yielded c.loop-k.k-iterator c.next.new.self (slice_index_or x.calls.lists h []) c.in-Some.k c.in-Some.ensures.steps i.rest;
      notes = notes_on x c.args.overs.now.lists c.loop-k.overs.lists c.note_over.new.overs.lists i.notes notes;
      closed = λ j e m at to is. elim (pushed_cases c.loop-k.yielded c.in-Some.k j m) [
        | inl old ↦ notes.kept e.from c.args.n (i.closed j e old at to is)
        | inr q ↦ c.in_ok-note_over.ensures.closed e (rw (← q) at) to is
      ];
    }

pub returns-clause-closed : goal.returns-clause-closed
returns-clause-closed c = λ m edge.
    let x = c.args.net.now in
    let h = slot_of c.args.entry.node c.args.entry.call x.heads in
    let e : Edge = record { from = m; to = c.args.entry.node; kind = Call c.args.entry.call } in
    let k = number_of e x.edges.now edge in
    let all = all_yielded c.loop-k.yielded c.loop-k.k-iterator (slice_index_or x.calls.lists h []) c.in-None.ensures.steps.0 c.loop-k.invariant.rest in
    c.loop-k.invariant.closed k.0 e (subst (λ zs. contains zs k.0 ≡ true) (sym all) (c.requires.net.calls.each k.0 c.args.entry.call e k.1 refl)) k.1 refl refl
