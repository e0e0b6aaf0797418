use Rattle.std.proofs.Common.{◌≡◌, [], refl, sym, subst, inl, inr, true, arith}
use Rattle.std.specs.Prelude.{slice_index_or}
use Rattle.argot_links.specs.Members.{has as contains}
use Rattle.argot_links.proofs.Having.{pushed_cases}
use Rattle.argot_facts.proofs.Listed.{number_of}
use Rattle.argot_facts.specs.declared.graphs.Edge.{Edge}
use Rattle.argot_facts.specs.declared.graphs.EdgeKind.TheVariants.{Call}
use Rattle.argot_summary.specs.Buckets.{slot_of}
use Rattle.argot_summary.proofs.Growing.{grows_on, ready_on, there_on}
use Rattle.argot_summary.proofs.Walking.{next_stands, next_rest, all_yielded}
use Rattle.argot_summary.proofs.follow.ascend.Goals as goal

pub ascend_at-requires-clause-k : goal.ascend_at-requires-clause-k
ascend_at-requires-clause-k c =
    let x = c.args.round.now.net.now in
    let h = slot_of c.args.entry.node c.args.entry.call x.heads in
    c.requires.ready.net.calls.inside h c.in-Some.k (next_stands c.loop-k.yielded c.loop-k.k-iterator c.next.new.self (slice_index_or x.calls.lists h []) c.in-Some.k c.in-Some.ensures.steps c.loop-k.invariant.rest)

pub loop-k-preserved : goal.loop-k-preserved
loop-k-preserved c =
    let x = c.args.round.now.net.now in
    let u = c.args.round.now.published.now in
    let h = slot_of c.args.entry.node c.args.entry.call x.heads in
    let v = c.loop-k.found in
    let w = c.ascend_at.new.found in
    let i = c.loop-k.invariant in
    let g = c.ascend_at.ensures.grows in
    record {
      rest = next_rest c.loop-k.yielded c.loop-k.k-iterator c.next.new.self (slice_index_or x.calls.lists h []) c.in-Some.k c.in-Some.ensures.steps i.rest;
      grows = grows_on x c.args.found.now v w c.args.round.now.rank i.grows g;
      ready = ready_on x v w u c.args.round.now.rank i.ready g;
      few = c.in_ok-ascend_at.ensures.few;
      closed = λ j k e f m at to is less there from. elim (pushed_cases c.loop-k.yielded c.in-Some.k j m) [
        | inl old ↦ there_on v.facts.items w.facts.items g.keeps f.from c.args.n c.args.round.now.rank (i.closed j k e f old at to is less (g.keeps.back k f (omega (arith, less, i.ready.published.count)) there) from)
        | inr q ↦ c.in_ok-ascend_at.ensures.closed e (rw (← q) at) to is k f less there from
      ];
    }

pub returns-clause-closed : goal.returns-clause-closed
returns-clause-closed c = λ m j f edge less there to.
    let x = c.args.round.now.net.now in
    let h = slot_of c.args.entry.node c.args.entry.call x.heads in
    let e : Edge = record { from = m; to = c.args.entry.node; kind = Call c.args.entry.call } in
    let k = number_of e x.edges.now edge in
    let all = all_yielded c.loop-k.yielded c.loop-k.k-iterator (slice_index_or x.calls.lists h []) c.in-None.ensures.steps.0 c.loop-k.invariant.rest in
    c.loop-k.invariant.closed k.0 j e f (subst (λ zs. contains zs k.0 ≡ true) (sym all) (c.requires.ready.net.calls.each k.0 c.args.entry.call e k.1 refl)) k.1 refl refl less there to
