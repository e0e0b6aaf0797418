use Rattle.std.proofs.Common.{◌≡◌, ◌<◌, ◌≤◌, inl, inr, arith}
use Rattle.argot_facts.proofs.Listed.{number_of}
use Rattle.argot_facts.specs.declared.graphs.Edge.{Edge}
use Rattle.argot_summary.proofs.Edging.{read_at}
use Rattle.argot_summary.proofs.Growing.{grows_on, ready_on, done_on}
use Rattle.argot_summary.proofs.follow.follow.Goals as goal
use Rattle.std.proofs.Common.{◌+◌}
use Rattle.std.proofs.lemmas.Bool.{cases_lt}
use Rattle.std.proofs.lemmas.Option.{get_or_from_slice_get}
use Rattle.argot_summary.specs.Netted.{start}

pub loop-k-preserved : goal.loop-k-preserved
loop-k-preserved c =
    let x = c.args.round.now.net.now in
    let u = c.args.round.now.published.now in
    let v = c.loop-k.found in
    let w = c.follow_edge.new.found in
    let i = c.loop-k.invariant in
    let g = c.follow_edge.ensures.grows in
    record {
      grows = grows_on x c.args.found.now v w c.args.round.now.rank i.grows g;
      ready = ready_on x v w u c.args.round.now.rank i.ready g;
      few = c.in_ok-follow_edge.ensures.few;
      closed = λ j e low less at. elim (cases_lt j c.loop-k.k) [
        | inl before ↦ done_on x v.facts.items w.facts.items u.count c.args.fact c.args.round.now.rank i.ready.published.count g.keeps e.kind e.to (i.closed j e low before at)
        | inr past ↦ (let same : j ≡ c.loop-k.k = omega arith in c.in_ok-follow_edge.ensures.closed e (rw same at at))
      ];
    }

pub returns-clause-closed : goal.returns-clause-closed
returns-clause-closed c = λ kind b edge.
    let x = c.args.round.now.net.now in
    let es = x.edges.now in
    let a = c.args.fact.to in
    let e : Edge = record { from = a; to = b; kind = kind } in
    let k = number_of e es edge in
    let s = c.requires.ready.net.starts in
    let first = s.each a (omega (arith, s.count, c.requires.to)) in
    let next = s.each (a + 1) (omega (arith, s.count, c.requires.to)) in
    let low : start x.starts.items a ≤ k.0 = elim (cases_lt k.0 (start x.starts.items a)) [ inl l ↦ absurd (omega (arith, first.before k.0 e k.1 l)) | inr l ↦ l ] in
    let less : k.0 < start x.starts.items (a + 1) = elim (cases_lt k.0 (start x.starts.items (a + 1))) [ inl l ↦ l | inr l ↦ absurd (omega (arith, next.behind k.0 e k.1 l)) ] in
    let end : start x.starts.items (a + 1) ≡ c.index-end.result.now = get_or_from_slice_get x.starts.items (a + 1) c.index-end.result.now 0 (read_at x.starts.items (a + 1) c.index-end.result.now (omega (arith, s.count, c.requires.to)) c.index-end.ensures) in
    c.loop-k.invariant.closed k.0 e low (omega (arith, less, end, c.loop-k-test.false)) k.1
