use Rattle.std.proofs.Common.{◌≡◌, ◌<◌, length, sym, subst, inl, inr, arith}
use Rattle.std.proofs.lemmas.Bool.{cases_lt}
use Rattle.argot_facts.specs.declared.summaries.Same.{Same}
use Rattle.argot_summary.proofs.Edging.{read_at, same_item}
use Rattle.argot_summary.proofs.Growing.{grows_on, ready_on, done_on}
use Rattle.argot_summary.specs.Stepping.{Edged, IsDone}
use Rattle.argot_summary.proofs.follow.follow_all.Goals as goal

pub loop-i-preserved : goal.loop-i-preserved
loop-i-preserved c =
    let x = c.args.round.now.net.now in
    let u = c.args.round.now.published.now in
    let v = c.loop-i.found in
    let w = c.follow.new.found in
    let i = c.loop-i.invariant in
    let g = c.follow.ensures.grows in
    let fact = c.index-fact.result.now in
    record {
      grows = grows_on x c.args.found.now v w c.args.round.now.rank i.grows g;
      ready = ready_on x v w u c.args.round.now.rank i.ready g;
      few = c.in_ok-follow.ensures.few;
      closed = λ j b f kind low less at edge. elim (cases_lt j c.loop-i.i) [
        | inl before ↦ (let inside : j < length v.facts.items = omega (arith, before, c.loop-i-test.true, i.ready.published.count) in
            done_on x v.facts.items w.facts.items u.count f c.args.round.now.rank i.ready.published.count g.keeps kind b (i.closed j b f kind low before (g.keeps.back j f inside at) edge))
        | inr past ↦ (let here : j ≡ c.loop-i.i = omega arith in
            let inside : c.loop-i.i < length v.facts.items = omega (arith, c.loop-i-test.true, i.ready.published.count) in
            let is = read_at v.facts.items c.loop-i.i fact inside c.index-fact.ensures in
            let same : fact ≡ f = same_item v.facts.items c.loop-i.i j fact f (sym here) is (g.keeps.back j f (omega (arith, here, inside)) at) in
            subst (λ (y : Same). IsDone x w.facts.items u.count y c.args.round.now.rank kind b) same (c.in_ok-follow.ensures.closed kind b (subst (λ (y : Same). Edged x y.to kind b) (sym same) edge)))
      ];
    }
