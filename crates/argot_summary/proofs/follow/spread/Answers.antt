use Rattle.std.proofs.Common.{◌≡◌, ◌<◌, [], length, sym, subst, inl, inr, true, arith, Some}
use Rattle.std.specs.Prelude.{slice_get, slice_index_or}
use Rattle.argot_links.specs.Members.{has as contains}
use Rattle.argot_links.proofs.Having.{pushed_cases}
use Rattle.argot_facts.specs.declared.summaries.Same.{Same}
use Rattle.argot_summary.specs.Buckets.{IsListed}
use Rattle.argot_summary.specs.Finding.{IsThere}
use Rattle.argot_summary.specs.Stepping.{IsWithin}
use Rattle.argot_summary.proofs.Edging.{read_at, same_item}
use Rattle.argot_summary.proofs.Growing.{grows_on, ready_on, there_on}
use Rattle.argot_summary.proofs.Walking.{next_stands, next_rest, all_yielded, yielded_stands}
use Rattle.argot_summary.proofs.follow.spread.Goals as goal
use Rattle.argot_summary.proofs.follow.spread.Goals.{In-Some, After-index}

stands : (c : In-Some) → IsListed c.args.round.now.published.now.ending.lists c.args.m c.in-Some.i
stands c = next_stands c.loop-i.yielded c.loop-i.i-iterator c.next.new.self (slice_index_or c.args.round.now.published.now.ending.lists c.args.m []) c.in-Some.i c.in-Some.ensures.steps c.loop-i.invariant.rest

older : (c : In-Some) → c.in-Some.i < c.args.round.now.published.now.count
older c = c.loop-i.invariant.ready.published.ending.inside c.args.m c.in-Some.i (stands c)

within : (c : In-Some) → c.in-Some.i < length c.loop-i.found.facts.items
within c = omega (arith, older c, c.loop-i.invariant.ready.published.count)

pub index-requires : goal.index-requires
index-requires c = let l = within (goal.at.index-requires c).In-Some in omega (arith, l)

fact_is : (c : After-index) → c.in-Some.i < length c.loop-i.found.facts.items → slice_get c.loop-i.found.facts.items c.in-Some.i ≡ Some c.index.result.now
fact_is c l = read_at c.loop-i.found.facts.items c.in-Some.i c.index.result.now l c.index.ensures

pub put-requires-clause-from : goal.put-requires-clause-from
put-requires-clause-from c = (c.loop-i.invariant.ready.state.inside c.in-Some.i c.index.result.now (fact_is (goal.at.put-requires-clause-from c).After-index (within (goal.at.put-requires-clause-from c).In-Some))).0

pub put-requires-clause-rule : goal.put-requires-clause-rule
put-requires-clause-rule c =
    let at = goal.at.put-requires-clause-rule c in
    let f = c.index.result.now in
    let i = c.in-Some.i in
    let r = c.loop-i.invariant.ready in
    let is = fact_is at.After-index (within at.In-Some) in
    c.requires.rule f.from f.rank (subst (λ m. IsWithin c.args.round.now.net.now f.from f.rank m) (r.published.ending.only c.args.m i f (stands at.In-Some) is) (r.state.sound i f is)) (r.older i f (older at.In-Some) is)

pub loop-i-preserved : goal.loop-i-preserved
loop-i-preserved c =
    let at = goal.at.loop-i-preserved c in
    let x = c.args.round.now.net.now in
    let u = c.args.round.now.published.now in
    let v = c.loop-i.found in
    let w = c.put.new.found in
    let i = c.loop-i.invariant in
    let g = c.put.ensures.grows in
    let xs = slice_index_or u.ending.lists c.args.m [] in
    record {
      rest = next_rest c.loop-i.yielded c.loop-i.i-iterator c.next.new.self xs c.in-Some.i c.in-Some.ensures.steps i.rest;
      grows = grows_on x c.args.found.now v w c.args.round.now.rank i.grows g;
      ready = ready_on x v w u c.args.round.now.rank i.ready g;
      few = c.in_ok-put.ensures.few;
      closed = λ j f m is. elim (pushed_cases c.loop-i.yielded c.in-Some.i j m) [
        | inl old ↦ (let inside : j < length v.facts.items = omega (arith, i.ready.published.ending.inside c.args.m j (yielded_stands c.loop-i.yielded c.loop-i.i-iterator xs j i.rest old), i.ready.published.count) in
            there_on v.facts.items w.facts.items g.keeps f.from c.args.n c.args.round.now.rank (i.closed j f old (g.keeps.back j f inside is)))
        | inr q ↦ (let inside : j < length v.facts.items = omega (arith, q, within at.In-Some) in
            let same = same_item v.facts.items c.in-Some.i j c.index.result.now f (sym q) (fact_is at.After-index (within at.In-Some)) (g.keeps.back j f inside is) in
            subst (λ (y : Same). IsThere w.facts.items y.from c.args.n c.args.round.now.rank) same c.in_ok-put.ensures.there)
      ];
    }

pub returns-clause-closed : goal.returns-clause-closed
returns-clause-closed c = λ j f less is to.
    let u = c.args.round.now.published.now in
    let i = c.loop-i.invariant in
    let all = all_yielded c.loop-i.yielded c.loop-i.i-iterator (slice_index_or u.ending.lists c.args.m []) c.in-None.ensures.steps.0 i.rest in
    i.closed j f (subst (λ zs. contains zs j ≡ true) (sym all) (subst (λ m. IsListed u.ending.lists m j) to (i.ready.published.ending.each j f less is))) is
