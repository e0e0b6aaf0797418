use Rattle.std.proofs.Common.{◌≡◌, ◌<◌, [], length, sym, ap, subst, inl, inr, true, arith, Some}
use Rattle.std.specs.Prelude.{slice_get, slice_index_or}
use Rattle.argot_links.specs.Members.{has as contains}
use Rattle.argot_links.proofs.Having.{pushed_cases}
use Rattle.argot_facts.specs.declared.summaries.Same.{Same}
use Rattle.argot_summary.specs.Buckets.{IsListed}
use Rattle.argot_summary.specs.Stepping.{IsWithin}
use Rattle.argot_summary.proofs.Edging.{read_at, same_item}
use Rattle.argot_summary.proofs.Growing.{grows_on, ready_on, there_on}
use Rattle.argot_summary.proofs.Walking.{next_stands, next_rest, all_yielded, yielded_stands}
use Rattle.argot_summary.proofs.follow.descend.Goals as goal
use Rattle.argot_summary.proofs.follow.descend.Goals.{In-Some, After-index}

stands : (c : In-Some) → IsListed c.args.round.now.published.now.starting.lists c.args.entry.node c.in-Some.j
stands c = next_stands c.loop-j.yielded c.loop-j.j-iterator c.next.new.self (slice_index_or c.args.round.now.published.now.starting.lists c.args.entry.node []) c.in-Some.j c.in-Some.ensures.steps c.loop-j.invariant.rest

older : (c : In-Some) → c.in-Some.j < c.args.round.now.published.now.count
older c = c.loop-j.invariant.ready.published.starting.inside c.args.entry.node c.in-Some.j (stands c)

within : (c : In-Some) → c.in-Some.j < length c.loop-j.found.facts.items
within c = omega (arith, older c, c.loop-j.invariant.ready.published.count)

pub index-requires : goal.index-requires
index-requires c = let l = within (goal.at.index-requires c).In-Some in omega (arith, l)

fact_is : (c : After-index) → c.in-Some.j < length c.loop-j.found.facts.items → slice_get c.loop-j.found.facts.items c.in-Some.j ≡ Some c.index.result.now
fact_is c l = read_at c.loop-j.found.facts.items c.in-Some.j c.index.result.now l c.index.ensures

pub hand_all-requires-clause-rule : goal.hand_all-requires-clause-rule
hand_all-requires-clause-rule c = λ n edge.
    let at = goal.at.hand_all-requires-clause-rule c in
    let f = c.index.result.now in
    let j = c.in-Some.j in
    let r = c.loop-j.invariant.ready in
    let is = fact_is at.After-index (within at.In-Some) in
    c.requires.rule f.to n f.rank (subst (λ q. IsWithin c.args.round.now.net.now q f.rank f.to) (r.published.starting.only c.args.entry.node j f (stands at.In-Some) is) (r.state.sound j f is)) (r.older j f (older at.In-Some) is) edge

pub loop-j-preserved : goal.loop-j-preserved
loop-j-preserved c =
    let at = goal.at.loop-j-preserved c in
    let x = c.args.round.now.net.now in
    let u = c.args.round.now.published.now in
    let v = c.loop-j.found in
    let w = c.hand_all.new.found in
    let i = c.loop-j.invariant in
    let g = c.hand_all.ensures.grows in
    let xs = slice_index_or u.starting.lists c.args.entry.node [] in
    record {
      rest = next_rest c.loop-j.yielded c.loop-j.j-iterator c.next.new.self xs c.in-Some.j c.in-Some.ensures.steps i.rest;
      grows = grows_on x c.args.found.now v w c.args.round.now.rank i.grows g;
      ready = ready_on x v w u c.args.round.now.rank i.ready g;
      few = c.in_ok-hand_all.ensures.few;
      closed = λ j n f m is edge. elim (pushed_cases c.loop-j.yielded c.in-Some.j j m) [
        | inl old ↦ (let inside : j < length v.facts.items = omega (arith, i.ready.published.starting.inside c.args.entry.node j (yielded_stands c.loop-j.yielded c.loop-j.j-iterator xs j i.rest old), i.ready.published.count) in
            there_on v.facts.items w.facts.items g.keeps c.args.p n c.args.round.now.rank (i.closed j n f old (g.keeps.back j f inside is) edge))
        | inr q ↦ (let inside : j < length v.facts.items = omega (arith, q, within at.In-Some) in
            let same = same_item v.facts.items j c.in-Some.j f c.index.result.now q (g.keeps.back j f inside is) (fact_is at.After-index (within at.In-Some)) in
            c.in_ok-hand_all.ensures.closed n (rw (ap (λ (y : Same). y.to) same) at edge))
      ];
    }

pub returns-clause-closed : goal.returns-clause-closed
returns-clause-closed c = λ j n f less is from edge.
    let u = c.args.round.now.published.now in
    let i = c.loop-j.invariant in
    let all = all_yielded c.loop-j.yielded c.loop-j.j-iterator (slice_index_or u.starting.lists c.args.entry.node []) c.in-None.ensures.steps.0 i.rest in
    i.closed j n f (subst (λ zs. contains zs j ≡ true) (sym all) (subst (λ q. IsListed u.starting.lists q j) from (i.ready.published.starting.each j c.args.entry.call n f less is edge))) is edge
