use Rattle.std.proofs.Common.{◌≡◌, [], sym, subst, inl, inr}
use Rattle.std.specs.Prelude.{slice_index_or}
use Rattle.argot_links.proofs.Having.{pushed_cases}
use Rattle.argot_summary.specs.Buckets.{IsListed}
use Rattle.argot_summary.proofs.Walking.{next_stands, next_rest}
use Rattle.argot_flow.specs.Steps.{by_over}
use Rattle.argot_flow.specs.Searching.{IsVisited}
use Rattle.argot_flow.proofs.Stepping.{step_below, grows_on, visited_on}
use Rattle.argot_facts.specs.Reached.{IsEdgeIn}
use Rattle.argot_facts.specs.Summaries.{ReachesWithin}
use Rattle.argot_flow.specs.Steps.{way}
use Rattle.argot_flow.proofs.search.follow_overs.Goals as goal
use Rattle.argot_flow.proofs.search.follow_overs.Goals.{In-Some}

stands : (c : In-Some) → IsListed c.args.lists.now.overs.lists c.args.visit.node c.in-Some.n
stands c = next_stands c.loop-n.yielded c.loop-n.n-iterator c.next.new.self (slice_index_or c.args.lists.now.overs.lists c.args.visit.node []) c.in-Some.n c.in-Some.ensures.steps c.loop-n.invariant.rest

pub put-requires-clause-node : goal.put-requires-clause-node
put-requires-clause-node c = c.requires.lists.overs.inside c.args.visit.node c.in-Some.n (stands (goal.at.put-requires-clause-node c).In-Some)

pub put-requires-clause-rule : goal.put-requires-clause-rule
put-requires-clause-rule c =
    let es = c.args.lists.now.net.edges.now in
    let v = c.args.visit in
    let from : c.loop-n.search.from ≡ c.args.search.now.from = c.loop-n.invariant.grows.from in
    step_below (IsEdgeIn es) c.loop-n.search.from v.node c.in-Some.n v.rank c.args.rank v.down v.down (subst (λ a. ReachesWithin (IsEdgeIn es) a (way v.down) v.rank v.node) (sym from) c.requires.within) c.requires.older
    (by_over (c.requires.lists.overs.only v.node c.in-Some.n (stands (goal.at.put-requires-clause-rule c).In-Some)))

pub loop-n-preserved : goal.loop-n-preserved
loop-n-preserved c =
    let y = c.args.lists.now in
    let s = c.loop-n.search in
    let t = c.put.new.search in
    let i = c.loop-n.invariant in
    let g = c.put.ensures.grows in
    record {
      rest = next_rest c.loop-n.yielded c.loop-n.n-iterator c.next.new.self (slice_index_or y.overs.lists c.args.visit.node []) c.in-Some.n c.in-Some.ensures.steps i.rest;
      grows = grows_on y c.args.search.now s t c.args.rank i.grows g;
      closed = λ n m. elim (pushed_cases c.loop-n.yielded c.in-Some.n n m) [
        | inl old ↦ visited_on s.visits.items t.visits.items g.keeps c.args.visit.down n c.args.rank (i.closed n old)
        | inr q ↦ subst (λ z. IsVisited t.visits.items c.args.visit.down z c.args.rank) (sym q) c.put.ensures.there
      ];
    }
