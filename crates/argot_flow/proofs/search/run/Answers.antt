use Rattle.std.proofs.Common.{◌≡◌, ℕ, ◌+◌, ◌<◌, ◌≤◌, length, sym, ap, ◌∙◌, subst, inl, inr, false, arith, Some}
use Rattle.std.specs.Prelude.{slice_get}
use Rattle.std.proofs.lemmas.Bool.{cases_lt}
use Rattle.argot_flow.specs.Searching.{IsVisited}
use Rattle.argot_flow.specs.declared.search.Visit.{Visit}
use Rattle.argot_flow.proofs.Stepping.{visited_on}
use Rattle.std.proofs.Common.{rules}
use Rattle.std.proofs.lemmas.Option.{slice_get_within}
use Rattle.argot_facts.specs.Summaries.{Up, ReachesWithin, up_start}
use Rattle.argot_facts.specs.Reached.{IsEdgeIn}
use Rattle.argot_flow.specs.Searching.{IsWithin}
use Rattle.argot_flow.proofs.Searched.{visited_more}
use Rattle.argot_flow.proofs.Stepping.{all_reached}
use Rattle.argot_flow.proofs.search.run.Goals as goal

pub loop-first-init : goal.loop-first-init
loop-first-init c =
    let y = c.args.lists.now in
    let t = c.mark.new.search in
    let x : Visit = record { node = c.args.from; down = false; rank = 0 } in
    let one : (i : ℕ) (v : Visit) → slice_get t.visits.items i ≡ Some v → v ≡ x = λ i v at. c.mark.ensures.only i v (omega (arith, ap length c.clear.ensures.empty)) at in
    let zero : (i : ℕ) (v : Visit) → slice_get t.visits.items i ≡ Some v → v.rank ≡ 0 = λ i v at. ap (λ (w : Visit). w.rank) (one i v at) in
    let from : t.from ≡ c.args.from = c.mark.ensures.from in
    record {
      state = record {
        nodes = c.mark.ensures.nodes ∙ c.clear.ensures.nodes ∙ c.requires.nodes;
        marked = c.mark.ensures.marked;
        low = λ i v at. omega (arith, zero i v at);
        sound = λ i v at. subst (λ (w : Visit). IsWithin y t w.down w.rank w.node) (sym (one i v at)) (subst (λ a. ReachesWithin (IsEdgeIn y.net.edges.now) a Up 0 c.args.from) (sym from) up_start);
      };
      older = λ i v at. omega (arith, zero i v at);
      recent = λ i v low at. omega arith;
      closed = λ i n v d less at step. absurd (omega (arith, less));
      started = c.mark.ensures.there;
      from = from;
      nodes = c.mark.ensures.nodes ∙ c.clear.ensures.nodes;
      ranks = omega arith;
      low = omega arith;
    }

pub loop-first-preserved : goal.loop-first-preserved
loop-first-preserved c =
    let y = c.args.lists.now in
    let s = c.loop-first.search in
    let t = c.round.new.search in
    let i = c.loop-first.invariant in
    let g = c.round.ensures.grows in
    let all : c.len-end.result ≡ length s.visits.items = search rules in
    let less_test : c.loop-first.first < length s.visits.items = omega (arith, c.loop-first-test.true, c.len.ensures) in
    record {
      state = record { nodes = g.state.nodes; marked = g.state.marked; low = λ j v at. omega (arith, g.state.low j v at); sound = g.state.sound };
      older = λ j v at. omega (arith, g.state.low j v at);
      recent = λ j v past at. omega (arith, g.late j v (omega (arith, past, all)) at);
      closed = λ j n v d less at step.
          (let old = g.keeps.back j v (omega (arith, less, all)) at in
          elim (cases_lt j c.loop-first.first) [
            | inl before ↦ visited_on s.visits.items t.visits.items g.keeps d n (v.rank + 1) (i.closed j n v d before old step)
            | inr past ↦ visited_more t.visits.items d n c.loop-first.rank (v.rank + 1) (i.recent j v past old) (c.round.ensures.closed j n v d past less at step)
          ]);
      started = visited_on s.visits.items t.visits.items g.keeps false c.args.from 0 i.started;
      from = g.from ∙ i.from;
      nodes = g.state.nodes ∙ sym i.state.nodes ∙ i.nodes;
      ranks = omega (arith, i.ranks, less_test, all);
      low = omega (arith, all, g.keeps.longer);
    }

pub returns-clause-searched : goal.returns-clause-searched
returns-clause-searched c =
    let y = c.args.lists.now in
    let s = c.loop-first.search in
    let i = c.loop-first.invariant in
    let end : length s.visits.items ≤ c.loop-first.first = omega (arith, c.loop-first-test.false, c.len.ensures) in
    record {
      nodes = i.state.nodes;
      marked = i.state.marked;
      sound = i.state.sound;
      complete = all_reached (IsEdgeIn y.net.edges.now) s.from s.visits.items (subst (λ a. IsVisited s.visits.items false a 0) (sym i.from) i.started)
          (λ j v e n at step. i.closed j n v e (omega (arith, end, slice_get_within s.visits.items j v at)) at step);
    }
