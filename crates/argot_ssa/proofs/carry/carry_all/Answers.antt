use Rattle.std.proofs.Common.{◌≡◌, ℕ, ◌+◌, ◌++◌, ◌∷◌, [], true, slice_index, slice_index_or, ap, sym, ◌∙◌, subst, inl, inr, append_assoc}
use Rattle.argot_links.specs.Table.{Table}
use Rattle.argot_links.proofs.Having.{pushed_cases}
use Rattle.argot_plain.specs.Lists.{In}
use Rattle.argot_ssa.specs.Edges.{leads, holds, Spreads}
use Rattle.argot_ssa.proofs.Walks.{walked_one, walked_all}
use Rattle.argot_ssa.proofs.carry.carry_all.Goals as goal
use Rattle.argot_ssa.proofs.carry.carry_all.Goals.{In-Some}

whole : (c : In-Some) → c.loop-d.yielded ++ (c.in-Some.d ∷ c.next.new.self) ≡ slice_index_or c.args.outs.now.lists c.args.r []
whole c = ap (λ rest. c.loop-d.yielded ++ rest) (sym c.in-Some.ensures.steps) ∙ c.loop-d.invariant.rest

edge : (c : In-Some) → leads c.args.outs.now.lists c.args.r c.in-Some.d ≡ true
edge c = walked_one c.args.outs.now.lists c.args.r c.in-Some.d c.loop-d.yielded _ (whole c)

pub carry_one-requires-clause-definition : goal.carry_one-requires-clause-definition
carry_one-requires-clause-definition c = c.requires.range_outs c.in-Some.d (edge (goal.at.carry_one-requires-clause-definition c).In-Some)

pub loop-d-preserved : goal.loop-d-preserved
loop-d-preserved c =
    let b = (goal.at.loop-d-preserved c).In-Some in
    let i = c.loop-d.invariant in
    let e = c.in_ok-carry_one.ensures in
    let onward = c.args.net.now.onward.lists in
    let At : Table → ℕ → ℕ → Type 0 = λ t d k. Spreads onward (holds t) (leads onward (slice_index c.args.heads.now d)) (slice_index c.args.heads.now k) in
    record {
      rest = rw append_assoc (whole b);
      work = e.work;
      stops = e.stops ∙ i.stops;
      needed = e.needed ∙ i.needed;
      kept = λ x h. e.kept x (i.kept x h);
      only = λ x h. elim (e.only x h) [
        | inl old ↦ i.only x old
        | inr new ↦ inr (record { k = new.0; d = c.in-Some.d; out = edge b; asked = new.1; spread = subst (λ t. At t c.in-Some.d new.0) i.stops new.2; is = new.3 })
      ];
      there = λ d h k asked spread. elim (pushed_cases c.loop-d.yielded c.in-Some.d d h) [
        | inl old ↦ e.kept _ (i.there d old k asked spread)
        | inr new ↦
            let came = e.there k asked (subst (λ t. At t c.in-Some.d k) (sym i.stops) (subst (λ x. At c.args.work.now.stops x k) new spread)) in
            subst (λ x. In (c.args.entry + k, c.args.r, c.args.entry + x) c.carry_one.new.rows.items) (sym new) came
      ];
    }

pub returns-clause-there : goal.returns-clause-there
returns-clause-there c = λ x h.
    let all = ap (λ rest. c.loop-d.yielded ++ rest) (sym c.in-None.ensures.steps.0) ∙ c.loop-d.invariant.rest in
    subst (λ y. In y c.loop-d.rows.items) (sym h.is)
    (c.loop-d.invariant.there h.d (walked_all c.args.outs.now.lists c.args.r h.d c.loop-d.yielded all h.out) h.k h.asked h.spread)
