use Rattle.std.proofs.Common.{◌≡◌, ◌<◌, ◌++◌, true, ap, sym, ◌∙◌, subst, inl, inr, rules, arith, append_assoc}
use Rattle.argot_links.proofs.Having.{pushed_cases}
use Rattle.argot_ssa.specs.Edges.{leads, holds}
use Rattle.argot_ssa.proofs.Walks.{walked_one, walked_all}
use Rattle.argot_ssa.proofs.flood.expand.Goals as goal

pub mark-requires-clause-below : goal.mark-requires-clause-below
mark-requires-clause-below c =
    let whole = ap (λ rest. c.loop-b.yielded ++ rest) (sym c.in-Some.ensures.steps) ∙ c.loop-b.invariant.rest in
    let edge = walked_one c.args.edges.now.lists c.args.from c.in-Some.b c.loop-b.yielded _ whole in
    subst (λ n. c.in-Some.b < n) (sym c.loop-b.invariant.cols) (c.requires.below _ _ edge)

pub loop-b-preserved : goal.loop-b-preserved
loop-b-preserved c =
    let whole = ap (λ rest. c.loop-b.yielded ++ rest) (sym c.in-Some.ensures.steps) ∙ c.loop-b.invariant.rest in
    let edge = walked_one c.args.edges.now.lists c.args.from c.in-Some.b c.loop-b.yielded _ whole in
    record {
      rest = rw append_assoc whole;
      cols = search rules;
      marks = search rules;
      queue = search rules;
      there = λ b h f. elim (pushed_cases c.loop-b.yielded c.in-Some.b b h) [
        | inl old ↦ c.mark.ensures.kept b (c.loop-b.invariant.there b old f)
        | inr new ↦ subst (λ x. holds c.mark.new.marks x ≡ true) (sym new) (c.mark.ensures.there (subst (λ x. holds c.args.filter.now x ≡ true) new f))
      ];
      kept = λ a h. c.mark.ensures.kept a (c.loop-b.invariant.kept a h);
      only = λ a h. elim (c.mark.ensures.only a h) [
        | inl old ↦ c.loop-b.invariant.only a old
        | inr new ↦ inr (subst (λ x. leads c.args.edges.now.lists c.args.from x ≡ true) (sym new) edge)
      ];
      waiting = λ a h. c.mark.ensures.waiting a (c.loop-b.invariant.waiting a h);
      fresh = λ a h. elim (c.mark.ensures.fresh a h) [
        | inl old ↦ elim (c.loop-b.invariant.fresh a old) [ inl o ↦ inl o | inr n ↦ inr (c.mark.ensures.waiting a n) ]
        | inr new ↦ inr new
      ];
      marked = λ a h. elim (c.mark.ensures.marked a h) [
        | inl old ↦ elim (c.loop-b.invariant.marked a old) [ inl o ↦ inl o | inr n ↦ inr (c.mark.ensures.kept a n) ]
        | inr new ↦ inr new
      ];
      work = omega arith;
    }

pub returns-clause-there : goal.returns-clause-there
returns-clause-there c = λ b h f.
    let whole = ap (λ rest. c.loop-b.yielded ++ rest) (sym c.in-None.ensures.steps.0) ∙ c.loop-b.invariant.rest in
    c.loop-b.invariant.there b (walked_all c.args.edges.now.lists c.args.from b c.loop-b.yielded whole h) f
