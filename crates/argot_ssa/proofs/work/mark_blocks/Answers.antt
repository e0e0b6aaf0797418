use Rattle.std.proofs.Common.{◌≡◌, ◌<◌, ◌++◌, ◌∷◌, [], true, slice_index, slice_index_or, ap, sym, ◌∙◌, subst, inl, inr, rules, append_assoc}
use Rattle.argot_links.proofs.Having.{pushed_cases}
use Rattle.argot_ssa.specs.Edges.{leads, holds}
use Rattle.argot_ssa.proofs.Walks.{walked_one, walked_all}
use Rattle.argot_ssa.proofs.work.mark_blocks.Goals as goal
use Rattle.argot_ssa.proofs.work.mark_blocks.Goals.{In-Some}

whole : (c : In-Some) → c.loop-k.yielded ++ (c.in-Some.k ∷ c.next.new.self) ≡ slice_index_or c.args.places.now.lists c.args.r []
whole c = ap (λ rest. c.loop-k.yielded ++ rest) (sym c.in-Some.ensures.steps) ∙ c.loop-k.invariant.rest

edge : (c : In-Some) → leads c.args.places.now.lists c.args.r c.in-Some.k ≡ true
edge c = walked_one c.args.places.now.lists c.args.r c.in-Some.k c.loop-k.yielded _ (whole c)

pub bounds-heads-k : goal.bounds-heads-k
bounds-heads-k c = c.requires.range c.in-Some.k (edge (goal.at.bounds-heads-k c).In-Some)

pub add-requires-clause-column : goal.add-requires-clause-column
add-requires-clause-column c =
    subst (λ n. slice_index c.args.heads.now c.in-Some.k < n) (sym c.loop-k.invariant.cols)
    (c.requires.heads c.in-Some.k (c.requires.range c.in-Some.k (edge (goal.at.add-requires-clause-column c).In-Some)))

pub loop-k-preserved : goal.loop-k-preserved
loop-k-preserved c =
    let d = (goal.at.loop-k-preserved c).In-Some in
    let i = c.loop-k.invariant in
    let adds = c.add.ensures.adds in
    record {
      rest = rw append_assoc (whole d);
      cols = search rules;
      set = search rules;
      kept = λ a h. adds.kept 0 a (i.kept a h);
      there = λ k h. elim (pushed_cases c.loop-k.yielded c.in-Some.k k h) [
        | inl old ↦ adds.kept 0 _ (i.there k old)
        | inr new ↦ subst (λ x. holds c.add.new.self (slice_index c.args.heads.now x) ≡ true) (sym new) adds.there
      ];
      only = λ a h. elim (adds.only 0 a h) [
        | inl old ↦ i.only a old
        | inr new ↦ inr (c.in-Some.k, edge d, sym new.1)
      ];
    }

pub returns-clause-there : goal.returns-clause-there
returns-clause-there c = λ k h.
    let all = ap (λ rest. c.loop-k.yielded ++ rest) (sym c.in-None.ensures.steps.0) ∙ c.loop-k.invariant.rest in
    c.loop-k.invariant.there k (walked_all c.args.places.now.lists c.args.r k c.loop-k.yielded all h)
