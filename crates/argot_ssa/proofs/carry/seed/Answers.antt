use Rattle.std.proofs.Common.{◌≡◌, ◌<◌, ◌++◌, ◌∷◌, [], true, slice_index, slice_index_or, ap, sym, ◌∙◌, subst, inl, inr, rules, append_assoc}
use Rattle.argot_links.proofs.Having.{pushed_cases}
use Rattle.argot_ssa.specs.Edges.{leads}
use Rattle.argot_ssa.proofs.Walks.{walked_one, walked_all}
use Rattle.argot_ssa.proofs.carry.seed.Goals as goal
use Rattle.argot_ssa.proofs.carry.seed.Goals.{In-Some}

whole : (c : In-Some) → c.loop-k.yielded ++ (c.in-Some.k ∷ c.next.new.self) ≡ slice_index_or c.args.asks.now.lists c.args.r []
whole c = ap (λ rest. c.loop-k.yielded ++ rest) (sym c.in-Some.ensures.steps) ∙ c.loop-k.invariant.rest

edge : (c : In-Some) → leads c.args.asks.now.lists c.args.r c.in-Some.k ≡ true
edge c = walked_one c.args.asks.now.lists c.args.r c.in-Some.k c.loop-k.yielded _ (whole c)

pub bounds-heads-k : goal.bounds-heads-k
bounds-heads-k c = c.requires.range c.in-Some.k (edge (goal.at.bounds-heads-k c).In-Some)

pub expand-requires-clause-from : goal.expand-requires-clause-from
expand-requires-clause-from c =
    subst (λ n. slice_index c.args.heads.now c.in-Some.k < n) (sym c.requires.count)
    (c.requires.heads c.in-Some.k (c.requires.range c.in-Some.k (edge (goal.at.expand-requires-clause-from c).In-Some)))

pub loop-k-preserved : goal.loop-k-preserved
loop-k-preserved c =
    let d = (goal.at.loop-k-preserved c).In-Some in
    let i = c.loop-k.invariant in
    let e = c.expand.ensures in
    record {
      rest = rw append_assoc (whole d);
      cols = search rules;
      needed = search rules;
      queue = search rules;
      waits = λ a h. elim (e.fresh a h) [ inl old ↦ e.waiting a (i.waits a old) | inr new ↦ new ];
      marked = λ a h. elim (e.marked a h) [ inl old ↦ e.kept a (i.marked a old) | inr new ↦ new ];
      there = λ k b h edge_back full. elim (pushed_cases c.loop-k.yielded c.in-Some.k k h) [
        | inl old ↦ e.kept b (i.there k b old edge_back full)
        | inr new ↦ e.there b (subst (λ x. leads c.args.back.now.lists (slice_index c.args.heads.now x) b ≡ true) new edge_back) full
      ];
    }

pub returns-clause-there : goal.returns-clause-there
returns-clause-there c = λ k b h edge_back full.
    let all = ap (λ rest. c.loop-k.yielded ++ rest) (sym c.in-None.ensures.steps.0) ∙ c.loop-k.invariant.rest in
    c.loop-k.invariant.there k b (walked_all c.args.asks.now.lists c.args.r k c.loop-k.yielded all h) edge_back full
