use Rattle.std.proofs.Common.{◌≡◌, ◌+◌, ◌++◌, ◌∷◌, [], true, slice_index, slice_index_or, ap, sym, ◌∙◌, subst, inl, inr, append_assoc}
use Rattle.argot_links.proofs.Having.{pushed_cases}
use Rattle.argot_plain.specs.Lists.{In}
use Rattle.argot_ssa.specs.Edges.{leads, holds}
use Rattle.argot_ssa.proofs.Walks.{walked_one, walked_all}
use Rattle.argot_ssa.proofs.carry.emit.Goals as goal
use Rattle.argot_ssa.proofs.carry.emit.Goals.{In-Some}

whole : (c : In-Some) → c.loop-k.yielded ++ (c.in-Some.k ∷ c.next.new.self) ≡ slice_index_or c.args.asks.now.lists c.args.r []
whole c = ap (λ rest. c.loop-k.yielded ++ rest) (sym c.in-Some.ensures.steps) ∙ c.loop-k.invariant.rest

edge : (c : In-Some) → leads c.args.asks.now.lists c.args.r c.in-Some.k ≡ true
edge c = walked_one c.args.asks.now.lists c.args.r c.in-Some.k c.loop-k.yielded _ (whole c)

pub emit_at-requires-clause-place : goal.emit_at-requires-clause-place
emit_at-requires-clause-place c = c.requires.range c.in-Some.k (edge (goal.at.emit_at-requires-clause-place c).In-Some)

pub loop-k-preserved : goal.loop-k-preserved
loop-k-preserved c =
    let d = (goal.at.loop-k-preserved c).In-Some in
    let i = c.loop-k.invariant in
    let e = c.in_ok-emit_at.ensures in
    record {
      rest = rw append_assoc (whole d);
      kept = λ x h. e.kept x (i.kept x h);
      only = λ x h. elim (e.only x h) [
        | inl old ↦ i.only x old
        | inr new ↦ inr (c.in-Some.k, edge d, new.0, new.1)
      ];
      there = λ k h seen. elim (pushed_cases c.loop-k.yielded c.in-Some.k k h) [
        | inl old ↦ e.kept _ (i.there k old seen)
        | inr new ↦
            let came = e.there (subst (λ x. holds c.args.seen.now (slice_index c.args.heads.now x) ≡ true) new seen) in
            subst (λ x. In (c.args.entry + x, c.args.r, c.args.entry + c.args.d) c.emit_at.new.rows.items) (sym new) came
      ];
    }

pub returns-clause-there : goal.returns-clause-there
returns-clause-there c = λ k h seen.
    let all = ap (λ rest. c.loop-k.yielded ++ rest) (sym c.in-None.ensures.steps.0) ∙ c.loop-k.invariant.rest in
    c.loop-k.invariant.there k (walked_all c.args.asks.now.lists c.args.r k c.loop-k.yielded all h) seen
