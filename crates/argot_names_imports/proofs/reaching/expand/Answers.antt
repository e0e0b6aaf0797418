use Rattle.std.proofs.Common.{◌++◌, [], slice_index_or, ap, sym, ◌∙◌, subst, inl, inr, append_assoc}
use Rattle.std.proofs.lemmas.List.{append-nil}
use Rattle.argot_names_rules.specs.Lists.{In}
use Rattle.argot_names_imports.proofs.Lists.{in_either, in_before}
use Rattle.argot_names_imports.proofs.Graphs.{in_mid, kept_join}
use Rattle.argot_names_imports.proofs.reaching.expand.Goals as goal

pub loop-t-preserved : goal.loop-t-preserved
loop-t-preserved c =
    let whole = ap (λ rest. c.loop-t.yielded ++ rest) (sym c.in-Some.ensures.steps) ∙ c.loop-t.invariant.rest in
    record {
      rest = rw append_assoc whole;
      there = λ t h. elim (in_either c.loop-t.yielded c.in-Some.t t h) [
        | inl old ↦ subst (In t) (sym c.in_ok-put.ensures.kept.1) (in_before c.loop-t.reached.keys c.in_ok-put.ensures.kept.0 t (c.loop-t.invariant.there t old))
        | inr new ↦ subst (λ x. In x c.put.new.reached.keys) (sym new) c.in_ok-put.ensures.there
      ];
      kept = kept_join _ _ _ c.loop-t.invariant.kept c.in_ok-put.ensures.kept;
      only = λ t h. elim (c.in_ok-put.ensures.only t h) [
        | inl old ↦ c.loop-t.invariant.only t old
        | inr new ↦ inr (subst (λ x. In x (slice_index_or c.args.graph.now.lists c.args.node [])) (sym new) (subst (In c.in-Some.t) whole (in_mid c.loop-t.yielded _ c.in-Some.t)))
      ];
      unique = c.in_ok-put.ensures.unique;
    }

pub returns-clause-there : goal.returns-clause-there
returns-clause-there c = λ t h.
    let whole = ap (λ rest. c.loop-t.yielded ++ rest) (sym c.in-None.ensures.steps.0) ∙ c.loop-t.invariant.rest in
    c.loop-t.invariant.there t (subst (In t) (sym whole ∙ append-nil c.loop-t.yielded) h)
