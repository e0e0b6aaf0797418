use Rattle.std.proofs.Common.{◌≡◌, ◌++◌, ap, sym, ◌∙◌, subst, inl, inr, append_assoc, arith}
use Rattle.std.proofs.lemmas.List.{append-nil}
use Rattle.argot_names_rules.specs.Lists.{In}
use Rattle.argot_names_imports.proofs.Lists.{in_either}
use Rattle.argot_names_packages.specs.Ranks.{rank_of}
use Rattle.argot_names_packages.proofs.falling.falls.Goals as goal

pub loop-t-preserved : goal.loop-t-preserved
loop-t-preserved c =
    let whole = ap (λ rest. c.loop-t.yielded ++ rest) (sym c.in-Some.ensures.steps) ∙ c.loop-t.invariant.rest in
    record {
      rest = rw append_assoc whole;
      fall = λ t h some. elim (in_either c.loop-t.yielded c.in-Some.t t h) [
        | inl old ↦ c.loop-t.invariant.fall t old some
        | inr new ↦ let e : rank_of c.args.ranks.now t ≡ rank_of c.args.ranks.now c.in-Some.t = ap (rank_of c.args.ranks.now) new in omega (arith, e, some)
      ];
    }

pub returns : goal.returns
returns c = λ _ t h.
    let whole = ap (λ rest. c.loop-t.yielded ++ rest) (sym c.in-None.ensures.steps.0) ∙ c.loop-t.invariant.rest in
    c.loop-t.invariant.fall t (subst (In t) (sym whole ∙ append-nil c.loop-t.yielded) h)
