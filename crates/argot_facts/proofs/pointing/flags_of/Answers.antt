use Rattle.std.proofs.Common.{◌≡◌, Some, get_or, sym, ap, ◌∙◌, inl, inr, arith, subst}
use Rattle.std.specs.Prelude.{slice_get}
use Rattle.std.proofs.lemmas.Bool.{cases_lt}
use Rattle.std.proofs.lemmas.Option.{slice_get-get_or}
use Rattle.argot_plain.specs.Lists.{In}
use Rattle.argot_facts.specs.Marked.{IsSet}
use Rattle.argot_facts.proofs.Listed.{in_of_get, number_of, get_within}
use Rattle.argot_facts.proofs.pointing.flags_of.Goals as goal

pub mark-requires : goal.mark-requires
mark-requires c =
    let live = c.args.live.now in
    let i = c.loop-function.function-index in
    let count = c.loop-function.invariant.count in
    let m : In (get_or live i 0) live = in_of_get live i (get_or live i 0) (slice_get-get_or live i 0 c.loop-function-test.true) in
    omega (arith, c.requires (get_or live i 0) m)

pub loop-function-preserved : goal.loop-function-preserved
loop-function-preserved c =
    let live = c.args.live.now in
    let i = c.loop-function.function-index in
    let count = c.loop-function.invariant.count in
    let at : slice_get live i ≡ Some (get_or live i 0) = slice_get-get_or live i 0 c.loop-function-test.true in
    record {
      count = c.mark.ensures.count ∙ count;
      only = λ g s. elim (c.mark.ensures.only g s) [ inl a ↦ c.loop-function.invariant.only g a | inr e ↦ subst (λ n. In n live) (sym e) (in_of_get live i (get_or live i 0) at) ];
      there = λ k g l e. elim (cases_lt k i) [
        | inl x ↦ c.mark.ensures.kept g (c.loop-function.invariant.there k g x e)
        | inr x ↦
            let z : k ≡ i = omega arith in
            let y : Some (get_or live i 0) ≡ Some g = sym at ∙ ap (slice_get live) (sym z) ∙ e in
            let w : get_or live i 0 ≡ g = cc in
            subst (IsSet c.mark.new.flags.items) w c.mark.ensures.there
      ];
    }

pub returns : goal.returns
returns c = λ g. (c.loop-function.invariant.only g, λ m. let r = number_of g c.args.live.now m in c.loop-function.invariant.there r.0 g (omega (arith, get_within c.args.live.now r.0 g r.1)) r.1)
