use Rattle.std.proofs.Common.{◌≡◌, true, Some, sym, ap, ◌∙◌, below_more, arith}
use Rattle.std.specs.Prelude.{slice_get}
use Rattle.argot_names_rules.specs.Universe.{predeclared}
use Rattle.argot_names_tops.proofs.Among.{among_at, none_among, number_below}
use Rattle.argot_names_tops.proofs.predeclared.predeclared_number.Goals as goal

pub returns-then-is_same-clause-some : goal.returns-then-is_same-clause-some
returns-then-is_same-clause-some c =
    let here : slice_get predeclared c.loop-number.number ≡ Some c.args.name.now = c.predeclared_name.ensures ∙ ap (λ x. Some x) (sym c.as_bytes.ensures.value ∙ c.is_same.ensures.0 c.if-is_same.true) in
    (here, among_at c.args.name.now predeclared c.loop-number.number here)

pub loop-number-preserved : goal.loop-number-preserved
loop-number-preserved c =
    below_more _ _ c.loop-number.invariant (λ e.
    let same : c.is_same.result ≡ true = c.is_same.ensures.1 (c.as_bytes.ensures.value ∙ (let s : c.predeclared_name.result.now ≡ c.args.name.now = cc (c.predeclared_name.ensures, e) in s)) in
    absurd (cc (same, c.if-is_same.false)))

pub returns-clause-none : goal.returns-clause-none
returns-clause-none c = λ e. none_among c.args.name.now predeclared (λ k at. c.loop-number.invariant k (omega (arith, number_below predeclared k c.args.name.now at, c.loop-number-test.false)) at)
