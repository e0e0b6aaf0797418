use Rattle.std.proofs.Common.{◌≡◌, ◌<◌, ◌^◌, Some, slice_get, sym, subst, arith}
use Rattle.std.specs.Prelude.{IfSome, IfNone}
use Rattle.argot_names_rules.specs.Lists.{In}
use Rattle.argot_names_imports.proofs.Positions.{position_there, not_any, fit_some, fit_none}
use Rattle.argot_names_imports.proofs.numbers.number_of.Goals as goal

pub returns-in-None-clause-none : goal.returns-in-None-clause-none
returns-in-None-clause-none c = λ _. not_any c.args.first c.args.firsts.now.keys (sym c.in-None.ensures.found)

pub returns-in-Some-clause-some : goal.returns-in-Some-clause-some
returns-in-Some-clause-some c =
    subst (λ o. IfSome o (λ k. slice_get c.args.firsts.now.keys k ≡ Some c.args.first)) (sym c.ok.ensures.value)
    (fit_some c.try_from.result (c.in-Some.index < 2 ^ 32) c.in-Some.index (λ k. slice_get c.args.firsts.now.keys k ≡ Some c.args.first) c.try_from.ensures
    (position_there c.args.first c.args.firsts.now.keys c.in-Some.index (sym c.in-Some.ensures.index)))

pub returns-in-Some-clause-none : goal.returns-in-Some-clause-none
returns-in-Some-clause-none c = λ few.
    subst (λ o. IfNone o (In c.args.first c.args.firsts.now.keys → ⊥)) (sym c.ok.ensures.value)
    (fit_none c.try_from.result (c.in-Some.index < 2 ^ 32) c.in-Some.index (In c.args.first c.args.firsts.now.keys → ⊥) c.try_from.ensures (let w = c.in-Some.ensures.within in omega (arith, w, few)))
