use Rattle.std.proofs.Common.{◌≡◌, ap, arith}
use Rattle.argot_points_rules.specs.declared.rules.Owned.{Owned}
use Rattle.argot_points.proofs.passes.apply.Goals as goal

pub returns-then-owned-function_count-clause-closed : goal.returns-then-owned-function_count-clause-closed
returns-then-owned-function_count-clause-closed c = λ a o e l.
    let z : o ≡ c.rule-owned.result.now = cc (e, c.rule-owned.ensures) in
    absurd (omega (arith, c.requires.sound.functions o.function l, ap (λ (x : Owned). x.function) z, c.function_count.ensures.count, c.if-owned-function_count.true))
