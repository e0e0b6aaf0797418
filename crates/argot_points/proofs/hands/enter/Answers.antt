use Rattle.std.proofs.Common.{refl, subst}
use Rattle.argot_points.specs.Meaning.{IsParamOf}
use Rattle.argot_points.proofs.hands.enter.Goals as goal

pub enter_param-requires-clause-rule : goal.enter_param-requires-clause-rule
enter_param-requires-clause-rule c = λ n m y w. c.requires.rule n m y (record { param = c.in-Some.param; taken = c.in-Some.ensures.found; of = w })

pub returns-in-Some-clause-closed : goal.returns-in-Some-clause-closed
returns-in-Some-clause-closed c = λ a n m w. c.enter_param.ensures.closed a n m (subst (λ j. IsParamOf c.args.system.now c.args.g j c.args.path.now m) (c.in-Some.ensures.only w.param w.taken) w.of)

pub returns-in-None-clause-closed : goal.returns-in-None-clause-closed
returns-in-None-clause-closed c = λ a n m w. absurd (c.in-None.ensures.none refl w.param w.taken)
