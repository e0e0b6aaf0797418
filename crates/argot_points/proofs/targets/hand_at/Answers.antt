use Rattle.std.proofs.Common.{refl}
use Rattle.argot_points.proofs.targets.hand_at.Goals as goal

pub returns-in-Some-clause-closed : goal.returns-in-Some-clause-closed
returns-in-Some-clause-closed c = λ a h g takes m. let o = c.in-Some.ensures.only g takes m in rw (o.0, o.1) (c.hand.ensures.closed a)

pub returns-in-None-clause-closed : goal.returns-in-None-clause-closed
returns-in-None-clause-closed c = λ a h g takes m. absurd (c.in-None.ensures.none refl g takes m)
