use Rattle.std.proofs.Common.{refl}
use Rattle.argot_points.proofs.aiming.mark_at.Goals as goal

pub returns-in-Some-clause-there : goal.returns-in-Some-clause-there
returns-in-Some-clause-there c = λ g takes means. rw (c.in-Some.ensures.only g takes means).0 c.add.ensures.adds.there

pub returns-in-None-clause-there : goal.returns-in-None-clause-there
returns-in-None-clause-there c = λ g takes means. absurd (c.in-None.ensures.none refl g takes means)
