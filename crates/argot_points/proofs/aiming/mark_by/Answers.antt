use Rattle.std.proofs.Common.{◌≡◌, true, subst}
use Rattle.argot_links.specs.Table.{has}
use Rattle.argot_points.proofs.aiming.mark_by.Goals as goal

pub returns-in-Some-clause-there : goal.returns-in-Some-clause-there
returns-in-Some-clause-there c = λ r y g takes is h means. c.mark_row.ensures.there y g takes (subst (λ n. has c.args.tables.now.refers n y ≡ true) (c.in-Some.ensures.only r is) h) means
