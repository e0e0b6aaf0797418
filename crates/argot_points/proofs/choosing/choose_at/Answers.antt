use Rattle.std.proofs.Common.{◌≡◌, true, sym, subst}
use Rattle.argot_links.specs.Table.{has}
use Rattle.argot_points.proofs.choosing.choose_at.Goals as goal

pub returns-in-Some-clause-closed : goal.returns-in-Some-clause-closed
returns-in-Some-clause-closed c = λ same h m chosen. subst (λ w. has c.add_to_row.new.tables.refers w c.args.y ≡ true) (sym (c.in-Some.ensures.only m chosen)) c.add_to_row.ensures.closed
