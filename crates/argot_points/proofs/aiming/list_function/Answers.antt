use Rattle.std.proofs.Common.{◌≡◌, false, rules}
use Rattle.argot_links.specs.Table.{has}
use Rattle.argot_facts.proofs.Listed.{get_at}
use Rattle.argot_points.proofs.Aims.{listed_dead}
use Rattle.argot_points.proofs.aiming.list_function.Goals as goal

pub returns-then-not-has-clause-listed : goal.returns-then-not-has-clause-listed
returns-then-not-has-clause-listed c =
    let fn = get_at c.args.system.now.program.now.functions c.args.h c.requires.inside in
    let dead : has c.args.tables.now.live 0 c.args.h ≡ false = search rules in
    listed_dead c.args.system.now c.args.tables.now c.args.h fn.0 c.args.found.now.items c.requires.fits.well.ranges fn.1 dead c.requires.listed
