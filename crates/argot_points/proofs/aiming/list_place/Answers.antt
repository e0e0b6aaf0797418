use Rattle.std.proofs.Common.{refl}
use Rattle.argot_points.proofs.Aims.{listed_none}
use Rattle.argot_points.proofs.aiming.list_place.Goals as goal

pub returns-in-None-clause-listed : goal.returns-in-None-clause-listed
returns-in-None-clause-listed c = listed_none c.args.system.now c.args.tables.now c.args.place c.args.found.now.items c.requires.listed (c.in-None.ensures.none refl)
