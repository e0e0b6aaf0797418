use Rattle.std.proofs.Common.{suc, arith}
use Rattle.argot_points_rules.proofs.Placed.{from_place}
use Rattle.argot_points_rules.proofs.sites.end_of_sites.Goals as goal

pub returns-then-site-place-clause-behind : goal.returns-then-site-place-clause-behind
returns-then-site-place-clause-behind c = from_place c.args.program.now c.requires.well (suc c.args.place) c.loop-n.n c.site.result.now (omega (arith, c.requires.from, c.loop-n.auto.n)) c.site.ensures c.if-site-place.true
