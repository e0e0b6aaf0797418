use Rattle.std.proofs.Common.{◌+◌, ◌-◌, ◌/◌, arith}
use Rattle.argot_points_rules.proofs.Placed.{from_place, up_to_place}
use Rattle.argot_points_rules.proofs.sites.first_site.Goals as goal

pub loop-low-preserved-then-site-place : goal.loop-low-preserved-then-site-place
loop-low-preserved-then-site-place c = record {
  from = omega (arith, c.loop-low.invariant.from);
  ends = omega (arith, c.loop-low-test.true);
  inside = c.loop-low.invariant.inside;
  low_end = up_to_place c.args.program.now c.site_count-high.ensures.well c.args.place (c.loop-low.low + (c.loop-low.high - c.loop-low.low) / 2) c.site.result.now c.site.ensures c.if-site-place.true;
  high_end = c.loop-low.invariant.high_end;
}

pub loop-low-preserved : goal.loop-low-preserved
loop-low-preserved c = record {
  from = c.loop-low.invariant.from;
  ends = omega arith;
  inside = omega (arith, c.loop-low-test.true, c.loop-low.invariant.inside);
  low_end = c.loop-low.invariant.low_end;
  high_end = from_place c.args.program.now c.site_count-high.ensures.well c.args.place (c.loop-low.low + (c.loop-low.high - c.loop-low.low) / 2) c.site.result.now (omega (arith, c.loop-low.invariant.from)) c.site.ensures c.if-site-place.false;
}
