use Rattle.std.proofs.Common.{◌∙◌}
use Rattle.argot_names_subset.proofs.Marking.{flags_more, flag_is}
use Rattle.argot_names_subset.proofs.positions.flags_of.Goals as goal

pub loop-k-preserved : goal.loop-k-preserved
loop-k-preserved c =
    record {
      flags = flags_more c.args.sources.now c.args.spots.now c.loop-k.k c.spot_at-spot.result c.flag_at.result c.loop-k.flags.items c.push.new.self.items c.spot_at-spot.ensures
          (c.flag_at.ensures ∙ flag_is c.args.sources.now c.spot_at-spot.result c.moved-cursor.result c.moved-cursor.ensures.file c.moved-cursor.ensures.line c.moved-cursor.ensures.column)
          c.loop-k.invariant.flags c.in_ok-push.ensures.items;
      cursor = c.moved-cursor.ensures.cursor;
    }
