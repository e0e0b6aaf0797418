use Rattle.std.proofs.Common.{◌∙◌}
use Rattle.argot_io.proofs.TakenMore.{taken_more, within_more}
use Rattle.argot_io.proofs.writing.write_all.Goals as goal

pub loop-written-preserved : goal.loop-written-preserved
loop-written-preserved g c =
    record {
      within = within_more _ _ _ c.loop-written.invariant.within (c.in_ok-written.ensures.writes.0);
      faults = c.in_ok-written.ensures.writes.2 ∙ c.loop-written.invariant.faults;
      taken = taken_more _ _ _ _ _ _ c.loop-written.invariant.taken c.in_ok-written.ensures.writes.3;
    }
