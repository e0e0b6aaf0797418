use Rattle.argot_points_rules.proofs.Counting.{pushed_all, sites_next, too_many, lacks_locations, part_of}
use Rattle.argot_points_rules.proofs.locations.list_locations.Goals as goal

pub loop-s-preserved : goal.loop-s-preserved
loop-s-preserved c = record {
  whole = pushed_all _ _ _ _ _ _ c.loop-s.invariant.whole (sites_next c.loop-s.s _ c.site.result.now c.site.ensures) c.in-Ok.ensures.locations;
  few = c.in-Ok.ensures.few;
}

pub returns-in-Err-clause-fault : goal.returns-in-Err-clause-fault
returns-in-Err-clause-fault c = lacks_locations c.args.program.now c.in-Err.fault c.in-Err.ensures.only (λ e.
    too_many _ _ _ _ (part_of _ _ _ _ _ c.loop-s.invariant.whole (sites_next c.loop-s.s _ c.site.result.now c.site.ensures)) (c.in-Err.ensures.many e))
