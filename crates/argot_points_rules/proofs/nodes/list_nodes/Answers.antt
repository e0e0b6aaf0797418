use Rattle.argot_points_rules.proofs.Counting.{pushed_all, functions_next, too_many, lacks_nodes, part_of}
use Rattle.argot_points_rules.proofs.nodes.list_nodes.Goals as goal

pub loop-g-preserved : goal.loop-g-preserved
loop-g-preserved c = record {
  whole = pushed_all _ _ _ _ _ _ c.loop-g.invariant.whole (functions_next c.args.program.now c.loop-g.g _ c.function.result.now c.function.ensures) c.in-Ok.ensures.nodes;
  few = c.in-Ok.ensures.few;
}

pub returns-in-Err-clause-fault : goal.returns-in-Err-clause-fault
returns-in-Err-clause-fault c = lacks_nodes c.args.program.now c.in-Err.fault c.in-Err.ensures.only (λ e.
    too_many _ _ _ _ (part_of _ _ _ _ _ c.loop-g.invariant.whole (functions_next c.args.program.now c.loop-g.g _ c.function.result.now c.function.ensures)) (c.in-Err.ensures.many e))
