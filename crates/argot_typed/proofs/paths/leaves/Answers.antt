use Rattle.argot_typed.specs.Leaves.{leaves_of}
use Rattle.argot_typed.proofs.Onward.{paths_more}
use Rattle.argot_typed.proofs.paths.leaves.Goals as goal

pub loop-n-preserved : goal.loop-n-preserved
loop-n-preserved c = rw c.in_ok-push.ensures.items (paths_more c.loop-n.paths.items (leaves_of c.args.table.now c.args.t.0) c.loop-n.n c.in_ok-leaf.field-0 c.loop-n.invariant c.in_ok-leaf.ensures)
