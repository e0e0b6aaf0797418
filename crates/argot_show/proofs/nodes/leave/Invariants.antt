use Rattle.std.proofs.Common.{◌≡◌, reverse}
use Rattle.argot_show.specs.TreeLines.{popped}
use Rattle.argot_show.proofs.nodes.leave.Given as goal

abbrev pub invariant-loop-more : goal.invariant-loop-more
invariant-loop-more l = popped (reverse l.around.items) ≡ popped (reverse l.initial.around.items)

abbrev pub decreases-loop-more : goal.decreases-loop-more
decreases-loop-more l = goal.left-loop-more l
