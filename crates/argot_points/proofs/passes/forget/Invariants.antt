use Rattle.std.proofs.Common.{◌≡◌, length}
use Rattle.argot_points.proofs.passes.forget.Given as goal

abbrev pub invariant-loop : goal.invariant-loop
invariant-loop l = l.grown.size ≡ l.fn.grown.size

abbrev pub decreases-loop : goal.decreases-loop
decreases-loop l = length l.grown.items
