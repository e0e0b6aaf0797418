use Rattle.std.proofs.Common.{◌≡◌, ◌+◌, ◌≤◌, ◌*◌, []}
use Rattle.argot_first_form.specs.Reading.{arguments}
use Rattle.argot_first_form.proofs.values.+values.Given as goal

abbrev pub decreases-value : goal.decreases-value
decreases-value l = 4 * l.depth

abbrev pub decreases-call : goal.decreases-call
decreases-call l = 4 * l.depth + 3

abbrev pub decreases-arguments : goal.decreases-arguments
decreases-arguments l = 4 * l.depth + 2

abbrev pub decreases-values : goal.decreases-values
decreases-values l = 4 * l.depth + 1

abbrev pub invariant-values-loop-fuel : goal.invariant-values-loop-fuel
invariant-values-loop-fuel l = (l.fuel ≤ l.fn.depth) × (arguments l.fuel l.operands l.reader ≡ arguments l.fn.depth [] l.fn.reader)

abbrev pub decreases-values-loop-fuel : goal.decreases-values-loop-fuel
decreases-values-loop-fuel l = l.fuel
