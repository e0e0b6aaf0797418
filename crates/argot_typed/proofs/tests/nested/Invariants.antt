use Rattle.std.proofs.Common.{◌≡◌, ◌+◌, ◌*◌, length}
use Rattle.argot_typed.specs.Fitting.{IsOrdered}
use Rattle.argot_typed.proofs.tests.nested.Given as goal

abbrev pub invariant-loop-depth : goal.invariant-loop-depth
invariant-loop-depth l = record {
  ordered : IsOrdered l.shapes.items;
  so_far : length l.shapes.items ≡ 2 * l.depth + 1;
}
