use Rattle.std.proofs.Common.{◌≡◌, ◌≤◌, length, drop, Some}
use Rattle.argot_typed.specs.Counts.{count_of_fields, known_at}
use Rattle.argot_typed.proofs.counting.count_of_fields.Given as goal

abbrev pub invariant-loop-i : goal.invariant-loop-i
invariant-loop-i l = record {
  within : l.i ≤ length l.fields;
  rest : count_of_fields (known_at l.counts) (drop l.i l.fields) ≡ Some l.total;
}

abbrev pub decreases-loop-i : goal.decreases-loop-i
decreases-loop-i l = l.i
