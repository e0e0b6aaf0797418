use Rattle.std.proofs.Common.{◌≡◌, ◌<◌, ◌≤◌, length}
use Rattle.argot_escape.specs.Flooding.{Finds}
use Rattle.argot_escape.proofs.starts.reach_variables.Given as goal

abbrev pub invariant-loop-k : goal.invariant-loop-k
invariant-loop-k l = record {
  size : l.found.waiting.size ≡ length l.found.flags.items;
  inside : length l.program.globals ≤ length l.found.flags.items;
  finds : Finds (λ m. m < l.k) l.initial.found l.found;
}
