use Rattle.std.proofs.Common.{◌≡◌, ℕ, ◌<◌, ◌≤◌, ◌-◌, length}
use Rattle.argot_plain.specs.Code.{IsFunction}
use Rattle.argot_plain.specs.declared.functions.Function.{Function}
use Rattle.argot_report.proofs.owner.function_of.Given as goal

abbrev pub invariant-loop-low : goal.invariant-loop-low
invariant-loop-low l = record {
  some : l.low < l.high;
  inside : l.high ≤ length l.program.functions;
  low_end : (fn : Function) → IsFunction l.program l.low fn → fn.entry ≤ l.place;
  high_end : (fn : Function) → IsFunction l.program l.high fn → l.place < fn.entry;
}

abbrev pub decreases-loop-low : goal.decreases-loop-low
decreases-loop-low l = l.high - l.low
