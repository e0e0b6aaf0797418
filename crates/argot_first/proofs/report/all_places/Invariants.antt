use Rattle.std.proofs.Common.{◌≡◌, ◌+◌, ◌*◌, ◌≤◌, drop}
use Rattle.argot_first.specs.Report.{all_places_of}
use Rattle.argot_first.proofs.report.all_places.Given as goal

abbrev pub invariant-loop-function : goal.invariant-loop-function
invariant-loop-function l = (l.count ≤ 6 * l.function-index) × (l.count + all_places_of (drop l.function-index l.functions) ≡ all_places_of l.functions)
