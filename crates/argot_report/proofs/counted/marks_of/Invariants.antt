use Rattle.std.proofs.Common.{◌≡◌, ℕ, ◌<◌, length}
use Rattle.argot_plain.specs.Counts.{stands_for}
use Rattle.argot_report.specs.Counted.{is_marked, is_set}
use Rattle.argot_report.proofs.counted.marks_of.Given as goal

abbrev pub invariant-loop-target : goal.invariant-loop-target
invariant-loop-target l = record {
  count : length l.marks.items ≡ l.target;
  each : (h : ℕ) → h < l.target → is_set l.marks.items h ≡ is_marked (stands_for l.program h) l.listed.items;
}
