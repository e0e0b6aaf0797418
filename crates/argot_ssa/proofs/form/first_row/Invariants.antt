use Rattle.std.proofs.Common.{◌-◌, ◌≡◌, ℕ, ◌<◌, ◌≤◌, length, slice_get, Some, true, false}
use Rattle.argot_ssa.specs.Paths.{Row}
use Rattle.argot_ssa.specs.Form.{stands_before}
use Rattle.argot_ssa.proofs.form.first_row.Given as goal

abbrev pub invariant-loop-low : goal.invariant-loop-low
invariant-loop-low l = record {
  low : l.low ≤ l.high;
  high : l.high ≤ length l.rows;
  below : (j : ℕ) (x : Row) → j < l.low → slice_get l.rows j ≡ Some x → stands_before x l.place l.register ≡ true;
  above : (j : ℕ) (x : Row) → l.high ≤ j → slice_get l.rows j ≡ Some x → stands_before x l.place l.register ≡ false;
}

abbrev pub decreases-loop-low : goal.decreases-loop-low
decreases-loop-low l = l.high - l.low
