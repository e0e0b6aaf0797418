use Rattle.std.proofs.Common.{◌≡◌, ℕ, Bool, Some, length}
use Rattle.std.specs.List.{slice_get}
use Rattle.argot_plain.specs.Counts.{is_among, stands_for}
use Rattle.argot_roles.proofs.targets.counted.Given as goal

abbrev pub invariant-loop-h : goal.invariant-loop-h
invariant-loop-h l = record {
  count : length l.counted.items ≡ l.h;
  each : (i : ℕ) (b : Bool) → slice_get l.counted.items i ≡ Some b → b ≡ is_among (stands_for l.program i) l.numbers;
}
