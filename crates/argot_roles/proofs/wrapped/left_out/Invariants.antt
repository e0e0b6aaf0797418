use Rattle.std.proofs.Common.{◌≡◌, ℕ, Bool, Some, length}
use Rattle.std.specs.List.{slice_get}
use Rattle.argot_plain.specs.Counts.{is_left_out}
use Rattle.argot_roles.proofs.wrapped.left_out.Given as goal

abbrev pub invariant-loop-place : goal.invariant-loop-place
invariant-loop-place l = record {
  count : length l.out.items ≡ l.place;
  each : (i : ℕ) (b : Bool) → slice_get l.out.items i ≡ Some b → b ≡ is_left_out l.program i;
}
