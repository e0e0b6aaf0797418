use Rattle.std.specs.Prelude.{◌≡◌, ◌≤◌, length}
use Rattle.argot_plain.specs.Code.{IsIn}
use Rattle.argot_control.specs.Numbering.{Chooses, GoesOnWithin}
use Rattle.argot_control.proofs.inner.choose_within.Given as goal

abbrev pub invariant-loop-place : goal.invariant-loop-place
invariant-loop-place l = record {
  count : length l.inner.items ≡ length l.program.instrs;
  low : l.initial.place ≤ l.place;
  chooses : Chooses (λ m. IsIn l.program m l.function × GoesOnWithin l.program l.flags m) l.initial.inner.items l.inner.items;
}
