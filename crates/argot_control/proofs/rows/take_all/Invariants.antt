use Rattle.std.specs.Prelude.{◌≡◌, ℕ, ◌<◌, ◌≤◌, true, false, Some, slice_get}
use Rattle.argot_links.specs.Table.{room}
use Rattle.argot_control.specs.Steps.{IsSquare, AreLed, IsTaken}
use Rattle.argot_control.proofs.rows.take_all.Given as goal

abbrev pub invariant-loop-k : goal.invariant-loop-k
invariant-loop-k l = record {
  square : IsSquare l.blocks l.rows;
  led : AreLed l.steps l.rows;
  most : room l.rows ≤ room l.initial.rows;
  less : l.changed ≡ true → room l.rows < room l.initial.rows;
  taken : l.changed ≡ false → (j x y : ℕ) → j < l.k → slice_get l.steps j ≡ Some (x, y) → IsTaken l.rows x y;
}
