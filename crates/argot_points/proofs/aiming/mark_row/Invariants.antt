use Rattle.std.proofs.Common.{◌≡◌, ◌⊎◌, ◌++◌, ℕ, Bool, true}
use Rattle.argot_links.specs.Table.{has, row, SameShape}
use Rattle.argot_plain.specs.Lists.{In}
use Rattle.argot_points.specs.Meaning.{Means}
use Rattle.argot_points.proofs.aiming.mark_row.Given as goal

abbrev pub invariant-loop-y : goal.invariant-loop-y
invariant-loop-y l = record {
  rest : l.yielded ++ l.y-iterator ≡ row l.refers l.r;
  shape : SameShape l.fn.marks l.marks;
  kept : (g : ℕ) → has l.fn.marks 0 g ≡ true → has l.marks 0 g ≡ true;
  there : (y g : ℕ) (takes : Bool) → In y l.yielded → Means l.system l.callee y g takes → has l.marks 0 g ≡ true;
  only : (g : ℕ) → has l.marks 0 g ≡ true → (has l.fn.marks 0 g ≡ true) ⊎ ((y : ℕ) × (takes : Bool) × (In y l.yielded) × Means l.system l.callee y g takes);
}
