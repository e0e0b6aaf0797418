use Rattle.std.proofs.Common.{◌≡◌, ℕ, ◌-◌, ◌*◌, ◌<◌, ◌≤◌, Some, length}
use Rattle.std.specs.Prelude.{slice_get}
use Rattle.argot_points_rules.specs.declared.rules.Owned.{Owned}
use Rattle.argot_points.specs.Settled.{Reads, IsUsed}
use Rattle.argot_points.specs.Solved.{function_key}
use Rattle.argot_points.proofs.uses.uses_of.Given as goal

abbrev pub invariant-loop-k : goal.invariant-loop-k
invariant-loop-k l = record {
  heads : length l.uses.lists ≡ function_key l.system (length l.system.program.now.functions);
  room : 3 * (length l.system.rules.items - l.k) ≤ l.uses.spare;
  all : (j q : ℕ) (o : Owned) → j < l.k → slice_get l.system.rules.items j ≡ Some o → Reads l.system o q → q < length l.uses.lists → IsUsed l.uses.lists q j;
  inside : (j q : ℕ) → IsUsed l.uses.lists q j → j < l.k;
}
