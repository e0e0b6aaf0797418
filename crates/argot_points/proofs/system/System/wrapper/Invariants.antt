use Rattle.std.proofs.Common.{◌≡◌, ℕ, ◌≤◌, Some}
use Rattle.std.specs.Prelude.{slice_get}
use Rattle.argot_points.proofs.system.System.wrapper.Given as goal

abbrev pub invariant-loop-n : goal.invariant-loop-n
invariant-loop-n l = (k g : ℕ) → slice_get l.self.program.now.methods k ≡ Some (l.dynamic, l.name, g) → l.n ≤ k
