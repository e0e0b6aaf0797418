use Rattle.std.proofs.Common.{◌≡◌, take}
use Rattle.argot_typed.specs.Leaves.{leaves_of}
use Rattle.argot_typed.proofs.paths.leaves.Given as goal

abbrev pub invariant-loop-n : goal.invariant-loop-n
invariant-loop-n l = l.paths.items ≡ take l.n (leaves_of l.table l.t.0)
