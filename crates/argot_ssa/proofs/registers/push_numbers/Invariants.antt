use Rattle.std.proofs.Common.{◌≡◌, ◌++◌}
use Rattle.argot_ssa.specs.Places.{numbers}
use Rattle.argot_ssa.proofs.registers.push_numbers.Given as goal

abbrev pub invariant-loop-r : goal.invariant-loop-r
invariant-loop-r l = l.into.items ≡ l.fn.into.items ++ numbers l.r
