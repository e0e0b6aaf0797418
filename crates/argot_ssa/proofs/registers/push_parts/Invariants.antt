use Rattle.std.proofs.Common.{◌≡◌, ◌++◌, take}
use Rattle.argot_plain.specs.Code.{parts_registers}
use Rattle.argot_ssa.proofs.registers.push_parts.Given as goal

abbrev pub invariant-loop-part : goal.invariant-loop-part
invariant-loop-part l = l.into.items ≡ l.fn.into.items ++ parts_registers (take l.part-index l.parts)
