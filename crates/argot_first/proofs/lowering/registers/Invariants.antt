use Rattle.std.proofs.Common.{◌≡◌, map, take}
use Rattle.argot_first.specs.Code.{register}
use Rattle.argot_first.proofs.lowering.registers.Given as goal

abbrev pub invariant-loop-operand : goal.invariant-loop-operand
invariant-loop-operand l = l.numbers ≡ map (register l.tables.steps.now) (take l.operand-index l.operands)
