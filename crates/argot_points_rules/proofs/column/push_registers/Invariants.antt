use Rattle.std.proofs.Common.{◌≡◌, ◌+◌, ◌++◌, drop}
use Rattle.argot_points_rules.specs.Column.{register_copies}
use Rattle.argot_points_rules.proofs.column.push_registers.Given as goal

abbrev pub invariant-loop-n : goal.invariant-loop-n
invariant-loop-n l = l.rules.items ++ register_copies l.at.program.now l.at.function.now l.at.defs.now l.at.owner l.at.place (l.first + l.n) (drop l.n l.registers) ≡ l.fn.rules.items ++ register_copies l.at.program.now l.at.function.now l.at.defs.now l.at.owner l.at.place l.first l.registers
