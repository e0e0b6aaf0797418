use Rattle.argot_ssa.specs.Paths.{AddsRows}
use Rattle.argot_ssa.specs.Form.{IsFoundIn}
use Rattle.argot_ssa.proofs.all.collect_all.Given as goal

abbrev pub invariant-loop-number : goal.invariant-loop-number
invariant-loop-number l = AddsRows l.fn.rows.items l.rows.items (IsFoundIn l.program l.number)
