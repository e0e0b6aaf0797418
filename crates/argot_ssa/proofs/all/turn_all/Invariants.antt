use Rattle.std.proofs.Common.{◌≡◌, ◌++◌, map, take, drop}
use Rattle.argot_ssa.specs.Form.{as_triple}
use Rattle.argot_ssa.proofs.all.turn_all.Given as goal

abbrev pub invariant-loop-row : goal.invariant-loop-row
invariant-loop-row l = l.row-items ≡ map as_triple (take l.row-index l.fn.rows.items) ++ drop l.row-index l.fn.rows.items
