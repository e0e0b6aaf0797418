use Rattle.std.proofs.Common.{◌≡◌, length}
use Rattle.argot_plain_show.proofs.rows.joined.Given as goal

abbrev pub invariant-loop : goal.invariant-loop
invariant-loop l = length l.table.rows ≡ l.rows
