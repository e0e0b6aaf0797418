use Rattle.std.proofs.Common.{◌≡◌, ℕ, ◌-◌, length}
use Rattle.argot_report.specs.Counted.{HasNumbered}
use Rattle.argot_report.proofs.naming.places_of.Given as goal

abbrev pub invariant-loop-k : goal.invariant-loop-k
invariant-loop-k l = record { count : length l.table.items ≡ l.places; numbered : HasNumbered l.places l.entries (l.count - l.k) l.table.items }
