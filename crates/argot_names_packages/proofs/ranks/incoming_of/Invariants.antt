use Rattle.std.proofs.Common.{◌≡◌, length}
use Rattle.argot_names_packages.proofs.ranks.incoming_of.Given as goal

abbrev pub invariant-loop-node : goal.invariant-loop-node
invariant-loop-node l = length l.counts.items ≡ l.count
