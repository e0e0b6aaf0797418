use Rattle.std.proofs.Common.{◌≡◌, length}
use Rattle.argot_names_packages.proofs.ranks.ranks_of.Given as goal

abbrev pub invariant-loop-before : goal.invariant-loop-before
invariant-loop-before l = length l.ranks.items ≡ l.count
