use Rattle.std.proofs.Common.{◌≡◌, length}
use Rattle.argot_names_packages.proofs.ranks.raise_targets.Given as goal

abbrev pub invariant-loop-t : goal.invariant-loop-t
invariant-loop-t l = length l.counts.items ≡ length l.fn.counts.items
