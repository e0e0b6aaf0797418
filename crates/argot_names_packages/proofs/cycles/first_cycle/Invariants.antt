use Rattle.argot_names_packages.specs.Cycles.{IsCycleOf}
use Rattle.argot_names_packages.specs.Spots.{IsLeast, IsBelow}
use Rattle.argot_names_packages.proofs.cycles.first_cycle.Given as goal

abbrev pub invariant-loop-k : goal.invariant-loop-k
invariant-loop-k l = IsLeast (IsBelow (IsCycleOf l.search) l.k) l.least
