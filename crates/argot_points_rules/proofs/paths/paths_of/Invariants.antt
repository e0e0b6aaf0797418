use Rattle.std.proofs.Common.{◌≡◌, drop}
use Rattle.argot_facts.specs.Numbers.{with_leaves, paths_of}
use Rattle.argot_points_rules.proofs.paths.paths_of.Given as goal

abbrev pub invariant-loop-n : goal.invariant-loop-n
invariant-loop-n l = with_leaves l.paths.items (drop l.n l.shape) ≡ paths_of l.site
