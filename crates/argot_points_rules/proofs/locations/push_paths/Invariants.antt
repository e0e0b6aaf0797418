use Rattle.std.proofs.Common.{◌≡◌, ◌++◌, map}
use Rattle.argot_facts.specs.Numbers.{location}
use Rattle.argot_points_rules.proofs.locations.push_paths.Given as goal

abbrev pub invariant-loop-path : goal.invariant-loop-path
invariant-loop-path l = l.locations.items ≡ l.fn.locations.items ++ map (location l.site) l.yielded
