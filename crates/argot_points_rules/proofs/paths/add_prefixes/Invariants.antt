use Rattle.std.proofs.Common.{◌≡◌, drop, take, []}
use Rattle.argot_facts.specs.Numbers.{with_prefixes}
use Rattle.argot_points_rules.proofs.paths.add_prefixes.Given as goal

abbrev pub invariant-loop-n : goal.invariant-loop-n
invariant-loop-n l = with_prefixes l.paths.items (take l.n l.leaf) (drop l.n l.leaf) ≡ with_prefixes l.fn.paths.items [] l.leaf
