use Rattle.std.proofs.Common.{◌≡◌, drop}
use Rattle.argot_plain.specs.Lists.{has_element}
use Rattle.argot_points_rules.proofs.parts.has_element.Given as goal

abbrev pub invariant-loop-n : goal.invariant-loop-n
invariant-loop-n l = has_element (drop l.n l.path) ≡ has_element l.path
