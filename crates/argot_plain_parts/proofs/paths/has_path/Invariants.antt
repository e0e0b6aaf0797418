use Rattle.std.proofs.Common.{◌≡◌, drop}
use Rattle.argot_plain.specs.Lists.{has_path}
use Rattle.argot_plain_parts.proofs.paths.has_path.Given as goal

abbrev pub invariant-loop-n : goal.invariant-loop-n
invariant-loop-n l = has_path l.path (drop l.n l.paths) ≡ has_path l.path l.paths
