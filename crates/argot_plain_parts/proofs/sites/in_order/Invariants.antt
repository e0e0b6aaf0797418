use Rattle.std.proofs.Common.{◌≡◌, drop}
use Rattle.argot_plain_parts.specs.Sites.{in_order}
use Rattle.argot_plain_parts.proofs.sites.in_order.Given as goal

abbrev pub invariant-loop-i : goal.invariant-loop-i
invariant-loop-i l = in_order (drop l.i l.sites) ≡ in_order l.sites
