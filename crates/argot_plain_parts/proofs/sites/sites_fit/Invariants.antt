use Rattle.std.proofs.Common.{◌≡◌, drop, ◌+◌}
use Rattle.argot_plain_parts.specs.Sites.{sites_fit}
use Rattle.argot_plain_parts.proofs.sites.sites_fit.Given as goal

abbrev pub invariant-loop-k : goal.invariant-loop-k
invariant-loop-k l = sites_fit l.functions l.instrs (l.first + l.k) (drop l.k l.sites) ≡ sites_fit l.functions l.instrs l.first l.sites
