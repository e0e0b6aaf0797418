use Rattle.std.proofs.Common.{◌≡◌, drop}
use Rattle.argot_plain_parts.specs.Sites.{owned_fit}
use Rattle.argot_plain_parts.proofs.owners.owned_fit.Given as goal

abbrev pub invariant-loop-i : goal.invariant-loop-i
invariant-loop-i l = owned_fit l.instrs l.rest (drop l.i l.sites) ≡ owned_fit l.instrs l.functions l.sites
