use Rattle.std.proofs.Common.{◌≡◌, drop}
use Rattle.argot_plain_parts.specs.Sites.{grows_fit}
use Rattle.argot_plain_parts.proofs.owners.grows_fit.Given as goal

abbrev pub invariant-loop-i : goal.invariant-loop-i
invariant-loop-i l = grows_fit l.i (drop l.i l.instrs) l.rest ≡ grows_fit 0 l.instrs l.sites
