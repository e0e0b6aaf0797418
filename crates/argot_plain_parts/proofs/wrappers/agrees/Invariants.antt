use Rattle.std.proofs.Common.{◌≡◌, drop}
use Rattle.argot_plain_parts.specs.Wrappers.{agrees}
use Rattle.argot_plain_parts.proofs.wrappers.agrees.Given as goal

abbrev pub invariant-loop-i : goal.invariant-loop-i
invariant-loop-i l = agrees l.x (drop l.i l.methods) ≡ agrees l.x l.methods
