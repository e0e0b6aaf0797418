use Rattle.std.proofs.Common.{◌≡◌, drop}
use Rattle.argot_plain_parts.specs.Wrappers.{methods_fit}
use Rattle.argot_plain_parts.proofs.wrappers.methods_fit.Given as goal

abbrev pub invariant-loop-i : goal.invariant-loop-i
invariant-loop-i l = methods_fit l.functions (drop l.i l.methods) ≡ methods_fit l.functions l.methods
