use Rattle.std.proofs.Common.{◌≡◌, drop}
use Rattle.argot_plain_parts.specs.Instructions.{instrs_fit}
use Rattle.argot_plain_parts.proofs.instructions.instrs_fit.Given as goal

abbrev pub invariant-loop-i : goal.invariant-loop-i
invariant-loop-i l = instrs_fit l.functions l.globals l.sites l.files l.i (drop l.i l.instrs) ≡ instrs_fit l.functions l.globals l.sites l.files 0 l.instrs
