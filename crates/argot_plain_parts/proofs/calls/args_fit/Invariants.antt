use Rattle.std.proofs.Common.{◌≡◌, drop}
use Rattle.argot_plain_parts.specs.Places.{args_fit}
use Rattle.argot_plain_parts.proofs.calls.args_fit.Given as goal

abbrev pub invariant-loop-i : goal.invariant-loop-i
invariant-loop-i l = args_fit l.f l.target l.i (drop l.i l.args) ≡ args_fit l.f l.target 0 l.args
