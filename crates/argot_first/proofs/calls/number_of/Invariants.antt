use Rattle.std.proofs.Common.{◌≡◌, ◌+◌, drop}
use Rattle.argot_first.specs.Code.{number_of}
use Rattle.argot_first.proofs.calls.number_of.Given as goal

abbrev pub invariant-loop-other : goal.invariant-loop-other
invariant-loop-other l = (l.number ≡ l.other-index) × (l.number + number_of (drop l.other-index l.names) l.name ≡ number_of l.names l.name)
