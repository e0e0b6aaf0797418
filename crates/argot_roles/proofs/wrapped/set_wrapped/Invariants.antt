use Rattle.std.proofs.Common.{◌<◌}
use Rattle.argot_roles.specs.Counting.{IsWrapped}
use Rattle.argot_roles.specs.Marking.{Marks}
use Rattle.argot_roles.proofs.wrapped.set_wrapped.Given as goal

abbrev pub invariant-loop-h : goal.invariant-loop-h
invariant-loop-h l = Marks (λ m. (w : IsWrapped l.program m) × (w.0 < l.h)) l.initial.flags.items l.flags.items
