use Rattle.std.proofs.Common.{take}
use Rattle.argot_plain.specs.Lists.{In}
use Rattle.argot_roles.specs.Marking.{Marks}
use Rattle.argot_roles.proofs.marking.set_all.Given as goal

abbrev pub invariant-loop-k : goal.invariant-loop-k
invariant-loop-k l = Marks (λ m. In m (take l.k l.numbers)) l.initial.flags.items l.flags.items
