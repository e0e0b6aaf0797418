use Rattle.std.proofs.Common.{◌≡◌, true, take}
use Rattle.argot_plain.specs.Counts.{is_named}
use Rattle.argot_roles.specs.Marking.{Marks}
use Rattle.argot_roles.proofs.marking.set_places.Given as goal

abbrev pub invariant-loop-k : goal.invariant-loop-k
invariant-loop-k l = Marks (λ m. is_named m (take l.k l.places) ≡ true) l.initial.flags.items l.flags.items
