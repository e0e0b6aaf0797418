use Rattle.argot_config.specs.Marking.{Gathers, IsMarked}
use Rattle.argot_config.proofs.functions.numbers.Given as goal

abbrev pub invariant-loop-g : goal.invariant-loop-g
invariant-loop-g l = Gathers (λ g. g) (IsMarked l.marks) l.g l.found.items
