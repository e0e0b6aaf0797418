use Rattle.std.proofs.Common.{length, ◌-◌}
use Rattle.argot_names_imports.proofs.Values.{IsReadTo}
use Rattle.argot_names_imports.proofs.literals.elements_value.Given as goal

abbrev pub invariant-loop-at : goal.invariant-loop-at
invariant-loop-at l = IsReadTo l.inner l.at l.out.items

abbrev pub decreases-loop-at : goal.decreases-loop-at
decreases-loop-at l = length l.inner - l.at
