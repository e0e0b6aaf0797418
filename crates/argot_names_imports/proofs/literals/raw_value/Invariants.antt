use Rattle.std.proofs.Common.{◌≡◌, ◌==◌, not, filter, take}
use Rattle.argot_names_imports.proofs.literals.raw_value.Given as goal

abbrev pub invariant-loop-b : goal.invariant-loop-b
invariant-loop-b l = l.out.items ≡ filter (λ c. not (c == 13)) (take l.b-index l.inner)
