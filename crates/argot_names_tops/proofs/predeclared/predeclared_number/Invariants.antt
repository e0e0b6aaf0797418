use Rattle.std.proofs.Common.{◌≡◌, ℕ, ◌<◌, Some}
use Rattle.std.specs.Prelude.{slice_get}
use Rattle.argot_names_rules.specs.Universe.{predeclared}
use Rattle.argot_names_tops.proofs.predeclared.predeclared_number.Given as goal

abbrev pub invariant-loop-number : goal.invariant-loop-number
invariant-loop-number l = (k : ℕ) → k < l.number → slice_get predeclared k ≡ Some l.name → ⊥
