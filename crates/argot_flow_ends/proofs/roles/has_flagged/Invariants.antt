use Rattle.std.proofs.Common.{◌≡◌, ℕ, ◌<◌, Some}
use Rattle.std.specs.List.{slice_get}
use Rattle.argot_facts.specs.Marked.{IsSet}
use Rattle.argot_flow_ends.proofs.roles.has_flagged.Given as goal

abbrev pub invariant-loop-k : goal.invariant-loop-k
invariant-loop-k l = (j h : ℕ) → j < l.k → slice_get l.targets j ≡ Some h → IsSet l.flags h → ⊥
