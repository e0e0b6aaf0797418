use Rattle.std.proofs.Common.{◌≡◌, ℕ, ◌<◌, false}
use Rattle.argot_names_blocks.specs.Generics.{is_dot_of}
use Rattle.argot_names_blocks.proofs.generics.has_dot.Given as goal

abbrev pub invariant-loop-k : goal.invariant-loop-k
invariant-loop-k l = (j : ℕ) → j < l.k → is_dot_of l.nodes j ≡ false
