use Rattle.std.proofs.Common.{ℕ, ◌<◌}
use Rattle.argot_names.specs.Naming.{NamesAt}
use Rattle.argot_names.proofs.library.names.Given as goal

abbrev pub invariant-loop-k : goal.invariant-loop-k
invariant-loop-k l = (j : ℕ) → j < l.k → NamesAt l.survey l.path j → ⊥
