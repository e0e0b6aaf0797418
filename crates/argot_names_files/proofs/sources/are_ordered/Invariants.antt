use Rattle.std.proofs.Common.{◌≡◌, ℕ, ◌+◌, ◌<◌, ◌≤◌, List, Some}
use Rattle.std.specs.Prelude.{slice_get}
use Rattle.argot_names_rules.specs.Agreeing.{PathBefore}
use Rattle.argot_names_files.proofs.sources.are_ordered.Given as goal

abbrev pub invariant-loop-k : goal.invariant-loop-k
invariant-loop-k l = (j : ℕ) (a b : List ℕ) → slice_get l.paths j ≡ Some a → slice_get l.paths (j + 1) ≡ Some b → j + 1 < l.k → PathBefore a b
