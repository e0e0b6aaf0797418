use Rattle.std.proofs.Common.{◌≡◌, ℕ, ◌<◌, List, Some}
use Rattle.std.specs.Prelude.{slice_get}
use Rattle.argot_names_files.specs.Files.{Fits}
use Rattle.argot_names_files.proofs.sources.are_fitting.Given as goal

abbrev pub invariant-loop-k : goal.invariant-loop-k
invariant-loop-k l = (file : ℕ) (path bytes : List ℕ) → slice_get l.paths file ≡ Some path → slice_get l.contents file ≡ Some bytes → file < l.k → Fits path bytes
