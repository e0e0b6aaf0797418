use Rattle.std.proofs.Common.{◌≡◌, ℕ, ◌<◌, Some}
use Rattle.std.specs.Prelude.{slice_get}
use Rattle.argot_points.proofs.reading.are_below.Given as goal

abbrev pub invariant-loop-n : goal.invariant-loop-n
invariant-loop-n l = (k g : ℕ) → k < l.n → slice_get l.numbers k ≡ Some g → g < l.bound
