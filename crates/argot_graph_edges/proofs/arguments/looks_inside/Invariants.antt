use Rattle.std.proofs.Common.{◌≡◌, ℕ, ◌<◌, Some}
use Rattle.std.specs.List.{slice_get}
use Rattle.argot_plain.specs.Leak.{LooksInside}
use Rattle.argot_graph_edges.proofs.arguments.looks_inside.Given as goal

abbrev pub invariant-loop-n : goal.invariant-loop-n
invariant-loop-n l = (j g : ℕ) → j < l.n → slice_get l.targets j ≡ Some g → LooksInside l.drawing.program.now l.drawing.problem.now l.place g → ⊥
