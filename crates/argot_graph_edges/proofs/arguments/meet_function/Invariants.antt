use Rattle.std.proofs.Common.{ℕ, ◌<◌, ◌≤◌}
use Rattle.argot_graph_edges.specs.Adding.{Adds}
use Rattle.argot_graph_edges.specs.Inward.{OfCall}
use Rattle.argot_graph_edges.proofs.arguments.meet_function.Given as goal

abbrev pub invariant-loop-place : goal.invariant-loop-place
invariant-loop-place l = Adds (λ e. (i : ℕ) × (l.function.entry ≤ i) × (i < l.place) × OfCall l.drawing.program.now l.drawing.points.now l.drawing.problem.now l.writes l.function.exit i e) l.initial.sketch l.sketch
