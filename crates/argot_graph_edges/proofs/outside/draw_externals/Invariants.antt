use Rattle.std.proofs.Common.{ℕ, ◌<◌, ◌≤◌}
use Rattle.argot_graph_edges.specs.Adding.{Adds}
use Rattle.argot_graph_edges.specs.Outward.{OfExternal}
use Rattle.argot_graph_edges.proofs.outside.draw_externals.Given as goal

abbrev pub invariant-loop-place : goal.invariant-loop-place
invariant-loop-place l = Adds (λ e. (i : ℕ) × (0 ≤ i) × (i < l.place) × OfExternal l.drawing.program.now l.drawing.points.now l.drawing.problem.now i e) l.initial.sketch l.sketch
