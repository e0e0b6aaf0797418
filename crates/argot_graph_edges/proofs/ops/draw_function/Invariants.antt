use Rattle.std.proofs.Common.{ℕ, ◌<◌, ◌≤◌}
use Rattle.argot_graph_edges.specs.Adding.{Adds}
use Rattle.argot_graph_edges.specs.Operating.{OfPlace}
use Rattle.argot_graph_edges.proofs.ops.draw_function.Given as goal

abbrev pub invariant-loop-place : goal.invariant-loop-place
invariant-loop-place l = record {
  low : l.function.entry ≤ l.place;
  adds : Adds (λ e. (i : ℕ) × (l.function.entry ≤ i) × (i < l.place) × OfPlace l.drawing.program.now l.drawing.points.now.nodes l.function l.found.defs.now i e) l.initial.sketch l.sketch;
}
