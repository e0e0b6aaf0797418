use Rattle.std.proofs.Common.{ℕ, ◌<◌, ◌≤◌}
use Rattle.argot_graph_edges.specs.Adding.{Adds}
use Rattle.argot_graph_edges.specs.Meeting.{MeetsAt}
use Rattle.argot_graph_edges.proofs.meets.meet_all.Given as goal

abbrev pub invariant-loop-z : goal.invariant-loop-z
invariant-loop-z l = Adds (λ e. (z : ℕ) × (0 ≤ z) × (z < l.z) × MeetsAt l.drawing.points.now l.order.escaping.now l.order.control.now l.writes l.reads z e) l.initial.sketch l.sketch
