use Rattle.std.proofs.Common.{ℕ, ◌+◌, ◌<◌, ◌≤◌}
use Rattle.argot_graph_edges.specs.Adding.{Adds}
use Rattle.argot_graph_edges.specs.Inward.{OfArgument}
use Rattle.argot_graph_edges.proofs.arguments.meet_arguments.Given as goal

abbrev pub invariant-loop-k : goal.invariant-loop-k
invariant-loop-k l = Adds (λ e. (k : ℕ) × (0 ≤ k) × (k < l.k) × OfArgument l.drawing.points.now l.writes l.call.place l.at (l.call.behind + k) e) l.initial.sketch l.sketch
