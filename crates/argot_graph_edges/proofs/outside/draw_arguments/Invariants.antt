use Rattle.std.proofs.Common.{ℕ, ◌<◌, ◌≤◌, length}
use Rattle.argot_graph_edges.specs.Adding.{Adds}
use Rattle.argot_plain.specs.Code.{arguments}
use Rattle.argot_graph_edges.specs.Outward.{ToResult, FromArgument}
use Rattle.argot_graph_edges.proofs.outside.draw_arguments.Given as goal

abbrev pub invariant-loop-n : goal.invariant-loop-n
invariant-loop-n l = Adds (λ e. (m : ℕ) × (l.first ≤ m) × (m < l.n) × FromArgument l.drawing.points.now.nodes l.call.place l.call.behind (length (arguments l.call.callee.now l.call.args.now)) l.first l.last m e) l.initial.sketch l.sketch
