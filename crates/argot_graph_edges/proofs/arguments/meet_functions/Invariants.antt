use Rattle.std.proofs.Common.{ℕ, ◌<◌, ◌≤◌}
use Rattle.argot_graph_edges.specs.Adding.{Adds}
use Rattle.argot_graph_edges.specs.Inward.{OfFunction}
use Rattle.argot_graph_edges.proofs.arguments.meet_functions.Given as goal

abbrev pub invariant-loop-h : goal.invariant-loop-h
invariant-loop-h l = Adds (λ e. (h : ℕ) × (0 ≤ h) × (h < l.h) × OfFunction l.drawing.program.now l.drawing.points.now l.drawing.problem.now l.writes h e) l.initial.sketch l.sketch
