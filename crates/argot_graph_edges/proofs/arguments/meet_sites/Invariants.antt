use Rattle.std.proofs.Common.{ℕ, ◌<◌, ◌≤◌}
use Rattle.argot_graph_edges.specs.Adding.{Adds}
use Rattle.argot_graph_edges.specs.Inward.{AtSite, IfSet}
use Rattle.argot_graph_edges.proofs.arguments.meet_sites.Given as goal

abbrev pub invariant-loop-site : goal.invariant-loop-site
invariant-loop-site l = Adds (λ e. (s : ℕ) × (0 ≤ s) × (s < l.site) × IfSet l.flags (AtSite l.drawing.points.now l.writes l.leaf) s e) l.initial.sketch l.sketch
