use Rattle.std.proofs.Common.{ℕ, ◌<◌, ◌≤◌}
use Rattle.argot_facts.specs.Numbers.{node}
use Rattle.argot_facts.specs.declared.graphs.EdgeKind.TheVariants.{Plain}
use Rattle.argot_graph_edges.specs.Adding.{Adds}
use Rattle.argot_graph_edges.specs.Rows.{IsNumberedAs, Just}
use Rattle.argot_graph_edges.proofs.ops.draw_leaves.Given as goal

abbrev pub invariant-loop-leaf : goal.invariant-loop-leaf
invariant-loop-leaf l = Adds (λ e. (a : ℕ) × (0 ≤ a) × (a < l.leaf) × IsNumberedAs l.drawing.points.now.nodes (Just (node l.from.0 l.from.1 a) Plain l.to) e) l.initial.sketch l.sketch
