use Rattle.std.proofs.Common.{◌≡◌, ◌<◌, ◌≤◌, subst, arith}
use Rattle.argot_facts.specs.Numbers.{node}
use Rattle.argot_facts.specs.declared.graphs.EdgeKind.TheVariants.{Plain}
use Rattle.argot_graph_edges.specs.Rows.{IsNumberedAs, Just}
use Rattle.argot_graph_edges.proofs.Sketching.{adds_none, adds_as, adds_next}
use Rattle.argot_graph_edges.proofs.ops.draw_leaves.Goals as goal

pub loop-leaf-init : goal.loop-leaf-init
loop-leaf-init c = adds_none _ _ (λ e h. omega (arith, h.2))

pub loop-leaf-preserved : goal.loop-leaf-preserved
loop-leaf-preserved c =
    adds_next (λ a. IsNumberedAs c.args.drawing.now.points.now.nodes (Just (node c.args.from.0 c.args.from.1 a) Plain c.args.to)) 0 c.loop-leaf.leaf _ _ _ (omega arith) c.loop-leaf.invariant c.in_ok-draw.ensures

pub returns : goal.returns
returns c = adds_as _ _ _ _ (λ e h. (h.0, omega (arith, h.2), h.3)) (λ e h. (h.0, omega arith, omega (arith, h.1, c.loop-leaf-test.false), h.2)) c.loop-leaf.invariant
