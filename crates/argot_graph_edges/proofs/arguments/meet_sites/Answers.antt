use Rattle.std.proofs.Common.{◌≡◌, ◌<◌, ◌≤◌, true, length, subst, arith}
use Rattle.argot_facts.proofs.Listed.{get_within}
use Rattle.argot_graph_edges.specs.Inward.{AtSite, IfSet}
use Rattle.argot_graph_edges.proofs.Sketching.{adds_none, adds_as, adds_next}
use Rattle.argot_graph_edges.proofs.arguments.meet_sites.Goals as goal

pub loop-site-init : goal.loop-site-init
loop-site-init c = adds_none _ _ (λ e h. omega (arith, h.2))

pub loop-site-preserved : goal.loop-site-preserved
loop-site-preserved c =
    adds_next (IfSet c.args.flags.now (AtSite c.args.drawing.now.points.now c.args.writes.now c.args.leaf)) 0 c.loop-site.site _ _ _ (omega arith) c.loop-site.invariant c.in_ok-meet_flagged.ensures

pub returns : goal.returns
returns c = adds_as _ _ _ _ (λ e h. (h.0, h.3)) (λ e h. (h.0, omega arith, omega (arith, get_within c.args.flags.now h.0 true h.1.0, c.loop-site-test.false), h.1)) c.loop-site.invariant
