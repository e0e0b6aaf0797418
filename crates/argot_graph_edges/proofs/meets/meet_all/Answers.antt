use Rattle.std.proofs.Common.{◌≡◌, ◌<◌, ◌≤◌, Some, length, sym, ap, ◌∙◌, subst, arith}
use Rattle.argot_links.specs.Runs.{run}
use Rattle.argot_facts.specs.declared.pointing.Loc.{Loc}
use Rattle.argot_facts.proofs.Listed.{get_within}
use Rattle.argot_graph_edges.specs.Adding.{Adds}
use Rattle.argot_graph_edges.specs.Meeting.{MeetsAt, MeetsOfAll}
use Rattle.argot_graph_edges.proofs.Sketching.{adds_none, adds_as, adds_next}
use Rattle.argot_graph_edges.proofs.meets.meet_all.Goals as goal

pub loop-z-init : goal.loop-z-init
loop-z-init c = adds_none _ _ (λ e h. omega (arith, h.2))

pub loop-z-preserved : goal.loop-z-preserved
loop-z-preserved c =
    let x = c.args.drawing.now.points.now in
    let esc = c.args.order.now.escaping.now in
    let ctl = c.args.order.now.control.now in
    let z = c.loop-z.z in
    let l = c.location.result.now in
    adds_next (MeetsAt x esc ctl c.args.writes.now c.args.reads.now) 0 z _ _ _ (omega arith) c.loop-z.invariant
    (adds_as (MeetsOfAll x.nodes esc ctl l.site (run c.args.reads.now z) (run c.args.writes.now z)) (MeetsAt x esc ctl c.args.writes.now c.args.reads.now z) c.loop-z.sketch c.meet_writes.new.sketch
    (λ e h. (l, c.location.ensures, h))
    (λ e h.
    let s : Some h.0 ≡ Some l = sym h.1 ∙ c.location.ensures in
    let f : h.0 ≡ l = cc in
    subst (λ (w : Loc). MeetsOfAll x.nodes esc ctl w.site (run c.args.reads.now z) (run c.args.writes.now z) e) f h.2)
    (subst (λ rs. Adds (MeetsOfAll x.nodes esc ctl l.site rs (run c.args.writes.now z)) c.loop-z.sketch c.meet_writes.new.sketch) c.run-in-loop-z.ensures
    (subst (λ ws. Adds (MeetsOfAll x.nodes esc ctl l.site c.run-in-loop-z.result.now ws) c.loop-z.sketch c.meet_writes.new.sketch) c.run.ensures c.in_ok-meet_writes.ensures)))

pub returns : goal.returns
returns c =
    let x = c.args.drawing.now.points.now in
    adds_as _ _ _ _ (λ e h. (h.0, h.3)) (λ e h. (h.0, omega arith, omega (arith, get_within x.locations h.0 h.1.0 h.1.1, c.location_count-z-end.ensures.count, c.loop-z-test.false), h.1)) c.loop-z.invariant
