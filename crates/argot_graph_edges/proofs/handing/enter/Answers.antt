use Rattle.std.proofs.Common.{◌≡◌, ◌+◌, ◌<◌, ℕ, length, take, get_or, slice_get, ap, ◌∙◌, sym, subst, arith}
use Rattle.std.proofs.Math.Seq.{take-length}
use Rattle.std.proofs.lemmas.List.{take_more}
use Rattle.std.proofs.lemmas.Option.{slice_get-get_or}
use Rattle.argot_plain.specs.Lists.{In}
use Rattle.argot_facts.proofs.Listed.{in_of_get}
use Rattle.argot_graph_edges.specs.Handing.{EntersAt}
use Rattle.argot_graph_edges.proofs.Sketching.{adds_none, adds_as, adds_more}
use Rattle.argot_graph_edges.proofs.Handed.{entered_of, entered_from}
use Rattle.argot_graph_edges.proofs.handing.enter.Goals as goal

pub loop-n-init : goal.loop-n-init
loop-n-init c = adds_none _ _ (λ e h. elim h.1 [ ])

pub enter_target-requires-clause-target : goal.enter_target-requires-clause-target
enter_target-requires-clause-target c =
    let ts = c.targets_of-targets.result.now in
    let m = in_of_get ts c.loop-n.n (get_or ts c.loop-n.n 0) (slice_get-get_or ts c.loop-n.n 0 c.loop-n-test.true) in
    c.requires.fits.callees _ _ ((c.targets_of-targets.ensures _).0 m)

pub loop-n-preserved : goal.loop-n-preserved
loop-n-preserved c =
    let ts = c.targets_of-targets.result.now in
    adds_more (EntersAt c.args.drawing.now.program.now c.args.drawing.now.points.now c.args.call.now.place c.args.value.now)
    (take c.loop-n.n ts) (take (c.loop-n.n + 1) ts) (get_or ts c.loop-n.n 0) _ _ _ (take_more ts c.loop-n.n 0 c.loop-n-test.true) c.loop-n.invariant c.in_ok-enter_target.ensures

pub returns : goal.returns
returns c =
    let ts = c.targets_of-targets.result.now in
    let e : c.loop-n.n ≡ length ts = omega arith in
    let t : take c.loop-n.n ts ≡ ts = ap (λ n. take n ts) e ∙ take-length ts in
    let d = c.args.drawing.now in
    adds_as _ _ _ _
    (λ e h. entered_of d.program.now d.points.now d.problem.now c.args.call.now.place c.args.value.now ts e (λ g m. (c.targets_of-targets.ensures g).0 m) (h.0, subst (In h.0) t h.1, h.2))
    (λ e r. let h = entered_from d.program.now d.points.now d.problem.now c.args.call.now.place c.args.value.now ts e (λ g m. (c.targets_of-targets.ensures g).1 m) r in (h.0, subst (In h.0) (sym t) h.1, h.2))
    c.loop-n.invariant
