use Rattle.std.proofs.Common.{◌≡◌, true, false, Some, get_or, sym, ap, ◌∙◌, inl, inr, arith, subst}
use Rattle.std.specs.List.{slice_get}
use Rattle.std.proofs.lemmas.Bool.{cases_lt}
use Rattle.std.proofs.lemmas.Option.{slice_get-get_or}
use Rattle.argot_facts.proofs.Listed.{in_of_get, number_of, get_within}
use Rattle.argot_graph_edges.specs.Outward.{FlowsAt}
use Rattle.argot_graph_edges.proofs.outside.flows_out.Goals as goal

pub flows_at-requires-clause-target : goal.flows_at-requires-clause-target
flows_at-requires-clause-target c =
    let ts = c.targets_of-targets.result.now in
    let h = get_or ts c.loop-n.n 0 in
    c.requires.fits.callees _ h ((c.targets_of-targets.ensures h).0 (in_of_get ts c.loop-n.n h (slice_get-get_or ts c.loop-n.n 0 c.loop-n-test.true)))

pub returns-then-flows_at-clause-yes : goal.returns-then-flows_at-clause-yes
returns-then-flows_at-clause-yes c = λ _.
    let ts = c.targets_of-targets.result.now in
    let h = get_or ts c.loop-n.n 0 in
    (h, (c.targets_of-targets.ensures h).0 (in_of_get ts c.loop-n.n h (slice_get-get_or ts c.loop-n.n 0 c.loop-n-test.true)), c.flows_at.ensures.yes c.if-flows_at.true)

pub loop-n-preserved : goal.loop-n-preserved
loop-n-preserved c = λ j h l g s.
    let ts = c.targets_of-targets.result.now in
    elim (cases_lt j c.loop-n.n) [
      | inl m ↦ c.loop-n.invariant j h m g s
      | inr m ↦
          let e : j ≡ c.loop-n.n = omega arith in
          let at : Some h ≡ Some (get_or ts c.loop-n.n 0) = sym g ∙ ap (slice_get ts) e ∙ slice_get-get_or ts c.loop-n.n 0 c.loop-n-test.true in
          let same : h ≡ get_or ts c.loop-n.n 0 = cc in
          let z : true ≡ false = sym (c.flows_at.ensures.no (subst (FlowsAt c.args.drawing.now.program.now c.args.drawing.now.problem.now c.args.place) same s)) ∙ c.if-flows_at.false in
          absurd cc
    ]

pub returns-clause-no : goal.returns-clause-no
returns-clause-no c = λ x.
    let ts = c.targets_of-targets.result.now in
    let n = number_of x.0 ts ((c.targets_of-targets.ensures x.0).1 x.1) in
    absurd (c.loop-n.invariant n.0 x.0 (omega (arith, get_within ts n.0 x.0 n.1, c.loop-n-test.false)) n.1 x.2)
