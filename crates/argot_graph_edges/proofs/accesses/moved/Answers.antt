use Rattle.std.proofs.Common.{◌≡◌, ◌++◌, true, false, Some, get_or, sym, ap, ◌∙◌, inl, inr, arith, subst}
use Rattle.std.specs.List.{slice_get}
use Rattle.std.proofs.lemmas.Bool.{cases_lt}
use Rattle.std.proofs.lemmas.Option.{slice_get-get_or}
use Rattle.argot_facts.specs.declared.pointing.Loc.{Loc}
use Rattle.argot_facts.proofs.Listed.{in_of_get, number_of, get_within}
use Rattle.argot_graph_edges.specs.Accessing.{HasPath}
use Rattle.argot_graph_edges.proofs.Pairing.{moved_of, moved_from}
use Rattle.argot_graph_edges.proofs.accesses.moved.Goals as goal

pub returns-then-is_moved-clause-some : goal.returns-then-is_moved-clause-some
returns-then-is_moved-clause-some c =
    let ts = c.locations_of-near.result.now in
    let z = get_or ts c.loop-n.n 0 in
    let ls = c.args.points.now.locations in
    let at = (c.locations_of-near.ensures z).0 (in_of_get ts c.loop-n.n z (slice_get-get_or ts c.loop-n.n 0 c.loop-n-test.true)) in
    moved_of ls c.args.y z c.args.path.now c.location-here.result.now c.location-here.ensures at (subst (λ p. HasPath ls z (p ++ c.args.path.now)) c.as_slice.ensures (c.is_moved.ensures.yes c.if-is_moved.true))

pub loop-n-preserved : goal.loop-n-preserved
loop-n-preserved c = λ j z l g s.
    let ts = c.locations_of-near.result.now in
    elim (cases_lt j c.loop-n.n) [
      | inl m ↦ c.loop-n.invariant j z m g s
      | inr m ↦
          let e : j ≡ c.loop-n.n = omega arith in
          let at : Some z ≡ Some (get_or ts c.loop-n.n 0) = sym g ∙ ap (slice_get ts) e ∙ slice_get-get_or ts c.loop-n.n 0 c.loop-n-test.true in
          let same : z ≡ get_or ts c.loop-n.n 0 = cc in
          let ls = c.args.points.now.locations in
          let has = subst (λ w. HasPath ls w (c.location-here.result.now.path ++ c.args.path.now)) same s in
          let x : true ≡ false = sym (c.is_moved.ensures.no (subst (λ p. HasPath ls (get_or ts c.loop-n.n 0) (p ++ c.args.path.now)) (sym c.as_slice.ensures) has)) ∙ c.if-is_moved.false in
          absurd cc
    ]

pub returns-clause-none : goal.returns-clause-none
returns-clause-none c = λ k z x.
    let ts = c.locations_of-near.result.now in
    let r = moved_from c.args.points.now.locations c.args.y z c.args.path.now c.location-here.result.now c.location-here.ensures x in
    let n = number_of z ts ((c.locations_of-near.ensures z).1 r.0) in
    c.loop-n.invariant n.0 z (omega (arith, get_within ts n.0 z n.1, c.loop-n-test.false)) n.1 r.1
