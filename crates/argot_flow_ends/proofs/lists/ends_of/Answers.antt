use Rattle.std.proofs.Common.{◌≡◌, ◌↔◌, ◌+◌, ◌<◌, Some, get_or, refl, sym, ap, ◌∙◌, subst, arith}
use Rattle.std.specs.List.{slice_get}
use Rattle.std.proofs.lemmas.Option.{slice_get-get_or}
use Rattle.argot_plain.specs.Lists.{In}
use Rattle.argot_facts.specs.declared.nodes.Node.{Node}
use Rattle.argot_facts.proofs.Listed.{get_within, in_of_get}
use Rattle.argot_flow_ends.proofs.Nodes.{inside, once}
use Rattle.argot_flow_ends.specs.Ends.{IsArgumentNode}
use Rattle.argot_flow_ends.proofs.Listing.{end_put, end_kept}
use Rattle.argot_flow_ends.specs.declared.lists.End.{End}
use Rattle.argot_flow_ends.proofs.lists.ends_of.Goals as goal
use Rattle.argot_flow_ends.proofs.lists.ends_of.Goals.{in-Some+in_ok-push, in_default}

pub argument_of-requires-clause-marked : goal.argument_of-requires-clause-marked
argument_of-requires-clause-marked c =
    (c.requires.nodes.each _).0 (in_of_get c.args.nodes.now c.loop-n.n _ (slice_get-get_or c.args.nodes.now c.loop-n.n _ c.loop-n-test.true))

pub argument_of-requires-clause-inside : goal.argument_of-requires-clause-inside
argument_of-requires-clause-inside c =
    let m = (c.requires.nodes.each _).0 (in_of_get c.args.nodes.now c.loop-n.n _ (slice_get-get_or c.args.nodes.now c.loop-n.n _ c.loop-n-test.true)) in
    inside c.args.asked.now.program.now _ m.0 c.requires.well m.1

pub loop-n-preserved : goal.loop-n-preserved
loop-n-preserved c =
    let p = c.args.asked.now.program.now in
    let pr = c.args.asked.now.problem.now in
    let ns = c.args.nodes.now in
    let n = c.loop-n.n in
    let b = get_or ns n (record { place = 0; index = 0; leaf = 0 }) in
    let at = slice_get-get_or ns n (record { place = 0; index = 0; leaf = 0 }) c.loop-n-test.true in
    let xs = c.loop-n.ends.items in
    elim c.match-argument_of.branch [
      | in-Some+in_ok-push w ↦
          let items = ap (λ v. v.items) w.ends-is ∙ w.in_ok-push.ensures.items in
          let has = w.in-Some.ensures.some in
          subst (λ ys. (e : End) → In e ys ↔ ((a : Node) × (slice_get ns e.node ≡ Some a) × IsArgumentNode p pr a e.arg × (e.node < n + 1))) (sym items)
          (end_put ns n b at (IsArgumentNode p pr) xs c.loop-n.invariant w.in-Some.arg has (λ j y. once p pr b j w.in-Some.arg y has))
      | in_default w ↦
          subst (λ ys. (e : End) → In e ys ↔ ((a : Node) × (slice_get ns e.node ≡ Some a) × IsArgumentNode p pr a e.arg × (e.node < n + 1))) (sym (ap (λ v. v.items) w.ends-is))
          (end_kept ns n b at (IsArgumentNode p pr) xs c.loop-n.invariant (λ k y. w.in_default.ensures.none refl k y))
    ]

pub returns : goal.returns
returns c = λ e. let i = c.loop-n.invariant e in (
  λ h. let r = i.0 h in (r.0, r.1, r.2),
  λ h. i.1 (h.0, h.1, h.2, omega (arith, get_within c.args.nodes.now e.node h.0 h.1, c.loop-n-test.false)),
)
