use Rattle.std.proofs.Common.{◌≡◌, ◌↔◌, ℕ, ◌+◌, ◌<◌, Some, get_or, sym, ap, ◌∙◌, subst, arith}
use Rattle.std.specs.List.{slice_get}
use Rattle.std.proofs.lemmas.Option.{slice_get-get_or}
use Rattle.argot_plain.specs.Lists.{In}
use Rattle.argot_facts.specs.declared.nodes.Node.{Node}
use Rattle.argot_facts.proofs.Listed.{get_within, in_of_get}
use Rattle.argot_flow_ends.proofs.Nodes.{inside}
use Rattle.argot_flow_ends.specs.Ends.{IsSourceNode}
use Rattle.argot_flow_ends.proofs.Listing.{number_put, number_kept}
use Rattle.argot_flow_ends.proofs.lists.sources_of.Goals as goal
use Rattle.argot_flow_ends.proofs.lists.sources_of.Goals.{then-is_source+in_ok-push, else-is_source}

pub is_source-requires-clause-marked : goal.is_source-requires-clause-marked
is_source-requires-clause-marked c =
    (c.requires.nodes.each _).0 (in_of_get c.args.nodes.now c.loop-n.n _ (slice_get-get_or c.args.nodes.now c.loop-n.n _ c.loop-n-test.true))

pub is_source-requires-clause-inside : goal.is_source-requires-clause-inside
is_source-requires-clause-inside c =
    let m = (c.requires.nodes.each _).0 (in_of_get c.args.nodes.now c.loop-n.n _ (slice_get-get_or c.args.nodes.now c.loop-n.n _ c.loop-n-test.true)) in
    inside c.args.asked.now.program.now _ m.0 c.requires.well m.1

pub loop-n-preserved : goal.loop-n-preserved
loop-n-preserved c =
    let p = c.args.asked.now.program.now in
    let pr = c.args.asked.now.problem.now in
    let ns = c.args.nodes.now in
    let n = c.loop-n.n in
    let b = get_or ns n (record { place = 0; index = 0; leaf = 0 }) in
    let at = slice_get-get_or ns n (record { place = 0; index = 0; leaf = 0 }) c.loop-n-test.true in
    let xs = c.loop-n.sources.items in
    elim c.if-is_source.branch [
      | then-is_source+in_ok-push w ↦
          let items = ap (λ v. v.items) w.sources-is ∙ w.in_ok-push.ensures.items in
          subst (λ ys. (m : ℕ) → In m ys ↔ ((a : Node) × (slice_get ns m ≡ Some a) × IsSourceNode p pr a × (m < n + 1))) (sym items)
          (number_put ns n b at (IsSourceNode p pr) xs c.loop-n.invariant (c.is_source.ensures.yes w.if-is_source.true))
      | else-is_source w ↦
          subst (λ ys. (m : ℕ) → In m ys ↔ ((a : Node) × (slice_get ns m ≡ Some a) × IsSourceNode p pr a × (m < n + 1))) (sym (ap (λ v. v.items) w.sources-is))
          (number_kept ns n b at (IsSourceNode p pr) xs c.loop-n.invariant (c.is_source.ensures.no w.if-is_source.false))
    ]

pub returns : goal.returns
returns c = λ n. let i = c.loop-n.invariant n in (
  λ h. let r = i.0 h in (r.0, r.1, r.2),
  λ h. i.1 (h.0, h.1, h.2, omega (arith, get_within c.args.nodes.now n h.0 h.1, c.loop-n-test.false)),
)
