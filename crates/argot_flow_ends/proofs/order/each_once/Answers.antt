use Rattle.argot_facts.specs.Findings.{FlowBefore}
use Rattle.std.proofs.Common.{◌≡◌, ◌+◌, ◌++◌, ◌∷◌, [], length, take, sym, ap, ◌∙◌, subst, arith}
use Rattle.std.proofs.Math.Seq.{take-length}
use Rattle.std.proofs.lemmas.Option.{get_or_from_slice_get}
use Rattle.argot_plain.specs.Lists.{In}
use Rattle.argot_facts.proofs.Listed.{get_at}
use Rattle.argot_graph.proofs.Once.{AreKept, nothing, pushed, skipped}
use Rattle.argot_flow_ends.proofs.order.each_once.Goals as goal
use Rattle.argot_flow_ends.proofs.order.each_once.Goals.{then-not-is_repeated+in_ok-push, else-not-is_repeated}

pub loop-k-init : goal.loop-k-init
loop-k-init c = subst (λ ks. AreKept FlowBefore c.args.flows.now ks 0) (sym c.new-kept.ensures.items) (nothing FlowBefore c.args.flows.now)

pub loop-k-preserved : goal.loop-k-preserved
loop-k-preserved c =
    let flows = c.args.flows.now in
    let at = get_at flows c.loop-k.k c.loop-k-test.true in
    elim c.if-not-is_repeated.branch [
      | then-not-is_repeated+in_ok-push w ↦
          subst (λ ks. AreKept FlowBefore flows ks (c.loop-k.k + 1))
          (sym (ap (λ v. v.items) w.kept-is ∙ (w.in_ok-push.ensures.items ∙ ap (λ x. c.loop-k.kept.items ++ x ∷ []) (get_or_from_slice_get flows c.loop-k.k at.0 _ at.1))))
          (pushed FlowBefore flows c.loop-k.kept.items c.loop-k.k at.0 c.requires at.1 c.loop-k.invariant (c.is_repeated.ensures.no w.if-not-is_repeated.true))
      | else-not-is_repeated w ↦
          subst (λ ks. AreKept FlowBefore flows ks (c.loop-k.k + 1)) (sym (ap (λ v. v.items) w.kept-is))
          (skipped FlowBefore flows c.loop-k.kept.items c.loop-k.k at.0 c.requires at.1 c.loop-k.invariant (c.is_repeated.ensures.yes w.if-not-is_repeated.false))
    ]

pub returns-clause-ordered : goal.returns-clause-ordered
returns-clause-ordered c = c.loop-k.invariant.ordered

pub returns-clause-same : goal.returns-clause-same
returns-clause-same c =
    let flows = c.args.flows.now in
    let e : c.loop-k.k ≡ length flows = omega arith in
    let t : take c.loop-k.k flows ≡ flows = ap (λ n. take n flows) e ∙ take-length flows in
    λ x. let s = c.loop-k.invariant.same x in (λ h. subst (In x) t (s.0 h), λ h. s.1 (subst (In x) (sym t) h))
