use Rattle.std.proofs.Common.{sym}
use Rattle.argot_names_subset_file.specs.Receivers.{IsBase}
use Rattle.argot_answers.proofs.Exactly.{exact_as, exact_holds}
use Rattle.argot_names_rules.specs.Nodes.{IsFirstChild}
use Rattle.std.proofs.Common.{◌∙◌}
use Rattle.argot_names_subset_file.proofs.ReceiverLemmas.{base_here, base_other, base_bare, base_through}
use Rattle.argot_answers.proofs.Tests.{iff_no}
use Rattle.argot_names_subset_file.proofs.receivers.base_of.Goals as goal

pub returns-then-is_type_name : goal.returns-then-is_type_name
returns-then-is_type_name c =
    exact_as (IsBase c.args.file.now.nodes c.loop-node.at) (IsBase c.args.file.now.nodes c.args.type_) _ (λ x h. (c.loop-node.invariant x).1 h) (λ x h. (c.loop-node.invariant x).0 h)
    (base_here c.args.file.now.nodes c.loop-node.at c.in-Some.node (sym c.in-Some.ensures) (c.is_type_name.ensures.0 c.if-is_type_name.true))

pub returns-then-not-wraps_receiver : goal.returns-then-not-wraps_receiver
returns-then-not-wraps_receiver c =
    exact_as (IsBase c.args.file.now.nodes c.loop-node.at) (IsBase c.args.file.now.nodes c.args.type_) _ (λ x h. (c.loop-node.invariant x).1 h) (λ x h. (c.loop-node.invariant x).0 h)
    (base_other c.args.file.now.nodes c.loop-node.at c.in-Some.node (sym c.in-Some.ensures) (iff_no c.is_type_name.result c.if-is_type_name.false c.is_type_name.ensures) (sym c.wraps_receiver.ensures ∙ c.if-not-wraps_receiver.true))

pub returns-in_err-at : goal.returns-in_err-at
returns-in_err-at c = rw c.from_residual.ensures (
    exact_as (IsBase c.args.file.now.nodes c.loop-node.at) (IsBase c.args.file.now.nodes c.args.type_) _ (λ x h. (c.loop-node.invariant x).1 h) (λ x h. (c.loop-node.invariant x).0 h)
    (base_bare c.args.file.now.nodes c.loop-node.at c.in-Some.node (sym c.in-Some.ensures) (iff_no c.is_type_name.result c.if-is_type_name.false c.is_type_name.ensures) c.in_err-at.ensures.child))

pub loop-node-preserved : goal.loop-node-preserved
loop-node-preserved c = λ x.
    let step = base_through c.args.file.now.nodes c.loop-node.at c.in-Some.node (sym c.in-Some.ensures) (iff_no c.is_type_name.result c.if-is_type_name.false c.is_type_name.ensures) (sym c.wraps_receiver.ensures ∙ c.if-not-wraps_receiver.false)
    c.in_ok-at.at (exact_holds (IsFirstChild c.args.file.now.nodes c.loop-node.at) c.in_ok-at.at c.in_ok-at.ensures.child) x in
    (λ h. step.0 ((c.loop-node.invariant x).0 h), λ h. (c.loop-node.invariant x).1 (step.1 h))
