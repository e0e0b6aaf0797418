use Rattle.std.proofs.Common.{sym, ◌∙◌}
use Rattle.argot_names_subset_file.proofs.ReceiverLemmas.{list_some, list_bare}
use Rattle.argot_names_subset_file.proofs.receivers.list_type.Goals as goal

pub returns : goal.returns
returns c =
    list_some c.args.file.now.nodes c.args.list c.in_ok-node.field-0 (sym c.in_ok-node.ensures) (sym c.is_params.ensures ∙ c.if-not-is_params.false) c.in_ok-first_child.field-0 c.type_of_param.result c.in_ok-first_child.ensures.child c.type_of_param.ensures

pub returns-in_err-first_child : goal.returns-in_err-first_child
returns-in_err-first_child c = rw c.from_residual-in_err-first_child.ensures (list_bare c.args.file.now.nodes c.args.list c.in_err-first_child.ensures.child)
