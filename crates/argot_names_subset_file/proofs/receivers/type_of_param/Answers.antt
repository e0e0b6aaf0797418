use Rattle.std.proofs.Common.{sym}
use Rattle.argot_names_subset_file.proofs.ReceiverLemmas.{param_alone, param_named, param_bare, param_other}
use Rattle.argot_names_subset_file.proofs.receivers.type_of_param.Goals as goal

pub returns-in-Param : goal.returns-in-Param
returns-in-Param c = param_alone c.args.file.now.nodes c.args.param c.in_ok-node.field-0 (sym c.in_ok-node.ensures) c.in-Param.is c.first_child.result c.first_child.ensures.child

pub returns-in_ok-first_child-in-NamedParam : goal.returns-in_ok-first_child-in-NamedParam
returns-in_ok-first_child-in-NamedParam c = param_named c.args.file.now.nodes c.args.param c.in_ok-node.field-0 (sym c.in_ok-node.ensures) c.in-NamedParam.is c.in_ok-first_child-in-NamedParam.field-0 c.next.result c.in_ok-first_child-in-NamedParam.ensures.child c.next.ensures.sibling

pub returns-in_err-first_child-in-NamedParam : goal.returns-in_err-first_child-in-NamedParam
returns-in_err-first_child-in-NamedParam c = rw c.from_residual-in_err-first_child-in-NamedParam.ensures (param_bare c.args.file.now.nodes c.args.param c.in_ok-node.field-0 (sym c.in_ok-node.ensures) c.in-NamedParam.is c.in_err-first_child-in-NamedParam.ensures.child)

pub returns-in_default : goal.returns-in_default
returns-in_default c = param_other c.args.file.now.nodes c.args.param c.in_ok-node.field-0 (sym c.in_ok-node.ensures) c.in_default.not-Param c.in_default.not-NamedParam
