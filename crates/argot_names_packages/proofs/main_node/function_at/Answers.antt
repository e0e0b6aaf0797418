use Rattle.std.proofs.Common.{sym, ◌∙◌}
use Rattle.argot_answers.proofs.Tests.{iff_no}
use Rattle.argot_names_packages.proofs.Mains.{no_name, no_function, a_function}
use Rattle.argot_names_packages.proofs.main_node.function_at.Goals as goal

pub returns-then-not-is_declared : goal.returns-then-not-is_declared
returns-then-not-is_declared c = no_name c.args.file.now.nodes c.args.k c.in_ok-node.node (sym c.in_ok-node.ensures) (sym c.is_declared.ensures ∙ c.if-not-is_declared.true)

pub returns-then-not-is_function : goal.returns-then-not-is_function
returns-then-not-is_function c =
    no_function c.args.file.now.nodes c.args.k c.in_ok-node.node (sym c.in_ok-node.ensures) c.in_ok-decl.decl c.in_ok-decl.ensures c.in_ok-node-2.field-0 (sym c.in_ok-node-2.ensures) (sym c.is_function.ensures ∙ c.if-not-is_function.true)

pub returns : goal.returns
returns c =
    a_function c.args.file.now.nodes c.args.k c.in_ok-node.node (sym c.in_ok-node.ensures) c.in_ok-decl.decl c.in_ok-decl.ensures c.in_ok-node-2.field-0 (sym c.in_ok-node-2.ensures)
    (sym c.is_declared.ensures ∙ c.if-not-is_declared.false) (sym c.is_function.ensures ∙ c.if-not-is_function.false) (iff_no c.has_receiver.result c.if-has_receiver.false c.has_receiver.ensures)
