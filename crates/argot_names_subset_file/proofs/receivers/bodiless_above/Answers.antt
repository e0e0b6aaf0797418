use Rattle.std.proofs.Common.{sym}
use Rattle.argot_tree.specs.declared.node_kind.NodeKind.TheVariants as nodes
use Rattle.argot_files.proofs.Nodes.{is_there}
use Rattle.argot_answers.proofs.Tests.{iff_no}
use Rattle.argot_names_subset_file.proofs.ReceiverLemmas.{bodiless_some}
use Rattle.argot_names_subset_file.proofs.receivers.bodiless_above.Goals as goal

pub returns-else-has_body : goal.returns-else-has_body
returns-else-has_body c =
    bodiless_some c.args.file.now.nodes c.args.k c.in_ok-decl.decl c.in_ok-decl.ensures c.in_ok-node.field-0 (sym c.in_ok-node.ensures) c.in-FuncDecl.is
    (iff_no c.has_body.result c.if-has_body.false (c.has_body.ensures (is_there c.args.file.now.nodes c.in_ok-decl.decl c.in_ok-node.field-0 nodes.FuncDecl (sym c.in_ok-node.ensures) c.in-FuncDecl.is)))
