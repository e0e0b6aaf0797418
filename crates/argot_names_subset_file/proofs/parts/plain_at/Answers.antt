use Rattle.std.proofs.Common.{sym, ◌∙◌}
use Rattle.argot_names_subset_file.proofs.PartLemmas.{plain_params, plain_goto, plain_other}
use Rattle.argot_names_subset_file.proofs.parts.plain_at.Goals as goal

pub returns-in-TypeParams : goal.returns-in-TypeParams
returns-in-TypeParams c = plain_params c.args.file.now.nodes c.args.k c.in_ok-node.node (sym c.in_ok-node.ensures) c.in-TypeParams.is

pub returns-in-Goto : goal.returns-in-Goto
returns-in-Goto c = plain_goto c.args.file.now.nodes c.args.k c.in_ok-node.node (sym c.in_ok-node.ensures) c.in-Goto.is

pub returns-in_default : goal.returns-in_default
returns-in_default c = plain_other c.args.file.now.nodes c.args.k c.in_ok-node.node (sym c.in_ok-node.ensures) c.in_default.not-TypeParams c.in_default.not-Goto
