use Rattle.std.proofs.Common.{sym, ◌∙◌}
use Rattle.argot_answers.proofs.Tests.{iff_no}
use Rattle.argot_names_subset_file.proofs.NameLemmas.{named_some, named_key}
use Rattle.argot_names_subset_file.proofs.names.named_at.Goals as goal

pub returns-then-is_lone_key : goal.returns-then-is_lone_key
returns-then-is_lone_key c = named_key c.args.view.now.file.now.nodes c.args.view.now.named.now c.args.k (c.is_lone_key.ensures.0 c.if-is_lone_key.true)

pub returns : goal.returns
returns c =
    named_some c.args.view.now.file.now.nodes c.args.view.now.named.now c.args.k c.in_ok-node.node c.in_ok-feature.feature (sym c.in_ok-node.ensures)
    (sym c.is_name.ensures ∙ c.if-not-is_name.false) (iff_no c.is_lone_key.result c.if-is_lone_key.false c.is_lone_key.ensures) c.in_ok-feature.ensures
