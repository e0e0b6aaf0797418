use Rattle.argot_names_subset_file.proofs.NameLemmas.{selector_some, selector_other, selector_none}
use Rattle.argot_names_subset_file.proofs.names.selector_of.Goals as goal

pub returns-in_err-above : goal.returns-in_err-above
returns-in_err-above c = rw c.from_residual.ensures (selector_none c.args.file.now.nodes c.args.k c.in_err-above.ensures)

pub returns-in-Selector : goal.returns-in-Selector
returns-in-Selector c = selector_some c.args.file.now.nodes c.args.k c.in_ok-above.above c.in_ok-above.ensures c.in-Selector.is

pub returns-in_default : goal.returns-in_default
returns-in_default c = selector_other c.args.file.now.nodes c.args.k c.in_ok-above.above c.in_ok-above.ensures c.in_default.not-Selector
