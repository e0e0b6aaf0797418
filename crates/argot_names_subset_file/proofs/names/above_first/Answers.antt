use Rattle.argot_names_subset_file.proofs.NameLemmas.{first_some, first_other, first_none}
use Rattle.argot_names_subset_file.proofs.names.above_first.Goals as goal

pub returns-in_err-above : goal.returns-in_err-above
returns-in_err-above c = rw c.from_residual.ensures (first_none c.args.file.now.nodes c.args.k c.in_err-above.ensures)

pub returns-then-is_link : goal.returns-then-is_link
returns-then-is_link c = first_some c.args.file.now.nodes c.args.k c.in_ok-above.above c.in_ok-above.ensures (c.is_link.ensures.0 c.if-is_link.true)

pub returns-else-is_link : goal.returns-else-is_link
returns-else-is_link c = first_other c.args.file.now.nodes c.args.k c.in_ok-above.above c.in_ok-above.ensures (λ e. let yes = c.is_link.ensures.1 e in let not_so = c.if-is_link.false in absurd (cc))
