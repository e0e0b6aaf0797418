use Rattle.argot_answers.proofs.Tests.{iff_no}
use Rattle.argot_names_subset_file.proofs.ReceiverLemmas.{flagged_some, flagged_not, flagged_none}
use Rattle.argot_names_subset_file.proofs.receivers.bodiless_at.Goals as goal

pub returns-then-lacks_entry : goal.returns-then-lacks_entry
returns-then-lacks_entry c =
    flagged_some c.args.view.now.file.now c.args.view.now.entries.now c.args.path.now c.args.k c.in_ok-token.token c.in_ok-decl.decl c.text.result.now c.text.ensures
    c.in_ok-token.ensures c.in_ok-decl.ensures (c.lacks_entry.ensures.0 c.if-lacks_entry.true)

pub returns-else-lacks_entry : goal.returns-else-lacks_entry
returns-else-lacks_entry c =
    flagged_not c.args.view.now.file.now c.args.view.now.entries.now c.args.path.now c.args.k c.in_ok-token.token c.in_ok-decl.decl c.text.result.now c.text.ensures
    c.in_ok-token.ensures c.in_ok-decl.ensures (iff_no c.lacks_entry.result c.if-lacks_entry.false c.lacks_entry.ensures)

pub returns-in_err-token : goal.returns-in_err-token
returns-in_err-token c = rw c.from_residual.ensures (flagged_none c.args.view.now.file.now c.args.view.now.entries.now c.args.path.now c.args.k c.in_err-token.ensures)
