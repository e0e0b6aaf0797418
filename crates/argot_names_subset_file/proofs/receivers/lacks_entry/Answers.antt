use Rattle.argot_answers.proofs.Tests.{not_iff, iff_no, iff_trans}
use Rattle.argot_names_subset_file.proofs.ReceiverLemmas.{without_lacks, lacks_without, function_lacks, function_has}
use Rattle.argot_names_subset_file.proofs.receivers.lacks_entry.Goals as goal

pub returns-then-has_receiver : goal.returns-then-has_receiver
returns-then-has_receiver c =
    iff_trans c.some_without.ensures
    (without_lacks c.args.view.now.file.now c.args.view.now.entries.now c.args.path.now c.args.name.now c.args.decl, lacks_without c.args.view.now.file.now c.args.view.now.entries.now c.args.path.now c.args.name.now c.args.decl (c.has_receiver.ensures.0 c.if-has_receiver.true))

pub returns-else-has_receiver : goal.returns-else-has_receiver
returns-else-has_receiver c =
    let function = iff_no c.has_receiver.result c.if-has_receiver.false c.has_receiver.ensures in
    not_iff c.has_entry.result c.has_entry.ensures
    (function_lacks c.args.view.now.file.now c.args.view.now.entries.now c.args.path.now c.args.name.now c.args.decl function)
    (function_has c.args.view.now.file.now c.args.view.now.entries.now c.args.path.now c.args.name.now c.args.decl function)
