use Rattle.std.proofs.Common.{length}
use Rattle.argot_names_uses.proofs.FirstUnresolved.{first_of_both}
use Rattle.argot_names_uses.proofs.FilledFiles.{file_begun, file_filled}
use Rattle.argot_names_uses.proofs.filling.fill_names.Goals as goal

pub returns-clause-table : goal.returns-clause-table
returns-clause-table c h main home decls here filled =
    let r = c.args.known.now.reached.now in
    let n = c.args.names.now in
    let lone = c.fill_lones-lone.ensures.table h main home decls here (file_begun h r decls n c.args.file c.args.table.now.items filled) in
    let members = c.fill_members-member.ensures.table h main home decls (length n.bindings.looked.items) here lone in
    let all = c.fill_all_assigned.ensures h main home decls (length n.bindings.looked.items) (length n.bindings.dotted.items) here members in
    file_filled h r decls n c.args.file c.fill_all_assigned.new.table.items here.names all

pub returns-clause-fault : goal.returns-clause-fault
returns-clause-fault c h main home here =
    first_of_both h main home c.args.file c.args.names.now here.at.reached here.at.names_are c.fill_lones-lone.result c.fill_members-member.result c.sooner.result (c.fill_lones-lone.ensures.fault h main home here) (c.fill_members-member.ensures.fault h main home here) c.sooner.ensures
