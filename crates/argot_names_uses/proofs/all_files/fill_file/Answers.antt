use Rattle.argot_names_uses.proofs.FirstUnresolved.{not_reached}
use Rattle.argot_names_uses.proofs.FilledFiles.{file_passed}
use Rattle.argot_names_uses.proofs.all_files.fill_file.Goals as goal

pub returns-in_default-clause-table : goal.returns-in_default-clause-table
returns-in_default-clause-table c h main decls known filled =
    file_passed h c.args.known.now.reached.now decls main c.args.known.now.tops.now c.args.file c.args.table.now.items known.tops_are (λ home. c.in_default.ensures.none h main known.tops_are.reach home) filled

pub returns-in_default-clause-fault : goal.returns-in_default-clause-fault
returns-in_default-clause-fault c h main tops = not_reached h main c.args.file (λ home. c.in_default.ensures.none h main tops.reach home)

pub returns-in-Some-file_names-clause-table : goal.returns-in-Some-file_names-clause-table
returns-in-Some-file_names-clause-table c h main decls known filled =
    let p = c.in-Some.ensures.some h main known.tops_are.reach in
    let n = c.in-Some-file_names.ensures.some h main c.args.known.now.reached.now known.tops_are in
    c.fill_names.ensures.table h main p.home decls (record { known = known; names = n.0; in_home = p.in_home; reached = record { reached = known.tops_are.reach.reached.sound p.home (c.in-Some.«package», p.in_home); of = p.of } }) filled

pub returns-in-Some-file_names-clause-fault : goal.returns-in-Some-file_names-clause-fault
returns-in-Some-file_names-clause-fault c h main tops =
    let p = c.in-Some.ensures.some h main tops.reach in
    let n = c.in-Some-file_names.ensures.some h main c.args.known.now.reached.now tops in
    c.fill_names.ensures.fault h main p.home (record { at = record { tops_are = tops; names_are = n.0; reached = record { reached = tops.reach.reached.sound p.home (c.in-Some.«package», p.in_home); of = p.of } }; in_home = p.in_home })

pub returns-in-None-clause-table : goal.returns-in-None-clause-table
returns-in-None-clause-table c h main decls known filled =
    file_passed h c.args.known.now.reached.now decls main c.args.known.now.tops.now c.args.file c.args.table.now.items known.tops_are (λ home. c.in-None.ensures.none h main c.args.known.now.reached.now home known.tops_are) filled

pub returns-in-None-clause-fault : goal.returns-in-None-clause-fault
returns-in-None-clause-fault c h main tops = not_reached h main c.args.file (λ home. c.in-None.ensures.none h main c.args.known.now.reached.now home tops)
