use Rattle.argot_names_tops.proofs.Looking.{first_in, none_in, first_import, no_import}
use Rattle.argot_names_tops.proofs.tops.import_meant.Goals as goal

pub returns-in-Some-clause-some : goal.returns-in-Some-clause-some
returns-in-Some-clause-some c = λ h main r are.
    let t = c.args.tops.now in
    first_import h main r t are c.args.file c.args.name.now c.in-Some.item.now
    (first_in c.deref.result.now t.imports.items t.import_entries c.args.file c.args.name.now c.in-Some.item.now c.deref.ensures.value are.import_entries c.in-Some.ensures.some)

pub returns-in-None-clause-none : goal.returns-in-None-clause-none
returns-in-None-clause-none c = λ h main r home node path place are reached.
    let t = c.args.tops.now in
    no_import h main r t are home c.args.file c.args.name.now reached
    (none_in c.deref.result.now t.imports.items t.import_entries c.args.file c.args.name.now c.deref.ensures.value are.import_entries c.in-None.ensures.none) node path place
