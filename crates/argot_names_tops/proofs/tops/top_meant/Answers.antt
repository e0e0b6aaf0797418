use Rattle.argot_names_tops.proofs.Looking.{first_in, none_in, first_top, no_top}
use Rattle.argot_names_tops.proofs.tops.top_meant.Goals as goal

pub returns-in-Some-clause-some : goal.returns-in-Some-clause-some
returns-in-Some-clause-some c = λ h main r home are at.
    let t = c.args.tops.now in
    first_top h main r t are c.args.package home c.args.name.now c.in-Some.item.now at
    (first_in c.deref.result.now t.tops.items t.top_entries c.args.package c.args.name.now c.in-Some.item.now c.deref.ensures.value are.top_entries c.in-Some.ensures.some)

pub returns-in-None-clause-none : goal.returns-in-None-clause-none
returns-in-None-clause-none c = λ h main r home file node place are at.
    let t = c.args.tops.now in
    no_top h main r t are c.args.package home c.args.name.now at
    (none_in c.deref.result.now t.tops.items t.top_entries c.args.package c.args.name.now c.deref.ensures.value are.top_entries c.in-None.ensures.none) file node place
