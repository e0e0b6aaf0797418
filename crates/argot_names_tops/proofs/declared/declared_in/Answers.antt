use Rattle.std.proofs.Common.{List, length, subst}
use Rattle.argot_names_blocks.specs.declared.tops.TopName.{TopName}
use Rattle.argot_names_imports.specs.Reached.{homes_of}
use Rattle.argot_names_tops.specs.Collecting.{AreCollected}
use Rattle.argot_names_tops.specs.TopNames.{GivesTop}
use Rattle.argot_names_tops.specs.Declaring.{AreDeclaredIn}
use Rattle.argot_names_tops.proofs.Results.{ok_onto}
use Rattle.argot_names_tops.proofs.TopLists.{declared_nowhere, declared_here}
use Rattle.argot_names_tops.proofs.declared.declared_in.Goals as goal

pub returns-in_default : goal.returns-in_default
returns-in_default c = λ h main is files. declared_nowhere h main c.args.reached.now is c.args.file c.new.result.items c.new.ensures.items (c.in_default.ensures.none h main is)

pub returns-in-Some-names_at : goal.returns-in-Some-names_at
returns-in-Some-names_at c = λ h main is files.
    let n = c.in-Some-names_at.names.now in
    let of = c.in-Some.ensures.some h main is in
    let names = (files.there c.args.file n c.in-Some-names_at.ensures.some).0 in
    let tops : List TopName = c.deref.result.now in
    ok_onto (λ v. AreCollected (GivesTop n.bytes.now n.tokens.now c.in-Some.number c.args.file) tops (length tops) v.items)
    (λ v. AreDeclaredIn h (homes_of h c.args.reached.now) c.args.file v.items)
    c.scoped_tops.result
    (λ v m. declared_here h main c.args.reached.now is c.args.file c.in-Some.number of n names v.items (subst (λ ts. AreCollected (GivesTop n.bytes.now n.tokens.now c.in-Some.number c.args.file) ts (length ts) v.items) c.deref.ensures.value m))
    c.scoped_tops.ensures

pub returns-in-None : goal.returns-in-None
returns-in-None c = λ h main is files.
    let there = files.all c.args.file c.in-Some.number (c.in-Some.ensures.some h main is) in
    absurd (c.in-None.ensures.none there.0 there.1)
