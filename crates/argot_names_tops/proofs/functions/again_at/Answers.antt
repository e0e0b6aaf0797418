use Rattle.argot_names_tops.proofs.AgainPlaces.{again_nowhere}
use Rattle.argot_names_tops.proofs.functions.again_at.Goals as goal

pub again_in-requires : goal.again_in-requires
again_in-requires c = c.requires c.args.file c.in-Some.names.now c.in-Some.ensures.some

pub returns-in-Some : goal.returns-in-Some
returns-in-Some c = λ h main r is files.
    let n = files.there c.args.file c.in-Some.names.now c.in-Some.ensures.some in
    let of = n.1.1 in
    c.again_in.ensures h main of.home n.0 (record { reached = is.reached.sound of.home (n.1.0, of.in_home); of = of.of })

pub returns-in-None : goal.returns-in-None
returns-in-None c = λ h main r is files. again_nowhere h main r is c.args.files.now c.args.file files c.in-None.ensures.none
