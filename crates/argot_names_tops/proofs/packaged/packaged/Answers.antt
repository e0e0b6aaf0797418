use Rattle.std.proofs.Common.{refl}
use Rattle.argot_names_tops.proofs.packaged.packaged.Goals as goal

pub returns-in-Some-clause-some : goal.returns-in-Some-clause-some
returns-in-Some-clause-some c = λ h main is. record { name_is = refl; place_is = refl; of_package = c.in-Some.ensures.some h main is }

pub returns-in-None-clause-none : goal.returns-in-None-clause-none
returns-in-None-clause-none c = λ h main n is g.
    let of = g.of_package in
    c.in-None.ensures.none h main is of.home (record { reached = is.reached.sound of.home (n.scope, of.in_home); of = of.of })
