use Rattle.std.proofs.Common.{arith, refl}
use Rattle.argot_names_rules.specs.Lists.{In}
use Rattle.argot_names_subset_file.proofs.Adding.{adds_start, adds_step}
use Rattle.argot_names_subset.specs.Known.{handed_of}
use Rattle.argot_names_subset.proofs.Packaging.{IsKeyNumbered, home_numbered, homes_all, home_at}
use Rattle.argot_names_subset.proofs.packages.note_packages.Goals as goal

pub loop-k-init : goal.loop-k-init
loop-k-init c = λ homes tables are. adds_start (IsKeyNumbered (handed_of c.args.known.now) c.args.known.now.entries.now homes) c.args.spots.now.keys c.args.spots.now.keys refl

pub loop-k-preserved : goal.loop-k-preserved
loop-k-preserved c = λ homes tables are.
    let k = c.args.known.now in
    let h = handed_of k in
    let x = home_at h homes c.args.packages.now c.loop-k.k c.package_at.result.now are c.package_at.ensures in
    let among : In x.0 homes = (c.loop-k.k, x.1) in
    adds_step (IsKeyNumbered h k.entries.now homes) c.loop-k.k c.args.spots.now.keys c.loop-k.spots.keys c.note_package.new.spots.keys (c.loop-k.invariant homes tables are)
    (home_numbered h k.entries.now homes c.loop-k.k x.0 c.loop-k.spots.keys c.note_package.new.spots.keys x.1 (c.in_ok-note_package.ensures homes x.0 (record { tables = tables; among = among; proper = are.proper x.0 among; is_package = x.2 })))

pub returns : goal.returns
returns c = λ homes tables are.
    homes_all (handed_of c.args.known.now) c.args.known.now.entries.now homes c.loop-k.k c.args.spots.now.keys c.loop-k.spots.keys (omega (arith, c.loop-k-test.false, are.as_many)) (c.loop-k.invariant homes tables are)
