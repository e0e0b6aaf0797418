use Rattle.std.proofs.Common.{◌≡◌, Some, length, arith, ap, ◌∙◌, sym, refl}
use Rattle.std.specs.Prelude.{slice_get}
use Rattle.argot_names_subset_file.proofs.Adding.{adds_start, adds_step}
use Rattle.argot_names_subset.specs.Known.{handed_of}
use Rattle.argot_names_subset.proofs.Pathing.{path_is_of}
use Rattle.argot_names_subset.proofs.Packaging.{IsFileNumbered, file_numbered, files_all}
use Rattle.argot_names_subset.proofs.packages.note_package.Goals as goal

pub loop-k-init : goal.loop-k-init
loop-k-init c = λ homes home is. adds_start (IsFileNumbered (handed_of c.args.known.now) c.args.known.now.entries.now home c.args.package.now.files) c.args.spots.now.keys c.args.spots.now.keys refl

pub loop-k-preserved : goal.loop-k-preserved
loop-k-preserved c = λ homes home is.
    let k = c.args.known.now in
    let h = handed_of k in
    let file = c.file_at-file.result in
    let there : slice_get c.args.package.now.files c.loop-k.k ≡ Some file = ap (λ fs. slice_get fs c.loop-k.k) (sym c.as_slice-files.ensures) ∙ c.file_at-file.ensures in
    let of = is.is_package.files.sound file (c.loop-k.k, there) in
    adds_step (IsFileNumbered h k.entries.now home c.args.package.now.files) c.loop-k.k c.args.spots.now.keys c.loop-k.spots.keys c.note_source.new.spots.keys (c.loop-k.invariant homes home is)
    (file_numbered h k.entries.now home c.args.package.now.files c.loop-k.k file c.loop-k.spots.keys c.note_source.new.spots.keys there
    (c.in_ok-note_source.ensures homes home (record { tables = is.tables; among = is.among; of = of; path_of = path_is_of h home c.args.package.now file _ is.proper of is.is_package c.path_of-path.ensures })))

pub returns : goal.returns
returns c = λ homes home is.
    files_all (handed_of c.args.known.now) c.args.known.now.entries.now home c.args.package.now c.loop-k.k c.args.spots.now.keys c.loop-k.spots.keys is.is_package
    (omega (arith, c.loop-k-test.false, ap length c.as_slice-files.ensures)) (c.loop-k.invariant homes home is)
