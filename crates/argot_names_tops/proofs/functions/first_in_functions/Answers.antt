use Rattle.std.proofs.Common.{◌≡◌, ◌+◌, length, sym, subst, arith}
use Rattle.argot_names_tops.specs.First.{NamesFirst}
use Rattle.argot_names_tops.specs.Behind.{IsAgainBelow}
use Rattle.argot_names_tops.proofs.AgainPlaces.{again_begun, again_more}
use Rattle.argot_names_tops.proofs.functions.first_in_functions.Goals as goal

pub loop-file-init : goal.loop-file-init
loop-file-init c = λ h main r is files. again_begun h main

pub loop-file-preserved : goal.loop-file-preserved
loop-file-preserved c = λ h main r is files.
    subst (NamesFirst (IsAgainBelow h main (c.loop-file.file + 1))) (sym c.sooner-first.ensures)
    (again_more h main c.loop-file.file c.loop-file.first c.again_at.result (c.loop-file.invariant h main r is files) (c.again_at.ensures h main r is files))

pub returns : goal.returns
returns c = λ h main r is files.
    let size = c.in-Ok.ensures in
    let at : c.loop-file.file ≡ length c.args.files.now = omega (arith, size.1) in
    subst (λ k. NamesFirst (IsAgainBelow h main k) c.loop-file.first) at (c.loop-file.invariant h main r is files)
