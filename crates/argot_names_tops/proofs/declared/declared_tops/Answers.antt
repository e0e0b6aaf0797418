use Rattle.std.proofs.Common.{arith}
use Rattle.argot_names_imports.specs.Reached.{homes_of}
use Rattle.argot_names_tops.proofs.TopLists.{declared_none, declared_more, declared_all}
use Rattle.argot_names_tops.proofs.declared.declared_tops.Goals as goal

pub loop-file-init : goal.loop-file-init
loop-file-init c = λ h main is files. declared_none h (homes_of h c.args.reached.now) c.new-all.result.items c.new-all.ensures.items

pub loop-file-preserved : goal.loop-file-preserved
loop-file-preserved c = λ h main is files.
    declared_more h (homes_of h c.args.reached.now) c.loop-file.file c.loop-file.all.items c.in_ok-tops.tops.items c.append.new.self.items (c.loop-file.invariant h main is files) (c.in_ok-tops.ensures h main is files)
    c.in_ok-append.ensures.items

pub returns : goal.returns
returns c = λ h main is files.
    let size = c.in-Ok.ensures in
    declared_all h main c.args.reached.now is c.loop-file.file c.args.files.now c.loop-file.all.items files (omega (arith, size.1)) (c.loop-file.invariant h main is files)
