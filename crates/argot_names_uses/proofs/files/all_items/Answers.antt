use Rattle.std.proofs.Common.{arith, subst, sym}
use Rattle.argot_names_tops.specs.Importing.{AreImportNames}
use Rattle.argot_names_uses.proofs.Gathered.{all_begun, all_more, all_done}
use Rattle.argot_names_uses.proofs.files.all_items.Goals as goal

pub loop-file-init : goal.loop-file-init
loop-file-init c = λ h main are tops. all_begun h c.args.reached.now c.in_ok-items.items.items (c.in_ok-items.ensures h main are tops.reach (subst (AreImportNames h c.args.reached.now) (sym c.deref.ensures.value) tops.imports))

pub loop-file-preserved : goal.loop-file-preserved
loop-file-preserved c = λ h main are tops.
    all_more h c.args.reached.now c.loop-file.file c.loop-file.items.items c.in_ok-more.more.items c.append.new.self.items (c.loop-file.invariant h main are tops) (c.in_ok-more.ensures h main are tops) c.in_ok-append.ensures.items

pub returns : goal.returns
returns c = λ h main are tops.
    all_done h c.args.reached.now c.args.tops.now.files.items c.loop-file.file c.loop-file.items.items tops.files (omega (arith, c.loop-file-test.false, c.in-Ok.ensures)) (c.loop-file.invariant h main are tops)
