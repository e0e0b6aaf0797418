use Rattle.std.proofs.Common.{arith}
use Rattle.argot_names_uses.specs.Givers.{GivesImport}
use Rattle.argot_names_uses.proofs.Giving.{given_none}
use Rattle.argot_names_uses.proofs.ImportItems.{imports_more, imports_all}
use Rattle.argot_names_uses.proofs.imported.import_items.Goals as goal

pub loop-k-init : goal.loop-k-init
loop-k-init c = λ h main are is known. given_none (GivesImport h c.args.reached.now c.args.imports.now) c.new-items.result.items c.new-items.ensures.items

pub loop-k-preserved : goal.loop-k-preserved
loop-k-preserved c = λ h main are is known.
    imports_more h main c.args.reached.now is c.args.imports.now known c.loop-k.k c.loop-k.items.items c.push.new.self.items c.in_ok-import_item.field-0 (c.loop-k.invariant h main are is known) (c.in_ok-import_item.ensures h main are is known) c.in_ok-push.ensures.items

pub returns : goal.returns
returns c = λ h main are is known.
    imports_all h main c.args.reached.now is c.args.imports.now known c.loop-k.k c.loop-k.items.items (omega (arith, c.loop-k-test.false)) (c.loop-k.invariant h main are is known)
