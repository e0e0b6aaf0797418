use Rattle.std.proofs.Common.{rules, arith}
use Rattle.argot_names_subset.proofs.Foldering.{folders_none, folders_more, folders_all}
use Rattle.argot_names_subset.proofs.folders.folders_of.Goals as goal

pub loop-k-init : goal.loop-k-init
loop-k-init c = folders_none c.args.sources.now c.args.packages.now c.new-folders.result (λ q. search rules)

pub loop-k-preserved : goal.loop-k-preserved
loop-k-preserved c =
    folders_more c.args.sources.now c.args.packages.now c.loop-k.k c.package_at.result.now c.loop-k.folders c.put_package.new.folders c.package_at.ensures c.loop-k.invariant c.in_ok-put_package.ensures

pub returns : goal.returns
returns c = folders_all c.args.sources.now c.args.packages.now c.loop-k.k c.loop-k.folders (omega (arith, c.loop-k-test.false)) c.loop-k.invariant
