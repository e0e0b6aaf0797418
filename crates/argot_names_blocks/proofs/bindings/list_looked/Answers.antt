use Rattle.argot_names_blocks.proofs.Gathering.{looked_grown, looked_listed}
use Rattle.argot_names_blocks.proofs.bindings.list_looked.Goals as goal

pub loop-k-preserved : goal.loop-k-preserved
loop-k-preserved c =
    looked_grown c.args.nodes.now c.args.parents.now c.loop-k.k c.loop-k.list.items c.add.new.list.items c.seen.result c.requires c.loop-k.invariant c.seen.ensures c.in_ok-add.ensures

pub returns : goal.returns
returns c = looked_listed c.args.nodes.now c.args.parents.now c.loop-k.k c.loop-k.list.items c.requires c.loop-k-test.false c.loop-k.invariant
