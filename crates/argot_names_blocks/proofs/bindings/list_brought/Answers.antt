use Rattle.argot_names_blocks.proofs.Gathering.{brought_grown, brought_listed}
use Rattle.argot_names_blocks.proofs.bindings.list_brought.Goals as goal

pub loop-k-preserved : goal.loop-k-preserved
loop-k-preserved c =
    let r = c.requires in
    brought_grown c.args.t.now.nodes.now c.args.t.now.parents.now c.args.t.now.keys.now c.args.t.now.blocks.now c.loop-k.k c.loop-k.list.items c.add.new.list.items c.bring.result r.formed r.parents r.keys r.blocks c.loop-k.invariant c.bring.ensures c.in_ok-add.ensures

pub returns : goal.returns
returns c =
    let r = c.requires in
    brought_listed c.args.t.now.nodes.now c.args.t.now.parents.now c.args.t.now.keys.now c.args.t.now.blocks.now c.loop-k.k c.loop-k.list.items r.formed r.parents r.keys r.blocks c.loop-k-test.false c.loop-k.invariant
