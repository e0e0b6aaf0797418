use Rattle.argot_names_blocks.proofs.Gathering.{tops_grown, tops_listed}
use Rattle.argot_names_blocks.proofs.bindings.list_tops.Goals as goal

pub loop-k-preserved : goal.loop-k-preserved
loop-k-preserved c =
    let r = c.requires in
    tops_grown c.args.t.now.nodes.now c.args.t.now.parents.now c.args.t.now.blocks.now c.args.t.now.receivers.now c.loop-k.k c.loop-k.list.items c.add.new.list.items c.top_at.result r.parents r.blocks r.receivers c.loop-k.invariant c.top_at.ensures c.in_ok-add.ensures

pub returns : goal.returns
returns c =
    let r = c.requires in
    tops_listed c.args.t.now.nodes.now c.args.t.now.parents.now c.args.t.now.blocks.now c.args.t.now.receivers.now c.loop-k.k c.loop-k.list.items r.parents r.blocks r.receivers c.loop-k-test.false c.loop-k.invariant
