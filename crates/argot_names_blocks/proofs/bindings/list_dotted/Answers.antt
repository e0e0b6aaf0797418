use Rattle.argot_names_blocks.proofs.Gathering.{dotted_grown, dotted_listed}
use Rattle.argot_names_blocks.proofs.bindings.list_dotted.Goals as goal

pub loop-k-preserved : goal.loop-k-preserved
loop-k-preserved c =
    dotted_grown c.args.nodes.now c.args.parents.now c.loop-k.k c.loop-k.list.items c.add.new.list.items c.member_at.result c.requires c.loop-k.invariant c.member_at.ensures c.in_ok-add.ensures

pub returns : goal.returns
returns c = dotted_listed c.args.nodes.now c.args.parents.now c.loop-k.k c.loop-k.list.items c.requires c.loop-k-test.false c.loop-k.invariant
