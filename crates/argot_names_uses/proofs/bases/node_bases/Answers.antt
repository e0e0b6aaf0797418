use Rattle.std.proofs.Common.{arith}
use Rattle.argot_names_uses.proofs.NodeSums.{bases_more, bases_all}
use Rattle.argot_names_uses.proofs.bases.node_bases.Goals as goal

pub loop-file-preserved : goal.loop-file-preserved
loop-file-preserved c =
    bases_more c.args.trees.now c.loop-file.file c.loop-file.bases.items c.push-in-loop-file.new.self.items c.loop-file.count c.in-Some.more c.tree_at.result.now
    c.loop-file.invariant c.tree_at.ensures c.in-Some.ensures.0 c.in-Some.ensures.1 c.in_ok-push-2.ensures.items

pub returns : goal.returns
returns c =
    bases_all c.args.trees.now c.loop-file.file c.loop-file.bases.items c.loop-file.count c.loop-file.invariant (omega (arith, c.loop-file-test.false))
