use Rattle.std.proofs.Common.{arith}
use Rattle.argot_names_subset_file.proofs.Counting.{bases_more}
use Rattle.argot_names_subset_file.proofs.tables.bases_of.Goals as goal

pub loop-file-preserved : goal.loop-file-preserved
loop-file-preserved c =
    bases_more c.args.trees.now c.loop-file.file c.loop-file.count c.in-Some.more c.tree_at.result.now c.loop-file.bases.items c.push.new.self.items c.loop-file.invariant c.tree_at.ensures c.in_ok-push.ensures.items (let h = c.in-Some.ensures in omega (arith, h.1, c.len.ensures))
