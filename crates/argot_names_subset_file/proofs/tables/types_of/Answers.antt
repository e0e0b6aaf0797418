use Rattle.argot_names_subset_file.proofs.Counting.{before_more}
use Rattle.argot_names_subset_file.proofs.tables.types_of.Goals as goal

pub loop-file-preserved : goal.loop-file-preserved
loop-file-preserved c =
    before_more c.args.trees.now c.loop-file.file c.tree_at.result.now c.loop-file.types.items c.push_types.new.types.items c.tree_at.ensures c.loop-file.invariant c.in_ok-push_types.ensures
