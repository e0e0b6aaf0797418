use Rattle.argot_names_subset_file.proofs.Counting.{types_more}
use Rattle.argot_names_subset_file.proofs.tables.push_types.Goals as goal

pub loop-k-preserved : goal.loop-k-preserved
loop-k-preserved c =
    types_more c.as_slice-nodes.result.now c.loop-k.k c.args.types.now.items c.loop-k.types.items c.push.new.self.items c.is_type_declared.result c.loop-k.invariant c.in_ok-push.ensures.items c.is_type_declared.ensures
