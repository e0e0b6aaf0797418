use Rattle.argot_names_subset.proofs.Slicing.{part_at}
use Rattle.argot_names_subset.proofs.file.part_of.Goals as goal

pub returns : goal.returns
returns g c = λ trees tree are there.
    part_at trees tree c.args.bases.now c.args.table.now c.range_of.result.now c.args.file c.args.count c.base_at-from.result are there c.base_at-from.ensures c.range_of.ensures
