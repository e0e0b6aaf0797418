use Rattle.argot_names_subset_file.proofs.Adding.{adds_one}
use Rattle.argot_names_subset_file.proofs.spots.note.Goals as goal

pub returns : goal.returns
returns c =
    adds_one c.args.feature (record { file = c.args.file; offset = c.args.offset }) (record { file = c.args.file; offset = c.args.offset; rank = c.rank_of.result }) c.args.spots.now.keys c.insert.new.self.keys
    (λ i. record { file = c.args.file; offset = c.args.offset; rank = c.rank_of.ensures i }) c.in_ok-insert.ensures.keys
