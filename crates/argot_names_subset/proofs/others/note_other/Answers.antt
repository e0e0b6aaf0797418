use Rattle.argot_names_subset_file.proofs.Outcomes.{on_ok_map}
use Rattle.argot_names_subset.proofs.Othering.{other_added}
use Rattle.argot_names_subset.proofs.others.note_other.Goals as goal

pub returns : goal.returns
returns c =
    on_ok_map c.note_go_line.result _ _
    (other_added c.args.sources.now c.args.folders.now c.args.file c.args.path.now c.args.spots.now.keys c.note_assembly.new.spots.keys c.note_go_line.new.spots.keys c.in_ok-note_assembly.ensures)
    c.note_go_line.ensures
