use Rattle.argot_names_subset_file.proofs.Outcomes.{on_ok_map}
use Rattle.argot_names_subset.proofs.Othering.{go_added}
use Rattle.argot_names_subset.proofs.others.note_go_line.Goals as goal

pub returns-then-is_later : goal.returns-then-is_later
returns-then-is_later c =
    on_ok_map c.note_line.result _ _
    (go_added c.args.sources.now c.args.file c.args.path.now c.bytes_at.result.now c.args.spots.now.keys c.note_line.new.spots.keys (c.is_module_file.ensures.0 c.if-not-is_module_file.false) (c.is_later.ensures.yes c.if-is_later.true) c.bytes_at.ensures)
    c.note_line.ensures
