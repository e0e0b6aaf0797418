use Rattle.std.proofs.Common.{sym}
use Rattle.argot_names_subset_file.proofs.Outcomes.{on_ok_map}
use Rattle.argot_names_subset_file.proofs.Noting.{part_some}
use Rattle.argot_names_subset_file.proofs.notes.note_part.Goals as goal

pub returns : goal.returns
returns c =
    let v = c.args.view.now in
    on_ok_map c.note.result _ _
    (part_some v.file.now.tokens v.number c.args.part c.in-Some.part c.in-Some-token.token c.args.spots.now.keys c.note.new.spots.keys c.in-Some.is (sym c.in-Some-token.ensures)) c.note.ensures
