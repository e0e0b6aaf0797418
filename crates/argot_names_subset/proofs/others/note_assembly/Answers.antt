use Rattle.argot_names_subset_file.proofs.Outcomes.{on_ok_map}
use Rattle.argot_names_subset.proofs.Othering.{assembly_added}
use Rattle.argot_names_subset.proofs.others.note_assembly.Goals as goal

pub returns-then-has_folder : goal.returns-then-has_folder
returns-then-has_folder c =
    on_ok_map c.note.result _ _
    (assembly_added c.args.folders.now c.args.file c.args.path.now c.folder_of.result.now c.is_assembly.result c.args.spots.now.keys c.note.new.spots.keys c.is_assembly.ensures c.if-not-is_assembly.false c.folder_of.ensures (c.has_folder.ensures.yes c.if-has_folder.true))
    c.note.ensures
