use Rattle.std.proofs.Common.{subst}
use Rattle.argot_names_subset_file.specs.Spots.{Adds}
use Rattle.argot_names_subset_file.specs.Files.{IsDirectedSome}
use Rattle.argot_names_subset_file.proofs.Outcomes.{on_ok_map}
use Rattle.argot_names_subset_file.proofs.Gathering.{in_file}
use Rattle.argot_names_subset_file.proofs.files.note_file.Goals as goal

pub returns : goal.returns
returns c =
    on_ok_map c.note_nodes.result _ _
    (λ last. in_file c.args.view.now c.args.directives.now c.args.spots.now.keys c.note_imports.new.spots.keys c.note_directives.new.spots.keys c.note_nodes.new.spots.keys c.in_ok-note_imports.ensures (subst (λ bs. Adds (IsDirectedSome bs c.args.view.now.number c.args.directives.now) c.note_imports.new.spots.keys c.note_directives.new.spots.keys) c.bytes.ensures c.in_ok-note_directives.ensures) last)
    c.note_nodes.ensures
