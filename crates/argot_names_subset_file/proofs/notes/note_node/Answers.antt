use Rattle.argot_names_subset_file.specs.Parts.{IsDot, IsPlain, IsNumber, IsNamed, IsMethod}
use Rattle.argot_names_subset_file.specs.Files.{IsBodilessIn}
use Rattle.argot_names_subset_file.proofs.Outcomes.{on_ok_map}
use Rattle.argot_names_subset_file.proofs.Noting.{exactly, six}
use Rattle.argot_names_subset_file.proofs.notes.note_node.Goals as goal

pub returns : goal.returns
returns c =
    let v = c.args.view.now in
    let f = v.file.now in
    let k = c.args.k in
    on_ok_map c.note_part-6.result _ _
    (λ last. six v k c.args.spots.now.keys c.note_part.new.spots.keys c.note_part-2.new.spots.keys c.note_part-3.new.spots.keys c.note_part-4.new.spots.keys c.note_part-5.new.spots.keys c.note_part-6.new.spots.keys
    (exactly f.tokens v.number (IsDot f.nodes k) c.dot_at.result c.args.spots.now.keys c.note_part.new.spots.keys c.dot_at.ensures c.in_ok-note_part.ensures)
    (exactly f.tokens v.number (IsPlain f.nodes k) c.plain_at.result c.note_part.new.spots.keys c.note_part-2.new.spots.keys c.plain_at.ensures c.in_ok-note_part-2.ensures)
    (exactly f.tokens v.number (IsNumber f.tokens f.nodes k) c.number_at.result c.note_part-2.new.spots.keys c.note_part-3.new.spots.keys c.number_at.ensures c.in_ok-note_part-3.ensures)
    (exactly f.tokens v.number (IsNamed f.nodes v.named.now k) c.named_at.result c.note_part-3.new.spots.keys c.note_part-4.new.spots.keys c.named_at.ensures c.in_ok-note_part-4.ensures)
    (exactly f.tokens v.number (IsMethod f.nodes v.typed.now k) c.method_at.result c.note_part-4.new.spots.keys c.note_part-5.new.spots.keys c.method_at.ensures c.in_ok-note_part-5.ensures)
    (exactly f.tokens v.number (IsBodilessIn v k) c.bodiless_in.result c.note_part-5.new.spots.keys c.note_part-6.new.spots.keys c.bodiless_in.ensures last))
    c.note_part-6.ensures
