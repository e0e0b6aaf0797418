use Rattle.argot_names_subset_file.proofs.Adding.{adds_as}
use Rattle.argot_names_subset_file.proofs.comments.note_if.Goals as goal

pub returns-in_ok-note : goal.returns-in_ok-note
returns-in_ok-note c = adds_as _ _ c.args.spots.now.keys c.note.new.spots.keys (λ f p h. (c.if-holds.true, h.0, h.1)) (λ f p h. (h.1, h.2)) c.in_ok-note.ensures
