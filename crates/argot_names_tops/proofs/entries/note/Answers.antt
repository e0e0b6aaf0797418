use Rattle.std.proofs.Common.{◌∙◌, ap}
use Rattle.argot_names_tops.specs.Entries.{entry_with}
use Rattle.argot_names_tops.proofs.Noting.{note_step}
use Rattle.argot_names_tops.proofs.entries.note.Goals as goal

pub returns : goal.returns
returns c =
    note_step c.args.entries.now c.insert.new.self c.args.item.now c.args.number c.entry_with-new.result
    (c.entry_with-new.ensures ∙ ap (λ o. entry_with o c.args.number c.args.item.now.place) c.entry_at-old.ensures) c.in_ok-insert.ensures.updates.0
