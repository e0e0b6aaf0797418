use Rattle.std.proofs.Common.{sym}
use Rattle.argot_names_imports.proofs.FirstFiles.{note_step}
use Rattle.argot_names_imports.proofs.firsts.note.Goals as goal

pub returns : goal.returns
returns c = note_step c.args.firsts.now c.insert.new.self c.args.key c.args.file (sym c.in_default.ensures.value) c.in_ok-insert.ensures.updates.0
