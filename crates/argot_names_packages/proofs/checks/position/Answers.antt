use Rattle.std.proofs.Common.{ap, ◌∙◌}
use Rattle.argot_text.specs.Lines.{line_of, column_of}
use Rattle.argot_names_rules.specs.Files.{position_of}
use Rattle.argot_files.specs.Places.{place_of}
use Rattle.argot_files.specs.Reading.{files_in}
use Rattle.argot_names_packages.proofs.Refusing.{same_pos}
use Rattle.argot_names_packages.proofs.checks.position.Goals as goal

pub returns : goal.returns
returns c =
    same_pos c.pos_at.result (position_of (files_in c.args.files.now) (place_of c.args.spot)) c.pos_at.ensures.file
    (c.pos_at.ensures.line ∙ ap (λ b. line_of b c.args.spot.offset) c.bytes_at.ensures) (c.pos_at.ensures.column ∙ ap (λ b. column_of b c.args.spot.offset) c.bytes_at.ensures)
