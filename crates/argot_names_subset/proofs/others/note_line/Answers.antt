use Rattle.std.proofs.Common.{refl, sym, ◌∙◌, subst}
use Rattle.argot_names_rules.specs.GoMod.{FirstLine}
use Rattle.argot_names_subset_file.proofs.Outcomes.{on_ok_map}
use Rattle.argot_names_subset.proofs.Othering.{line_added, line_missing}
use Rattle.argot_names_subset.proofs.others.note_line.Goals as goal

pub returns-in-Ok : goal.returns-in-Ok
returns-in-Ok c =
    let at = c.in-Ok.ensures.1 in
    on_ok_map c.note.result _ _
    (line_added c.args.bytes.now c.as_bytes.result.now c.args.file c.in-Ok.offset c.in-Some.line.second.now c.args.spots.now.keys c.note.new.spots.keys c.as_bytes.ensures.value
    (subst (λ o. FirstLine c.args.bytes.now c.as_bytes.result.now o c.in-Some.line.second.now) (sym at) c.in-Some.ensures.some)
    (λ o s f. let h = c.in-Some.ensures.one o s f in (h.0 ∙ sym at, h.1)))
    c.note.ensures

pub returns-in-None : goal.returns-in-None
returns-in-None c = line_missing c.args.bytes.now c.as_bytes.result.now c.args.file c.args.spots.now.keys c.args.spots.now.keys c.as_bytes.ensures.value c.in-None.ensures.none refl
