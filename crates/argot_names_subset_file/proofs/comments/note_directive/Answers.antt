use Rattle.std.proofs.Common.{sym}
use Rattle.argot_names_subset_file.proofs.Outcomes.{on_ok_map}
use Rattle.argot_names_subset_file.proofs.Commenting.{three, directed_as}
use Rattle.argot_names_subset_file.proofs.comments.note_directive.Goals as goal

pub returns : goal.returns
returns c =
    let t = c.line_at-text.ensures in
    on_ok_map c.note_if-3.result _ _
    (λ last. three c.args.bytes.now c.args.file c.args.offset c.is_directive-linkname.result c.is_directive-build.result c.is_directive-embed.result
    c.args.spots.now.keys c.note_if.new.spots.keys c.note_if-2.new.spots.keys c.note_if-3.new.spots.keys
    (λ e. directed_as _ _ _ _ c.as_bytes.ensures.value t (c.is_directive-linkname.ensures.yes e))
    (λ e h. c.is_directive-linkname.ensures.no e (directed_as _ _ _ _ (sym c.as_bytes.ensures.value) (sym t) h))
    (λ e. directed_as _ _ _ _ c.as_bytes-3.ensures.value t (c.is_directive-build.ensures.yes e))
    (λ e h. c.is_directive-build.ensures.no e (directed_as _ _ _ _ (sym c.as_bytes-3.ensures.value) (sym t) h))
    (λ e. directed_as _ _ _ _ c.as_bytes-5.ensures.value t (c.is_directive-embed.ensures.yes e))
    (λ e h. c.is_directive-embed.ensures.no e (directed_as _ _ _ _ (sym c.as_bytes-5.ensures.value) (sym t) h))
    c.in_ok-note_if.ensures c.in_ok-note_if-2.ensures last)
    c.note_if-3.ensures
