use Rattle.std.proofs.Common.{sym, ◌∙◌, ap, Some, arith}
use Rattle.argot_names_subset_file.proofs.Adding.{adds_step}
use Rattle.argot_names_subset.proofs.Othering.{IsOtherNumbered, other_numbered, others_all}
use Rattle.argot_names_subset.proofs.others.note_others.Goals as goal

pub loop-file-preserved : goal.loop-file-preserved
loop-file-preserved c =
    adds_step (IsOtherNumbered c.args.sources.now c.args.folders.now) c.loop-file.file c.args.spots.now.keys c.loop-file.spots.keys c.note_other.new.spots.keys c.loop-file.invariant
    (other_numbered c.args.sources.now c.args.folders.now c.loop-file.file c.as_str-path.result.now c.loop-file.spots.keys c.note_other.new.spots.keys (c.get.ensures ∙ ap (λ x. Some x) (sym c.as_str-path.ensures)) c.in_ok-note_other.ensures)

pub returns : goal.returns
returns c =
    others_all c.args.sources.now c.args.folders.now c.loop-file.file c.args.spots.now.keys c.loop-file.spots.keys (omega (arith, c.loop-file-test.false, c.loop-file.auto.file-end, c.in-Ok.ensures.1, c.len.ensures)) c.loop-file.invariant
