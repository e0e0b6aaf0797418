use Rattle.std.proofs.lemmas.Option.{slice_get-get_or}
use Rattle.argot_names_subset_file.proofs.Adding.{adds_step}
use Rattle.argot_names_subset_file.proofs.Commenting.{DirectiveItem, directive_item, directives_all}
use Rattle.argot_names_subset_file.proofs.comments.note_directives.Goals as goal

pub loop-k-preserved : goal.loop-k-preserved
loop-k-preserved c =
    adds_step (DirectiveItem c.args.bytes.now c.args.file c.args.directives.now) c.loop-k.k c.args.spots.now.keys c.loop-k.spots.keys c.note_directive.new.spots.keys c.loop-k.invariant
    (directive_item c.args.bytes.now c.args.file c.args.directives.now c.loop-k.k _ c.loop-k.spots.keys c.note_directive.new.spots.keys (slice_get-get_or c.args.directives.now c.loop-k.k 0 c.loop-k-test.true) c.in_ok-note_directive.ensures)

pub returns : goal.returns
returns c = directives_all c.args.bytes.now c.args.file c.args.directives.now c.loop-k.k c.args.spots.now.keys c.loop-k.spots.keys c.loop-k-test.false c.loop-k.invariant
