use Rattle.std.proofs.Common.{arith}
use Rattle.argot_names_subset_file.specs.Files.{IsPart, IsAt}
use Rattle.argot_names_subset_file.proofs.Adding.{adds_step}
use Rattle.argot_names_subset_file.proofs.Noting.{nodes_all}
use Rattle.argot_names_subset_file.proofs.notes.note_nodes.Goals as goal

pub loop-k-preserved : goal.loop-k-preserved
loop-k-preserved c =
    adds_step (λ j. IsAt c.args.view.now.file.now.tokens c.args.view.now.number (IsPart c.args.view.now j)) c.loop-k.k c.args.spots.now.keys c.loop-k.spots.keys c.note_node.new.spots.keys c.loop-k.invariant c.in_ok-note_node.ensures

pub returns : goal.returns
returns c = nodes_all c.args.view.now c.loop-k.k c.args.spots.now.keys c.loop-k.spots.keys (omega arith) c.loop-k.invariant
