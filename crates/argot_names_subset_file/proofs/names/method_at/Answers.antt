use Rattle.std.proofs.Common.{sym}
use Rattle.argot_names_subset_file.proofs.NameLemmas.{method_some}
use Rattle.argot_names_subset_file.proofs.names.method_at.Goals as goal

pub returns : goal.returns
returns c =
    method_some c.args.view.now.file.now.nodes c.args.view.now.typed.now c.args.k c.in_ok-atom.atom c.in_ok-selector.selector c.in_ok-node.node c.in_ok-atom.ensures c.in_ok-selector.ensures (sym c.in_ok-node.ensures)
