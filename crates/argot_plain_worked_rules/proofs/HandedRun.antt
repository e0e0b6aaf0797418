-- The run of a sink that is handed a box.
use Rattle.std.proofs.Common.{[], ◌∷◌, refl}
use Rattle.argot_plain.specs.Lists.{here}
use Rattle.argot_plain.specs.Leak.{labelled}
use Rattle.argot_plain.specs.Machine.{Labelling}
use Rattle.argot_plain.specs.Nodes.{mark}
use Rattle.argot_plain.specs.Outside.{inside, direct}
use Rattle.argot_plain_worked_rules.specs.Worked.{asked, entry_function}
use Rattle.argot_plain_worked_rules.specs.Handed.{handed, ItLeaks}
use Rattle.argot_plain_worked_rules.proofs.Small.{leaks_by_call}
use Rattle.argot_plain_worked_rules.proofs.Ahead.{opened, gone_ahead}

abbrev l : Labelling
l = labelled asked

pub it_leaks : ItLeaks
it_leaks =
    let a = gone_ahead handed l 0 13 _ (opened handed l entry_function refl) in
    (_, a, leaks_by_call handed asked _ 0 _ _ [] 2 (0 ∷ []) refl refl refl refl 0 refl _ (here refl) refl (mark 16 0 []) (inside _ _ (direct [] refl) (here refl) refl (here refl)))
