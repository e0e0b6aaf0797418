-- The run with a package variable.
use Rattle.std.proofs.Common.{refl}
use Rattle.argot_plain.specs.Leak.{labelled}
use Rattle.argot_plain.specs.Machine.{Labelling}
use Rattle.argot_plain_worked_rules.specs.Worked.{asked, entry_function}
use Rattle.argot_plain_worked_rules.specs.Variables.{variables, ItComesClean, written_first, ItWouldLeak}
use Rattle.argot_plain_worked_rules.proofs.Small.{cleanly, leaks}
use Rattle.argot_plain_worked_rules.proofs.Ahead.{opened, gone_ahead}

abbrev l : Labelling
l = labelled asked

pub it_comes_clean : ItComesClean
it_comes_clean =
    let a = gone_ahead variables l 0 6 _ (opened variables l entry_function refl) in
    (_, a, cleanly variables asked _ 0 17 0 refl)

pub it_would : ItWouldLeak
it_would =
    let a = gone_ahead written_first l 0 15 _ (opened written_first l entry_function refl) in
    (_, a, leaks written_first asked _ 0 0 0 16 20 0 refl)
