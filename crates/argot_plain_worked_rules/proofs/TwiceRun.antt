-- The run of a function that is called twice.
use Rattle.std.proofs.Common.{refl}
use Rattle.argot_plain.specs.Leak.{labelled}
use Rattle.argot_plain.specs.Machine.{Labelling}
use Rattle.argot_plain_worked_rules.specs.Worked.{asked, entry_function}
use Rattle.argot_plain_worked_rules.specs.Twice.{twice, ItLeaks, ItComesClean}
use Rattle.argot_plain_worked_rules.proofs.Small.{leaks, cleanly}
use Rattle.argot_plain_worked_rules.proofs.Ahead.{opened, gone_ahead}

abbrev l : Labelling
l = labelled asked

pub it_runs : ItLeaks × ItComesClean
it_runs =
    let a = gone_ahead twice l 0 22 _ (opened twice l entry_function refl) in
    let b = gone_ahead twice l 0 4 _ a in (
      (_, a, leaks twice asked _ 0 0 0 15 19 0 refl),
      (_, b, cleanly twice asked _ 0 20 0 refl),
    )
