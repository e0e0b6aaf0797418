-- The run in which secrets are overwritten.
use Rattle.std.proofs.Common.{refl}
use Rattle.argot_plain.specs.Leak.{labelled}
use Rattle.argot_plain.specs.Machine.{Labelling}
use Rattle.argot_plain_worked_rules.specs.Worked.{asked, entry_function}
use Rattle.argot_plain_worked_rules.specs.Overwritten.{overwritten, ItComesClean, ItComesCleanAgain, kept_program, ItWouldLeak, ItWouldLeakAgain}
use Rattle.argot_plain_worked_rules.proofs.Small.{cleanly, leaks}
use Rattle.argot_plain_worked_rules.proofs.Ahead.{opened, gone_ahead}

abbrev l : Labelling
l = labelled asked

pub it_runs : ItComesClean × ItComesCleanAgain
it_runs =
    let a = gone_ahead overwritten l 0 13 _ (opened overwritten l entry_function refl) in
    let b = gone_ahead overwritten l 0 16 _ a in (
      (_, a, cleanly overwritten asked _ 0 18 0 refl),
      (_, b, cleanly overwritten asked _ 0 25 0 refl),
    )

pub it_would : ItWouldLeak × ItWouldLeakAgain
it_would =
    let a = gone_ahead kept_program l 0 11 _ (opened kept_program l entry_function refl) in
    let b = gone_ahead kept_program l 0 14 _ a in (
      (_, a, leaks kept_program asked _ 0 0 0 15 16 0 refl),
      (_, b, leaks kept_program asked _ 0 0 0 18 21 0 refl),
    )
