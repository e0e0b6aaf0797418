-- The run with a field that is a source.
use Rattle.std.proofs.Common.{refl}
use Rattle.argot_plain.specs.Leak.{labelled}
use Rattle.argot_plain.specs.Machine.{Labelling}
use Rattle.argot_plain_worked_rules.specs.Worked.{entry_function}
use Rattle.argot_plain_worked_rules.specs.SourcePlace.{source_place, body_read, ItLeaks, ItComesClean, ItLeaksAgain, path_read, ItWouldLeak}
use Rattle.argot_plain_worked_rules.proofs.Small.{leaks, cleanly}
use Rattle.argot_plain_worked_rules.proofs.Ahead.{opened, gone_ahead}

abbrev l : Labelling
l = labelled body_read

pub it_runs : ItLeaks × ItComesClean × ItLeaksAgain
it_runs =
    let a = gone_ahead source_place l 0 7 _ (opened source_place l entry_function refl) in
    let b = gone_ahead source_place l 0 6 _ a in
    let c = gone_ahead source_place l 0 6 _ b in (
      (_, a, leaks source_place body_read _ 0 0 0 17 18 0 refl),
      (_, b, cleanly source_place body_read _ 0 21 0 refl),
      (_, c, leaks source_place body_read _ 0 0 0 23 24 0 refl),
    )

pub it_would : ItWouldLeak
it_would =
    let a = gone_ahead source_place (labelled path_read) 0 13 _ (opened source_place (labelled path_read) entry_function refl) in
    (_, a, leaks source_place path_read _ 0 0 0 20 21 0 refl)
