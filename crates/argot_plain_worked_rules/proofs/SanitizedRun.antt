-- The runs with a sanitizer, and the one without.
use Rattle.std.proofs.Common.{refl}
use Rattle.argot_plain.specs.Leak.{labelled}
use Rattle.argot_plain.specs.Machine.{Labelling}
use Rattle.argot_plain_worked_rules.specs.Worked.{asked, entry_function}
use Rattle.argot_plain_worked_rules.specs.Sanitized.{sanitized, cleaned, ItComesClean, ItWouldLeak, ItLeaks}
use Rattle.argot_plain_worked_rules.proofs.Small.{leaks, cleanly}
use Rattle.argot_plain_worked_rules.proofs.Ahead.{opened, gone_ahead}

abbrev l : Labelling
l = labelled cleaned

pub it_runs : ItComesClean × ItLeaks
it_runs =
    let a = gone_ahead sanitized l 0 16 _ (opened sanitized l entry_function refl) in
    let b = gone_ahead sanitized l 0 4 _ a in (
      (_, a, cleanly sanitized cleaned _ 0 17 0 refl),
      (_, b, leaks sanitized cleaned _ 0 0 0 15 18 0 refl),
    )

pub it_would : ItWouldLeak
it_would =
    let a = gone_ahead sanitized (labelled asked) 0 16 _ (opened sanitized (labelled asked) entry_function refl) in
    (_, a, leaks sanitized asked _ 0 0 0 15 17 0 refl)
