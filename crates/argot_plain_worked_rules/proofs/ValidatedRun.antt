-- The runs with a validator, and the one without.
use Rattle.std.proofs.Common.{[], ◌∷◌, refl}
use Rattle.argot_plain.specs.Leak.{labelled}
use Rattle.argot_plain.specs.Machine.{Labelling}
use Rattle.argot_plain.specs.Step.{one_step, act_puts}
use Rattle.argot_plain.specs.declared.instructions.Kind.TheVariants.{Branch}
use Rattle.argot_plain_worked_rules.specs.Worked.{asked, entry_function}
use Rattle.argot_plain_worked_rules.specs.Validated.{validated, tested, ItComesClean, ItWouldLeak, ItLeaks}
use Rattle.argot_plain_worked_rules.proofs.Small.{leaks, cleanly}
use Rattle.argot_plain_worked_rules.proofs.Ahead.{opened, gone_ahead, stepped_to}

abbrev l : Labelling
l = labelled tested

pub it_clean : ItComesClean
it_clean =
    let a = gone_ahead validated l 0 19 _ (opened validated l entry_function refl) in
    (_, a, cleanly validated tested _ 0 19 0 refl)

pub it_leaks : ItLeaks
it_leaks =
    let a = gone_ahead validated l 0 17 _ (opened validated l entry_function refl) in
    let d = stepped_to validated l a (one_step 0 _ refl refl (act_puts (Branch (18 ∷ 21 ∷ [])) [] 21 refl refl refl (1, refl))) in
    (_, d, leaks validated tested _ 0 0 0 15 21 0 refl)

pub it_would : ItWouldLeak
it_would =
    let a = gone_ahead validated (labelled asked) 0 19 _ (opened validated (labelled asked) entry_function refl) in
    (_, a, leaks validated asked _ 0 0 0 15 19 0 refl)
