-- The run of the boxes.
use Rattle.std.proofs.Common.{refl}
use Rattle.argot_plain.specs.Leak.{labelled}
use Rattle.argot_plain.specs.Machine.{Labelling}
use Rattle.argot_plain.specs.Step.{one_step, act_stores_nothing}
use Rattle.argot_plain_worked_rules.specs.Worked.{asked, entry_function}
use Rattle.argot_plain_worked_rules.specs.Boxes.{boxes, ItLeaks}
use Rattle.argot_plain_worked_rules.proofs.Small.{leaks}
use Rattle.argot_plain_worked_rules.proofs.Ahead.{opened, gone_ahead, stepped_to}

abbrev l : Labelling
l = labelled asked

pub it_leaks : ItLeaks
it_leaks =
    let a = gone_ahead boxes l 0 6 _ (opened boxes l entry_function refl) in
    let b = gone_ahead boxes l 0 10 _ (stepped_to boxes l a (one_step 0 _ refl refl (act_stores_nothing 0 1 18 refl refl refl refl))) in
    let d = gone_ahead boxes l 0 3 _ b in
    (_, d, leaks boxes asked _ 0 0 0 18 25 0 refl)
