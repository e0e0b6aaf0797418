-- The run of the panic.
use Rattle.std.proofs.Common.{false, [], ◌∷◌, refl}
use Rattle.argot_plain.specs.Leak.{labelled}
use Rattle.argot_plain.specs.Machine.{Labelling, Found}
use Rattle.argot_plain.specs.Outside.{by_number}
use Rattle.argot_plain.specs.Step.{one_step, act_drops, act_drops_last, act_keeps, act_panics, act_runs}
use Rattle.argot_plain.specs.declared.instructions.Callee.TheVariants.{Static}
use Rattle.argot_plain_worked_rules.specs.Worked.{asked, entry_function}
use Rattle.argot_plain_worked_rules.specs.Unwinding.{unwinding, ItLeaks, ItEnds, ItMayEndEarly}
use Rattle.argot_plain_worked_rules.proofs.Small.{leaks_by_record}
use Rattle.argot_plain_worked_rules.proofs.Ahead.{opened, gone_ahead, stepped_to}

abbrev l : Labelling
l = labelled asked

pub it_may_end_early : ItMayEndEarly
it_may_end_early =
    let a = gone_ahead unwinding l 0 11 _ (opened unwinding l entry_function refl) in
    let b = stepped_to unwinding l a (one_step 0 _ refl refl (act_panics _ refl refl)) in
    let c = stepped_to unwinding l b (one_step 0 _ refl refl (act_drops _ refl refl refl refl)) in
    let d = stepped_to unwinding l c (one_step 0 _ refl refl (act_drops_last refl refl refl)) in
    (_, d, refl)

pub it_runs : ItLeaks × ItEnds
it_runs =
    let a = gone_ahead unwinding l 0 13 _ (opened unwinding l entry_function refl) in
    let b = gone_ahead unwinding l 0 9 _ (stepped_to unwinding l a (one_step 0 _ refl refl (act_keeps (Static 2) (0 ∷ []) (Found 2 false) 21 refl refl by_number refl))) in
    let c = stepped_to unwinding l b (one_step 0 _ refl refl (act_panics _ refl refl)) in
    let d = stepped_to unwinding l c (one_step 0 _ refl refl (act_drops _ refl refl refl refl)) in
    let e = gone_ahead unwinding l 0 3 _ (stepped_to unwinding l d (one_step 0 _ refl refl (act_runs _ _ 2 false _ refl refl refl refl refl))) in
    let f = stepped_to unwinding l e (one_step 0 _ refl refl (act_drops _ refl refl refl refl)) in
    let g = stepped_to unwinding l f (one_step 0 _ refl refl (act_drops _ refl refl refl refl)) in
    let h = stepped_to unwinding l g (one_step 0 _ refl refl (act_drops_last refl refl refl)) in (
      (_, d, leaks_by_record unwinding asked _ 0 _ _ _ _ 2 refl refl refl refl refl 0 0 15 0 refl),
      (_, h, refl),
    )
