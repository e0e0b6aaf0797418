-- The run of the deferred call of nothing.
use Rattle.std.proofs.Common.{false, [], ◌∷◌, refl}
use Rattle.argot_plain.specs.Lists.{here}
use Rattle.argot_plain.specs.Leak.{labelled}
use Rattle.argot_plain.specs.Machine.{Labelling, Found, Missing}
use Rattle.argot_plain.specs.Outside.{by_number, by_nothing, goes_by_value}
use Rattle.argot_plain.specs.Step.{one_step, act_drops, act_drops_last, act_keeps, act_runs, act_runs_nothing}
use Rattle.argot_plain.specs.declared.instructions.Callee.TheVariants.{Static, Value}
use Rattle.argot_plain_worked_rules.specs.Worked.{asked, entry_function}
use Rattle.argot_plain_worked_rules.specs.NilFunction.{nil_function, ItLeaks, ItEnds}
use Rattle.argot_plain_worked_rules.proofs.Small.{leaks_by_record}
use Rattle.argot_plain_worked_rules.proofs.Ahead.{opened, gone_ahead, stepped_to}

abbrev l : Labelling
l = labelled asked

pub it_runs : ItLeaks × ItEnds
it_runs =
    let a = gone_ahead nil_function l 0 11 _ (opened nil_function l entry_function refl) in
    let b = gone_ahead nil_function l 0 1 _ (stepped_to nil_function l a (one_step 0 _ refl refl (act_keeps (Static 2) (0 ∷ []) (Found 2 false) 17 refl refl by_number refl))) in
    let c = stepped_to nil_function l b (one_step 0 _ refl refl (act_keeps (Value 1) [] Missing 19 refl refl (by_nothing 1 _ goes_by_value (here refl) (λ h takes n. elim n [ ])) refl)) in
    let d = stepped_to nil_function l c (one_step 0 _ refl refl (act_runs_nothing _ _ _ refl refl refl refl)) in
    let e = gone_ahead nil_function l 0 3 _ (stepped_to nil_function l d (one_step 0 _ refl refl (act_runs _ _ 2 false _ refl refl refl refl refl))) in
    let f = stepped_to nil_function l e (one_step 0 _ refl refl (act_drops _ refl refl refl refl)) in
    let g = stepped_to nil_function l f (one_step 0 _ refl refl (act_drops_last refl refl refl)) in (
      (_, d, leaks_by_record nil_function asked _ 0 _ _ _ _ 2 refl refl refl refl refl 0 0 15 0 refl),
      (_, g, refl),
    )
