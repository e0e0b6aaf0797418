-- The run of the deferred call.
use Rattle.std.proofs.Common.{false, [], ◌∷◌, refl}
use Rattle.argot_plain.specs.Leak.{labelled}
use Rattle.argot_plain.specs.Lists.{here}
use Rattle.argot_plain.specs.Machine.{Found}
use Rattle.argot_plain.specs.Outside.{by_reference, by_value, goes_by_value}
use Rattle.argot_plain.specs.Step.{one_step, act_ends, act_keeps, act_runs}
use Rattle.argot_plain.specs.declared.instructions.Callee.TheVariants.{Value}
use Rattle.argot_lower_worked.specs.DeferredCall.{code, function_0, function_2}
use Rattle.argot_plain_worked_rules.specs.Worked.{asked}
use Rattle.argot_plain_worked_rules.proofs.Ahead.{opened, gone_ahead, stepped_to}
use Rattle.argot_plain_worked_lowered.specs.DeferredCall.{ItGives, ItEnds}
use Rattle.argot_plain_worked_lowered.specs.Words.{at_place}

pub it_gives : ItGives
it_gives =
    let l = labelled (at_place 14) in
    let a = gone_ahead code l 0 9 _ (opened code l function_0 refl) in
    let b = stepped_to code l a (one_step 0 _ refl refl (act_keeps (Value 1) (2 ∷ []) (Found 2 false) 10 refl refl (by_reference 1 _ goes_by_value (here refl) (by_value _ function_2 refl refl refl refl)) refl)) in
    let c = gone_ahead code l 0 3 _ b in
    let d = stepped_to code l c (one_step 0 _ refl refl (act_runs _ _ 2 false function_2 refl refl refl refl refl)) in
    let e = gone_ahead code l 0 6 _ d in
    (_, e, _, _, refl, refl, _, here refl, refl, here refl)

pub it_ends : ItEnds
it_ends =
    let l = labelled asked in
    let a = gone_ahead code l 0 9 _ (opened code l function_0 refl) in
    let b = stepped_to code l a (one_step 0 _ refl refl (act_keeps (Value 1) (2 ∷ []) (Found 2 false) 10 refl refl (by_reference 1 _ goes_by_value (here refl) (by_value _ function_2 refl refl refl refl)) refl)) in
    let c = gone_ahead code l 0 3 _ b in
    let d = stepped_to code l c (one_step 0 _ refl refl (act_runs _ _ 2 false function_2 refl refl refl refl refl)) in
    let e = gone_ahead code l 0 9 _ d in
    (_, stepped_to code l e (one_step 0 _ refl refl (act_ends [] refl refl)), refl)
