-- The run of the closure: it is called by its value.
use Rattle.std.proofs.Common.{true, [], ◌∷◌, refl}
use Rattle.argot_plain.specs.Leak.{labelled}
use Rattle.argot_plain.specs.Lists.{here, there}
use Rattle.argot_plain.specs.Outside.{by_reference, by_value, goes_by_value}
use Rattle.argot_plain.specs.Step.{one_step, act_enters}
use Rattle.argot_plain.specs.declared.instructions.Callee.TheVariants.{Value}
use Rattle.argot_lower_worked.specs.Closure.{code, function_0, function_2}
use Rattle.argot_plain_worked_rules.specs.Worked.{asked}
use Rattle.argot_plain_worked_rules.proofs.Ahead.{opened, gone_ahead, stepped_to}
use Rattle.argot_plain_worked_lowered.specs.Closure.{ItAssigns, ItEnds}
use Rattle.argot_plain_worked_lowered.specs.Words.{at_place}
use Rattle.argot_plain_worked_lowered.proofs.Reading.{ends}

pub it_assigns : ItAssigns
it_assigns =
    let l = labelled (at_place 18) in
    let a = gone_ahead code l 0 11 _ (opened code l function_0 refl) in
    let b = stepped_to code l a (one_step 0 _ refl refl (act_enters [] (Value 2) [] 2 true function_2 refl refl (by_reference 2 _ goes_by_value (here refl) (by_value _ function_2 refl refl refl refl)) refl refl)) in
    let c = gone_ahead code l 0 4 _ b in
    (_, c, _, _, refl, refl, _, there (here refl), refl, here refl)

pub it_ends : ItEnds
it_ends =
    let l = labelled asked in
    let a = gone_ahead code l 0 11 _ (opened code l function_0 refl) in
    let b = stepped_to code l a (one_step 0 _ refl refl (act_enters [] (Value 2) [] 2 true function_2 refl refl (by_reference 2 _ goes_by_value (here refl) (by_value _ function_2 refl refl refl refl)) refl refl)) in
    ends code asked _ (gone_ahead code l 0 10 _ b) refl
