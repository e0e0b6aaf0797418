-- The run of the called method: it is found by the type in the box.
use Rattle.std.proofs.Common.{false, [], ◌∷◌, refl}
use Rattle.std.specs.Prelude.{codes}
use Rattle.argot_plain.specs.Leak.{labelled}
use Rattle.argot_plain.specs.Nodes.{mark}
use Rattle.argot_plain.specs.Lists.{here}
use Rattle.argot_plain.specs.Outside.{by_reference, by_method, goes_by_method}
use Rattle.argot_plain.specs.Step.{one_step, act_enters}
use Rattle.argot_plain.specs.declared.instructions.Callee.TheVariants.{Method}
use Rattle.argot_lower_worked.specs.CalledMethod.{code, function_0, function_3}
use Rattle.argot_plain_worked_rules.specs.Worked.{asked}
use Rattle.argot_plain_worked_rules.proofs.Ahead.{opened, gone_ahead, stepped_to}
use Rattle.argot_plain_worked_lowered.specs.CalledMethod.{ItGives, ItEnds}
use Rattle.argot_plain_worked_lowered.specs.Words.{at_place}
use Rattle.argot_plain_worked_lowered.proofs.Reading.{bears, ends}

pub it_gives : ItGives
it_gives =
    let l = labelled (at_place 7) in
    let a = gone_ahead code l 0 11 _ (opened code l function_0 refl) in
    let b = stepped_to code l a (one_step 0 _ refl refl (act_enters (5 ∷ []) (Method 0 (codes "main.get")) [] 3 false function_3 refl refl (by_reference 0 _ goes_by_method (here refl) (by_method _ refl (here refl))) refl refl)) in
    bears code (at_place 7) _ (gone_ahead code l 0 12 _ b) 21 5 (mark 7 0 []) 0 0 refl

pub it_ends : ItEnds
it_ends =
    let l = labelled asked in
    let a = gone_ahead code l 0 11 _ (opened code l function_0 refl) in
    let b = stepped_to code l a (one_step 0 _ refl refl (act_enters (5 ∷ []) (Method 0 (codes "main.get")) [] 3 false function_3 refl refl (by_reference 0 _ goes_by_method (here refl) (by_method _ refl (here refl))) refl refl)) in
    ends code asked _ (gone_ahead code l 0 15 _ b) refl
