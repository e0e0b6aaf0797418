-- The run of the functions without a body.
use Rattle.std.proofs.Common.{true, false, [], ◌∷◌, refl}
use Rattle.argot_plain.specs.Leak.{labelled}
use Rattle.argot_plain.specs.Machine.{Labelling, Scalar, Found}
use Rattle.argot_plain.specs.Outside.{by_number, fresh_one, no_reference, one_more, no_more}
use Rattle.argot_plain.specs.Puts.{one_leaf, no_leaf}
use Rattle.argot_plain.specs.Step.{one_step, act_calls_outside, act_ends, act_keeps, act_runs_outside, act_starts_outside}
use Rattle.argot_plain.specs.declared.instructions.Callee.TheVariants.{Static}
use Rattle.argot_plain_worked_rules.specs.Worked.{asked, entry_function}
use Rattle.argot_plain_worked_rules.specs.Externals.{externals, ItLeaks, ItComesClean, ItEnds}
use Rattle.argot_plain_worked_rules.proofs.Small.{own_site, no_site, leaks, cleanly, carries_one}
use Rattle.argot_plain_worked_rules.proofs.Ahead.{opened, gone_ahead, stepped_to}

abbrev l : Labelling
l = labelled asked

pub it_runs : ItLeaks × ItComesClean × ItEnds
it_runs =
    let a = gone_ahead externals l 0 11 _ (opened externals l entry_function refl) in
    let b = stepped_to externals l a (one_step 0 _ refl refl (act_starts_outside (Static 6) (0 ∷ []) 6 false _ false 17 refl refl by_number refl refl refl)) in
    let c = stepped_to externals l b (one_step 0 _ refl refl (act_keeps (Static 6) (0 ∷ []) (Found 6 false) 18 refl refl by_number refl)) in
    let d = stepped_to externals l c (one_step 0 _ refl refl (act_calls_outside (1 ∷ []) (Static 4) (0 ∷ []) 4 false _ true _ _ 19 refl refl by_number refl refl (carries_one _ _ tt refl) (one_more (one_leaf [] _ (Scalar, no_reference (λ n h. no_site externals 18 refl n h.site h.is), refl) no_leaf) no_more) refl)) in
    let e = gone_ahead externals l 0 4 _ d in
    let f = stepped_to externals l e (one_step 0 _ refl refl (act_calls_outside (2 ∷ []) (Static 5) (0 ∷ []) 5 false _ false [] _ 21 refl refl by_number refl refl refl (one_more (one_leaf [] _ (_, fresh_one 0 (record { site = _; is = own_site externals 20 0 _ refl refl refl; result = refl; leaf = refl }), refl) no_leaf) no_more) refl)) in
    let g = gone_ahead externals l 0 1 _ f in
    let h = gone_ahead externals l 0 4 _ g in
    let i = gone_ahead externals l 0 3 _ (stepped_to externals l h (one_step 0 _ refl refl (act_runs_outside _ _ 6 false _ false refl refl refl refl refl))) in
    let j = stepped_to externals l i (one_step 0 _ refl refl (act_ends [] refl refl)) in (
      (_, d, leaks externals asked _ 0 0 0 15 19 0 refl),
      (_, g, cleanly externals asked _ 0 22 0 refl),
      (_, j, refl),
    )
