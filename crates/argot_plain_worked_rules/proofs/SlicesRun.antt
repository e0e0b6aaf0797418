-- The run of the slices that grow.
use Rattle.std.proofs.Common.{[], ◌∷◌, refl}
use Rattle.argot_plain.specs.Lists.{here, there}
use Rattle.argot_plain.specs.Leak.{labelled}
use Rattle.argot_plain.specs.Machine.{Labelling}
use Rattle.argot_plain.specs.Puts.{one_leaf, no_leaf, pick_one}
use Rattle.argot_plain.specs.Step.{one_step, act_grows, act_grows_anew, act_grows_nothing, act_puts}
use Rattle.argot_plain.specs.declared.instructions.Kind.TheVariants.{Read}
use Rattle.argot_plain_worked_rules.specs.Worked.{asked, entry_function}
use Rattle.argot_plain_worked_rules.specs.Slices.{slices, ItLeaks}
use Rattle.argot_plain_worked_rules.proofs.Small.{own_site, leaks}
use Rattle.argot_plain_worked_rules.proofs.Ahead.{opened, gone_ahead, stepped_to}

abbrev l : Labelling
l = labelled asked

pub it_leaks : ItLeaks
it_leaks =
    let a = gone_ahead slices l 0 5 _ (opened slices l entry_function refl) in
    let b = gone_ahead slices l 0 7 _ (stepped_to slices l a (one_step 0 _ refl refl (act_grows_nothing 1 0 _ 17 refl refl (here refl) (λ o base e. absurd cc) refl))) in
    let c = gone_ahead slices l 0 1 _ (stepped_to slices l b (one_step 0 _ refl refl (act_grows_anew 3 1 (2 ∷ []) 1 _ _ 19 refl refl (own_site slices 18 1 _ refl refl refl) (here refl) refl))) in
    let d = stepped_to slices l c (one_step 0 _ refl refl (act_grows 5 3 (4 ∷ []) 2 _ _ _ _ 21 refl refl (own_site slices 20 2 _ refl refl refl) (here refl) refl refl)) in
    let e = stepped_to slices l d (one_step 0 _ refl refl (act_grows_anew 6 5 (4 ∷ []) 3 _ _ 22 refl refl (own_site slices 21 3 _ refl refl refl) (here refl) refl)) in
    let f = gone_ahead slices l 0 1 _ e in
    let g = stepped_to slices l f (one_step 0 _ refl refl (act_puts (Read 8 7 ([] ∷ [])) _ 24 refl refl (_, here refl, one_leaf [] _ (pick_one refl (there (there (there (here refl))))) no_leaf) refl)) in
    (_, g, leaks slices asked _ 0 0 0 17 24 0 refl)
