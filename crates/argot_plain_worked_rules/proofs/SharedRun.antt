-- The run in which a goroutine is handed a box: both goroutines touch it, and what the new one writes is read by main.
use Rattle.std.proofs.Common.{◌≡◌, ℕ, false, [], ◌∷◌, refl}
use Rattle.argot_plain.specs.Leak.{labelled}
use Rattle.argot_plain.specs.Machine.{Labelling, Object}
use Rattle.argot_plain.specs.Outside.{by_number}
use Rattle.argot_plain.specs.Step.{one_step, act_starts}
use Rattle.argot_plain.specs.declared.instructions.Callee.TheVariants.{Static}
use Rattle.argot_sound.proofs.Shared.{shared as shared_escapes}
use Rattle.argot_plain_worked_rules.specs.Worked.{asked, entry_function}
use Rattle.argot_plain_worked_rules.specs.Shared.{shared, fill_function, ItIsTouched, ItEscapes, ItLeaks}
use Rattle.argot_plain_worked_rules.proofs.Small.{leaks}
use Rattle.argot_plain_worked_rules.proofs.Touching.{touches, escapes_with}
use Rattle.argot_plain_worked_rules.proofs.Ahead.{opened, gone_ahead, stepped_to}
use Rattle.argot_plain_worked_rules.proofs.Well.{shared_is_well}

abbrev l : Labelling
l = labelled asked

-- the first box
abbrev box : Object
box = record { site = 0; maker = 0; serial = 4 }

apart : ◌≡◌ {A = ℕ} 1 0 → ⊥
apart e = absurd cc

pub it_runs : ItIsTouched × ItLeaks × ItEscapes
it_runs =
    let a = gone_ahead shared l 0 6 _ (opened shared l entry_function refl) in
    let b = stepped_to shared l a (one_step 0 _ refl refl (act_starts (Static 4) (0 ∷ []) 4 false fill_function 18 refl refl by_number refl refl refl)) in
    let c = gone_ahead shared l 1 8 _ b in
    let d = gone_ahead shared l 1 1 _ c in
    let e = gone_ahead shared l 0 8 _ d in
    let f = gone_ahead shared l 0 1 _ e in
    let w = touches shared l _ 1 box refl in
    let r = touches shared l _ 0 box refl in (
      (_, _, box, c, e, refl, w, r),
      (_, f, leaks shared asked _ 0 0 0 25 21 0 refl),
      escapes_with shared asked shared_is_well _ d 0 25 (shared_escapes shared shared_is_well l c.run e.run 1 0 box apart w r) 0 0 refl,
    )
