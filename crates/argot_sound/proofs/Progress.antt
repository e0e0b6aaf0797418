-- Each live goroutine has a step.
use Rattle.std.proofs.Common.{◌≡◌, ℕ, zero, suc, ◌<◌, Bool, true, false, List, [], ◌∷◌, length, Option, Some, None, refl, sym, ◌∙◌, subst, inl, inr, arith}
use Rattle.std.specs.Prelude.{slice_get}
use Rattle.argot_plain.specs.Lists.{In, here, there}
use Rattle.argot_plain.specs.Code.{Code, IsAt, IsFunction}
use Rattle.argot_plain.specs.WellFormed.{WellFormed}
use Rattle.argot_plain.specs.Machine.{Labelling, Target, Missing, Found, Deferred, Frame, View, State}
use Rattle.argot_plain.specs.Step.{act_panics, act_runs, act_runs_outside, act_runs_nothing, act_drops, act_drops_last, OneStep, one_step, Run, no_step, then_step, first_frame}
use Rattle.argot_plain.specs.declared.functions.Function.{Function}
use Rattle.argot_plain.specs.declared.instructions.Kind.TheVariants.{RunDefers}
use Rattle.argot_facts.specs.Refers.{Holds, Targets}
use Rattle.argot_facts.specs.Refers as Rules
use Rattle.argot_sound.specs.Effects.{Effect, put, store, enter, enter_record, start, keep, leave, leave_record, leave_last, move, unwind, unwind_drop, IsPanicking}
use Rattle.argot_sound.specs.Laws.{Laws, EachFrame, FrameCovered}
use Rattle.argot_sound.specs.Sound.{HasStep}
use Rattle.argot_sound.proofs.Defined.{both_ways}
use Rattle.argot_sound.proofs.Effects.{effect}
use Rattle.argot_sound.proofs.Lists.{replaced_cases}
use Rattle.argot_sound.proofs.Runs.{runs, stand_inside}

-- a frame that panics stands at its exit
abbrev pub StandsAtExit : Code → Frame → List Frame → Type 0
StandsAtExit p f rest = f.panics ≡ true → IsAt p f.place RunDefers

module _ (p : Code) (wf : WellFormed p) (l : Labelling) where
  module _ (g : ℕ) where
    calm_on : (f h : Frame) → f.panics ≡ false → h.panics ≡ f.panics → h.panics ≡ true → IsAt p h.place RunDefers
    calm_on f h calm same panics = both_ways h.panics panics (same ∙ calm)

    panic_on : (f h : Frame) (rest : List Frame) → IsPanicking p f h → FrameCovered p f rest → IsAt p h.place RunDefers
    panic_on f h rest b v = subst (λ i. IsAt p i RunDefers) (sym b.place) (wf.runs_at_exit.stands f.function b.fn b.is (v.body b.fn b.is))

    keeps_exits : {old new : View} {started : List (List Frame)} → Effect p l g old new started → EachFrame (FrameCovered p) old.frames → EachFrame (StandsAtExit p) old.frames → EachFrame (StandsAtExit p) new.frames
    keeps_exits (put {f = f} {h = h} kind at calm onward same cells) v x = (calm_on f h calm same.same.panics, x.1)
    keeps_exits (store {f = f} {h = h} kind at calm onward same cells slots) v x = (calm_on f h calm same.same.panics, x.1)
    keeps_exits (enter {f = f} {h = h} to args callee takes fn at calm is b hands cells) v x = (λ e. both_ways h.panics e b.calm, x)
    keeps_exits (enter_record {f = f} {f' = f'} {h = h} y takes fn at same place cells records target b again) v x = (λ e. both_ways h.panics e b.calm, (λ e. subst (λ i. IsAt p i RunDefers) (sym place) at, x.1))
    keeps_exits (start {f = f} {f' = f'} args callee takes fn at calm is onward same cells b hands again) v x = (calm_on f f' calm same.same.panics, x.1)
    keeps_exits (keep {f = f} {h = h} args callee y at calm is onward same cells records place count all hands) v x = (calm_on f h calm same.panics, x.1)
    keeps_exits (leave {f = f} {e = e} {h = h} from to args callee at calm site below onward same hands cells) v x =
        (λ panics. (let k = sym below ∙ x.1.0 (sym same.same.panics ∙ panics) in absurd cc), x.1.1)
    keeps_exits (leave_record from at below) v x = x.1
    keeps_exits leave_last v x = tt
    keeps_exits (move {f = f} {h = h} at same place cells records) v x = (λ e. subst (λ i. IsAt p i RunDefers) (sym place) at, x.1)
    keeps_exits (unwind {f = f} {h = h} {rest = rest} b) v x = (λ e. panic_on f h rest b v.0, x.1)
    keeps_exits (unwind_drop {f = f} {e = e} {h = h} {rest = rest} at b) v x = (λ _. panic_on e h rest b v.1.0, x.1.1)

    starts_exits : {old new : View} {started : List (List Frame)} → Effect p l g old new started → (frames : List Frame) → In frames started → EachFrame (StandsAtExit p) frames
    starts_exits (start {h = h} args callee takes fn at calm is onward same cells b hands again) frames (here e) = subst (EachFrame (StandsAtExit p)) (sym e) (λ x. both_ways h.panics x b.calm, tt)
    starts_exits (start args callee takes fn at calm is onward same cells b hands again) frames (there m) = elim m [ ]
    starts_exits _ frames m = elim m [ ]

  AtExits : State → Type 0
  AtExits s = (g : ℕ) (frames : List Frame) → slice_get s.goroutines g ≡ Some frames → EachFrame (StandsAtExit p) frames

  steps_exits : {old new : State} → OneStep p l old new → Laws p l old → AtExits old → AtExits new
  unfolding AtExits
  steps_exits (one_step {s} {v} {started} {ended} g frames going get a) laws x = λ m fs h.
      let vs = (laws.goroutine g frames get).covered in
      let e = effect p wf l g (stand_inside p frames vs) a in
      elim (replaced_cases s.goroutines g v.frames started m fs h) [
        | inl b ↦ subst (EachFrame (StandsAtExit p)) (sym b.1) (keeps_exits g e vs (x g frames get))
        | inr b ↦ elim b [ inl c ↦ x m fs c | inr c ↦ starts_exits g e fs c ]
      ]

  opens_exits : (fn : Function) → (g : ℕ) (frames : List Frame) → slice_get ((first_frame 0 fn [] 0 ∷ []) ∷ []) g ≡ Some frames → EachFrame (StandsAtExit p) frames
  opens_exits fn zero frames h = let e : first_frame 0 fn [] 0 ∷ [] ≡ frames = cc in subst (EachFrame (StandsAtExit p)) e (λ x. absurd cc, tt)
  opens_exits fn (suc g) frames h = absurd cc

  run_exits : {n : ℕ} {x : State} → Run p l n x → AtExits x
  unfolding AtExits
  run_exits (no_step fn is) = opens_exits fn
  run_exits (then_step r s) = steps_exits s (runs p wf l r) (run_exits r)

  -- a number in range has its item
  get_within : {X : Type 0} (xs : List X) (k : ℕ) → k < length xs → (x : X) × (slice_get xs k ≡ Some x)
  get_within [] k h = absurd (omega arith)
  get_within (y ∷ ys) zero h = (y, refl)
  get_within (y ∷ ys) (suc k) h = get_within ys k (omega arith)

  -- a target is a function
  target_function : {i h : ℕ} {takes : Bool} → Holds p (Targets i h takes) → (fn : Function) × IsFunction p h fn
  target_function {i} {h} (Rules.target_static g n kind args inside live at hands) = get_within p.functions h (wf.numbers.callee i h n kind args at hands)
  target_function (Rules.target_value g n d j r s path kind args site fn inside live at hands def refers is function isf env) = (fn, isf)
  target_function (Rules.target_method {target = h} g n d j r s name path kind args site inside live at hands def refers is wrapper) = let a = wf.one_wrapper.is site.dynamic h name wrapper in (a.0, a.1)

  pub has_step : {n : ℕ} {x : State} → Run p l n x → (g : ℕ) (f : Frame) (rest : List Frame) → slice_get x.goroutines g ≡ Some (f ∷ rest) → HasStep p l x g (f ∷ rest)
  unfolding AtExits
  has_step {x = x} r g f rest get = panics_case f.panics refl
    where
      laws : Laws p l x
      laws = runs p wf l r

      covered : EachFrame (FrameCovered p) (f ∷ rest)
      covered = (laws.goroutine g (f ∷ rest) get).covered

      outside_case : (d : Deferred) (ds : List Deferred) (h : ℕ) (takes : Bool) (fn : Function) → IsAt p f.place RunDefers → f.records ≡ d ∷ ds → d.target ≡ Found h takes → IsFunction p h fn → (o : Option Bool) → fn.external ≡ o → HasStep p l x g (f ∷ rest)
      outside_case d ds h takes fn at records target is None e = (_, _, _, act_runs d ds h takes fn at records target is e)
      outside_case d ds h takes fn at records target is (Some flows) e = (_, _, _, act_runs_outside d ds h takes fn flows at records target is e)

      target_case : (d : Deferred) (ds : List Deferred) → IsAt p f.place RunDefers → f.records ≡ d ∷ ds → (t : Target) → d.target ≡ t → HasStep p l x g (f ∷ rest)
      target_case d ds at records Missing e = (_, _, _, act_runs_nothing d ds covered.0.place.fn at records e covered.0.place.is)
      target_case d ds at records (Found h takes) e =
          let a = target_function ((covered.0.records d (subst (In d) (sym records) (here refl))).targets h takes e) in
          outside_case d ds h takes a.0 at records e a.1 (a.0).external refl

      below_case : f.panics ≡ true → f.records ≡ [] → (below : List Frame) → rest ≡ below → EachFrame (FrameCovered p) below → HasStep p l x g (f ∷ below)
      below_case e none [] same v = (_, _, _, act_drops_last ((run_exits r g (f ∷ rest) get).0 e) e none)
      below_case e none (b ∷ bs) same v = (_, _, _, act_drops v.0.place.fn ((run_exits r g (f ∷ rest) get).0 e) e none v.0.place.is)

      records_case : f.panics ≡ true → (ds : List Deferred) → f.records ≡ ds → HasStep p l x g (f ∷ rest)
      records_case e [] none = below_case e none rest refl covered.1
      records_case e (d ∷ ds) records = target_case d ds ((run_exits r g (f ∷ rest) get).0 e) records d.target refl

      panics_case : (b : Bool) → f.panics ≡ b → HasStep p l x g (f ∷ rest)
      panics_case false e = (_, _, _, act_panics covered.0.place.fn covered.0.place.is e)
      panics_case true e = records_case e f.records refl
