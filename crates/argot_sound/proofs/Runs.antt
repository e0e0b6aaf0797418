-- The laws hold in each state of a run.
use Rattle.std.proofs.Common.{◌≡◌, ℕ, zero, suc, ◌≤◌, Bool, List, [], ◌∷◌, ◌++◌, Some, None, sym, ◌∙◌, subst, inl, inr, arith}
use Rattle.std.specs.Prelude.{◌⊎◌, slice_get, slice_set}
use Rattle.argot_plain.specs.Lists.{In, here, there}
use Rattle.argot_plain.specs.Code.{Code, IsFunction}
use Rattle.argot_plain.specs.WellFormed.{WellFormed}
use Rattle.argot_plain.specs.Machine.{Labelling, Cell, Slot, Frame, View, State}
use Rattle.argot_plain.specs.Nodes.{Mark}
use Rattle.argot_plain.specs.Step.{OneStep, one_step, Run, no_step, then_step, opening, view, first_frame}
use Rattle.argot_plain.specs.declared.functions.Function.{Function}
use Rattle.argot_facts.specs.Escapes.{Escapes}
use Rattle.argot_facts.specs.Refers.{entry_is_live}
use Rattle.argot_sound.specs.Effects.{Effect}
use Rattle.argot_sound.specs.Laws.{Laws, GoroutineLaws, EachFrame, IsSingle, FrameSingle, FrameCovered, SlotOwned, TopFollows, IsOrdered, IsJoined, in_register, in_record, InFrame}
use Rattle.argot_sound.proofs.Lists.{replaced_cases}
use Rattle.argot_sound.proofs.Effects.{effect, StandsInside}
use Rattle.argot_sound.proofs.Covered.{keeps_covered, starts_covered}
use Rattle.argot_sound.proofs.Defined.{keeps_defined, starts_defined}
use Rattle.argot_sound.proofs.Owned.{keeps_owned, starts_owned, keeps_slots_owned}
use Rattle.argot_sound.proofs.Ordered.{keeps_ordered}
use Rattle.argot_sound.proofs.Single.{keeps_single, starts_single}
use Rattle.argot_sound.proofs.Joined.{keeps_joined, starts_joined, keeps_slots_joined}

-- what an object of this goroutine holds, where its law says of which frames
pub meets : (p : Code) (g : ℕ) (gs : List (List Frame)) (frames : List Frame) (x : Slot) → slice_get gs g ≡ Some frames → IsOrdered p gs x → x.object.maker ≡ g → Escapes p x.object.site ⊎ TopFollows p x.atom.put.place frames
meets p g gs frames x get (inl e) m = inl e
meets p g gs frames x get (inr b) m =
    let at = subst (λ n. slice_get gs n ≡ Some b.0) m b.1 in
    let both = sym at ∙ get in
    let same : b.0 ≡ frames = cc in
    inr (subst (TopFollows p x.atom.put.place) same b.2)

-- covered frames stand in their functions
pub stand_inside : (p : Code) (frames : List Frame) → EachFrame (FrameCovered p) frames → EachFrame (StandsInside p) frames
stand_inside p [] v = tt
stand_inside p (f ∷ rest) v = (v.0.place, stand_inside p rest v.1)

module _ (p : Code) (wf : WellFormed p) (l : Labelling) where
  acts : (g : ℕ) (s : State) (frames : List Frame) {v : View} {started : List (List Frame)} → slice_get s.goroutines g ≡ Some frames → Effect p l g (view s.slots s.fresh frames) v started → Laws p l s → EachFrame FrameSingle v.frames → ((fs : List Frame) → In fs started → EachFrame FrameSingle fs)
      → (ended : Bool) → Laws p l (record { slots = v.slots; fresh = v.fresh; goroutines = slice_set s.goroutines g v.frames ++ started; ended = ended })
  acts g s frames {v} {started} get e laws sv sf ended =
      let gl = laws.goroutine g frames get in
      let so : (x : Slot) → In x s.slots → SlotOwned p x = λ x m. (laws.slot x m).owned in
      let sm : (x : Slot) → In x s.slots → x.object.maker ≡ g → Escapes p x.object.site ⊎ TopFollows p x.atom.put.place frames = λ x m. meets p g s.goroutines frames x get (laws.slot x m).ordered in
      let sj : (x : Slot) → In x s.slots → (y : Mark) → In y x.atom.labels → (calls : List ℕ) × IsJoined p l y calls x.atom.put = λ x m. (laws.slot x m).joined in
      record {
        goroutine = λ m fs h. elim (replaced_cases s.goroutines g v.frames started m fs h) [
          | inl a ↦ subst (λ n. GoroutineLaws p l n fs) (sym a.0) (subst (GoroutineLaws p l g) (sym a.1) (record {
            are_defined = keeps_defined p wf l g e gl.are_defined;
            single = sv;
            covered = keeps_covered p wf l g e gl.single gl.are_defined gl.owned gl.covered;
            owned = keeps_owned p wf l g e gl.single gl.covered gl.are_defined so gl.owned;
            joined = keeps_joined p wf l g e gl.covered gl.are_defined gl.owned so sm sj gl.joined;
          }))
          | inr b ↦ elim b [
            | inl c ↦ laws.goroutine m fs c
            | inr c ↦ record {
              are_defined = starts_defined p wf l g e fs c;
              single = sf fs c;
              covered = starts_covered p wf l g e gl.are_defined gl.owned gl.covered fs c;
              owned = starts_owned p wf l g m e gl.single gl.covered gl.are_defined so gl.owned fs c;
              joined = starts_joined p wf l g e gl.covered gl.are_defined gl.owned so sm sj gl.joined fs c;
            }
          ]
        ];
        slot = λ x m. record {
          owned = keeps_slots_owned p wf l g e gl.covered gl.are_defined gl.owned so x m;
          ordered = keeps_ordered p wf l g s.goroutines e get gl.covered gl.are_defined gl.owned so (λ y k. (laws.slot y k).ordered) x m;
          joined = keeps_slots_joined p wf l g e gl.covered gl.are_defined gl.owned so sm gl.joined sj x m;
        };
      }

  steps : {old new : State} → OneStep p l old new → Laws p l old → Laws p l new
  steps (one_step {s} {v} {started} {ended} g frames going get a) laws =
      let gl = laws.goroutine g frames get in
      let inside = stand_inside p frames gl.covered in
      acts g s frames get (effect p wf l g inside a) laws (keeps_single p wf l g inside gl.single a) (starts_single p wf l g gl.single a) ended

  none_in : (fn : Function) (c : Cell) {A : Type 0} → InFrame c (first_frame 0 fn [] 0) → A
  none_in fn c (in_register m) = elim m [ ]
  none_in fn c (in_record d m k) = elim m [ ]

  opens_frames : (g : ℕ) (fn : Function) → IsFunction p 0 fn → GoroutineLaws p l g (first_frame 0 fn [] 0 ∷ [])
  opens_frames g fn is =
      let a = wf.ranges.inside 0 fn is in
      let x : fn.entry ≤ fn.exit = a.0 in
      let y : fn.exit ≤ fn.leave = a.1 in
      let high : fn.entry ≤ fn.leave = omega arith in
      let low : fn.entry ≤ fn.entry = omega arith in
      record {
        are_defined = (record { each = λ _ c m. elim m [ ] }, tt);
        single = (record { registers = record { each = λ c d m. elim m [ ] }; records = λ d m. elim m [ ] }, tt);
        covered = (
          record {
            place = record { fn = fn; is = is; low = low; high = high };
            body = λ other h. (let e = sym wf.entry_function.is ∙ h in let same : wf.entry_function.fn ≡ other = cc in subst (λ (z : Function). z.external ≡ None) same wf.entry_function.body);
            live = entry_is_live;
            called = tt;
            records = λ d m. elim m [ ];
          },
          tt,
        );
        owned = (record { each = λ c m. none_in fn c m }, tt);
        joined = (record { each = λ c m s i. none_in fn c m }, tt);
      }

  opens_goroutine : (fn : Function) → IsFunction p 0 fn → (g : ℕ) (frames : List Frame) → slice_get ((first_frame 0 fn [] 0 ∷ []) ∷ []) g ≡ Some frames → GoroutineLaws p l g frames
  opens_goroutine fn is zero frames h = let e : first_frame 0 fn [] 0 ∷ [] ≡ frames = cc in subst (GoroutineLaws p l 0) e (opens_frames 0 fn is)
  opens_goroutine fn is (suc g) frames h = absurd cc

  opens : (fn : Function) → IsFunction p 0 fn → Laws p l (opening fn)
  opens fn is = record { goroutine = opens_goroutine fn is; slot = λ x m. elim m [ ] }

  single_in : (frames : List Frame) → EachFrame FrameSingle frames → (f : Frame) → In f frames → IsSingle f.cells
  single_in (h ∷ rest) v f (here e) = subst (λ (z : Frame). IsSingle z.cells) (sym e) v.0.registers
  single_in (h ∷ rest) v f (there m) = single_in rest v.1 f m
  single_in [] v f m = elim m [ ]

  pub runs : {n : ℕ} {new : State} → Run p l n new → Laws p l new
  runs (no_step fn is) = opens fn is
  runs (then_step r s) = steps s (runs r)

  -- what a register holds at a leaf that doesn't lead to elements
  pub holds_one : {n : ℕ} {x : State} → Run p l n x → (g : ℕ) (frames : List Frame) → slice_get x.goroutines g ≡ Some frames → (f : Frame) → In f frames → IsSingle f.cells
  holds_one {x = x} r g frames get f m = single_in frames ((runs r).goroutine g frames get).single f m
