-- The law of order: what an object holds that one goroutine alone uses was put before the place of that goroutine's top frame.
use Rattle.std.proofs.Common.{length, ◌≡◌, ℕ, List, [], ◌∷◌, ◌++◌, Some, refl, sym, ◌∙◌, subst, inl, inr}
use Rattle.std.specs.Prelude.{◌⊎◌, slice_get, slice_set}
use Rattle.argot_plain.specs.Lists.{In, here}
use Rattle.argot_plain.specs.Code.{by_call, Code, IsAt, IsIn, successor}
use Rattle.argot_plain.specs.WellFormed.{WellFormed}
use Rattle.argot_plain.specs.Machine.{Labelling, Slot, Frame, View}
use Rattle.argot_plain.specs.Nodes.{Mark}
use Rattle.argot_plain.specs.declared.instructions.Kind.{Kind}
use Rattle.argot_plain.specs.declared.instructions.Kind.TheVariants.{Call, Go, Defer}
use Rattle.argot_facts.specs.Escapes.{Escapes}
use Rattle.argot_facts.specs.Follows.{Follows, DirectlyFollows, Uses}
use Rattle.argot_facts.specs.Follows as Order
use Rattle.argot_sound.specs.Effects.{Effect, put, store, enter, enter_record, start, keep, leave, leave_record, leave_last, move, unwind, unwind_drop, Stores}
use Rattle.argot_sound.specs.Laws as Laws
use Rattle.argot_sound.specs.Laws.{EachFrame, FrameDefined, FrameCovered, IsCalledAt, FrameOwned, SlotOwned, TopFollows, IsOrdered}
use Rattle.argot_sound.proofs.Lists.{replaced_at, replaced_keeps}
use Rattle.argot_sound.proofs.Covered.{called_case}
use Rattle.argot_sound.proofs.Owned.{stores_made}
use Rattle.argot_sound.proofs.Points.{live_place, targets_of}

module _ (p : Code) (wf : WellFormed p) (l : Labelling) (g : ℕ) where
  -- where a pair leads to one of two equal places
  pair_at : (a a' b b' : ℕ) → a ≡ a' → b ≡ b' → DirectlyFollows p a' b' → DirectlyFollows p a b
  pair_at a a' b b' ea eb h = subst (λ x. DirectlyFollows p x b) (sym ea) (subst (λ x. DirectlyFollows p a' x) (sym eb) h)

  -- the frame below calls or defers the one on top
  uses : (f e : Frame) → IsIn p e.place e.function → IsCalledAt p f e → (i : ℕ) × Uses p i e.function f.function
  uses f e inside (Laws.by_call to args callee takes site calm is targets) = (e.place, Order.by_call to args callee takes inside is targets)
  uses f e inside (Laws.by_record args callee takes fn isf at inside' is targets) = (f.site, Order.by_defer args callee takes inside' is targets)

  -- each step leads on from the place of the top frame
  pub tops_follow : {old new : View} {started : List (List Frame)} → Effect p l g old new started → EachFrame (FrameDefined p) old.frames → EachFrame (FrameOwned p g) old.frames → EachFrame (FrameCovered p) old.frames → (a : ℕ) → TopFollows p a old.frames → TopFollows p a new.frames
  tops_follow (put {f = f} {h = h} {rest = rest} kind at calm onward same cells) d w v a x = Order.then x (Order.goes (live_place p wf f rest v.0) (successor kind at onward))
  tops_follow (store {f = f} {h = h} {rest = rest} kind at calm onward same cells slots) d w v a x = Order.then x (Order.goes (live_place p wf f rest v.0) (successor kind at onward))
  tops_follow (enter {f = f} {h = h} {rest = rest} to args callee takes fn at calm is b hands cells) d w v a x =
      Order.then x (pair_at f.place f.place h.place fn.entry refl b.place (Order.calls h.function to args callee takes fn at (targets_of p wf g f rest (Call to callee args) callee args (length to) h.function takes d.0 v.0 w.0 calm at by_call is) b.is))
  tops_follow (enter_record {f = f} {f' = f'} {h = h} {rest = rest} y takes fn at same place cells records target b again) d w v a x =
      let gn = v.0.place.fn in
      let rc = v.0.records y (subst (In y) (sym records) (here refl)) in
      Order.then x (pair_at f.place gn.exit h.place fn.entry (wf.runs_at_exit.alone f.place f.function gn at v.0.place v.0.place.is) b.place
      (Order.runs y.place f.function h.function rc.args rc.callee takes gn fn rc.place rc.is (rc.targets h.function takes target) v.0.place.is b.is))
  tops_follow (start {f = f} {f' = f'} {rest = rest} args callee takes fn at calm is onward same cells b hands again) d w v a x = Order.then x (Order.goes (live_place p wf f rest v.0) (successor (Go callee args) at onward))
  tops_follow (keep {f = f} {h = h} {rest = rest} args callee y at calm is onward same cells records place count all hands) d w v a x = Order.then x (Order.goes (live_place p wf f rest v.0) (successor (Defer callee args) at onward))
  tops_follow (leave {f = f} {e = e} {h = h} {rest = rest} from to args callee at calm site below onward same hands cells) d w v a x =
      let fn = v.0.place.fn in
      let called = called_case p wf f e rest to callee args below v.0.called v.1.0 in
      Order.then x (pair_at f.place fn.leave h.place h.place (wf.leaves_at_leave.alone f.place f.function from fn at v.0.place v.0.place.is) refl
      (Order.returns e.place f.function to args callee called.0 fn v.0.place.is (v.0.body fn v.0.place.is) below called.1 (successor (Call to callee args) below onward)))
  tops_follow (leave_record {f = f} {e = e} {rest = rest} from at below) d w v a x =
      let fn = v.0.place.fn in
      let en = v.1.0.place.fn in
      let u = uses f e v.1.0.place v.0.called in
      Order.then x (pair_at f.place fn.leave e.place en.exit (wf.leaves_at_leave.alone f.place f.function from fn at v.0.place v.0.place.is) (wf.runs_at_exit.alone e.place e.function en below v.1.0.place v.1.0.place.is)
      (Order.returns_to_exit u.0 e.function f.function en fn u.1 v.0.place.is (v.0.body fn v.0.place.is) v.1.0.place.is))
  tops_follow leave_last d w v a x = tt
  tops_follow (move {f = f} {h = h} {rest = rest} at same place cells records) d w v a x = subst (Follows p a) (sym place) x
  tops_follow (unwind {f = f} {h = h} {rest = rest} b) d w v a x = Order.then x (pair_at f.place f.place h.place b.fn.exit refl b.place (Order.exits f.function b.fn (live_place p wf f rest v.0) v.0.place b.is (v.0.body b.fn b.is)))
  tops_follow (unwind_drop {f = f} {e = e} {h = h} {rest = rest} at b) d w v a x =
      let fn = v.0.place.fn in
      let u = uses f e v.1.0.place v.0.called in
      Order.then x (pair_at f.place fn.exit h.place b.fn.exit (wf.runs_at_exit.alone f.place f.function fn at v.0.place v.0.place.is) b.place
      (Order.unwinds u.0 e.function f.function b.fn fn u.1 v.0.place.is (v.0.body fn v.0.place.is) b.is))

  -- an atom that stays where it is
  stays_ordered : (gs : List (List Frame)) {old new : View} {started : List (List Frame)} → Effect p l g old new started → slice_get gs g ≡ Some old.frames → EachFrame (FrameDefined p) old.frames → EachFrame (FrameOwned p g) old.frames → EachFrame (FrameCovered p) old.frames → (x : Slot)
      → Escapes p x.object.site ⊎ ((frames : List Frame) × (slice_get gs x.object.maker ≡ Some frames) × TopFollows p x.atom.put.place frames)
      → Escapes p x.object.site ⊎ ((frames : List Frame) × (slice_get (slice_set gs g new.frames ++ started) x.object.maker ≡ Some frames) × TopFollows p x.atom.put.place frames)
  stays_ordered gs e is d w v x (inl a) = inl a
  stays_ordered gs {old} {new} {started} e is d w v x (inr b) = elim (replaced_keeps gs g new.frames started x.object.maker b.0 b.1) [
    | inl m ↦
        let same = sym is ∙ subst (λ n. slice_get gs n ≡ Some b.0) m b.1 in
        let frames : old.frames ≡ b.0 = cc in
        inr (
          new.frames,
          subst (λ n. slice_get (slice_set gs g new.frames ++ started) n ≡ Some new.frames) (sym m) (replaced_at gs g new.frames started old.frames is),
          tops_follow e d w v x.atom.put.place (subst (TopFollows p x.atom.put.place) (sym frames) b.2),
        )
    | inr c ↦ inr (b.0, c, b.2)
  ]

  new_ordered : (gs : List (List Frame)) (f h : Frame) (rest : List Frame) (ss : List Slot) (kind : Kind) (x : Slot) → IsAt p f.place kind → Stores p l kind g ss f x → slice_get gs g ≡ Some (f ∷ rest)
      → DirectlyFollows p f.place h.place → (started : List (List Frame)) → Escapes p x.object.site ⊎ (x.object.maker ≡ g) → IsOrdered p (slice_set gs g (h ∷ rest) ++ started) x
  new_ordered gs f h rest ss kind x is st get onward started (inl a) = inl a
  new_ordered gs f h rest ss kind x is st get onward started (inr b) =
      inr (
        h ∷ rest,
        subst (λ n. slice_get (slice_set gs g (h ∷ rest) ++ started) n ≡ Some (h ∷ rest)) (sym b) (replaced_at gs g (h ∷ rest) started (f ∷ rest) get),
        subst (λ (z : Mark). Follows p z.place h.place) (sym st.given.put) (Order.one onward),
      )

  slots_ordered : (gs : List (List Frame)) {old new : View} {started : List (List Frame)} → Effect p l g old new started → slice_get gs g ≡ Some old.frames
      → EachFrame (FrameCovered p) old.frames → EachFrame (FrameDefined p) old.frames → EachFrame (FrameOwned p g) old.frames → ((x : Slot) → In x old.slots → SlotOwned p x)
      → ((x : Slot) → In x old.slots → IsOrdered p (slice_set gs g new.frames ++ started) x)
      → (x : Slot) → In x new.slots → IsOrdered p (slice_set gs g new.frames ++ started) x
  slots_ordered gs (store {ss = ss} {f = f} {h = h} {rest = rest} kind at calm onward same cells slots) get v d w so l' x m =
      elim (slots x m) [
        | inl a ↦ new_ordered gs f h rest ss kind x at a get (Order.goes (live_place p wf f rest v.0) (successor kind at onward)) [] (stores_made p wf l g f rest ss kind d.0 v.0 w.0 so calm at x a)
        | inr b ↦ l' x b
      ]
  slots_ordered gs (put kind at calm onward same cells) get v d w so l' x m = l' x m
  slots_ordered gs (enter to args callee takes fn at calm is b hands cells) get v d w so l' x m = l' x m
  slots_ordered gs (enter_record y takes fn at same place cells records target b again) get v d w so l' x m = l' x m
  slots_ordered gs (start args callee takes fn at calm is onward same cells b hands again) get v d w so l' x m = l' x m
  slots_ordered gs (keep args callee y at calm is onward same cells records place count all hands) get v d w so l' x m = l' x m
  slots_ordered gs (leave from to args callee at calm site below onward same hands cells) get v d w so l' x m = l' x m
  slots_ordered gs (leave_record from at below) get v d w so l' x m = l' x m
  slots_ordered gs leave_last get v d w so l' x m = l' x m
  slots_ordered gs (move at same place cells records) get v d w so l' x m = l' x m
  slots_ordered gs (unwind b) get v d w so l' x m = l' x m
  slots_ordered gs (unwind_drop at b) get v d w so l' x m = l' x m

  -- each step keeps it, by the laws so far
  pub keeps_ordered : (gs : List (List Frame)) {old new : View} {started : List (List Frame)} → Effect p l g old new started → slice_get gs g ≡ Some old.frames
      → EachFrame (FrameCovered p) old.frames → EachFrame (FrameDefined p) old.frames → EachFrame (FrameOwned p g) old.frames → ((x : Slot) → In x old.slots → SlotOwned p x)
      → ((x : Slot) → In x old.slots → IsOrdered p gs x)
      → (x : Slot) → In x new.slots → IsOrdered p (slice_set gs g new.frames ++ started) x
  keeps_ordered gs {old} {new} {started} e is v d w so l' = slots_ordered gs e is v d w so (λ x m. stays_ordered gs e is d w v x (l' x m))
