-- The law of covering, for frames and records: functions that run are live, and are targets of their call sites.
use Rattle.std.proofs.Common.{◌≡◌, Bool, length, ℕ, ◌+◌, ◌≤◌, false, List, [], ◌∷◌, None, refl, sym, ap, ◌∙◌, subst, arith}
use Rattle.argot_plain.specs.Lists.{In, here, there}
use Rattle.argot_plain.specs.Code.{Code, IsAt, IsFunction, IsIn, arguments, Successor, successor, by_call, by_go, by_defer}
use Rattle.argot_plain.specs.WellFormed.{WellFormed}
use Rattle.argot_plain.specs.Machine.{Labelling, Cell, Slot, Found, Deferred, Frame, View}
use Rattle.argot_plain.specs.Nodes.{mark}
use Rattle.argot_plain.specs.Outside.{Resolves}
use Rattle.argot_plain.specs.Step.{handing}
use Rattle.argot_plain.specs.declared.functions.Function.{Function}
use Rattle.argot_plain.specs.declared.instructions.Callee.{Callee}
use Rattle.argot_plain.specs.declared.instructions.Kind.TheVariants.{Call, Go, Defer, RunDefers}
use Rattle.argot_facts.specs.Refers.{Holds, IsLive, Targets, target_is_live}
use Rattle.argot_sound.specs.Effects.{Effect, put, store, enter, enter_record, start, keep, leave, leave_record, leave_last, move, unwind, unwind_drop, IsSame, IsSameFrame, Begins, IsPanicking, HandsOn}
use Rattle.argot_sound.specs.Laws as Laws
use Rattle.argot_sound.specs.Laws.{EachFrame, FrameSingle, AllGo, FrameDefined, FrameOwned, FrameCovered, IsCalledAt, IsCalledFrom, RecordCovered}
use Rattle.argot_sound.proofs.Points.{targets_of}
use Rattle.argot_sound.proofs.Single.{goes_to_chosen}

module _ (p : Code) (wf : WellFormed p) where
  same_function : (g : ℕ) (a b : Function) → IsFunction p g a → IsFunction p g b → a ≡ b
  same_function g a b h k = let e = sym h ∙ k in cc

  called_on : (f h : Frame) (rest : List Frame) → h.function ≡ f.function → h.site ≡ f.site → IsCalledFrom p f rest → IsCalledFrom p h rest
  called_on f h [] function site v = tt
  called_on f h (g ∷ rest) function site (Laws.by_call to args callee takes at calm is targets) =
      Laws.by_call to args callee takes (site ∙ at) calm is (subst (λ n. Holds p (Targets g.place n takes)) (sym function) targets)
  called_on f h (g ∷ rest) function site (Laws.by_record args callee takes fn isf at inside is targets) =
      Laws.by_record args callee takes fn isf at (subst (λ n. IsIn p n g.function) (sym site) inside)
      (subst (λ n. IsAt p n (Defer callee args)) (sym site) is)
      (subst (λ n. Holds p (Targets n h.function takes)) (sym site) (subst (λ n. Holds p (Targets f.site n takes)) (sym function) targets))

  body_on : (f h : Frame) → h.function ≡ f.function → ((fn : Function) → IsFunction p f.function fn → fn.external ≡ None) → (fn : Function) → IsFunction p h.function fn → fn.external ≡ None
  body_on f h function body fn is = body fn (subst (λ n. IsFunction p n fn) function is)

  -- a frame in the same function, at another place and with some of the records
  covered_at : (f h : Frame) (rest : List Frame) → h.function ≡ f.function → h.site ≡ f.site → IsIn p h.place f.function → ((d : Deferred) → In d h.records → RecordCovered p f.function d) → FrameCovered p f rest → FrameCovered p h rest
  covered_at f h rest function site inside records v = record {
    place = subst (IsIn p h.place) (sym function) inside;
    body = body_on f h function v.body;
    live = subst (λ n. Holds p (IsLive n)) (sym function) v.live;
    called = called_on f h rest function site v.called;
    records = λ d m. subst (λ n. RecordCovered p n d) (sym function) (records d m);
  }

  -- a frame that goes on in its function
  pub covered_on : (f h : Frame) (rest : List Frame) → IsSameFrame f h → Successor p f.place h.place → FrameCovered p f rest → FrameCovered p h rest
  covered_on f h rest same onward v = covered_at f h rest same.same.function same.same.site (wf.stays f.place h.place f.function onward v.place) (λ d m. v.records d (subst (In d) same.records m)) v

  exit_inside : (g : ℕ) (fn : Function) → IsFunction p g fn → IsIn p fn.exit g
  exit_inside g fn is = let a = wf.ranges.inside g fn is in record { fn = fn; is = is; low = a.0; high = a.1 }

  at_entry : (h : Frame) (fn : Function) (site : ℕ) → Begins p h fn site → IsIn p h.place h.function
  at_entry h fn site b =
      let e = b.place in
      let a = wf.ranges.inside h.function fn b.is in
      let x : fn.entry ≤ fn.exit = a.0 in
      let y : fn.exit ≤ fn.leave = a.1 in
      let low : fn.entry ≤ h.place = omega arith in
      let high : h.place ≤ fn.leave = omega arith in
      record { fn = fn; is = b.is; low = low; high = high }

  no_records : (h : Frame) (fn : Function) (site : ℕ) → Begins p h fn site → (d : Deferred) → In d h.records → RecordCovered p h.function d
  no_records h fn site b d m = elim (subst (In d) b.none m) [ ]

  begins_covered : (h : Frame) (fn : Function) (site i : ℕ) (takes : Bool) (rest : List Frame) → Begins p h fn site → Holds p (Targets i h.function takes) → IsCalledFrom p h rest → FrameCovered p h rest
  begins_covered h fn site i takes rest b targets called = record {
    place = at_entry h fn site b;
    body = λ fn' is. subst (λ (x : Function). x.external ≡ None) (same_function h.function fn fn' b.is is) b.body;
    live = target_is_live i takes targets;
    called = called;
    records = no_records h fn site b;
  }

  covered_panic : (f h : Frame) (rest : List Frame) → IsPanicking p f h → FrameCovered p f rest → FrameCovered p h rest
  covered_panic f h rest b v = covered_at f h rest b.function b.site (subst (λ n. IsIn p n f.function) (sym b.place) (exit_inside f.function b.fn b.is)) (λ d m. v.records d (b.records d m)) v

  covered_record : (f f' h : Frame) (rest : List Frame) (d : Deferred) (takes : Bool) (fn : Function) → IsAt p f.place RunDefers → IsSame f f' → f'.place ≡ f.place → d.target ≡ Found h.function takes → Begins p h fn d.place → FrameCovered p f rest → RecordCovered p f.function d → FrameCovered p h (f' ∷ rest)
  covered_record f f' h rest d takes fn at same place target b v rc =
      let gn = v.place.fn in
      let targets = rc.targets h.function takes target in
      begins_covered h fn d.place d.place takes (f' ∷ rest) b targets
      (Laws.by_record rc.args rc.callee takes gn (subst (λ n. IsFunction p n gn) (sym same.function) v.place.is) (place ∙ wf.runs_at_exit.alone f.place f.function gn at v.place v.place.is)
      (subst (IsIn p h.site) (sym same.function) (subst (λ n. IsIn p n f.function) (sym b.site_is) rc.place))
      (subst (λ n. IsAt p n (Defer rc.callee rc.args)) (sym b.site_is) rc.is)
      (subst (λ n. Holds p (Targets n h.function takes)) (sym b.site_is) targets))

  -- the function that returns is a target of the call
  pub called_case : (f e : Frame) (rest : List Frame) (to : List ℕ) (callee : Callee) (args : List ℕ) → IsAt p e.place (Call to callee args) → IsCalledAt p f e → FrameCovered p e rest → (takes : Bool) × Holds p (Targets e.place f.function takes) × (f.site ≡ e.place) × (e.panics ≡ false)
  called_case f e rest to callee args below (Laws.by_call to' args' callee' takes site calm is targets) v = (takes, targets, site, calm)
  called_case f e rest to callee args below (Laws.by_record args' callee' takes fn isf at inside is targets) v =
      let x = sym below ∙ subst (λ i. IsAt p i RunDefers) (sym at) (wf.runs_at_exit.stands e.function fn isf (v.body fn isf)) in absurd cc

  module _ (l : Labelling) (g : ℕ) where
    kept_record : (f : Frame) (rest : List Frame) (ss : List Slot) (callee : Callee) (args : List ℕ) (d : Deferred) → FrameSingle f rest → FrameDefined p f rest → FrameOwned p g f rest → f.panics ≡ false → IsAt p f.place (Defer callee args) → Resolves p f.cells callee d.target → d.place ≡ f.place → d.count ≡ length (arguments callee args) → d.cells ≡ handing p l f 0 callee args
        → ((c : Cell) → In c d.cells → HandsOn p l (Defer callee args) g ss f 0 c) → FrameCovered p f rest → (x : Deferred) → In x (d ∷ f.records) → RecordCovered p f.function x
    kept_record f rest ss callee args d u df w calm at is place count all hands v x (here e) = subst (RecordCovered p f.function) (sym e) (record {
      place = subst (λ n. IsIn p n f.function) (sym place) v.place;
      args = args;
      callee = callee;
      is = subst (λ n. IsAt p n (Defer callee args)) (sym place) at;
      targets = λ h takes t. subst (λ n. Holds p (Targets n h takes)) (sym place) (targets_of p wf g f rest (Defer callee args) callee args 0 h takes df v w calm at by_defer (subst (Resolves p f.cells callee) t is));
      chosen = λ h takes t. subst (λ cells. AllGo p callee args cells h) (sym all)
          (goes_to_chosen p wf l f rest (Defer callee args) callee args 0 h takes u v.place at by_defer (subst (Resolves p f.cells callee) t is));
      count = count;
      each = λ c m. (let z : 0 + c.register ≡ c.register = omega arith in (hands c m).given.put ∙ ap (λ k. mark f.place k c.leaf) z ∙ ap (λ i. mark i c.register c.leaf) (sym place));
    })
    kept_record f rest ss callee args d u df w calm at is place count all hands v x (there m) = v.records x m

    -- each step keeps it
    pub keeps_covered : {old new : View} {started : List (List Frame)} → Effect p l g old new started → EachFrame FrameSingle old.frames → EachFrame (FrameDefined p) old.frames → EachFrame (FrameOwned p g) old.frames → EachFrame (FrameCovered p) old.frames → EachFrame (FrameCovered p) new.frames
    keeps_covered (put {f = f} {h = h} {rest = rest} kind at calm onward same cells) u d w v = (covered_on f h rest same (successor kind at onward) v.0, v.1)
    keeps_covered (store {f = f} {h = h} {rest = rest} kind at calm onward same cells slots) u d w v = (covered_on f h rest same (successor kind at onward) v.0, v.1)
    keeps_covered (enter {f = f} {h = h} {rest = rest} to args callee takes fn at calm is b hands cells) u d w v =
        let targets = targets_of p wf g f rest (Call to callee args) callee args (length to) h.function takes d.0 v.0 w.0 calm at by_call is in
        (begins_covered h fn f.place f.place takes (f ∷ rest) b targets (Laws.by_call to args callee takes b.site_is calm at targets), v)
    keeps_covered (enter_record {f = f} {f' = f'} {h = h} {rest = rest} y takes fn at same place cells records target b again) u d w v =
        let rc = v.0.records y (subst (In y) (sym records) (here refl)) in (
          covered_record f f' h rest y takes fn at same place target b v.0 rc,
          (covered_at f f' rest same.function same.site (subst (λ n. IsIn p n f.function) (sym place) v.0.place) (λ x m. v.0.records x (subst (In x) (sym records) (there m))) v.0, v.1),
        )
    keeps_covered (start {f = f} {f' = f'} {h = h} {rest = rest} args callee takes fn at calm is onward same cells b hands again) u d w v = (covered_on f f' rest same (successor (Go callee args) at onward) v.0, v.1)
    keeps_covered (keep {ss = ss} {f = f} {h = h} {rest = rest} args callee y at calm is onward same cells records place count all hands) u d w v = (
      covered_at f h rest same.function same.site (wf.stays f.place h.place f.function (successor (Defer callee args) at onward) v.0.place)
          (λ x m. kept_record f rest ss callee args y u.0 d.0 w.0 calm at is place count all hands v.0 x (subst (In x) records m)) v.0,
      v.1,
    )
    keeps_covered (leave {f = f} {e = e} {h = h} {rest = rest} from to args callee at calm site below onward same hands cells) u d w v = (covered_on e h rest same (successor (Call to callee args) below onward) v.1.0, v.1.1)
    keeps_covered (leave_record from at below) u d w v = v.1
    keeps_covered leave_last u d w v = tt
    keeps_covered (move {f = f} {h = h} {rest = rest} at same place cells records) u d w v =
        (covered_at f h rest same.function same.site (subst (λ n. IsIn p n f.function) (sym place) v.0.place) (λ x m. v.0.records x (records x m)) v.0, v.1)
    keeps_covered (unwind {f = f} {h = h} {rest = rest} b) u d w v = (covered_panic f h rest b v.0, v.1)
    keeps_covered (unwind_drop {f = f} {e = e} {h = h} {rest = rest} at b) u d w v = (covered_panic e h rest b v.1.0, v.1.1)

    -- a goroutine that starts
    pub starts_covered : {old new : View} {started : List (List Frame)} → Effect p l g old new started → EachFrame (FrameDefined p) old.frames → EachFrame (FrameOwned p g) old.frames → EachFrame (FrameCovered p) old.frames → (frames : List Frame) → In frames started → EachFrame (FrameCovered p) frames
    starts_covered (start {f = f} {f' = f'} {h = h} {rest = rest} args callee takes fn at calm is onward same cells b hands again) d w v frames (here e) = subst (EachFrame (FrameCovered p)) (sym e)
        (begins_covered h fn f.place f.place takes [] b (targets_of p wf g f rest (Go callee args) callee args 0 h.function takes d.0 v.0 w.0 calm at by_go is) tt, tt)
    starts_covered (start args callee takes fn at calm is onward same cells b hands again) d w v frames (there m) = elim m [ ]
    starts_covered _ d w v frames m = elim m [ ]
