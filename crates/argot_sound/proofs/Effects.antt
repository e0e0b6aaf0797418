-- The law of effects: each step is of one of the sorts.
use Rattle.std.proofs.Common.{length, ◌≡◌, ℕ, Bool, false, List, [], ◌∷◌, ◌++◌, None, refl, sym, subst, inl, inr}
use Rattle.std.specs.Prelude.{◌⊎◌}
use Rattle.argot_plain.specs.Lists.{In, here, there, member}
use Rattle.argot_plain.specs.Code.{Code, IsAt, IsFunction, IsIn, by_call, by_go, by_defer, arguments, defined, element_leaves, leaves}
use Rattle.argot_plain.specs.Machine.{Labelling, Object, Content, content, Cell, Slot, Frame, View, put_cell, same_labels, handed_back, written, added, recopied}
use Rattle.argot_plain.specs.Outside.{result_labels}
use Rattle.argot_plain.specs.Puts.{fresh_object}
use Rattle.argot_plain.specs.Step.{view, Acts, act_puts, act_stores, act_stores_nothing, act_grows, act_grows_nothing, act_grows_anew, act_enters, act_calls_outside, act_starts, act_starts_outside, act_keeps, act_runs, act_runs_outside, act_runs_nothing, act_exits, act_leaves, act_leaves_deferred, act_ends, act_panics, act_drops, act_drops_last, goes_on, at_place, first_frame, panicking, with_records, handing, leaving, entering, resuming, record_of}
use Rattle.argot_plain.specs.WellFormed.{WellFormed}
use Rattle.argot_plain.specs.declared.functions.Function.{Function}
use Rattle.argot_plain.specs.declared.instructions.Kind.{Kind}
use Rattle.argot_plain.specs.declared.instructions.Kind.TheVariants.{Write, Grow, Call, Go, Defer, RunDefers}
use Rattle.argot_sound.specs.Effects.{Effect, put, store, enter, enter_record, start, keep, leave, leave_record, leave_last, move, unwind, unwind_drop, Puts, Keeps, Begins, IsSameFrame, IsPanicking}
use Rattle.argot_sound.specs.Effects as From
use Rattle.argot_sound.specs.Laws.{EachFrame}
use Rattle.argot_sound.proofs.Lists.{In-append, In-one}
use Rattle.argot_sound.proofs.Puts.{HeldAt, In-value, In-kept, In-after_write}
use Rattle.argot_sound.proofs.Given.{refers_of, puts_kind, given_by, held_carries, held_brings, node_defined, root_leaf}
use Rattle.argot_sound.proofs.Handing.{call_hands, leave_hands, outside_puts, write_stores, grow_stores, regrow_stores, entered, gives_back}

-- the place is one of the frame's function
abbrev pub StandsInside : Code → Frame → List Frame → Type 0
StandsInside p f rest = IsIn p f.place f.function

same_frame : (f : Frame) (regs : List ℕ) (given : List Cell) (j : ℕ) → IsSameFrame f (goes_on f regs given j)
same_frame f regs given j = record { same = record { function = refl; site = refl; panics = refl }; records = refl }

moved_frame : (f : Frame) (j : ℕ) → IsSameFrame f (at_place f j)
moved_frame f j = record { same = record { function = refl; site = refl; panics = refl }; records = refl }

begins_at : (p : Code) (h : ℕ) (fn : Function) (cells : List Cell) (site : ℕ) → IsFunction p h fn → fn.external ≡ None → Begins p (first_frame h fn cells site) fn site
begins_at p h fn cells site is body = record { is = is; body = body; place = refl; site_is = refl; calm = refl; none = refl }

module _ (p : Code) (wf : WellFormed p) (l : Labelling) (g : ℕ) where
  puts_or_keeps : (kind : Kind) (ss : List Slot) (f : Frame) (regs : List ℕ) (given : List Cell) → regs ≡ defined kind → ((c : Cell) → In c given → Puts p l kind g ss f c) → (j : ℕ) → (c : Cell) → In c (goes_on f regs given j).cells → Puts p l kind g ss f c ⊎ Keeps kind f c
  puts_or_keeps kind ss f regs given same puts j c m = elim (In-append c given _ m) [
    | inl a ↦ inl (puts c a)
    | inr b ↦ inr (let k = In-kept c regs f.cells b in record { held = k.0; other = subst (λ rs. member c.register rs ≡ false) same k.1 })
  ]

  -- the reference that a Grow puts
  grow_puts : (ss : List Slot) (f : Frame) (to at : ℕ) (items : List ℕ) (x : Content) → IsIn p f.place f.function → IsAt p f.place (Grow to at items) → HeldAt at [] f.cells x
      → (c : Cell) → In c (put_cell l same_labels to f.place 0 [] x ∷ []) → Puts p l (Grow to at items) g ss f c
  grow_puts ss f to at items x inside is h c m =
      subst (Puts p l (Grow to at items) g ss f) (sym (In-one c _ m)) (record {
        index = 0;
        defines = refl;
        given = given_by p wf l g ss f (Grow to at items) 0 [] x.value x.labels (node_defined p wf l (Grow to at items) f.place f.function 0 to [] inside is refl (root_leaf p wf l (Grow to at items) f.place f.function to inside is (here refl)))
            (held_carries p wf l g ss f (Grow to at items) 0 at [] [] x h (inl (refl, refl, refl, refl))) (held_brings p wf l g ss f (Grow to at items) 0 at [] [] x h (inl (refl, refl, refl, refl)));
      })

  pub effect : {ss : List Slot} {n : ℕ} {frames : List Frame} {new : View} {started : List (List Frame)} {ended : Bool} → EachFrame (StandsInside p) frames → Acts p l g ss n frames new started ended → Effect p l g (view ss n frames) new started
  effect {ss} {n} v (act_puts {f} {rest} kind given j at calm gives next) =
      put {h = goes_on f (defined kind) given j} kind at calm next (same_frame f (defined kind) given j)
      (puts_or_keeps kind ss f (defined kind) given refl (puts_kind p wf l g ss f kind n given v.0 at gives) j)
  effect {ss} {n} v (act_stores {f} {rest} at from o base x j is calm m e next) =
      let h = In-value at [] f.cells x m in
      store {h = at_place f j} (Write at from) is calm next (moved_frame f j) (λ c k. inr (record { held = k; other = refl }))
      (λ s k. elim (In-after_write s (written p l f.place from o base (leaves p f.function from) f.cells) ss k) [ inl a ↦ inl (write_stores p wf l g ss f at from o base x v.0 is h e s a) | inr b ↦ inr b ])
  effect {ss} {n} v (act_stores_nothing {f = f} at from j is calm none next) = put {h = at_place f j} (Write at from) is calm next (moved_frame f j) (λ c k. inr (record { held = k; other = refl }))
  effect {ss} {n} v (act_grows {f} {rest} to at items s site o base x j is calm sited m e next) =
      let h = In-value at [] f.cells x m in
      store {h = goes_on f (to ∷ []) (put_cell l same_labels to f.place 0 [] x ∷ []) j} (Grow to at items) is calm next (same_frame f (to ∷ []) (put_cell l same_labels to f.place 0 [] x ∷ []) j)
      (puts_or_keeps (Grow to at items) ss f (to ∷ []) (put_cell l same_labels to f.place 0 [] x ∷ []) refl (grow_puts ss f to at items x v.0 is h) j)
      (λ y k. elim (In-append y (added p l f.place o base items (element_leaves site) f.cells) ss k) [
        | inl a ↦ inl (grow_stores p wf l g ss f to at items s site o base is sited (λ q. From.by_grow to at items base refl (refers_of at f.cells x o base h e) refl) y a)
        | inr b ↦ inr b
      ])
  effect {ss} {n} v (act_grows_nothing {f} {rest} to at x j is calm m none next) =
      put {h = goes_on f (to ∷ []) (put_cell l same_labels to f.place 0 [] x ∷ []) j} (Grow to at []) is calm next (same_frame f (to ∷ []) (put_cell l same_labels to f.place 0 [] x ∷ []) j)
      (puts_or_keeps (Grow to at []) ss f (to ∷ []) (put_cell l same_labels to f.place 0 [] x ∷ []) refl (grow_puts ss f to at [] x v.0 is (In-value at [] f.cells x m)) j)
  effect {ss} {n} v (act_grows_anew {f} {rest} to at items s site x j is calm sited m next) =
      let h = In-value at [] f.cells x m in
      let o : Object = record { site = s; maker = g; serial = n } in
      let y = content (fresh_object s g n) x.labels in
      store {h = goes_on f (to ∷ []) (put_cell l same_labels to f.place 0 [] y ∷ []) j} (Grow to at items) is calm next (same_frame f (to ∷ []) (put_cell l same_labels to f.place 0 [] y ∷ []) j)
      (puts_or_keeps (Grow to at items) ss f (to ∷ []) (put_cell l same_labels to f.place 0 [] y ∷ []) refl
      (λ c k. subst (Puts p l (Grow to at items) g ss f) (sym (In-one c _ k)) (record {
        index = 0;
        defines = refl;
        given = given_by p wf l g ss f (Grow to at items) 0 [] (fresh_object s g n) x.labels (node_defined p wf l (Grow to at items) f.place f.function 0 to [] v.0 is refl (root_leaf p wf l (Grow to at items) f.place f.function to v.0 is (here refl)))
            (held_carries p wf l g ss f (Grow to at items) 0 at [] [] x h (inl (refl, refl, refl, refl))) (From.made s n (From.by_grow to at items site refl sited refl refl) refl);
      })) j)
      (λ z k. elim (In-append z (added p l f.place o [] items (element_leaves site) f.cells ++ recopied p l f.place o x.value (element_leaves site) ss) ss k) [
        | inl a ↦ elim (In-append z (added p l f.place o [] items (element_leaves site) f.cells) _ a) [
          | inl b ↦ inl (grow_stores p wf l g ss f to at items s site o [] is sited (λ q. From.by_grow_anew to at s n items site refl sited refl) z b)
          | inr b ↦ inl (regrow_stores p wf l g ss f to at items s n site x is sited h z b)
        ]
        | inr b ↦ inr b
      ])
  effect {ss} {n} v (act_enters {f} {rest} to callee args h takes fn at calm is isf body) =
      enter {h = entering p l f (length to) callee args h takes fn} to args callee takes fn at calm is (begins_at p h fn _ f.place isf body)
      (call_hands p wf l g ss f (Call to callee args) callee args (length to) v.0 at by_call)
      (entered p wf l h takes (length (arguments callee args)) fn (handing p l f (length to) callee args) isf)
  effect {ss} {n} v (act_calls_outside {f} {rest} to callee args h takes fn flows ls given j at calm is isf ext carries gives next) =
      put {h = goes_on f to given j} (Call to callee args) at calm next (same_frame f to given j)
      (puts_or_keeps (Call to callee args) ss f to given refl (outside_puts p wf l g ss f n to args callee h takes fn flows ls given v.0 at is isf ext carries gives) j)
  effect {ss} {n} v (act_starts {f} {rest} callee args h takes fn j at calm is isf body next) =
      start {f' = at_place f j} {h = entering p l f 0 callee args h takes fn} args callee takes fn at calm is next (moved_frame f j) refl (begins_at p h fn _ f.place isf body)
      (call_hands p wf l g ss f (Go callee args) callee args 0 v.0 at by_go)
      (entered p wf l h takes (length (arguments callee args)) fn (handing p l f 0 callee args) isf)
  effect {ss} {n} v (act_starts_outside {f = f} callee args h takes fn flows j at calm is isf ext next) = put {h = at_place f j} (Go callee args) at calm next (moved_frame f j) (λ c k. inr (record { held = k; other = refl }))
  effect {ss} {n} v (act_keeps {f} {rest} callee args target j at calm is next) =
      keep {h = with_records (at_place f j) (record_of p l f callee args target ∷ f.records)} args callee (record_of p l f callee args target) at calm is next (record { function = refl; site = refl; panics = refl }) refl refl refl refl refl
      (call_hands p wf l g ss f (Defer callee args) callee args 0 v.0 at by_defer)
  effect {ss} {n} v (act_runs {f} {rest} d ds h takes fn at records target isf body) =
      enter_record {f' = with_records f ds} {h = resuming p l d h takes fn} d takes fn at (record { function = refl; site = refl; panics = refl }) refl refl records target (begins_at p h fn _ d.place isf body)
      (entered p wf l h takes d.count fn d.cells isf)
  effect {ss} {n} v (act_runs_outside {f = f} d ds h takes fn flows at records target isf ext) =
      move {h = with_records f ds} at (record { function = refl; site = refl; panics = refl }) refl refl (λ x m. subst (In x) (sym records) (there m))
  effect {ss} {n} v (act_runs_nothing {f = f} d ds fn at records target isf) =
      unwind {h = panicking (with_records f ds) fn} (record { fn = fn; is = isf; place = refl; function = refl; site = refl; records = λ x m. subst (In x) (sym records) (there m); cells = refl; panics = refl })
  effect {ss} {n} v (act_exits {f = f} j at calm records next) = put {h = at_place f j} RunDefers at calm next (moved_frame f j) (λ c k. inr (record { held = k; other = refl }))
  effect {ss} {n} v (act_leaves {f} {e} {rest} from to callee args j at calm site below next) =
      leave {h = goes_on e to (handed_back p l (result_labels p l e.place f.function) e.function e.place 0 to (leaving p l f from)) j} from to args callee at calm site below next (same_frame e to _ j)
      (leave_hands p wf l g ss f from v.0 at)
      (λ c m. elim (In-append c (handed_back p l (result_labels p l e.place f.function) e.function e.place 0 to (leaving p l f from)) _ m) [
        | inl a ↦ inl (gives_back p wf l to args callee e.place e.function f.function (leaving p l f from) v.1.0 below c a)
        | inr b ↦ inr (let k = In-kept c to e.cells b in record { held = k.0; other = k.1 })
      ])
  effect {ss} {n} v (act_leaves_deferred from at calm below) = leave_record from at below
  effect {ss} {n} v (act_ends from at calm) = leave_last
  effect {ss} {n} v (act_panics {f = f} fn isf calm) = unwind {h = panicking f fn} (record { fn = fn; is = isf; place = refl; function = refl; site = refl; records = λ x m. m; cells = refl; panics = refl })
  effect {ss} {n} v (act_drops {e = e} fn at panics records isf) = unwind_drop {h = panicking e fn} at (record { fn = fn; is = isf; place = refl; function = refl; site = refl; records = λ x m. m; cells = refl; panics = refl })
  effect {ss} {n} v (act_drops_last at panics records) = leave_last
