-- The laws on references: what is referred to, and who may hold a reference.
use Rattle.std.proofs.Common.{Bool, ◌≡◌, ℕ, ◌+◌, true, false, List, [], ◌∷◌, ◌++◌, length, Some, refl, sym, ap, ◌∙◌, subst, inl, inr, arith}
use Rattle.std.specs.Prelude.{◌⊎◌}
use Rattle.std.proofs.lemmas.Option.{slice_get_within}
use Rattle.argot_plain.specs.Lists.{In, here, there}
use Rattle.argot_plain.specs.Code.{Code, IsAt, IsFunction, Hands, by_call, by_go, by_defer, arguments, param_of}
use Rattle.argot_plain.specs.WellFormed.{WellFormed}
use Rattle.argot_plain.specs.Machine.{Labelling, Datum, Ref, Object, Cell, Slot, Deferred, Frame, View, is_path_of, element}
use Rattle.argot_plain.specs.Nodes.{Mark, mark, IsNode}
use Rattle.argot_plain.specs.Step.{handing, leaving}
use Rattle.argot_plain.specs.declared.functions.Function.{Function}
use Rattle.argot_plain.specs.declared.instructions.Callee.{Callee}
use Rattle.argot_plain.specs.declared.instructions.Kind.{Kind}
use Rattle.argot_plain.specs.declared.instructions.Kind.TheVariants.{Step, Read, Write, Grow, Assert, Call, Go, Defer, Leave, Goto}
use Rattle.argot_text.specs.declared.path.PathStep.{PathStep}
use Rattle.argot_facts.specs.Copies.{Copies}
use Rattle.argot_facts.specs.Edges.{Writes}
use Rattle.argot_facts.specs.Edges as Drawn
use Rattle.argot_facts.specs.Escapes.{Escapes}
use Rattle.argot_facts.specs.Escapes as Escaping
use Rattle.argot_facts.specs.Refers.{Holds, Targets, IsLive, NodeRefers, PlaceRefers, Location, loc, IsLivePlace}
use Rattle.argot_facts.specs.Refers as Rules
use Rattle.argot_sound.specs.Effects.{Effect, put, store, enter, enter_record, start, keep, leave, leave_record, leave_last, move, unwind, unwind_drop, Begins, Given, Puts, Keeps, HandsOn, Entered, GivesBack, Stores, StoresAt, Brings, Makes, Finds, FindsAt}
use Rattle.argot_sound.specs.Effects as From
use Rattle.argot_sound.specs.Laws.{EachFrame, FrameSingle, AllGo, InFrame, in_register, in_record, FrameDefined, FrameCovered, IsOwned, FrameOwned, SlotOwned}
use Rattle.argot_sound.proofs.Defined.{taken_from, not_entry}
use Rattle.argot_sound.proofs.Covered.{called_case}
use Rattle.argot_sound.proofs.Single.{goes_to_chosen}
use Rattle.argot_sound.proofs.Points.{copies_inner, live_place, points_to, targets_of, leaf_is_path, written_path}

-- two references that are equal
ref_is : (o o' : Object) (q q' : List PathStep) → Ref o q ≡ Ref o' q' → (o ≡ o') × (q ≡ q')
ref_is o o' q q' e = (cc, cc)

module _ (p : Code) (wf : WellFormed p) where
  -- what a value refers to, the mark refers to; and its site escapes, or this goroutine made the object
  abbrev pub Refs : ℕ → Mark → Datum → Type 0
  Refs g n v = (o : Object) (path : List PathStep) → v ≡ Ref o path → Holds p (NodeRefers n (loc o.site path)) × (Escapes p o.site ⊎ (o.maker ≡ g))

  refs_ref : (g : ℕ) (n : Mark) (v : Datum) (o : Object) (path : List PathStep) → Holds p (NodeRefers n (loc o.site path)) → Escapes p o.site ⊎ (o.maker ≡ g) → v ≡ Ref o path → Refs g n v
  refs_ref g n v o path h w e o' path' e' =
      let s = ref_is o o' path path' (sym e ∙ e') in
      (subst (λ z. Holds p (NodeRefers n (loc o'.site z))) s.1 (subst (λ (z : Object). Holds p (NodeRefers n (loc z.site path))) s.0 h), subst (λ (z : Object). Escapes p z.site ⊎ (z.maker ≡ g)) s.0 w)

  -- what an object that is reached through another escapes or has the same maker
  pub owned_through : (g : ℕ) (s o : Object) (q path : List PathStep) → Holds p (PlaceRefers (loc s.site q) (loc o.site path)) → Escapes p s.site ⊎ (s.maker ≡ g) → Escapes p o.site ⊎ (o.maker ≡ s.maker) → Escapes p o.site ⊎ (o.maker ≡ g)
  owned_through g s o q path h a (inl e) = inl e
  owned_through g s o q path h (inl e) (inr m) = inl (Escaping.by_location s.site q path e h)
  owned_through g s o q path h (inr n) (inr m) = inr (m ∙ n)

  stored_owner : (g : ℕ) (s o : Object) (q path : List PathStep) → Holds p (PlaceRefers (loc s.site q) (loc o.site path)) → Escapes p s.site ⊎ (s.maker ≡ g) → Escapes p o.site ⊎ (o.maker ≡ g) → Escapes p o.site ⊎ (o.maker ≡ s.maker)
  stored_owner g s o q path h a (inl e) = inl e
  stored_owner g s o q path h (inl e) (inr m) = inl (Escaping.by_location s.site q path e h)
  stored_owner g s o q path h (inr n) (inr m) = inr (m ∙ sym n)

  pub stays_in : (f h : Frame) → ((c : Cell) → In c h.cells → In c f.cells) → ((d : Deferred) → In d h.records → In d f.records) → (c : Cell) → InFrame c h → InFrame c f
  stays_in f h cells records c (in_register m) = in_register (cells c m)
  stays_in f h cells records c (in_record d m k) = in_record d (records d m) k

  pub in_cells_case : (P : Cell → Type 0) (h : Frame) → ((c : Cell) → In c h.cells → P c) → ((d : Deferred) → In d h.records → (c : Cell) → In c d.cells → P c) → (c : Cell) → InFrame c h → P c
  in_cells_case P h cells records c (in_register m) = cells c m
  in_cells_case P h cells records c (in_record d m k) = records d m c k

  module _ (l : Labelling) (g : ℕ) where
    module _ (f : Frame) (rest : List Frame) (ss : List Slot) (kind : Kind) (d : FrameDefined p f rest) (v : FrameCovered p f rest) (w : FrameOwned p g f rest) (so : (x : Slot) → In x ss → SlotOwned p x) (calm : f.panics ≡ false) (at : IsAt p f.place kind) where
      copies_on : (c : Cell) (k : ℕ) (q : List PathStep) → In c f.cells → Copies kind c.register c.leaf k q → (x : Location) → Holds p (NodeRefers c.atom.put x) → Holds p (NodeRefers (mark f.place k q) x)
      copies_on c k q m t x h =
          let a = taken_from p wf f rest c d calm (not_entry p wf kind f.place at (copies_inner p wf kind c.register c.leaf k q t)) m in
          Rules.copy f.function c.atom.put.place c.atom.put.index c.register c.atom.put.leaf kind v.place v.live at
          (subst (λ z. Copies kind c.register z k q) (sym (d.each calm c m).leaf) t) a h

      makes_refs : (k : ℕ) (q : List PathStep) (n : ℕ) → Makes p kind f k q n → Holds p (NodeRefers (mark f.place k q) (loc n []))
      makes_refs k q n (From.by_new to is first root) =
          subst (λ z. Holds p (NodeRefers (mark f.place z q) (loc n []))) (sym first) (subst (λ z. Holds p (NodeRefers (mark f.place 0 z) (loc n []))) (sym root) (Rules.new to f.function v.place v.live (subst (IsAt p f.place) is at)))
      makes_refs k q n (From.by_grow to at' items site is sited first root) =
          subst (λ z. Holds p (NodeRefers (mark f.place z q) (loc n []))) (sym first) (subst (λ z. Holds p (NodeRefers (mark f.place 0 z) (loc n []))) (sym root) (Rules.grow_fresh f.function to at' items site v.place v.live (subst (IsAt p f.place) is at) sited))
      makes_refs k q n (From.by_outside t out result site) =
          let is = subst (IsAt p f.place) out.is at in
          let targets = targets_of p wf g f rest (Call out.to out.callee out.args) out.callee out.args (length out.to) out.h out.takes d v w calm is by_call out.resolves in
          Rules.fresh_result f.function out.h t out.takes out.flows out.to out.args out.callee out.fn v.place is targets out.function out.outside result site

      -- a slot that the instruction finds: what its location refers to, the node does; and the object
      finds_refs : (k at' : ℕ) (q base path : List PathStep) (o : Object) → From.RefersTo at' f.cells o base → FindsAt p kind f.place k at' base q path → is_path_of p o.site path ≡ true
          → ((x : Location) → Holds p (PlaceRefers (loc o.site path) x) → Holds p (NodeRefers (mark f.place k q) x)) × (Escapes p o.site ⊎ (o.maker ≡ g))
      finds_refs k at' q base path o t (From.by_read to qs is first among) ok =
          let at'' = subst (IsAt p f.place) is at in
          let a = points_to p wf g f rest (Read to at' qs) at' o base d w calm at'' read_inner t in
          (λ x h. subst (λ z. Holds p (NodeRefers (mark f.place z q) x)) (sym first) (Rules.read f.function t.cell.atom.put.place t.cell.atom.put.index o.site to at' base qs v.place v.live at'' a.0 a.1 among ok h), a.2)
        where
          read_inner : (j : ℕ) → Read to at' qs ≡ Goto j → ⊥
          read_inner j e = cc
      finds_refs k at' q base path o t (From.by_grow to n items site is sited second among) ok =
          let at'' = subst (IsAt p f.place) is at in
          let a = points_to p wf g f rest (Grow to at' items) at' o base d w calm at'' grow_inner t in
          (λ x h. subst (λ z. Holds p (NodeRefers (mark f.place z q) x)) (sym second) (Rules.grow_read f.function t.cell.atom.put.place t.cell.atom.put.index o.site n to at' base items site v.place v.live at'' sited a.0 a.1 among ok h), a.2)
        where
          grow_inner : (j : ℕ) → Grow to at' items ≡ Goto j → ⊥
          grow_inner j e = cc

      brings_refs : (k : ℕ) (q : List PathStep) (x : Datum) → Brings p kind g ss f k q x → Refs g (mark f.place k q) x
      brings_refs k q x (From.no_reference none) = λ o path e. absurd (none o path e)
      brings_refs k q x (From.copied from held same copies) = λ o path e. let a = (w.each from (in_register held)).each o path (sym same ∙ e) in (copies_on from k q held copies (loc o.site path) a.0, a.1)
      brings_refs k q x (From.moved to from path base o is t ok first root same) =
          let at'' = subst (IsAt p f.place) is at in
          let a = points_to p wf g f rest (Step to from path) from o base d w calm at'' step_inner t in
          let h = Rules.step f.function t.cell.atom.put.place t.cell.atom.put.index to from v.place v.live at'' a.0 a.1 ok in
          subst (λ z. Refs g (mark f.place z q) x) (sym first) (subst (λ z. Refs g (mark f.place 0 z) x) (sym root) (refs_ref g (mark f.place 0 []) x o (base ++ path) h a.2 same))
        where
          step_inner : (j : ℕ) → Step to from path ≡ Goto j → ⊥
          step_inner j e = cc
      brings_refs k q x (From.tested to from target base o is t ok first root same) =
          let at'' = subst (IsAt p f.place) is at in
          let a = points_to p wf g f rest (Assert to from target) from o base d w calm at'' assert_inner t in
          let h = Rules.assert f.function t.cell.atom.put.place t.cell.atom.put.index to from target v.place v.live at'' a.0 a.1 ok in
          subst (λ z. Refs g (mark f.place z q) x) (sym first) (subst (λ z. Refs g (mark f.place 0 z) x) (sym root) (refs_ref g (mark f.place 0 []) x o base h a.2 same))
        where
          assert_inner : (j : ℕ) → Assert to from target ≡ Goto j → ⊥
          assert_inner j e = cc
      brings_refs k q x (From.made n serial makes same) = refs_ref g (mark f.place k q) x (record { site = n; maker = g; serial = serial }) [] (makes_refs k q n makes) (inr refl) same
      brings_refs k q x (From.named to m s ident at' is global first root same) =
          let h = Rules.global f.function to m ident at' v.place v.live (subst (IsAt p f.place) is at) global in
          subst (λ z. Refs g (mark f.place z q) x) (sym first) (subst (λ z. Refs g (mark f.place 0 z) x) (sym root) (refs_ref g (mark f.place 0 []) x (record { site = s; maker = 0; serial = 0 }) [] h (inl (Escaping.by_variable m ident at' global)) same))
      brings_refs k q x (From.found_there slot fs same) = λ o path e.
          let y = so slot fs.held in
          let wr = subst (λ (z : Object). Writes p slot.atom.put z.site fs.path) fs.same (subst (λ z. Writes p slot.atom.put slot.object.site z) fs.there y.written) in
          let a = finds_refs k fs.at q fs.base fs.path fs.object fs.refers fs.finds (written_path p slot.atom.put fs.object.site fs.path wr) in
          let b = y.each o path (sym same ∙ e) in
          let h1 = subst (λ z. Holds p (PlaceRefers (loc slot.object.site z) (loc o.site path))) fs.there b.0 in
          let h2 = subst (λ (z : Object). Holds p (PlaceRefers (loc z.site fs.path) (loc o.site path))) fs.same h1 in
          (a.0 (loc o.site path) h2, owned_through g fs.object o fs.path path h2 a.1 (subst (λ (z : Object). Escapes p o.site ⊎ (o.maker ≡ z.maker)) fs.same b.1))
      brings_refs k q x (From.grown to at' items is first b) = λ o path e.
          let a = brings_refs 2 q x b o path e in
          (subst (λ z. Holds p (NodeRefers (mark f.place z q) (loc o.site path))) (sym first) (Rules.grow_copy f.function to at' items v.place v.live (subst (IsAt p f.place) is at) a.0), a.1)

      -- what is put
      pub given_owned : (k : ℕ) (q : List PathStep) (c : Cell) → Given p l kind g ss f k q c.atom → IsOwned p g c.atom.put c.atom.value
      given_owned k q c h = subst (λ n. IsOwned p g n c.atom.value) (sym h.put) (record { node = h.node; each = brings_refs k q c.atom.value h.value })

      -- where it is stored
      stores_where : (k : ℕ) (q : List PathStep) (o : Object) (path : List PathStep) → StoresAt p kind g f k q o path → is_path_of p o.site path ≡ true
          → Writes p (mark f.place k q) o.site path × (Escapes p o.site ⊎ (o.maker ≡ g)) × ((x : Location) → Holds p (NodeRefers (mark f.place k q) x) → Holds p (PlaceRefers (loc o.site path) x))
      stores_where k q o path (From.by_write at' from base is t first) ok =
          let at'' = subst (IsAt p f.place) is at in
          let a = points_to p wf g f rest (Write at' from) at' o base d w calm at'' write_inner t in (
            subst (λ z. Writes p (mark f.place z q) o.site (base ++ q)) (sym first) (Drawn.by_write t.cell.atom.put.place t.cell.atom.put.index at' from (live_place p wf f rest v) at'' a.0 a.1 ok),
            a.2,
            λ x h. Rules.write f.place f.function t.cell.atom.put.place t.cell.atom.put.index at' from v.place v.live at'' a.0 a.1 ok (subst (λ z. Holds p (NodeRefers (mark f.place z q) x)) first h),
          )
        where
          write_inner : (j : ℕ) → Write at' from ≡ Goto j → ⊥
          write_inner j e = cc
      stores_where k q o path (From.by_grow to at' items base is t first) ok =
          let at'' = subst (IsAt p f.place) is at in
          let a = points_to p wf g f rest (Grow to at' items) at' o base d w calm at'' grow_inner t in
          let h0 : Holds p (NodeRefers (mark f.place 0 []) (loc o.site base)) = Rules.copy f.function t.cell.atom.put.place t.cell.atom.put.index at' [] (Grow to at' items) v.place v.live at'' (inl (refl, refl, refl, refl)) a.0 a.1 in (
            subst (λ z. Writes p (mark f.place z q) o.site (element base q)) (sym first) (Drawn.by_grow to at' items (live_place p wf f rest v) at'' h0 ok),
            a.2,
            λ x h. Rules.grow_write f.place f.function to at' items v.place v.live at'' h0 ok (subst (λ z. Holds p (NodeRefers (mark f.place z q) x)) first h),
          )
        where
          grow_inner : (j : ℕ) → Grow to at' items ≡ Goto j → ⊥
          grow_inner j e = cc
      stores_where k q o path (From.by_grow_anew to at' n serial items site is sited first) ok =
          let at'' = subst (IsAt p f.place) is at in
          let h0 : Holds p (NodeRefers (mark f.place 0 []) (loc n [])) = Rules.grow_fresh f.function to at' items site v.place v.live at'' sited in (
            subst (λ z. Writes p (mark f.place z q) n (element [] q)) (sym first) (Drawn.by_grow to at' items (live_place p wf f rest v) at'' h0 ok),
            inr refl,
            λ x h. Rules.grow_write f.place f.function to at' items v.place v.live at'' h0 ok (subst (λ z. Holds p (NodeRefers (mark f.place z q) x)) first h),
          )

      pub stores_made : (x : Slot) → Stores p l kind g ss f x → Escapes p x.object.site ⊎ (x.object.maker ≡ g)
      stores_made x st = (stores_where st.index st.leaf x.object x.path st.stores (leaf_is_path p x.object.site x.path st.is_leaf)).1

      pub stores_owned : (x : Slot) → Stores p l kind g ss f x → SlotOwned p x
      stores_owned x st =
          let a = stores_where st.index st.leaf x.object x.path st.stores (leaf_is_path p x.object.site x.path st.is_leaf) in
          record {
            node = subst (IsNode p) (sym st.given.put) st.given.node;
            written = subst (λ n. Writes p n x.object.site x.path) (sym st.given.put) a.0;
            each = λ o path e.
                let y = brings_refs st.index st.leaf x.atom.value st.given.value o path e in
                let h = a.2 (loc o.site path) y.0 in
                (h, stored_owner g x.object o x.path path h a.1 y.1);
          }

    -- what stays in a frame
    stays_owned : (f h : Frame) (rest rest' : List Frame) → ((c : Cell) → In c h.cells → In c f.cells) → ((d : Deferred) → In d h.records → In d f.records) → FrameOwned p g f rest → FrameOwned p g h rest'
    stays_owned f h rest rest' cells records w = record { each = λ c m. w.each c (stays_in f h cells records c m) }

  module _ (l : Labelling) where
    -- a parameter
    entered_owned : (g i n h : ℕ) (kind : Kind) (callee : Callee) (args : List ℕ) (takes : Bool) (count : ℕ) (fn : Function) (cells : List Cell) (c : Cell) → IsAt p i kind → Hands kind callee args n → Holds p (Targets i h takes) → IsFunction p h fn → count ≡ length (arguments callee args) → AllGo p callee args cells h
        → (a : Entered p l takes count fn cells c) → a.from.atom.put ≡ mark i (n + a.from.register) a.from.leaf → IsOwned p g a.from.atom.put a.from.atom.value → IsOwned p g c.atom.put c.atom.value
    entered_owned g i n h kind callee args takes count fn cells c at hands targets is counted goes a handed w = record {
      node = a.again.node;
      each = λ o path e.
          let x = w.each o path (sym a.again.value ∙ e) in
          let h1 = subst (λ m. Holds p (NodeRefers m (loc o.site path))) handed x.0 in
          let h2 = subst (λ q. Holds p (NodeRefers (mark i (n + a.from.register) q) (loc o.site path))) (sym a.leaf) h1 in
          let param = subst (λ z. param_of takes z a.from.register ≡ Some c.register) counted a.param in
          let node = subst (IsNode p) a.put a.again.node in
          (subst (λ m. Holds p (NodeRefers m (loc o.site path))) (sym a.put) (Rules.param i h n a.from.register takes kind callee args fn at hands targets param (goes.each a.from a.held o path (sym a.again.value ∙ e)) is refl node h2), x.1);
    }

    module _ (g : ℕ) where
      handed_put : (f : Frame) (kind : Kind) (ss : List Slot) (n : ℕ) (c : Cell) → HandsOn p l kind g ss f n c → c.atom.put ≡ mark f.place (n + c.register) c.leaf
      handed_put f kind ss n c h = h.given.put

      -- a result
      back_owned : (f e : Frame) (rest : List Frame) (ss : List Slot) (from to : List ℕ) (callee : Callee) (takes : Bool) (args : List ℕ) (c : Cell) → FrameDefined p f (e ∷ rest) → FrameCovered p f (e ∷ rest) → FrameOwned p g f (e ∷ rest) → ((x : Slot) → In x ss → SlotOwned p x) → f.panics ≡ false
          → IsAt p f.place (Leave from) → IsAt p e.place (Call to callee args) → Holds p (Targets e.place f.function takes) → ((x : Cell) → In x (leaving p l f from) → HandsOn p l (Leave from) g ss f 0 x)
          → GivesBack p l to e.place f.function (leaving p l f from) c → IsOwned p g c.atom.put c.atom.value
      back_owned f e rest ss from to callee takes args c d v w so calm at below targets hands a =
          subst (λ n. IsOwned p g n c.atom.value) (sym a.put) (record { node = a.node; each = back_case a.value })
        where
          back_case : From.IsNoReference c.atom.value ⊎ ((x : Cell) × From.HandsBack (leaving p l f from) a.index c.leaf x × (c.atom.value ≡ x.atom.value)) → Refs g (mark e.place a.index c.leaf) c.atom.value
          back_case (inl none) o path same = absurd (none o path same)
          back_case (inr b) o path same =
              let x = b.0 in
              let fn = v.place.fn in
              let hd = hands x b.1.held in
              let y = (given_owned l g f (e ∷ rest) ss (Leave from) d v w so calm at (0 + x.register) x.leaf x hd.given).each o path (sym b.2 ∙ same) in
              let z : 0 + x.register ≡ x.register = omega arith in
              let h1 = subst (λ m. Holds p (NodeRefers m (loc o.site path))) hd.given.put y.0 in
              let h2 = subst (λ k. Holds p (NodeRefers (mark f.place k x.leaf) (loc o.site path))) (z ∙ b.1.index) h1 in
              let h3 = subst (λ q. Holds p (NodeRefers (mark f.place a.index q) (loc o.site path))) b.1.leaf h2 in
              let h4 = subst (λ n. Holds p (NodeRefers (mark n a.index c.leaf) (loc o.site path))) (wf.leaves_at_leave.alone f.place f.function from fn at v.place v.place.is) h3 in
              (Rules.result f.function takes to args callee fn below targets v.place.is (v.body fn v.place.is) (slice_get_within to a.index c.register a.result) a.node h4, y.1)

      put_owned : (f h : Frame) (rest : List Frame) (ss : List Slot) (kind : Kind) → FrameDefined p f rest → FrameCovered p f rest → FrameOwned p g f rest → ((x : Slot) → In x ss → SlotOwned p x) → f.panics ≡ false → IsAt p f.place kind
          → ((c : Cell) → In c h.cells → Puts p l kind g ss f c ⊎ Keeps kind f c) → h.records ≡ f.records → FrameOwned p g h rest
      put_owned f h rest ss kind d v w so calm at cells records = record {
        each = in_cells_case (λ c. IsOwned p g c.atom.put c.atom.value) h
            (λ c m. elim (cells c m) [ inl a ↦ given_owned l g f rest ss kind d v w so calm at a.index c.leaf c a.given | inr b ↦ w.each c (in_register b.held) ])
            (λ x m c k. w.each c (in_record x (subst (In x) records m) k));
      }

      -- each step keeps it, by the laws so far
      pub keeps_owned : {old new : View} {started : List (List Frame)} → Effect p l g old new started → EachFrame FrameSingle old.frames → EachFrame (FrameCovered p) old.frames → EachFrame (FrameDefined p) old.frames → ((x : Slot) → In x old.slots → SlotOwned p x)
          → EachFrame (FrameOwned p g) old.frames → EachFrame (FrameOwned p g) new.frames
      keeps_owned (put {ss = ss} {f = f} {h = h} {rest = rest} kind at calm onward same cells) u v d so w = (put_owned f h rest ss kind d.0 v.0 w.0 so calm at cells same.records, w.1)
      keeps_owned (store {ss = ss} {f = f} {h = h} {rest = rest} kind at calm onward same cells slots) u v d so w = (put_owned f h rest ss kind d.0 v.0 w.0 so calm at cells same.records, w.1)
      keeps_owned (enter {ss = ss} {f = f} {h = h} {rest = rest} to args callee takes fn at calm is b hands cells) u v d so w = (
        record {
          each = in_cells_case (λ c. IsOwned p g c.atom.put c.atom.value) h
              (λ c m. let a = cells c m in let hd = hands a.from a.held in
              entered_owned g f.place (length to) h.function (Call to callee args) callee args takes (length (arguments callee args)) fn (handing p l f (length to) callee args) c at by_call
              (targets_of p wf g f rest (Call to callee args) callee args (length to) h.function takes d.0 v.0 w.0 calm at by_call is) b.is refl (goes_to_chosen p wf l f rest (Call to callee args) callee args (length to) h.function takes u.0 v.0.place at by_call is) a hd.given.put
              (given_owned l g f rest ss (Call to callee args) d.0 v.0 w.0 so calm at (length to + a.from.register) a.from.leaf a.from hd.given))
              (λ x m c k. absurd (elim (subst (In x) b.none m) [ ]));
        },
        w,
      )
      keeps_owned (enter_record {f = f} {f' = f'} {h = h} {rest = rest} y takes fn at same place cells records target b again) u v d so w =
          let m0 = subst (In y) (sym records) (here refl) in
          let rc = v.0.records y m0 in (
            record {
              each = in_cells_case (λ c. IsOwned p g c.atom.put c.atom.value) h
                  (λ c m. let a = again c m in
                  let z : a.from.register ≡ 0 + a.from.register = omega arith in
                  entered_owned g y.place 0 h.function (Defer rc.callee rc.args) rc.callee rc.args takes y.count fn y.cells c rc.is by_defer (rc.targets h.function takes target) b.is rc.count (rc.chosen h.function takes target) a
                  (rc.each a.from a.held ∙ ap (λ k. mark y.place k a.from.leaf) z) (w.0.each a.from (in_record y m0 a.held)))
                  (λ x m c k. absurd (elim (subst (In x) b.none m) [ ]));
            },
            (stays_owned l g f f' rest rest (λ c m. subst (In c) cells m) (λ x m. subst (In x) (sym records) (there m)) w.0, w.1),
          )
      keeps_owned (start {f = f} {f' = f'} {rest = rest} args callee takes fn at calm is onward same cells b hands again) u v d so w =
          (stays_owned l g f f' rest rest (λ c m. subst (In c) cells m) (λ x m. subst (In x) same.records m) w.0, w.1)
      keeps_owned (keep {ss = ss} {f = f} {h = h} {rest = rest} args callee y at calm is onward same cells records place count all hands) u v d so w = (
        record {
          each = in_cells_case (λ c. IsOwned p g c.atom.put c.atom.value) h (λ c m. w.0.each c (in_register (subst (In c) cells m)))
              (λ x m c k. kept_owned x (subst (In x) records m) c k);
        },
        w.1,
      )
        where
          kept_owned : (x : Deferred) → In x (y ∷ f.records) → (c : Cell) → In c x.cells → IsOwned p g c.atom.put c.atom.value
          kept_owned x (here e) c k = let hd = hands c (subst (λ (z : Deferred). In c z.cells) e k) in given_owned l g f rest ss (Defer callee args) d.0 v.0 w.0 so calm at (0 + c.register) c.leaf c hd.given
          kept_owned x (there m) c k = w.0.each c (in_record x m k)
      keeps_owned (leave {ss = ss} {f = f} {e = e} {h = h} {rest = rest} from to args callee at calm site below onward same hands cells) u v d so w =
          let called = called_case p wf f e rest to callee args below v.0.called v.1.0 in (
            record {
              each = in_cells_case (λ c. IsOwned p g c.atom.put c.atom.value) h
                  (λ c m. elim (cells c m) [ inl a ↦ back_owned f e rest ss from to callee called.0 args c d.0 v.0 w.0 so calm at below called.1 hands a | inr b ↦ w.1.0.each c (in_register b.held) ])
                  (λ x m c k. w.1.0.each c (in_record x (subst (In x) same.records m) k));
            },
            w.1.1,
          )
      keeps_owned (leave_record from at below) u v d so w = w.1
      keeps_owned leave_last u v d so w = tt
      keeps_owned (move {f = f} {h = h} {rest = rest} at same place cells records) u v d so w = (stays_owned l g f h rest rest (λ c m. subst (In c) cells m) records w.0, w.1)
      keeps_owned (unwind {f = f} {h = h} {rest = rest} b) u v d so w = (stays_owned l g f h rest rest (λ c m. subst (In c) b.cells m) b.records w.0, w.1)
      keeps_owned (unwind_drop {f = f} {e = e} {h = h} {rest = rest} at b) u v d so w = (stays_owned l g e h rest rest (λ c m. subst (In c) b.cells m) b.records w.1.0, w.1.1)

      -- what a Go hands on escapes, so that any goroutine may hold it
      pub go_owned : (g' : ℕ) (f : Frame) (rest : List Frame) (callee : Callee) (args : List ℕ) (k : ℕ) (q : List PathStep) (n : Mark) (x : Datum) → FrameCovered p f rest → IsAt p f.place (Go callee args) → n ≡ mark f.place k q → IsOwned p g n x → IsOwned p g' n x
      go_owned g' f rest callee args k q n x v at same w = record {
        node = w.node;
        each = λ o path e. let y = w.each o path e in (y.0, inl (Escaping.by_go f.place k q path callee args (live_place p wf f rest v) at (subst (λ m. Holds p (NodeRefers m (loc o.site path))) same y.0)));
      }

      pub starts_owned : (g' : ℕ) {old new : View} {started : List (List Frame)} → Effect p l g old new started → EachFrame FrameSingle old.frames → EachFrame (FrameCovered p) old.frames → EachFrame (FrameDefined p) old.frames → ((x : Slot) → In x old.slots → SlotOwned p x) → EachFrame (FrameOwned p g) old.frames
          → (frames : List Frame) → In frames started → EachFrame (FrameOwned p g') frames
      starts_owned g' (start {ss = ss} {f = f} {f' = f'} {h = h} {rest = rest} args callee takes fn at calm is onward same cells b hands again) u v d so w frames (here e) = subst (EachFrame (FrameOwned p g')) (sym e) (
        record {
          each = in_cells_case (λ c. IsOwned p g' c.atom.put c.atom.value) h
              (λ c m. let a = again c m in let hd = hands a.from a.held in
              entered_owned g' f.place 0 h.function (Go callee args) callee args takes (length (arguments callee args)) fn (handing p l f 0 callee args) c at by_go
              (targets_of p wf g f rest (Go callee args) callee args 0 h.function takes d.0 v.0 w.0 calm at by_go is) b.is refl (goes_to_chosen p wf l f rest (Go callee args) callee args 0 h.function takes u.0 v.0.place at by_go is) a hd.given.put
              (go_owned g' f rest callee args (0 + a.from.register) a.from.leaf a.from.atom.put a.from.atom.value v.0 at hd.given.put
              (given_owned l g f rest ss (Go callee args) d.0 v.0 w.0 so calm at (0 + a.from.register) a.from.leaf a.from hd.given)))
              (λ x m c k. absurd (elim (subst (In x) b.none m) [ ]));
        },
        tt,
      )
      starts_owned g' (start args callee takes fn at calm is onward same cells b hands again) u v d so w frames (there m) = elim m [ ]
      starts_owned g' _ u v d so w frames m = elim m [ ]

      -- what is stored
      pub keeps_slots_owned : {old new : View} {started : List (List Frame)} → Effect p l g old new started → EachFrame (FrameCovered p) old.frames → EachFrame (FrameDefined p) old.frames → EachFrame (FrameOwned p g) old.frames
          → ((x : Slot) → In x old.slots → SlotOwned p x) → (x : Slot) → In x new.slots → SlotOwned p x
      keeps_slots_owned (store {ss = ss} {f = f} {h = h} {rest = rest} kind at calm onward same cells slots) v d w so x m =
          elim (slots x m) [ inl a ↦ stores_owned l g f rest ss kind d.0 v.0 w.0 so calm at x a | inr b ↦ so x b ]
      keeps_slots_owned (put kind at calm onward same cells) v d w so x m = so x m
      keeps_slots_owned (enter to args callee takes fn at calm is b hands cells) v d w so x m = so x m
      keeps_slots_owned (enter_record y takes fn at same place cells records target b again) v d w so x m = so x m
      keeps_slots_owned (start args callee takes fn at calm is onward same cells b hands again) v d w so x m = so x m
      keeps_slots_owned (keep args callee y at calm is onward same cells records place count all hands) v d w so x m = so x m
      keeps_slots_owned (leave from to args callee at calm site below onward same hands cells) v d w so x m = so x m
      keeps_slots_owned (leave_record from at below) v d w so x m = so x m
      keeps_slots_owned leave_last v d w so x m = so x m
      keeps_slots_owned (move at same place cells records) v d w so x m = so x m
      keeps_slots_owned (unwind b) v d w so x m = so x m
      keeps_slots_owned (unwind_drop at b) v d w so x m = so x m
