-- The law of joined lists: a realizable list leads from each label to where its atom was last put.
use Rattle.std.proofs.Common.{◌≡◌, ℕ, ◌+◌, ◌<◌, Bool, true, false, List, [], ◌∷◌, ◌++◌, length, Option, Some, None, refl, sym, ap, ◌∙◌, subst, inl, inr, arith}
use Rattle.std.specs.Prelude.{◌⊎◌, ◌==◌, if◌then◌else◌}
use Rattle.std.proofs.lemmas.Option.{slice_get_within}
use Rattle.argot_plain.specs.Lists.{In, here, there}
use Rattle.argot_plain.specs.Code.{Code, IsAt, IsFunction, Hands, by_call, by_go, by_defer, arguments, param_of}
use Rattle.argot_plain.specs.Counts.{is_source, is_source_place, cleans}
use Rattle.argot_plain.specs.Leak.{LooksInside, an_external}
use Rattle.argot_plain.specs.WellFormed.{WellFormed}
use Rattle.argot_plain.specs.Machine.{Labelling, Datum, Object, Cell, Slot, Found, Deferred, Frame, View, is_path_of, element}
use Rattle.argot_plain.specs.Nodes.{Mark, mark, IsNode, HasLeaf, of_kind, of_items, of_elements, of_entry}
use Rattle.argot_plain.specs.Outside.{Resolves, Reached, Bears, itself, inside, SomeArgumentBears}
use Rattle.argot_plain.specs.Step.{handing, leaving}
use Rattle.argot_plain.specs.declared.functions.Function.{Function}
use Rattle.argot_plain.specs.declared.instructions.Callee.{Callee}
use Rattle.argot_plain.specs.declared.instructions.Kind.{Kind}
use Rattle.argot_plain.specs.declared.instructions.Kind.TheVariants.{Read, Grow, Call, Go, Defer, Leave, Goto}
use Rattle.argot_text.specs.declared.path.PathStep.{PathStep}
use Rattle.argot_facts.specs.declared.graphs.EdgeKind.{EdgeKind}
use Rattle.argot_facts.specs.declared.graphs.EdgeKind.TheVariants.{Plain, Call as Enters, Return as Returns, Reset}
use Rattle.argot_facts.specs.Copies.{Takes}
use Rattle.argot_facts.specs.Edges.{MarkEdge, Moves, Writes, IsRead, MayMeet, ReadAt, CallsLikewise}
use Rattle.argot_facts.specs.Edges as Drawn
use Rattle.argot_facts.specs.Escapes.{Escapes}
use Rattle.argot_facts.specs.Flows.{IsSource}
use Rattle.argot_facts.specs.Flows as Flowing
use Rattle.argot_facts.specs.Follows.{Follows}
use Rattle.argot_facts.specs.Lists.{Leads, stay, open_calls, after, after_all}
use Rattle.argot_facts.specs.Lists as Paths
use Rattle.argot_facts.specs.Refers.{Holds, Targets}
use Rattle.argot_sound.specs.Effects.{Effect, put, store, enter, enter_record, start, keep, leave, leave_record, leave_last, move, unwind, unwind_drop, Puts, Keeps, HandsOn, Entered, GivesBack, BackLabel, HandsBack, Stores, Carries, Simply, simply_taken, simply_begins, Finds, FindsAt, CallsOutside}
use Rattle.argot_sound.specs.Effects as From
use Rattle.argot_sound.specs.Laws.{EachFrame, in_register, in_record, FrameDefined, FrameCovered, FrameOwned, IsOwned, SlotOwned, TopFollows, IsPrefix, IsBegun, IsJoined, IsJoinedWithin, FrameJoined, call_sites}
use Rattle.argot_sound.proofs.Lists.{same_test, first_of_list, in_of_get}
use Rattle.argot_sound.proofs.Defined.{taken_from, not_entry}
use Rattle.argot_sound.proofs.Covered.{called_case}
use Rattle.argot_sound.proofs.Points.{takes_inner, live_place, points_to, targets_of, written_path}
use Rattle.argot_sound.proofs.Owned.{given_owned, stays_in, in_cells_case}
use Rattle.argot_sound.proofs.Reached.{reaches}
use Rattle.argot_sound.proofs.Handing.{call_hands}

-- one more edge at the end of a list
leads_on : {N : Type 0} (E : N → EdgeKind → N → Type 0) {a b c : N} {ks : List EdgeKind} (k : EdgeKind) → Leads E a ks b → E b k c → Leads E a (ks ++ k ∷ []) c
leads_on E k stay e = Paths.go e stay
leads_on E k (Paths.go d x) e = Paths.go d (leads_on E k x e)

after_on : (ks : List EdgeKind) (k : EdgeKind) (o : Option (List ℕ)) (os : List ℕ) → after_all ks o ≡ Some os → after_all (ks ++ k ∷ []) o ≡ after k os
after_on [] k None os h = cc
after_on [] k (Some x) os h = let e : x ≡ os = cc in ap (after k) e
after_on (j ∷ ks) k None os h = cc
after_on (j ∷ ks) k (Some x) os h = after_on ks k (after j x) os h

return_prefix : (c : ℕ) (sites calls : List ℕ) → IsPrefix calls (c ∷ sites) → (os : List ℕ) × (after (Returns c) calls ≡ Some os) × IsPrefix os sites
return_prefix c sites [] h = ([], refl, tt)
return_prefix c sites (o ∷ os) h =
    let e : (o == c) ≡ true = ap (λ x. x == c) h.0 ∙ same_test c in
    (os, ap (λ b. if b then Some os else None) e, h.1)

sites_on : (f h : Frame) (rest : List Frame) → h.site ≡ f.site → call_sites h rest ≡ call_sites f rest
sites_on f h [] e = ap (λ x. x ∷ []) e
sites_on f h (b ∷ rest) e = ap (λ x. x ∷ call_sites b rest) e

-- the first leaf where there is one
first_leaf : (p : Code) (i k a : ℕ) (q : List PathStep) → HasLeaf p i k a q → (q0 : List PathStep) × HasLeaf p i k 0 q0
first_leaf p i k a q (of_kind g r kind belongs at is get) = let x = first_of_list _ q (in_of_get _ a q get) in (x.0, of_kind g r kind belongs at is x.1)
first_leaf p i k a q (of_items n to at items site is sited one get) = let x = first_of_list _ q (in_of_get _ a q get) in (x.0, of_items n to at items site is sited one x.1)
first_leaf p i k a q (of_elements n to at items site is sited two get) = let x = first_of_list _ q (in_of_get _ a q get) in (x.0, of_elements n to at items site is sited two x.1)
first_leaf p i k a q (of_entry g e within get) = let x = first_of_list _ q (in_of_get _ a q get) in (x.0, of_entry g e within x.1)

module _ (p : Code) (wf : WellFormed p) (l : Labelling) where
  -- the edge at the end, and what it leaves of the open calls
  pub joined_on : (s : Mark) (calls os : List ℕ) (m n : Mark) (k : EdgeKind) → IsJoined p l s calls m → MarkEdge p l.problem m k n → after k calls ≡ Some os → IsJoined p l s os n
  joined_on s calls os m n k j e a = record {
    begun = j.begun;
    kinds = j.kinds ++ k ∷ [];
    leads = leads_on (MarkEdge p l.problem) k j.leads e;
    realizable = after_on j.kinds k (Some []) calls j.realizable ∙ a;
  }

  pub joined_plain : (s : Mark) (sites : List ℕ) (m n : Mark) → IsJoinedWithin p l s sites m → MarkEdge p l.problem m Plain n → IsJoinedWithin p l s sites n
  joined_plain s sites m n j e = record { calls = j.calls; joined = joined_on s j.calls j.calls m n Plain j.joined e refl; suffix = j.suffix }

  joined_enter : (s : Mark) (c : ℕ) (sites : List ℕ) (m n : Mark) → IsJoinedWithin p l s sites m → MarkEdge p l.problem m (Enters c) n → IsJoinedWithin p l s (c ∷ sites) n
  joined_enter s c sites m n j e = record { calls = c ∷ j.calls; joined = joined_on s j.calls (c ∷ j.calls) m n (Enters c) j.joined e refl; suffix = (refl, j.suffix) }

  joined_return : (s : Mark) (c : ℕ) (sites : List ℕ) (m n : Mark) → IsJoinedWithin p l s (c ∷ sites) m → MarkEdge p l.problem m (Returns c) n → IsJoinedWithin p l s sites n
  joined_return s c sites m n j e = let r = return_prefix c sites j.calls j.suffix in record { calls = r.0; joined = joined_on s j.calls r.0 m n (Returns c) j.joined e r.1; suffix = r.2 }

  pub joined_reset : (s : Mark) (calls sites : List ℕ) (m n : Mark) → IsJoined p l s calls m → MarkEdge p l.problem m Reset n → IsJoinedWithin p l s sites n
  joined_reset s calls sites m n j e = record { calls = []; joined = joined_on s calls [] m n Reset j e refl; suffix = tt }

  -- a label that begins at its own mark
  begins_here : (s n : Mark) (sites : List ℕ) → IsBegun p l s → s ≡ n → IsJoinedWithin p l s sites n
  begins_here s n sites b e = record {
    calls = [];
    joined = record { begun = b; kinds = []; leads = subst (λ z. Leads (MarkEdge p l.problem) s [] z) e stay; realizable = refl };
    suffix = tt;
  }

  begun_outside : (s : Mark) (i k : ℕ) (q : List PathStep) (to args : List ℕ) (callee : Callee) (h : ℕ) (takes : Bool) → IsAt p i (Call to callee args) → Holds p (Targets i h takes) → is_source p l.problem i h ≡ true → k < length to → s ≡ mark i k q → IsBegun p l s
  begun_outside s i k q to args callee h takes at targets source within e = subst (IsBegun p l) (sym e) (inl (Flowing.by_call to args callee h takes at targets source within))

  begun_place : (s : Mark) (i k : ℕ) (q : List PathStep) → is_source_place l.problem i ≡ true → k ≡ 0 → IsNode p (mark i k q) → s ≡ mark i k q → IsBegun p l s
  begun_place s i k q source first node e = subst (IsBegun p l) (sym (e ∙ ap (λ n. mark i n q) first)) (inl (Flowing.by_place source (subst (λ n. IsNode p (mark i n q)) first node)))

  module _ (g : ℕ) where
    module _ (f : Frame) (rest : List Frame) (ss : List Slot) (kind : Kind) (d : FrameDefined p f rest) (v : FrameCovered p f rest) (w : FrameOwned p g f rest) (so : (x : Slot) → In x ss → SlotOwned p x)
        (sm : (x : Slot) → In x ss → x.object.maker ≡ g → Escapes p x.object.site ⊎ Follows p x.atom.put.place f.place)
        (sj : (x : Slot) → In x ss → (y : Mark) → In y x.atom.labels → (calls : List ℕ) × IsJoined p l y calls x.atom.put)
        (j : FrameJoined p l f rest) (calm : f.panics ≡ false) (at : IsAt p f.place kind) where
      -- the edge from where an atom was last put to a node that takes it
      edge_plain : (k : ℕ) (q : List PathStep) (c : Cell) → IsNode p (mark f.place k q) → In c f.cells → Takes l.problem kind c.register c.leaf k q → MarkEdge p l.problem c.atom.put Plain (mark f.place k q)
      edge_plain k q c node m t =
          let a = taken_from p wf f rest c d calm (not_entry p wf kind f.place at (takes_inner p wf l.problem kind c.register c.leaf k q t)) m in
          record {
            from = (w.each c (in_register m)).node;
            to = node;
            moves = Drawn.plain {d = c.atom.put.place} {j = c.atom.put.index} c.register kind (live_place p wf f rest v) at (subst (λ z. Takes l.problem kind c.register z k q) (sym (d.each calm c m).leaf) t) a;
          }

      label_taken : (k : ℕ) (q : List PathStep) (s : Mark) (c : Cell) → IsNode p (mark f.place k q) → In c f.cells → In s c.atom.labels → Takes l.problem kind c.register c.leaf k q → IsJoinedWithin p l s (call_sites f rest) (mark f.place k q)
      label_taken k q s c node m i t = joined_plain s (call_sites f rest) c.atom.put _ (j.each c (in_register m) s i) (edge_plain k q c node m t)

      -- a label that is handed on
      pub label_handed : (n : ℕ) (c : Cell) → HandsOn p l kind g ss f n c → (s : Mark) → In s c.atom.labels → IsJoinedWithin p l s (call_sites f rest) (mark f.place (n + c.register) c.leaf)
      label_handed n c h s i = handed_case (h.simply s i)
        where
          handed_case : Simply p l kind f (n + c.register) c.leaf s → IsJoinedWithin p l s (call_sites f rest) (mark f.place (n + c.register) c.leaf)
          handed_case (simply_taken from m k t) = label_taken (n + c.register) c.leaf s from h.given.node m k t
          handed_case (simply_begins b e) = begins_here s (mark f.place (n + c.register) c.leaf) (call_sites f rest) (inr b) e

      is_read : (k at' : ℕ) (q base path : List PathStep) (o : Object) → From.RefersTo at' f.cells o base → FindsAt p kind f.place k at' base q path → is_path_of p o.site path ≡ true → IsRead p (mark f.place k q) o.site path × (Escapes p o.site ⊎ (o.maker ≡ g))
      is_read k at' q base path o t (From.by_read to qs is first among) ok =
          let at'' = subst (IsAt p f.place) is at in
          let a = points_to p wf g f rest (Read to at' qs) at' o base d w calm at'' read_inner t in
          (subst (λ z. IsRead p (mark f.place z q) o.site (base ++ q)) (sym first) (Drawn.by_read t.cell.atom.put.place t.cell.atom.put.index to at' qs (live_place p wf f rest v) at'' a.0 a.1 ok), a.2)
        where
          read_inner : (n : ℕ) → Read to at' qs ≡ Goto n → ⊥
          read_inner n e = cc
      is_read k at' q base path o t (From.by_grow to n items site is sited second among) ok =
          let at'' = subst (IsAt p f.place) is at in
          let a = points_to p wf g f rest (Grow to at' items) at' o base d w calm at'' grow_inner t in
          (subst (λ z. IsRead p (mark f.place z q) o.site (element base q)) (sym second) (Drawn.by_grow t.cell.atom.put.place t.cell.atom.put.index to at' items (live_place p wf f rest v) at'' a.0 a.1 ok), a.2)
        where
          grow_inner : (n : ℕ) → Grow to at' items ≡ Goto n → ⊥
          grow_inner n e = cc

      -- a label that is found in an object
      label_found : (k : ℕ) (q : List PathStep) (s : Mark) → IsNode p (mark f.place k q) → (slot : Slot) → Finds p kind ss f k q slot → In s slot.atom.labels → IsJoinedWithin p l s (call_sites f rest) (mark f.place k q)
      label_found k q s node slot fs i =
          let y = so slot fs.held in
          let writes = subst (λ (z : Object). Writes p slot.atom.put z.site fs.path) fs.same (subst (λ z. Writes p slot.atom.put slot.object.site z) fs.there y.written) in
          let r = is_read k fs.at q fs.base fs.path fs.object fs.refers fs.finds (written_path p slot.atom.put fs.object.site fs.path writes) in
          let meet : MayMeet p fs.object.site slot.atom.put.place f.place =
          elim r.1 [ inl e ↦ inl e | inr m ↦ elim (sm slot fs.held (ap (λ (z : Object). z.maker) fs.same ∙ m)) [ inl e ↦ inl (subst (λ (z : Object). Escapes p z.site) fs.same e) | inr x ↦ inr x ] ] in
          let a = sj slot fs.held s i in
          joined_reset s a.0 (call_sites f rest) slot.atom.put (mark f.place k q) a.1 (record { from = y.node; to = node; moves = Drawn.by_object fs.object.site fs.path writes r.0 meet })

    -- a label in an object that an argument reaches, where a sink or an external looks: the edge from the write to leaf 0 of the argument
    pub joined_inside : (ss : List Slot) (t n k h i : ℕ) (takes : Bool) (kind : Kind) (callee : Callee) (args : List ℕ) (q : List PathStep) (x : Datum) (o : Object) (slot : Slot) (s : Mark) (sites : List ℕ)
        → ((x : Slot) → In x ss → SlotOwned p x) → ((x : Slot) → In x ss → x.object.maker ≡ g → Escapes p x.object.site ⊎ Follows p x.atom.put.place i) → ((x : Slot) → In x ss → (y : Mark) → In y x.atom.labels → (calls : List ℕ) × IsJoined p l y calls x.atom.put)
        → IsAt p t kind → Hands kind callee args n → Holds p (Targets t h takes) → LooksInside p l.problem t h → k < length (arguments callee args) → ReadAt p t i
        → IsOwned p g (mark t (n + k) q) x → Reached ss x o → In slot ss → slot.object ≡ o → In s slot.atom.labels → (q0 : List PathStep) × IsNode p (mark t (n + k) q0) × IsJoinedWithin p l s sites (mark t (n + k) q0)
    joined_inside ss t n k h i takes kind callee args q x o slot s sites so sm sj at hands targets looks within read w r m same label =
        let a = reaches p wf g ss t (n + k) q x so w r in
        let writes = subst (λ (z : Object). Writes p slot.atom.put z.site slot.path) same (so slot m).written in
        let meet : MayMeet p o.site slot.atom.put.place i = elim a.1 [
          | inl e ↦ inl e
          | inr mk ↦ elim (sm slot m (ap (λ (z : Object). z.maker) same ∙ mk)) [
            | inl e ↦ inl (subst (λ (z : Object). Escapes p z.site) same e)
            | inr y ↦ inr y
          ]
        ] in
        let b = sj slot m s label in
        let leaf = first_leaf p t (n + k) w.node.number q w.node.has in
        let node : IsNode p (mark t (n + k) leaf.0) = record { number = 0; has = leaf.1 } in
        (leaf.0, node, joined_reset s b.0 sites slot.atom.put (mark t (n + k) leaf.0) b.1 (record { from = (so slot m).node; to = node; moves = Drawn.by_argument k o.site h n i takes slot.path kind callee args at hands targets looks within leaf.1 a.0 writes read meet }))

    module _ (f : Frame) (rest : List Frame) (ss : List Slot) (d : FrameDefined p f rest) (v : FrameCovered p f rest) (w : FrameOwned p g f rest) (so : (x : Slot) → In x ss → SlotOwned p x)
        (sm : (x : Slot) → In x ss → x.object.maker ≡ g → Escapes p x.object.site ⊎ Follows p x.atom.put.place f.place)
        (sj : (x : Slot) → In x ss → (y : Mark) → In y x.atom.labels → (calls : List ℕ) × IsJoined p l y calls x.atom.put)
        (j : FrameJoined p l f rest) (calm : f.panics ≡ false) where
      -- a label that an external hands on
      label_outside : (k : ℕ) (q : List PathStep) (s : Mark) (to args : List ℕ) (callee : Callee) (h : ℕ) (takes : Bool) (fn : Function) → IsNode p (mark f.place k q) → IsAt p f.place (Call to callee args) → Resolves p f.cells callee (Found h takes) → IsFunction p h fn → fn.external ≡ Some true
          → cleans p l.problem f.place h ≡ false → k < length to → SomeArgumentBears (length (arguments callee args)) (handing p l f (length to) callee args) ss s → IsJoinedWithin p l s (call_sites f rest) (mark f.place k q)
      label_outside k q s to args callee h takes fn node at is isf ext clean within bears =
          let a = bears.argument in
          let c = bears.bears.cell in
          let hd = call_hands p wf l g ss f (Call to callee args) callee args (length to) v.place at by_call c bears.bears.held in
          let targets = targets_of p wf g f rest (Call to callee args) callee args (length to) h takes d v w calm at by_call is in
          let same = bears.bears.at in
          let inner : c.register < length (arguments callee args) = subst (λ z. z < length (arguments callee args)) (sym same) bears.within in
          let edge : (q0 : List PathStep) → IsNode p (mark f.place (length to + c.register) q0) → MarkEdge p l.problem (mark f.place (length to + c.register) q0) Plain (mark f.place k q) =
          λ q0 from. record { from = from; to = node; moves = Drawn.external c.register h takes to args callee fn at targets isf ext clean inner within } in
          outside_case c targets inner edge hd bears.bears.bears
        where
          outside_case : (c : Cell) → Holds p (Targets f.place h takes) → c.register < length (arguments callee args) → ((q0 : List PathStep) → IsNode p (mark f.place (length to + c.register) q0) → MarkEdge p l.problem (mark f.place (length to + c.register) q0) Plain (mark f.place k q))
              → HandsOn p l (Call to callee args) g ss f (length to) c → Bears ss c.atom s → IsJoinedWithin p l s (call_sites f rest) (mark f.place k q)
          outside_case c targets inner edge hd (itself i) =
              joined_plain s (call_sites f rest) _ _ (label_handed f rest ss (Call to callee args) d v w so sm sj j calm at (length to) c hd s i) (edge c.leaf hd.given.node)
          outside_case c targets inner edge hd (inside o slot r m same i) =
              let ow = subst (λ n. IsOwned p g n c.atom.value) hd.given.put (given_owned p wf l g f rest ss (Call to callee args) d v w so calm at (length to + c.register) c.leaf c hd.given) in
              let x = joined_inside ss f.place (length to) c.register h f.place takes (Call to callee args) callee args c.leaf c.atom.value o slot s (call_sites f rest) so sm sj at by_call targets (an_external fn true isf ext) inner (Drawn.at_call to args callee at) ow r m same i in
              joined_plain s (call_sites f rest) _ _ x.2 (edge x.0 x.1)

      module _ (kind : Kind) (at : IsAt p f.place kind) where
        label_carried : (k : ℕ) (q : List PathStep) (s : Mark) → IsNode p (mark f.place k q) → Carries p l kind ss f k q s → IsJoinedWithin p l s (call_sites f rest) (mark f.place k q)
        label_carried k q s node (From.taken from m i t) = label_taken f rest ss kind d v w so sm sj j calm at k q s from node m i t
        label_carried k q s node (From.found_there slot fs i) = label_found f rest ss kind d v w so sm sj j calm at k q s node slot fs i
        label_carried k q s node (From.grown to at' items is first two c) =
            let b = label_carried 2 q s two c in
            let node1 = subst (λ n. IsNode p (mark f.place n q)) first node in
            subst (λ n. IsJoinedWithin p l s (call_sites f rest) (mark f.place n q)) (sym first)
            (joined_plain s (call_sites f rest) (mark f.place 2 q) (mark f.place 1 q) b (record { from = two; to = node1; moves = Drawn.grown to at' items (live_place p wf f rest v) (subst (IsAt p f.place) is at) }))
        label_carried k q s node (From.from_outside c within flows clean bears) =
            label_outside k q s c.to c.args c.callee c.h c.takes c.fn node (subst (IsAt p f.place) c.is at) c.resolves c.function (c.outside ∙ ap Some flows) clean within bears
        label_carried k q s node (From.begins_outside c within source e) =
            let is = subst (IsAt p f.place) c.is at in
            let targets = targets_of p wf g f rest (Call c.to c.callee c.args) c.callee c.args (length c.to) c.h c.takes d v w calm is by_call c.resolves in
            begins_here s (mark f.place k q) (call_sites f rest) (begun_outside s f.place k q c.to c.args c.callee c.h c.takes is targets source within e) e
        label_carried k q s node (From.begins_place source first e) = begins_here s (mark f.place k q) (call_sites f rest) (begun_place s f.place k q source first node e) e
        label_carried k q s node (From.begins_there b e) = begins_here s (mark f.place k q) (call_sites f rest) (inr b) e

        label_puts : (c : Cell) → Puts p l kind g ss f c → (s : Mark) → In s c.atom.labels → IsJoinedWithin p l s (call_sites f rest) c.atom.put
        label_puts c h s i = subst (IsJoinedWithin p l s (call_sites f rest)) (sym h.given.put) (label_carried h.index c.leaf s h.given.node (h.given.labels s i))

        put_joined : (h : Frame) → ((c : Cell) → In c h.cells → Puts p l kind g ss f c ⊎ Keeps kind f c) → h.records ≡ f.records → h.site ≡ f.site → FrameJoined p l h rest
        put_joined h cells records site = record {
          each = λ c m s i. subst (λ x. IsJoinedWithin p l s x c.atom.put) (sym (sites_on f h rest site)) (in_cells_case p wf (λ c. (s : Mark) → In s c.atom.labels → IsJoinedWithin p l s (call_sites f rest) c.atom.put) h
              (λ c m. elim (cells c m) [ inl a ↦ label_puts c a | inr b ↦ j.each c (in_register b.held) ])
              (λ x m c k. j.each c (in_record x (subst (In x) records m) k)) c m s i);
        }

        label_stores : (x : Slot) → Stores p l kind g ss f x → (s : Mark) → In s x.atom.labels → (calls : List ℕ) × IsJoined p l s calls x.atom.put
        label_stores x st s i =
            let a = label_carried st.index st.leaf s st.given.node (st.given.labels s i) in
            (a.calls, subst (IsJoined p l s a.calls) (sym st.given.put) a.joined)

    stays_joined : (f h : Frame) (rest : List Frame) → h.site ≡ f.site → ((c : Cell) → In c h.cells → In c f.cells) → ((d : Deferred) → In d h.records → In d f.records) → FrameJoined p l f rest → FrameJoined p l h rest
    stays_joined f h rest site cells records j = record { each = λ c m s i. subst (λ x. IsJoinedWithin p l s x c.atom.put) (sym (sites_on f h rest site)) (j.each c (stays_in p wf f h cells records c m) s i) }

    -- a label of a parameter
    label_enters : (i n h : ℕ) (kind : Kind) (callee : Callee) (args : List ℕ) (takes : Bool) (count : ℕ) (fn : Function) (cells : List Cell) (c : Cell) (s : Mark) (sites : List ℕ) → IsAt p i kind → CallsLikewise kind → Hands kind callee args n → Holds p (Targets i h takes) → IsFunction p h fn → count ≡ length (arguments callee args)
        → (a : Entered p l takes count fn cells c) → a.from.atom.put ≡ mark i (n + a.from.register) a.from.leaf → IsNode p a.from.atom.put → In s c.atom.labels → ((x : In s a.from.atom.labels) → IsJoinedWithin p l s sites a.from.atom.put) → IsJoinedWithin p l s (i ∷ sites) c.atom.put
    label_enters i n h kind callee args takes count fn cells c s sites at likewise hands targets is counted a handed node i' before = elim (a.again.labels s i') [
      | inl own ↦ begins_here s c.atom.put (i ∷ sites) (inr own.1) own.0
      | inr b ↦
          let param = subst (λ z. param_of takes z a.from.register ≡ Some c.register) counted a.param in
          let from_is : a.from.atom.put ≡ mark i (n + a.from.register) c.leaf = handed ∙ ap (mark i (n + a.from.register)) (sym a.leaf) in
          let step = subst (λ m. Moves p l.problem m (Enters i) c.atom.put) (sym from_is) (subst (λ m. Moves p l.problem (mark i (n + a.from.register) c.leaf) (Enters i) m) (sym a.put) (Drawn.call a.from.register h n takes kind callee args fn at likewise hands targets param is)) in
          joined_enter s i sites a.from.atom.put c.atom.put (before b) (record { from = node; to = a.again.node; moves = step })
    ]

    -- a label of a result
    label_returns : (f e : Frame) (rest : List Frame) (ss : List Slot) (from to : List ℕ) (callee : Callee) (takes : Bool) (args : List ℕ) (c : Cell) → FrameDefined p f (e ∷ rest) → FrameCovered p f (e ∷ rest) → FrameOwned p g f (e ∷ rest) → ((x : Slot) → In x ss → SlotOwned p x)
        → ((x : Slot) → In x ss → x.object.maker ≡ g → Escapes p x.object.site ⊎ Follows p x.atom.put.place f.place) → ((x : Slot) → In x ss → (y : Mark) → In y x.atom.labels → (calls : List ℕ) × IsJoined p l y calls x.atom.put) → FrameJoined p l f (e ∷ rest) → f.panics ≡ false → f.site ≡ e.place
        → IsAt p f.place (Leave from) → IsAt p e.place (Call to callee args) → Holds p (Targets e.place f.function takes) → ((x : Cell) → In x (leaving p l f from) → HandsOn p l (Leave from) g ss f 0 x)
        → GivesBack p l to e.place f.function (leaving p l f from) c → (s : Mark) → In s c.atom.labels → IsJoinedWithin p l s (call_sites e rest) c.atom.put
    label_returns f e rest ss from to callee takes args c d v w so sm sj j calm site at below targets hands a s i =
        subst (IsJoinedWithin p l s (call_sites e rest)) (sym a.put) (back_case (a.labels s i))
      where
        within : a.index < length to
        within = slice_get_within to a.index c.register a.result

        back_case : BackLabel p l e.place f.function (leaving p l f from) a.index c.leaf s → IsJoinedWithin p l s (call_sites e rest) (mark e.place a.index c.leaf)
        back_case (From.back_own b x) = begins_here s (mark e.place a.index c.leaf) (call_sites e rest) (inr b) x
        back_case (From.back_source source x) = begins_here s (mark e.place a.index c.leaf) (call_sites e rest) (begun_outside s e.place a.index c.leaf to args callee f.function takes below targets source within x) x
        back_case (From.back_handed x hb k clean) =
            let fn = v.place.fn in
            let hd = hands x hb.held in
            let z : 0 + x.register ≡ x.register = omega arith in
            let lv = wf.leaves_at_leave.alone f.place f.function from fn at v.place v.place.is in
            let at_mark : mark f.place (0 + x.register) x.leaf ≡ mark fn.leave a.index c.leaf = ap (λ n. mark n (0 + x.register) x.leaf) lv ∙ ap (λ n. mark fn.leave n x.leaf) (z ∙ hb.index) ∙ ap (mark fn.leave a.index) hb.leaf in
            let first = label_handed f (e ∷ rest) ss (Leave from) d v w so sm sj j calm at 0 x hd s k in
            let second = subst (λ n. IsJoinedWithin p l s (n ∷ call_sites e rest) (mark f.place (0 + x.register) x.leaf)) site first in
            joined_return s e.place (call_sites e rest) (mark fn.leave a.index c.leaf) (mark e.place a.index c.leaf) (subst (IsJoinedWithin p l s (e.place ∷ call_sites e rest)) at_mark second)
            (record { from = subst (IsNode p) at_mark hd.given.node; to = a.node; moves = Drawn.return f.function takes to args callee fn below targets v.place.is (v.body fn v.place.is) within clean })

    zero_plus : (n : ℕ) → 0 + n ≡ n
    zero_plus n = omega arith

    -- each step keeps it, by the laws so far
    pub keeps_joined : {old new : View} {started : List (List Frame)} → Effect p l g old new started → EachFrame (FrameCovered p) old.frames → EachFrame (FrameDefined p) old.frames → EachFrame (FrameOwned p g) old.frames
        → ((x : Slot) → In x old.slots → SlotOwned p x) → ((x : Slot) → In x old.slots → x.object.maker ≡ g → Escapes p x.object.site ⊎ TopFollows p x.atom.put.place old.frames)
        → ((x : Slot) → In x old.slots → (s : Mark) → In s x.atom.labels → (calls : List ℕ) × IsJoined p l s calls x.atom.put)
        → EachFrame (FrameJoined p l) old.frames → EachFrame (FrameJoined p l) new.frames
    keeps_joined (put {ss = ss} {f = f} {h = h} {rest = rest} kind at calm onward same cells) v d w so sm sj j = (put_joined f rest ss d.0 v.0 w.0 so sm sj j.0 calm kind at h cells same.records same.same.site, j.1)
    keeps_joined (store {ss = ss} {f = f} {h = h} {rest = rest} kind at calm onward same cells slots) v d w so sm sj j = (put_joined f rest ss d.0 v.0 w.0 so sm sj j.0 calm kind at h cells same.records same.same.site, j.1)
    keeps_joined (enter {ss = ss} {f = f} {h = h} {rest = rest} to args callee takes fn at calm is b hands cells) v d w so sm sj j = (
      record {
        each = λ c m s i. subst (λ x. IsJoinedWithin p l s (x ∷ call_sites f rest) c.atom.put) (sym b.site_is) (in_cells_case p wf (λ c. (s : Mark) → In s c.atom.labels → IsJoinedWithin p l s (f.place ∷ call_sites f rest) c.atom.put) h
            (λ c m s i. let a = cells c m in let hd = hands a.from a.held in
            label_enters f.place (length to) h.function (Call to callee args) callee args takes (length (arguments callee args)) fn (handing p l f (length to) callee args) c s (call_sites f rest) at Drawn.a_call by_call
            (targets_of p wf g f rest (Call to callee args) callee args (length to) h.function takes d.0 v.0 w.0 calm at by_call is) b.is refl a hd.given.put (subst (IsNode p) (sym hd.given.put) hd.given.node) i
            (λ x. subst (IsJoinedWithin p l s (call_sites f rest)) (sym hd.given.put) (label_handed f rest ss (Call to callee args) d.0 v.0 w.0 so sm sj j.0 calm at (length to) a.from hd s x)))
            (λ x m c k. absurd (elim (subst (In x) b.none m) [ ])) c m s i);
      },
      j,
    )
    keeps_joined (enter_record {f = f} {f' = f'} {h = h} {rest = rest} y takes fn at same place cells records target b again) v d w so sm sj j =
        let m0 = subst (In y) (sym records) (here refl) in
        let rc = v.0.records y m0 in
        let sites = call_sites f rest in (
          record {
            each = λ c m s i. subst (λ x. IsJoinedWithin p l s (x ∷ call_sites f' rest) c.atom.put) (sym b.site_is) (subst (λ x. IsJoinedWithin p l s (y.place ∷ x) c.atom.put) (sym (sites_on f f' rest same.site))
                (in_cells_case p wf (λ c. (s : Mark) → In s c.atom.labels → IsJoinedWithin p l s (y.place ∷ sites) c.atom.put) h
                (λ c m s i. let a = again c m in
                label_enters y.place 0 h.function (Defer rc.callee rc.args) rc.callee rc.args takes y.count fn y.cells c s sites rc.is Drawn.a_defer by_defer (rc.targets h.function takes target) b.is rc.count a
                (rc.each a.from a.held ∙ ap (λ k. mark y.place k a.from.leaf) (sym (zero_plus a.from.register))) (w.0.each a.from (in_record y m0 a.held)).node i
                (λ x. j.0.each a.from (in_record y m0 a.held) s x))
                (λ x m c k. absurd (elim (subst (In x) b.none m) [ ])) c m s i));
          },
          (stays_joined f f' rest same.site (λ c m. subst (In c) cells m) (λ x m. subst (In x) (sym records) (there m)) j.0, j.1),
        )
    keeps_joined (start {f = f} {f' = f'} {rest = rest} args callee takes fn at calm is onward same cells b hands again) v d w so sm sj j =
        (stays_joined f f' rest same.same.site (λ c m. subst (In c) cells m) (λ x m. subst (In x) same.records m) j.0, j.1)
    keeps_joined (keep {ss = ss} {f = f} {h = h} {rest = rest} args callee y at calm is onward same cells records place count all hands) v d w so sm sj j = (
      record {
        each = λ c m s i. subst (λ x. IsJoinedWithin p l s x c.atom.put) (sym (sites_on f h rest same.site)) (in_cells_case p wf (λ c. (s : Mark) → In s c.atom.labels → IsJoinedWithin p l s (call_sites f rest) c.atom.put) h
            (λ c m. j.0.each c (in_register (subst (In c) cells m)))
            (λ x m c k. kept_joined x (subst (In x) records m) c k) c m s i);
      },
      j.1,
    )
      where
        kept_joined : (x : Deferred) → In x (y ∷ f.records) → (c : Cell) → In c x.cells → (s : Mark) → In s c.atom.labels → IsJoinedWithin p l s (call_sites f rest) c.atom.put
        kept_joined x (here e) c k s i =
            let hd = hands c (subst (λ (z : Deferred). In c z.cells) e k) in
            subst (IsJoinedWithin p l s (call_sites f rest)) (sym hd.given.put) (label_handed f rest ss (Defer callee args) d.0 v.0 w.0 so sm sj j.0 calm at 0 c hd s i)
        kept_joined x (there m) c k s i = j.0.each c (in_record x m k) s i
    keeps_joined (leave {ss = ss} {f = f} {e = e} {h = h} {rest = rest} from to args callee at calm site below onward same hands cells) v d w so sm sj j =
        let called = called_case p wf f e rest to callee args below v.0.called v.1.0 in (
          record {
            each = λ c m s i. subst (λ x. IsJoinedWithin p l s x c.atom.put) (sym (sites_on e h rest same.same.site)) (in_cells_case p wf (λ c. (s : Mark) → In s c.atom.labels → IsJoinedWithin p l s (call_sites e rest) c.atom.put) h
                (λ c m. elim (cells c m) [ inl a ↦ label_returns f e rest ss from to callee called.0 args c d.0 v.0 w.0 so sm sj j.0 calm site at below called.1 hands a | inr b ↦ j.1.0.each c (in_register b.held) ])
                (λ x m c k. j.1.0.each c (in_record x (subst (In x) same.records m) k)) c m s i);
          },
          j.1.1,
        )
    keeps_joined (leave_record from at below) v d w so sm sj j = j.1
    keeps_joined leave_last v d w so sm sj j = tt
    keeps_joined (move {f = f} {h = h} {rest = rest} at same place cells records) v d w so sm sj j = (stays_joined f h rest same.site (λ c m. subst (In c) cells m) records j.0, j.1)
    keeps_joined (unwind {f = f} {h = h} {rest = rest} b) v d w so sm sj j = (stays_joined f h rest b.site (λ c m. subst (In c) b.cells m) b.records j.0, j.1)
    keeps_joined (unwind_drop {f = f} {e = e} {h = h} {rest = rest} at b) v d w so sm sj j = (stays_joined e h rest b.site (λ c m. subst (In c) b.cells m) b.records j.1.0, j.1.1)

    -- a goroutine that starts: the edge of a Go resets
    pub starts_joined : {old new : View} {started : List (List Frame)} → Effect p l g old new started → EachFrame (FrameCovered p) old.frames → EachFrame (FrameDefined p) old.frames → EachFrame (FrameOwned p g) old.frames
        → ((x : Slot) → In x old.slots → SlotOwned p x) → ((x : Slot) → In x old.slots → x.object.maker ≡ g → Escapes p x.object.site ⊎ TopFollows p x.atom.put.place old.frames)
        → ((x : Slot) → In x old.slots → (s : Mark) → In s x.atom.labels → (calls : List ℕ) × IsJoined p l s calls x.atom.put)
        → EachFrame (FrameJoined p l) old.frames → (frames : List Frame) → In frames started → EachFrame (FrameJoined p l) frames
    starts_joined (start {ss = ss} {f = f} {f' = f'} {h = h} {rest = rest} args callee takes fn at calm is onward same cells b hands again) v d w so sm sj j frames (here e) = subst (EachFrame (FrameJoined p l)) (sym e) (
      record {
        each = in_cells_case p wf (λ c. (s : Mark) → In s c.atom.labels → IsJoinedWithin p l s (h.site ∷ []) c.atom.put) h
            (λ c m s i. let a = again c m in go_label c a (hands a.from a.held) s (a.again.labels s i))
            (λ x m c k. absurd (elim (subst (In x) b.none m) [ ]));
      },
      tt,
    )
      where
        go_label : (c : Cell) (a : Entered p l takes (length (arguments callee args)) fn (handing p l f 0 callee args) c) → HandsOn p l (Go callee args) g ss f 0 a.from → (s : Mark) → ((s ≡ c.atom.put) × (l.begins s ≡ true)) ⊎ In s a.from.atom.labels → IsJoinedWithin p l s (h.site ∷ []) c.atom.put
        go_label c a hd s (inl own) = begins_here s c.atom.put (h.site ∷ []) (inr own.1) own.0
        go_label c a hd s (inr k) =
            let before = label_handed f rest ss (Go callee args) d.0 v.0 w.0 so sm sj j.0 calm at 0 a.from hd s k in
            let from_is : mark f.place (0 + a.from.register) a.from.leaf ≡ mark f.place a.from.register c.leaf = ap (λ n. mark f.place n a.from.leaf) (zero_plus a.from.register) ∙ ap (mark f.place a.from.register) (sym a.leaf) in
            let j' = subst (IsJoinedWithin p l s (call_sites f rest)) from_is before in
            let moved = subst (λ m. Moves p l.problem (mark f.place a.from.register c.leaf) Reset m) (sym a.put) (Drawn.go h.function takes callee args fn at (targets_of p wf g f rest (Go callee args) callee args 0 h.function takes d.0 v.0 w.0 calm at by_go is) a.param b.is) in
            joined_reset s j'.calls (h.site ∷ []) (mark f.place a.from.register c.leaf) c.atom.put j'.joined (record { from = subst (IsNode p) from_is hd.given.node; to = a.again.node; moves = moved })
    starts_joined (start args callee takes fn at calm is onward same cells b hands again) v d w so sm sj j frames (there m) = elim m [ ]
    starts_joined _ v d w so sm sj j frames m = elim m [ ]

    -- what is stored
    pub keeps_slots_joined : {old new : View} {started : List (List Frame)} → Effect p l g old new started → EachFrame (FrameCovered p) old.frames → EachFrame (FrameDefined p) old.frames → EachFrame (FrameOwned p g) old.frames
        → ((x : Slot) → In x old.slots → SlotOwned p x) → ((x : Slot) → In x old.slots → x.object.maker ≡ g → Escapes p x.object.site ⊎ TopFollows p x.atom.put.place old.frames) → EachFrame (FrameJoined p l) old.frames
        → ((x : Slot) → In x old.slots → (s : Mark) → In s x.atom.labels → (calls : List ℕ) × IsJoined p l s calls x.atom.put)
        → (x : Slot) → In x new.slots → (s : Mark) → In s x.atom.labels → (calls : List ℕ) × IsJoined p l s calls x.atom.put
    keeps_slots_joined (store {ss = ss} {f = f} {h = h} {rest = rest} kind at calm onward same cells slots) v d w so sm j sj x m =
        elim (slots x m) [ inl st ↦ label_stores f rest ss d.0 v.0 w.0 so sm sj j.0 calm kind at x st | inr b ↦ sj x b ]
    keeps_slots_joined (put kind at calm onward same cells) v d w so sm j sj x m = sj x m
    keeps_slots_joined (enter to args callee takes fn at calm is b hands cells) v d w so sm j sj x m = sj x m
    keeps_slots_joined (enter_record y takes fn at same place cells records target b again) v d w so sm j sj x m = sj x m
    keeps_slots_joined (start args callee takes fn at calm is onward same cells b hands again) v d w so sm j sj x m = sj x m
    keeps_slots_joined (keep args callee y at calm is onward same cells records place count all hands) v d w so sm j sj x m = sj x m
    keeps_slots_joined (leave from to args callee at calm site below onward same hands cells) v d w so sm j sj x m = sj x m
    keeps_slots_joined (leave_record from at below) v d w so sm j sj x m = sj x m
    keeps_slots_joined leave_last v d w so sm j sj x m = sj x m
    keeps_slots_joined (move at same place cells records) v d w so sm j sj x m = sj x m
    keeps_slots_joined (unwind b) v d w so sm j sj x m = sj x m
    keeps_slots_joined (unwind_drop at b) v d w so sm j sj x m = sj x m
