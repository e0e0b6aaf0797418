-- What calls hand on, what externals give, and what is stored.
use Rattle.std.proofs.Common.{length, ◌≡◌, ℕ, ◌+◌, Bool, true, false, not, List, [], ◌∷◌, Some, refl, sym, ap, ◌∙◌, subst, inl, inr, arith}
use Rattle.std.specs.Prelude.{◌⊎◌, slice_get, ◌&&◌, if◌then◌else◌}
use Rattle.std.proofs.lemmas.Option.{slice_get_within}
use Rattle.argot_plain.specs.Lists.{In, here, there}
use Rattle.argot_plain.specs.Code.{Code, IsAt, IsFunction, IsIn, IsSiteOf, Hands, handed_values, node_registers, arguments, element_leaves, leaves}
use Rattle.argot_plain.specs.Counts.{is_source, cleans, counts}
use Rattle.argot_plain.specs.Machine.{Labelling, Datum, Ref, Object, Content, content_of, Cell, Slot, Found, Frame, own_label, handed, to_params, handed_back, written, added, recopied, element, read_again}
use Rattle.argot_plain.specs.Nodes.{Mark, mark, IsNode, of_items, of_elements, of_entry}
use Rattle.argot_plain.specs.Outside.{Resolves, CarriesOn, ExternalGives, ExternalValue, fresh_one, no_reference, result_labels, SomeArgumentBears}
use Rattle.argot_plain.specs.Step.{handing, leaving}
use Rattle.argot_plain.specs.WellFormed.{WellFormed}
use Rattle.argot_plain.specs.declared.functions.Function.{Function}
use Rattle.argot_plain.specs.declared.instructions.Callee.{Callee}
use Rattle.argot_plain.specs.declared.instructions.Kind.{Kind}
use Rattle.argot_plain.specs.declared.instructions.Kind.TheVariants.{Write, Grow, Call, Leave}
use Rattle.argot_plain.specs.declared.sites.Site.{Site}
use Rattle.argot_text.specs.declared.path.PathStep.{PathStep}
use Rattle.argot_text.specs.declared.path.PathStep.TheVariants.{Element}
use Rattle.argot_facts.specs.Copies.{Copies, Takes}
use Rattle.argot_sound.specs.Effects.{IsNoReference, RefersTo, CallsOutside, Carries, Brings, Given, Puts, HandsOn, Again, Entered, GivesBack, HandsBack, BackLabel, Stores}
use Rattle.argot_sound.specs.Effects as From
use Rattle.argot_sound.proofs.Lists.{In-unless, number_of, get-append}
use Rattle.argot_sound.proofs.Puts.{HeldAt, held_by, held_zero, In-value, In-own, In-handed, In-to_params, In-returned, In-written, In-added, In-recopied, FoundAt, found_at, In-outside}
use Rattle.argot_sound.proofs.Given.{in_none, not_scalar, not_nil, hands_node, hands_copies, hands_takes, refers_of, node_of, given_by, given_held}

false_right : (b : Bool) → (b && false) ≡ false
false_right true = refl
false_right false = refl

-- the labels of the results of a call
pub In-results : (p : Code) (l : Labelling) (i h : ℕ) (n s : Mark) (ls : List Mark) → In s (result_labels p l i h n ls) → ((s ≡ n) × (is_source p l.problem i h ≡ true)) ⊎ (In s ls × (cleans p l.problem i h ≡ false))
In-results p l i h n s ls m = result_case (is_source p l.problem i h) refl m
  where
    result_case : (b : Bool) → is_source p l.problem i h ≡ b → In s (if b then n ∷ ls else (if cleans p l.problem i h then [] else ls)) → ((s ≡ n) × (is_source p l.problem i h ≡ true)) ⊎ (In s ls × (cleans p l.problem i h ≡ false))
    result_case true e (here x) = inl (x, e)
    result_case true e (there k) = inr (k, ap (λ b. counts p i h l.problem.sanitizers && not b) e ∙ false_right (counts p i h l.problem.sanitizers))
    result_case false e k = let t = In-unless s ls (cleans p l.problem i h) k in inr (t.1, t.0)

module _ (p : Code) (wf : WellFormed p) (l : Labelling) where
  module _ (g : ℕ) (ss : List Slot) (f : Frame) where
    held_simply : (kind : Kind) (k r : ℕ) (q : List PathStep) (x : Content) → HeldAt r q f.cells x → Takes l.problem kind r q k q → (s : Mark) → In s (own_label l (mark f.place k q) x.labels) → From.Simply p l kind f k q s
    held_simply kind k r q x h t s m = elim (In-own l (mark f.place k q) x.labels s m) [ inl a ↦ From.simply_begins a.1 a.0 | inr b ↦ held_case h b ]
      where
        held_case : HeldAt r q f.cells x → In s x.labels → From.Simply p l kind f k q s
        held_case (held_by c i reg leaf e) j = From.simply_taken c i (subst (λ (y : Content). In s y.labels) e j) (subst (λ n. Takes l.problem kind n c.leaf k q) (sym reg) (subst (λ z. Takes l.problem kind r z k q) (sym leaf) t))
        held_case (held_zero e) j = in_none s (subst (λ (y : Content). In s y.labels) e j)

    -- what stands in registers, handed on by index
    hands_on : (kind : Kind) (n : ℕ) (rs : List ℕ) → IsIn p f.place f.function → IsAt p f.place kind
        → ((k r : ℕ) (q : List PathStep) → slice_get rs k ≡ Some r → Copies kind r q (n + k) q)
        → ((k r : ℕ) (q : List PathStep) → slice_get rs k ≡ Some r → Takes l.problem kind r q (n + k) q)
        → ((k r : ℕ) → slice_get rs k ≡ Some r → slice_get (node_registers kind) (n + k) ≡ Some r)
        → (c : Cell) → In c (handed p l f.function f.place n 0 rs f.cells) → HandsOn p l kind g ss f n c
    hands_on kind n rs inside at copies takes node c m =
        let a = In-handed p l f.function f.place n 0 rs f.cells c m in
        let b = a.copied in
        let z : a.number ≡ 0 + a.number = omega arith in
        let is = subst (λ x. slice_get rs x ≡ Some a.register) z a.at in
        subst (HandsOn p l kind g ss f n) (sym b.is) (record {
          given = given_held p wf l g ss f kind (n + (0 + a.number)) a.register b.leaf b.leaf b.what
              (node_of p wf l kind f.place f.function (n + (0 + a.number)) a.register b.leaf inside at (node (0 + a.number) a.register is) b.among)
              b.held (copies (0 + a.number) a.register b.leaf is) (takes (0 + a.number) a.register b.leaf is);
          simply = held_simply kind (n + (0 + a.number)) a.register b.leaf b.what b.held (takes (0 + a.number) a.register b.leaf is);
        })

    pub call_hands : (kind : Kind) (callee : Callee) (args : List ℕ) (n : ℕ) → IsIn p f.place f.function → IsAt p f.place kind → Hands kind callee args n
        → (c : Cell) → In c (handing p l f n callee args) → HandsOn p l kind g ss f n c
    call_hands kind callee args n inside at h = hands_on kind n (handed_values callee args) inside at
        (λ k r q is. hands_copies kind callee args n k r q h is) (λ k r q is. hands_takes l.problem kind callee args n k r q h is) (λ k r is. hands_node kind callee args n k r h is)

    zero_index : (k r : ℕ) (rs : List ℕ) → slice_get rs k ≡ Some r → slice_get rs (0 + k) ≡ Some r
    zero_index k r rs h = let z : k ≡ 0 + k = omega arith in subst (λ x. slice_get rs x ≡ Some r) z h

    pub leave_hands : (from : List ℕ) → IsIn p f.place f.function → IsAt p f.place (Leave from) → (c : Cell) → In c (leaving p l f from) → HandsOn p l (Leave from) g ss f 0 c
    leave_hands from inside at = hands_on (Leave from) 0 from inside at
        (λ k r q is. (zero_index k r from is, refl)) (λ k r q is. (zero_index k r from is, refl)) (λ k r is. zero_index k r from is)

    -- what an external gives
    pub outside_puts : (n : ℕ) (to args : List ℕ) (callee : Callee) (h : ℕ) (takes : Bool) (fn : Function) (flows : Bool) (ls : List Mark) (given : List Cell) → IsIn p f.place f.function → IsAt p f.place (Call to callee args)
        → Resolves p f.cells callee (Found h takes) → IsFunction p h fn → fn.external ≡ Some flows
        → CarriesOn flows (length (arguments callee args)) (handing p l f (length to) callee args) ss ls → ExternalGives p l f.function f.place h g n ls 0 to given
        → (c : Cell) → In c given → Puts p l (Call to callee args) g ss f c
    outside_puts n to args callee h takes fn flows ls given inside at is isf ext carries gives c m =
        let a = In-outside p l f.function f.place h g n ls 0 to given gives c m in
        let out : CallsOutside p (Call to callee args) f = record { to = to; callee = callee; args = args; h = h; takes = takes; fn = fn; flows = flows; is = refl; resolves = is; function = isf; outside = ext } in
        let at' = zero_index a.number a.register to a.at in
        let within = slice_get_within to (0 + a.number) a.register at' in
        subst (Puts p l (Call to callee args) g ss f) (sym a.is) (record {
          index = 0 + a.number;
          defines = at';
          given = given_by p wf l g ss f (Call to callee args) (0 + a.number) a.leaf a.value (result_labels p l f.place h (mark f.place (0 + a.number) a.leaf) ls)
              (node_of p wf l (Call to callee args) f.place f.function (0 + a.number) a.register a.leaf inside at (get-append to (handed_values callee args) (0 + a.number) a.register at') a.among)
              (λ s i. elim (In-results p l f.place h (mark f.place (0 + a.number) a.leaf) s ls i) [
                | inl b ↦ From.begins_outside out within b.1 b.0
                | inr b ↦ (let on = carried_on flows refl s b.0 carries in From.from_outside out within on.0 b.1 on.1)
              ])
              (brings_case out (0 + a.number) a.register a.leaf at' a.value a.gives);
        })
      where
        carried_on : (b : Bool) → flows ≡ b → (s : Mark) → In s ls → CarriesOn b (length (arguments callee args)) (handing p l f (length to) callee args) ss ls → (flows ≡ true) × SomeArgumentBears (length (arguments callee args)) (handing p l f (length to) callee args) ss s
        carried_on true e s i on = (e, (on s).0 i)
        carried_on false e s i on = in_none s (subst (In s) on i)

        brings_case : CallsOutside p (Call to callee args) f → (k t : ℕ) (q : List PathStep) → slice_get to k ≡ Some t → (v : Datum) → ExternalValue p f.function f.place k t g n q v → Brings p (Call to callee args) g ss f k q v
        brings_case out k t q result v (fresh_one m site) = From.made m n (From.by_outside t (record { to = to; callee = callee; args = args; h = h; takes = takes; fn = fn; flows = flows; is = refl; resolves = is; function = isf; outside = ext }) result site) refl
        brings_case out k t q result v (no_reference none) = From.no_reference not_scalar

    -- what a Write stores
    pub write_stores : (at from : ℕ) (o : Object) (base : List PathStep) (x : Content) → IsIn p f.place f.function → IsAt p f.place (Write at from) → HeldAt at [] f.cells x → x.value ≡ Ref o base
        → (s : Slot) → In s (written p l f.place from o base (leaves p f.function from) f.cells) → Stores p l (Write at from) g ss f s
    write_stores at from o base x inside is h v s m =
        let a = In-written p l f.place from o base (leaves p f.function from) f.cells s m in
        let b = a.put in
        subst (Stores p l (Write at from) g ss f) (sym b.is) (record {
          index = 0;
          leaf = a.leaf;
          given = given_held p wf l g ss f (Write at from) 0 from a.leaf a.leaf b.what (node_of p wf l (Write at from) f.place f.function 0 from a.leaf inside is refl a.among) (In-value from a.leaf f.cells b.what b.among) (refl, refl, refl) (refl, refl, refl);
          stores = From.by_write at from base refl (refers_of at f.cells x o base h v) refl;
          is_leaf = b.is_leaf;
        })

    item_node : (to at : ℕ) (items : List ℕ) (n : ℕ) (site : Site) (q : List PathStep) → IsAt p f.place (Grow to at items) → IsSiteOf p f.place n site → In q (element_leaves site) → IsNode p (mark f.place 1 q)
    item_node to at items n site q is sited m = let a = number_of q (element_leaves site) m in record { number = a.0; has = of_items n to at items site is sited refl a.1 }

    pub element_node : (to at : ℕ) (items : List ℕ) (n : ℕ) (site : Site) (q : List PathStep) → IsAt p f.place (Grow to at items) → IsSiteOf p f.place n site → In q (element_leaves site) → IsNode p (mark f.place 2 q)
    element_node to at items n site q is sited m = let a = number_of q (element_leaves site) m in record { number = a.0; has = of_elements n to at items site is sited refl a.1 }

    -- an item that a Grow adds
    pub grow_stores : (to at : ℕ) (items : List ℕ) (n : ℕ) (site : Site) (o : Object) (base : List PathStep) → IsAt p f.place (Grow to at items) → IsSiteOf p f.place n site
        → ((q : List PathStep) → From.StoresAt p (Grow to at items) g f 1 q o (element base q))
        → (s : Slot) → In s (added p l f.place o base items (element_leaves site) f.cells) → Stores p l (Grow to at items) g ss f s
    grow_stores to at items n site o base is sited stores s m =
        let a = In-added p l f.place o base items (element_leaves site) f.cells s m in
        let b = a.put in
        subst (Stores p l (Grow to at items) g ss f) (sym b.is) (record {
          index = 1;
          leaf = a.leaf;
          given = given_held p wf l g ss f (Grow to at items) 1 a.register a.leaf a.leaf b.what (item_node to at items n site a.leaf is sited a.among) (In-value a.register a.leaf f.cells b.what b.among) (inr (a.item, refl, refl)) (inr (a.item, refl, refl));
          stores = stores a.leaf;
          is_leaf = b.is_leaf;
        })

    -- an element that it copies
    pub regrow_stores : (to at : ℕ) (items : List ℕ) (n serial : ℕ) (site : Site) (x : Content) → IsAt p f.place (Grow to at items) → IsSiteOf p f.place n site → HeldAt at [] f.cells x
        → (s : Slot) → In s (recopied p l f.place (record { site = n; maker = g; serial = serial }) x.value (element_leaves site) ss) → Stores p l (Grow to at items) g ss f s
    regrow_stores to at items n serial site x is sited h s m =
        let o : Object = record { site = n; maker = g; serial = serial } in
        let a = In-recopied p l f.place o x.value (element_leaves site) ss s m in
        let q = a.leaf in
        let two = element_node to at items n site q is sited a.among in
        let r = elements_found q a.what a.among a.found in
        let y = read_again l (mark f.place 2 q) a.what in
        subst (Stores p l (Grow to at items) g ss f) (sym a.is) (record {
          index = 1;
          leaf = q;
          given = given_by p wf l g ss f (Grow to at items) 1 q y.value y.labels (item_node to at items n site q is sited a.among)
              (λ z i. From.grown to at items refl refl two (elim (In-own l (mark f.place 2 q) (a.what).labels z i) [ inl b ↦ From.begins_there b.1 b.0 | inr b ↦ From.found_there r.0 r.1 (subst (λ (w : Content). In z w.labels) r.2 b) ]))
              (From.grown to at items refl refl (From.found_there r.0 r.1 (ap (λ (w : Content). w.value) r.2)));
          stores = From.by_grow_anew to at n serial items site refl sited refl;
          is_leaf = a.is_leaf;
        })
      where
        elements_found : (q : List PathStep) (y : Content) → In q (element_leaves site) → FoundAt x.value (Element ∷ q) ss y → (slot : Slot) × From.Finds p (Grow to at items) ss f 2 q slot × (y ≡ content_of slot.atom)
        elements_found q y among (found_at o base e st) =
            (st.slot, record { at = at; object = o; base = base; path = element base q; refers = refers_of at f.cells x o base h e; held = st.held; same = st.object; there = st.path; finds = From.by_grow to n items site refl sited refl among }, st.is)

  -- a parameter
  pub entered : (h : ℕ) (takes : Bool) (n : ℕ) (fn : Function) (cells : List Cell) → IsFunction p h fn → (c : Cell) → In c (to_params p l h takes n fn cells) → Entered p l takes n fn cells c
  entered h takes n fn cells is c m =
      let a = In-to_params p l h takes n fn cells c m in
      let b = number_of (a.from).leaf (leaves p h a.number) a.among in
      subst (Entered p l takes n fn cells) (sym a.is) (record {
        from = a.from;
        held = a.held;
        param = a.param;
        within = a.within;
        put = refl;
        leaf = refl;
        again = record { node = record { number = b.0; has = of_entry h (record { fn = fn; is = is; at = refl }) a.within b.1 }; value = refl; labels = λ s i. In-own l (mark fn.entry a.number (a.from).leaf) _ s i };
      })

  -- a result of a call
  pub gives_back : (to args : List ℕ) (callee : Callee) (i e h : ℕ) (cells : List Cell) → IsIn p i e → IsAt p i (Call to callee args) → (c : Cell) → In c (handed_back p l (result_labels p l i h) e i 0 to cells) → GivesBack p l to i h cells c
  gives_back to args callee i e h cells inside at c m =
      let a = In-returned p l (result_labels p l i h) e i 0 to cells c m in
      let b = a.copied in
      let k = 0 + a.number in
      let z : a.number ≡ 0 + a.number = omega arith in
      let is = subst (λ x. slice_get to x ≡ Some a.register) z a.at in
      subst (GivesBack p l to i h cells) (sym b.is) (record {
        index = k;
        result = is;
        put = refl;
        node = node_of p wf l (Call to callee args) i e k a.register b.leaf inside at (get-append to (handed_values callee args) k a.register is) b.among;
        value = value_case k b.leaf b.what b.held;
        labels = λ s j. elim (In-own l (mark i k b.leaf) (result_labels p l i h (mark i k b.leaf) (b.what).labels) s j) [
          | inl own ↦ From.back_own own.1 own.0
          | inr r ↦ elim (In-results p l i h (mark i k b.leaf) s (b.what).labels r) [
            | inl x ↦ From.back_source x.1 x.0
            | inr x ↦ label_case k b.leaf b.what b.held s x.0 x.1
          ]
        ];
      })
    where
      value_case : (k : ℕ) (q : List PathStep) (x : Content) → HeldAt k q cells x → IsNoReference x.value ⊎ ((from : Cell) × HandsBack cells k q from × (x.value ≡ from.atom.value))
      value_case k q x (held_by d m reg leaf e) = inr (d, record { held = m; index = reg; leaf = leaf }, ap (λ (y : Content). y.value) e)
      value_case k q x (held_zero e) = inl (subst IsNoReference (sym (ap (λ (y : Content). y.value) e)) not_nil)

      label_case : (k : ℕ) (q : List PathStep) (x : Content) → HeldAt k q cells x → (s : Mark) → In s x.labels → cleans p l.problem i h ≡ false → BackLabel p l i h cells k q s
      label_case k q x (held_by d m reg leaf e) s j clean = From.back_handed d (record { held = m; index = reg; leaf = leaf }) (subst (λ (y : Content). In s y.labels) e j) clean
      label_case k q x (held_zero e) s j clean = in_none s (subst (λ (y : Content). In s y.labels) e j)
