-- What an instruction puts at its nodes, kind by kind.
use Rattle.std.proofs.Common.{length, ◌≡◌, ℕ, suc, ◌+◌, Bool, true, false, List, [], ◌∷◌, ◌++◌, Some, refl, sym, ap, ◌∙◌, subst, inl, inr, arith}
use Rattle.std.specs.Prelude.{◌⊎◌, slice_get, ◌||◌, not, if◌then◌else◌}
use Rattle.argot_plain.specs.Lists.{In, here, there, member, has_element}
use Rattle.argot_plain.specs.Code.{Code, IsAt, IsIn, Hands, by_call, by_go, by_defer, defined, handed_values, node_registers, leaves}
use Rattle.argot_plain.specs.Counts.{is_source_place}
use Rattle.argot_plain.specs.Machine.{Labelling, Datum, Scalar, Nil, Ref, Object, Content, content_of, zero_content, Cell, Slot, Frame, own_label, put_cell, same_labels, contents_at, value_at, labels_of, is_path_of, is_of_type, stepped, asserted, or_zero, joined}
use Rattle.argot_plain.specs.Nodes.{Mark, mark, IsNode, of_kind}
use Rattle.argot_plain.specs.Puts.{Gives, MayMove, MayRead, place_labels, passed_labels, variable, readable}
use Rattle.argot_plain.specs.WellFormed.{WellFormed, reference_registers}
use Rattle.argot_plain.specs.declared.instructions.Callee.{Callee}
use Rattle.argot_plain.specs.declared.instructions.Kind.{Kind}
use Rattle.argot_plain.specs.declared.instructions.Kind.TheVariants.{Op, Move, Join, New, Step, Read, Write, Global, Assert, Call, Go, Defer, Leave, Goto, Branch, Passed}
use Rattle.argot_plain.specs.declared.problems.Problem.{Problem}
use Rattle.argot_text.specs.declared.path.PathStep.{PathStep}
use Rattle.argot_facts.specs.Copies.{Copies, Takes}
use Rattle.argot_sound.specs.Effects.{IsNoReference, RefersTo, Finds, CallsOutside, Carries, Brings, Makes, Given, Puts}
use Rattle.argot_sound.specs.Effects as From
use Rattle.argot_sound.proofs.Lists.{In-append, In-one, In-unless, number_of, get-append}
use Rattle.argot_sound.proofs.Puts.{HeldAt, held_by, held_zero, In-held, In-value, In-labels, In-own, In-copied, In-fills, In-picks, In-joined_or_zero, JoinedAt, FoundAt, found_at, In-readable}

pub in_none : {A : Type 0} (x : A) {B : Type 0} → In x [] → B
in_none x h = elim h [ ]

pub not_scalar : IsNoReference Scalar
not_scalar o path e = cc

pub not_nil : IsNoReference Nil
not_nil o path e = cc

-- the register at a number behind others
pub get_behind : {X : Type 0} (xs ys : List X) (k : ℕ) (x : X) → slice_get ys k ≡ Some x → slice_get (xs ++ ys) (length xs + k) ≡ Some x
get_behind [] ys k x h = let z : k ≡ 0 + k = omega arith in subst (λ n. slice_get ys n ≡ Some x) z h
get_behind (y ∷ xs) ys k x h = let z : suc (length xs + k) ≡ suc (length xs) + k = omega arith in subst (λ n. slice_get (y ∷ (xs ++ ys)) n ≡ Some x) z (get_behind xs ys k x h)

pub defined_node : (kind : Kind) (k r : ℕ) → slice_get (defined kind) k ≡ Some r → slice_get (node_registers kind) k ≡ Some r
defined_node (Write at from) k r h = absurd cc
defined_node (Call to callee args) k r h = get-append to (handed_values callee args) k r h
defined_node (Go callee args) k r h = absurd cc
defined_node (Defer callee args) k r h = absurd cc
defined_node (Leave from) k r h = absurd cc
defined_node _ k r h = h

pub hands_node : (kind : Kind) (callee : Callee) (args : List ℕ) (n k r : ℕ) → Hands kind callee args n → slice_get (handed_values callee args) k ≡ Some r → slice_get (node_registers kind) (n + k) ≡ Some r
hands_node kind callee args n k r (by_call {to = to}) h = get_behind to (handed_values callee args) k r h
hands_node kind callee args n k r by_go h = get_behind [] (handed_values callee args) k r h
hands_node kind callee args n k r by_defer h = get_behind [] (handed_values callee args) k r h

pub hands_copies : (kind : Kind) (callee : Callee) (args : List ℕ) (n k r : ℕ) (q : List PathStep) → Hands kind callee args n → slice_get (handed_values callee args) k ≡ Some r → Copies kind r q (n + k) q
hands_copies kind callee args n k r q by_call at = (k, at, refl, refl)
hands_copies kind callee args n k r q by_go at = (get_behind [] (handed_values callee args) k r at, refl)
hands_copies kind callee args n k r q by_defer at = (get_behind [] (handed_values callee args) k r at, refl)

pub hands_takes : (pr : Problem) (kind : Kind) (callee : Callee) (args : List ℕ) (n k r : ℕ) (q : List PathStep) → Hands kind callee args n → slice_get (handed_values callee args) k ≡ Some r → Takes pr kind r q (n + k) q
hands_takes pr kind callee args n k r q by_call at = (k, at, refl, refl)
hands_takes pr kind callee args n k r q by_go at = (get_behind [] (handed_values callee args) k r at, refl)
hands_takes pr kind callee args n k r q by_defer at = (get_behind [] (handed_values callee args) k r at, refl)

-- a register that holds a reference
pub refers_of : (r : ℕ) (cells : List Cell) (x : Content) (o : Object) (base : List PathStep) → HeldAt r [] cells x → x.value ≡ Ref o base → RefersTo r cells o base
refers_of r cells x o base (held_by c m reg leaf e) v = record { cell = c; held = m; register = reg; leaf = leaf; value = sym (ap (λ (y : Content). y.value) e) ∙ v }
refers_of r cells x o base (held_zero e) v = absurd (not_nil o base (sym (ap (λ (y : Content). y.value) e) ∙ v))

module _ (p : Code) (wf : WellFormed p) (l : Labelling) where
  -- a leaf of a register of the instruction is a node
  pub node_of : (kind : Kind) (i g k r : ℕ) (q : List PathStep) → IsIn p i g → IsAt p i kind → slice_get (node_registers kind) k ≡ Some r → In q (leaves p g r) → IsNode p (mark i k q)
  node_of kind i g k r q inside at is m = let a = number_of q (leaves p g r) m in record { number = a.0; has = of_kind g r kind inside at is a.1 }

  pub node_defined : (kind : Kind) (i g k r : ℕ) (q : List PathStep) → IsIn p i g → IsAt p i kind → slice_get (defined kind) k ≡ Some r → In q (leaves p g r) → IsNode p (mark i k q)
  node_defined kind i g k r q inside at is m = node_of kind i g k r q inside at (defined_node kind k r is) m

  -- the only leaf of a reference
  pub root_leaf : (kind : Kind) (i g r : ℕ) → IsIn p i g → IsAt p i kind → In r (reference_registers kind) → In [] (leaves p g r)
  root_leaf kind i g r inside at m = subst (In []) (sym (wf.references.each i g r kind inside at m)) (here refl)

  module _ (g : ℕ) (ss : List Slot) (f : Frame) where
    -- an atom of known origin
    pub given_by : (kind : Kind) (k : ℕ) (q : List PathStep) (v : Datum) (ls : List Mark) → IsNode p (mark f.place k q) → ((s : Mark) → In s ls → Carries p l kind ss f k q s) → Brings p kind g ss f k q v
        → Given p l kind g ss f k q (record { value = v; labels = own_label l (mark f.place k q) ls; put = mark f.place k q })
    given_by kind k q v ls node carried brings = record {
      put = refl;
      node = node;
      labels = λ s m. elim (In-own l (mark f.place k q) ls s m) [ inl a ↦ From.begins_there a.1 a.0 | inr b ↦ carried s b ];
      value = brings;
    }

    pub held_carries : (kind : Kind) (k r : ℕ) (q q' : List PathStep) (x : Content) → HeldAt r q' f.cells x → Takes l.problem kind r q' k q → (s : Mark) → In s x.labels → Carries p l kind ss f k q s
    held_carries kind k r q q' x (held_by c m reg leaf e) t s i =
        From.taken c m (subst (λ (y : Content). In s y.labels) e i) (subst (λ n. Takes l.problem kind n c.leaf k q) (sym reg) (subst (λ z. Takes l.problem kind r z k q) (sym leaf) t))
    held_carries kind k r q q' x (held_zero e) t s i = in_none s (subst (λ (y : Content). In s y.labels) e i)

    pub held_brings : (kind : Kind) (k r : ℕ) (q q' : List PathStep) (x : Content) → HeldAt r q' f.cells x → Copies kind r q' k q → Brings p kind g ss f k q x.value
    held_brings kind k r q q' x (held_by c m reg leaf e) t =
        From.copied c m (ap (λ (y : Content). y.value) e) (subst (λ n. Copies kind n c.leaf k q) (sym reg) (subst (λ z. Copies kind r z k q) (sym leaf) t))
    held_brings kind k r q q' x (held_zero e) t = From.no_reference (subst IsNoReference (sym (ap (λ (y : Content). y.value) e)) not_nil)

    pub given_held : (kind : Kind) (k r : ℕ) (q q' : List PathStep) (x : Content) → IsNode p (mark f.place k q) → HeldAt r q' f.cells x → Copies kind r q' k q → Takes l.problem kind r q' k q
        → Given p l kind g ss f k q (record { value = x.value; labels = own_label l (mark f.place k q) x.labels; put = mark f.place k q })
    given_held kind k r q q' x node h c t = given_by kind k q x.value x.labels node (held_carries kind k r q q' x h t) (held_brings kind k r q q' x h c)

    -- labels of a Read or Move
    place_carries : (kind : Kind) (q : List PathStep) (ls : List Mark) → ((s : Mark) → In s ls → Carries p l kind ss f 0 q s) → (s : Mark) → In s (place_labels l (mark f.place 0 q) ls) → Carries p l kind ss f 0 q s
    place_carries kind q ls carried s m = place_case (is_source_place l.problem f.place) refl m
      where
        place_case : (b : Bool) → is_source_place l.problem f.place ≡ b → In s (if b then mark f.place 0 q ∷ ls else ls) → Carries p l kind ss f 0 q s
        place_case true e (here x) = From.begins_place e refl x
        place_case true e (there i) = carried s i
        place_case false e i = carried s i

    stepped_brings : (to from : ℕ) (path : List PathStep) (x : Content) → HeldAt from [] f.cells x → (v : Datum) → x.value ≡ v → Brings p (Step to from path) g ss f 0 [] (stepped p path v)
    stepped_brings to from path x h Scalar e = From.no_reference not_nil
    stepped_brings to from path x h Nil e = From.no_reference not_nil
    stepped_brings to from path x h (Ref o base) e = step_case (is_path_of p o.site (base ++ path)) refl
      where
        step_case : (b : Bool) → is_path_of p o.site (base ++ path) ≡ b → Brings p (Step to from path) g ss f 0 [] (if b then Ref o (base ++ path) else Nil)
        step_case true t = From.moved to from path base o refl (refers_of from f.cells x o base h e) t refl refl refl
        step_case false t = From.no_reference not_nil

    asserted_brings : (to from target : ℕ) (x : Content) → HeldAt from [] f.cells x → (v : Datum) → x.value ≡ v → Brings p (Assert to from target) g ss f 0 [] (asserted p target v)
    asserted_brings to from target x h Scalar e = From.no_reference not_nil
    asserted_brings to from target x h Nil e = From.no_reference not_nil
    asserted_brings to from target x h (Ref o base) e = assert_case (is_of_type p target (slice_get p.sites o.site)) refl
      where
        assert_case : (b : Bool) → is_of_type p target (slice_get p.sites o.site) ≡ b → Brings p (Assert to from target) g ss f 0 [] (if b then Ref o base else Nil)
        assert_case true t = From.tested to from target base o refl (refers_of from f.cells x o base h e) t refl refl refl
        assert_case false t = From.no_reference not_nil

    -- what a Read finds
    pub found_slot : (kind : Kind) (k at : ℕ) (q : List PathStep) (x y : Content) → HeldAt at [] f.cells x → (FoundAt x.value q ss y) → ((base : List PathStep) → From.FindsAt p kind f.place k at base q (base ++ q)) → (slot : Slot) × Finds p kind ss f k q slot × (y ≡ content_of slot.atom)
    found_slot kind k at q x y h (found_at o base e st) finds =
        (st.slot, record { at = at; object = o; base = base; path = base ++ q; refers = refers_of at f.cells x o base h e; held = st.held; same = st.object; there = st.path; finds = finds base }, st.is)

    read_puts : (to at : ℕ) (qs : List (List PathStep)) (q : List PathStep) (x y : Content) → In q qs → IsNode p (mark f.place 0 q) → HeldAt at [] f.cells x → (y ≡ zero_content) ⊎ FoundAt x.value q ss y
        → ((s : Mark) → In s (x.labels ++ y.labels) → Carries p l (Read to at qs) ss f 0 q s) × Brings p (Read to at qs) g ss f 0 q y.value
    read_puts to at qs q x y among node h (inl e) = (
      λ s m. elim (In-append s x.labels y.labels m) [ inl a ↦ held_carries (Read to at qs) 0 at q [] x h (refl, refl, refl, among) s a | inr b ↦ in_none s (subst (λ (z : Content). In s z.labels) e b) ],
      From.no_reference (subst IsNoReference (sym (ap (λ (z : Content). z.value) e)) not_nil),
    )
    read_puts to at qs q x y among node h (inr found) =
        let r = found_slot (Read to at qs) 0 at q x y h found (λ base. From.by_read to qs refl refl among) in (
          λ s m. elim (In-append s x.labels y.labels m) [ inl a ↦ held_carries (Read to at qs) 0 at q [] x h (refl, refl, refl, among) s a | inr b ↦ From.found_there r.0 r.1 (subst (λ (z : Content). In s z.labels) r.2 b) ],
          From.found_there r.0 r.1 (ap (λ (z : Content). z.value) r.2),
        )

    moved_held : (from : ℕ) (path q : List PathStep) (xs : List Content) (x : Content) → MayMove from path f.cells q xs → In x xs → HeldAt from (path ++ q) f.cells x
    moved_held from path q xs x ok m = elim (In-picks (not (has_element path) || has_element q) (value_at from (path ++ q) f.cells) (zero_content ∷ contents_at from (path ++ q) f.cells) xs ok x m) [
      | inl a ↦ In-value from (path ++ q) f.cells x a
      | inr b ↦ zero_or b
    ]
      where
        zero_or : In x (zero_content ∷ contents_at from (path ++ q) f.cells) → HeldAt from (path ++ q) f.cells x
        zero_or (here e) = held_zero e
        zero_or (there i) = In-held from (path ++ q) f.cells x i

    -- what an instruction of each kind gives, it puts
    pub puts_kind : (kind : Kind) (n : ℕ) (given : List Cell) → IsIn p f.place f.function → IsAt p f.place kind → Gives p l kind g f.function f.place ss n f.cells given → (c : Cell) → In c given → Puts p l kind g ss f c
    puts_kind (Op to from) n given inside at h c m =
        subst (Puts p l (Op to from) g ss f) (sym (In-one c _ (subst (In c) h m))) (record {
          index = 0;
          defines = refl;
          given = given_by (Op to from) 0 [] Scalar (labels_of from f.cells) (node_defined (Op to from) f.place f.function 0 to [] inside at refl (subst (In []) (sym (wf.op_leaf f.place f.function to from inside at)) (here refl)))
              (λ s i. let a = In-labels s from f.cells i in From.taken a.0 a.1 a.2 (a.3, refl, refl)) (From.no_reference not_scalar);
        })
    puts_kind (Move to from path) n given inside at h c m =
        let a = In-fills l (place_labels l) to f.place 0 (MayMove from path f.cells) (leaves p f.function to) given h c m in
        let x = a.what in
        let hd = moved_held from path a.leaf a.all x a.allowed a.one in
        subst (Puts p l (Move to from path) g ss f) (sym a.is) (record {
          index = 0;
          defines = refl;
          given = given_by (Move to from path) 0 a.leaf x.value (place_labels l (mark f.place 0 a.leaf) x.labels) (node_defined (Move to from path) f.place f.function 0 to a.leaf inside at refl a.among)
              (place_carries (Move to from path) a.leaf x.labels (held_carries (Move to from path) 0 from a.leaf (path ++ a.leaf) x hd (refl, refl, refl))) (held_brings (Move to from path) 0 from a.leaf (path ++ a.leaf) x hd (refl, refl, refl));
        })
    puts_kind (Join to parts) n given inside at h c m =
        let a = In-fills l same_labels to f.place 0 (λ q xs. xs ≡ or_zero (joined parts q f.cells)) (leaves p f.function to) given h c m in
        let node = node_defined (Join to parts) f.place f.function 0 to a.leaf inside at refl a.among in
        subst (Puts p l (Join to parts) g ss f) (sym a.is) (record { index = 0; defines = refl; given = join_case a.leaf a.what node (In-joined_or_zero parts a.leaf f.cells a.what (subst (In a.what) a.allowed a.one)) })
      where
        join_case : (q : List PathStep) (x : Content) → IsNode p (mark f.place 0 q) → JoinedAt parts q f.cells x ⊎ (x ≡ zero_content) → Given p l (Join to parts) g ss f 0 q (record { value = x.value; labels = own_label l (mark f.place 0 q) x.labels; put = mark f.place 0 q })
        join_case q x node (inl j) = given_held (Join to parts) 0 j.register q j.rest x node j.held (j.path, j.lasts, refl, j.is) (j.path, j.lasts, refl, j.is)
        join_case q x node (inr e) = given_by (Join to parts) 0 q x.value x.labels node (λ s i. in_none s (subst (λ (y : Content). In s y.labels) e i)) (From.no_reference (subst IsNoReference (sym (ap (λ (y : Content). y.value) e)) not_nil))
    puts_kind (New to site) n given inside at h c m =
        subst (Puts p l (New to site) g ss f) (sym (In-one c _ (subst (In c) h m))) (record {
          index = 0;
          defines = refl;
          given = given_by (New to site) 0 [] _ [] (node_defined (New to site) f.place f.function 0 to [] inside at refl (root_leaf (New to site) f.place f.function to inside at (here refl)))
              (λ s i. in_none s i) (From.made site n (From.by_new to refl refl refl) refl);
        })
    puts_kind (Step to from path) n given inside at h c m =
        let x = h.0 in
        let hd = In-value from [] f.cells x h.1 in
        subst (Puts p l (Step to from path) g ss f) (sym (In-one c _ (subst (In c) h.2 m))) (record {
          index = 0;
          defines = refl;
          given = given_by (Step to from path) 0 [] (stepped p path x.value) x.labels (node_defined (Step to from path) f.place f.function 0 to [] inside at refl (root_leaf (Step to from path) f.place f.function to inside at (here refl)))
              (held_carries (Step to from path) 0 from [] [] x hd (refl, refl, refl)) (stepped_brings to from path x hd x.value refl);
        })
    puts_kind (Read to at' qs) n given inside at h c m =
        let x = h.0 in
        let hd = In-value at' [] f.cells x h.1 in
        let a = In-fills l (place_labels l) to f.place 0 (MayRead x ss) qs given h.2 c m in
        let among : In a.leaf (leaves p f.function to) = subst (In a.leaf) (wf.read_leaves f.place f.function to at' qs inside at) a.among in
        let node = node_defined (Read to at' qs) f.place f.function 0 to a.leaf inside at refl among in
        let z = In-readable x a.leaf ss a.what (elim (In-picks (has_element a.leaf) (readable x a.leaf ss) (readable x a.leaf ss) a.all a.allowed a.what a.one) [ inl b ↦ b | inr b ↦ b ]) in
        let y = z.0 in
        let r = read_puts to at' qs a.leaf x y a.among node hd z.1 in
        subst (Puts p l (Read to at' qs) g ss f) (sym (a.is ∙ ap (put_cell l (place_labels l) to f.place 0 a.leaf) z.2)) (record {
          index = 0;
          defines = refl;
          given = given_by (Read to at' qs) 0 a.leaf y.value (place_labels l (mark f.place 0 a.leaf) (x.labels ++ y.labels)) node (place_carries (Read to at' qs) a.leaf (x.labels ++ y.labels) r.0) r.1;
        })
    puts_kind (Global to global) n given inside at h c m =
        subst (Puts p l (Global to global) g ss f) (sym (In-one c _ (subst (In c) h.4 m))) (record {
          index = 0;
          defines = refl;
          given = given_by (Global to global) 0 [] (variable h.2) [] (node_defined (Global to global) f.place f.function 0 to [] inside at refl (root_leaf (Global to global) f.place f.function to inside at (here refl)))
              (λ s i. in_none s i) (From.named to global h.2 h.0 h.1 refl h.3 refl refl refl);
        })
    puts_kind (Assert to from target) n given inside at h c m =
        let x = h.0 in
        let hd = In-value from [] f.cells x h.1 in
        subst (Puts p l (Assert to from target) g ss f) (sym (In-one c _ (subst (In c) h.2 m))) (record {
          index = 0;
          defines = refl;
          given = given_by (Assert to from target) 0 [] (asserted p target x.value) x.labels (node_defined (Assert to from target) f.place f.function 0 to [] inside at refl (root_leaf (Assert to from target) f.place f.function to inside at (here refl)))
              (held_carries (Assert to from target) 0 from [] [] x hd (refl, refl, refl)) (asserted_brings to from target x hd x.value refl);
        })
    puts_kind (Passed to callee) n given inside at h c m =
        let a = In-copied l (passed_labels l callee) to to f.place 0 (leaves p f.function to) f.cells c (subst (In c) h m) in
        let x = a.what in
        subst (Puts p l (Passed to callee) g ss f) (sym a.is) (record {
          index = 0;
          defines = refl;
          given = given_by (Passed to callee) 0 a.leaf x.value (passed_labels l callee (mark f.place 0 a.leaf) x.labels) (node_defined (Passed to callee) f.place f.function 0 to a.leaf inside at refl a.among)
              (λ s i. let b = In-unless s x.labels (member callee l.problem.validators) i in held_carries (Passed to callee) 0 to a.leaf a.leaf x a.held (refl, refl, refl, b.0) s b.1)
              (held_brings (Passed to callee) 0 to a.leaf a.leaf x a.held (refl, refl, refl));
        })
    puts_kind (Goto target) n given inside at h c m = in_none c (subst (In c) h m)
    puts_kind (Branch targets) n given inside at h c m = in_none c (subst (In c) h m)
    puts_kind _ n given inside at h c m = absurd h
