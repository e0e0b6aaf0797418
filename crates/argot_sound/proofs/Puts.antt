-- What is in the lists that the machine makes.
use Rattle.std.proofs.Common.{subst, ◌≡◌, ◌<◌, ℕ, suc, ◌+◌, Bool, true, false, not, List, [], ◌∷◌, ◌++◌, Option, Some, None, refl, sym, ap, ◌∙◌, inl, inr, arith, map}
use Rattle.std.proofs.lemmas.Bool.Decides.{nat_tests}
use Rattle.std.specs.Prelude.{◌⊎◌, slice_get, ◌&&◌, nat_lt, if◌then◌else◌}
use Rattle.argot_plain.specs.Lists.{In, here, there, member, same_path, has_path, below, has_many}
use Rattle.argot_plain.specs.Code.{Code, leaves, param_of}
use Rattle.argot_plain.specs.Machine.{Labelling, Datum, Scalar, Nil, Ref, Object, Content, content, content_of, zero_content, Cell, Slot, Change, same_labels, own_label, put_cell, stands_at, contents_at, or_zero, value_at, kept, labels_of, copied, handed, as_param, to_params, handed_back, is_covered, part_value, joined, is_leaf_of, same_object, stored, contents_behind, with_labels, put_slot, slots_at, written, stands_among, after_write, element, added_item, added, read_again, recopied}
use Rattle.argot_plain.specs.Nodes.{Mark, mark}
use Rattle.argot_plain.specs.Outside.{ExternalValue, MayGive, ExternalGives, no_more, one_more, result_labels}
use Rattle.argot_plain.specs.Puts.{Fills, no_leaf, one_leaf, Picks, pick_all, pick_one, readable}
use Rattle.argot_plain.specs.declared.functions.Function.{Function}
use Rattle.argot_text.specs.declared.path.PathStep.{PathStep}
use Rattle.argot_text.specs.declared.path.PathStep.TheVariants.{Element}
use Rattle.argot_facts.specs.Copies.{Lasts, last_here, last_there}
use Rattle.argot_sound.proofs.Lists.{In-append, In-one, In-map, In-filter, In-filter_map, In-if, In-unless, Some-if, not_true, and_both, same_number, same_path_is, has_path_in, below_is}

-- a cell that was kept
pub In-kept : (c : Cell) (rs : List ℕ) (cells : List Cell) → In c (kept rs cells) → In c cells × (member c.register rs ≡ false)
In-kept c rs cells h = let r = In-filter (λ c. not (member c.register rs)) c cells h in (r.0, not_true _ r.1)

-- a label of what the registers hold
In-labels_case : (s : Mark) (rs : List ℕ) (d : Cell) (cells : List Cell) → (In s (labels_of rs cells) → (c : Cell) × (In c cells) × (In s c.atom.labels) × (member c.register rs ≡ true))
    → In s (if member d.register rs then d.atom.labels else []) ⊎ In s (labels_of rs cells)
    → (c : Cell) × (In c (d ∷ cells)) × (In s c.atom.labels) × (member c.register rs ≡ true)
In-labels_case s rs d cells rec (inl h) = let r = In-if s d.atom.labels (member d.register rs) h in (d, here refl, r.1, r.0)
In-labels_case s rs d cells rec (inr h) = let r = rec h in (r.0, there r.1, r.2, r.3)

pub In-labels : (s : Mark) (rs : List ℕ) (cells : List Cell) → In s (labels_of rs cells) → (c : Cell) × (In c cells) × (In s c.atom.labels) × (member c.register rs ≡ true)
In-labels s rs [] h = elim h [ ]
In-labels s rs (d ∷ cells) h = In-labels_case s rs d cells (In-labels s rs cells) (In-append s _ _ h)

-- a label of an atom that is put
pub In-own : (l : Labelling) (n : Mark) (ls : List Mark) (s : Mark) → In s (own_label l n ls) → ((s ≡ n) × (l.begins s ≡ true)) ⊎ In s ls
In-own l n ls s h = own_case (l.begins n) refl h
  where
    own_case : (b : Bool) → l.begins n ≡ b → In s (if b then n ∷ ls else ls) → ((s ≡ n) × (l.begins s ≡ true)) ⊎ In s ls
    own_case true e (here x) = inl (x, ap l.begins x ∙ e)
    own_case true e (there m) = inr m
    own_case false e m = inr m

-- what a register holds at a leaf
pub data HeldAt (r : ℕ) (q : List PathStep) (cells : List Cell) (x : Content) : Type 0 where
  held_by : (c : Cell) → In c cells → c.register ≡ r → c.leaf ≡ q → x ≡ content_of c.atom → HeldAt r q cells x
  held_zero : x ≡ zero_content → HeldAt r q cells x

pub In-held : (r : ℕ) (q : List PathStep) (cells : List Cell) (x : Content) → In x (contents_at r q cells) → HeldAt r q cells x
In-held r q cells x h =
    let m = In-map (λ (c : Cell). content_of c.atom) x _ h in
    let t = In-filter (stands_at r q) m.0 cells m.1 in
    let b = and_both _ _ t.1 in
    held_by m.0 t.0 (same_number _ _ b.0) (same_path_is _ _ b.1) m.2

In-or_zero : (x : Content) (xs : List Content) → In x (or_zero xs) → In x xs ⊎ (x ≡ zero_content)
In-or_zero x [] h = inr (In-one x zero_content h)
In-or_zero x (y ∷ ys) h = inl h

pub In-value : (r : ℕ) (q : List PathStep) (cells : List Cell) (x : Content) → In x (value_at r q cells) → HeldAt r q cells x
In-value r q cells x h = elim (In-or_zero x (contents_at r q cells) h) [ inl a ↦ In-held r q cells x a | inr b ↦ held_zero b ]

-- what is put at leaves of a register
pub record CopiedAt (l : Labelling) (f : Change) (r to i k : ℕ) (qs : List (List PathStep)) (cells : List Cell) (c : Cell) : Type 0 where
  pub leaf : List PathStep
  pub among : In leaf qs
  pub what : Content
  pub among_values : In what (value_at r leaf cells)
  pub held : HeldAt r leaf cells what
  pub is : c ≡ put_cell l f to i k leaf what

copied_case : (l : Labelling) (f : Change) (r to i k : ℕ) (q : List PathStep) (qs : List (List PathStep)) (cells : List Cell) (c : Cell) → (In c (copied l f r to i k qs cells) → CopiedAt l f r to i k qs cells c)
    → In c (map (put_cell l f to i k q) (value_at r q cells)) ⊎ In c (copied l f r to i k qs cells) → CopiedAt l f r to i k (q ∷ qs) cells c
copied_case l f r to i k q qs cells c rec (inl h) = let m = In-map (put_cell l f to i k q) c (value_at r q cells) h in record { leaf = q; among = here refl; what = m.0; among_values = m.1; held = In-value r q cells m.0 m.1; is = m.2 }
copied_case l f r to i k q qs cells c rec (inr h) = let m = rec h in record { leaf = m.leaf; among = there m.among; what = m.what; among_values = m.among_values; held = m.held; is = m.is }

pub In-copied : (l : Labelling) (f : Change) (r to i k : ℕ) (qs : List (List PathStep)) (cells : List Cell) (c : Cell) → In c (copied l f r to i k qs cells) → CopiedAt l f r to i k qs cells c
In-copied l f r to i k [] cells c h = elim h [ ]
In-copied l f r to i k (q ∷ qs) cells c h = copied_case l f r to i k q qs cells c (In-copied l f r to i k qs cells c) (In-append c _ _ h)

-- what is handed on
pub record HandedAt (p : Code) (l : Labelling) (g i n k : ℕ) (rs : List ℕ) (cells : List Cell) (c : Cell) : Type 0 where
  pub number : ℕ
  pub register : ℕ
  pub at : slice_get rs number ≡ Some register
  pub copied : CopiedAt l same_labels register (k + number) i (n + (k + number)) (leaves p g register) cells c

handed_case : (p : Code) (l : Labelling) (g i n k r : ℕ) (rs : List ℕ) (cells : List Cell) (c : Cell) → (In c (handed p l g i n (k + 1) rs cells) → HandedAt p l g i n (k + 1) rs cells c)
    → In c (copied l same_labels r k i (n + k) (leaves p g r) cells) ⊎ In c (handed p l g i n (k + 1) rs cells) → HandedAt p l g i n k (r ∷ rs) cells c
handed_case p l g i n k r rs cells c rec (inl h) =
    let z : k ≡ k + 0 = omega arith in
    record { number = 0; register = r; at = refl; copied = subst (λ x. CopiedAt l same_labels r x i (n + x) (leaves p g r) cells c) z (In-copied l same_labels r k i (n + k) (leaves p g r) cells c h) }
handed_case p l g i n k r rs cells c rec (inr h) =
    let m = rec h in
    let z : k + 1 + m.number ≡ k + suc m.number = omega arith in
    record { number = suc m.number; register = m.register; at = m.at; copied = subst (λ x. CopiedAt l same_labels m.register x i (n + x) (leaves p g m.register) cells c) z m.copied }

pub In-handed : (p : Code) (l : Labelling) (g i n k : ℕ) (rs : List ℕ) (cells : List Cell) (c : Cell) → In c (handed p l g i n k rs cells) → HandedAt p l g i n k rs cells c
In-handed p l g i n k [] cells c h = elim h [ ]
In-handed p l g i n k (r ∷ rs) cells c h = handed_case p l g i n k r rs cells c (In-handed p l g i n (k + 1) rs cells c) (In-append c _ _ h)

-- what becomes a parameter
pub record ParamAt (p : Code) (l : Labelling) (h : ℕ) (takes : Bool) (n : ℕ) (fn : Function) (cells : List Cell) (c : Cell) : Type 0 where
  pub from : Cell
  pub held : In from cells
  pub number : ℕ
  pub param : param_of takes n from.register ≡ Some number
  pub within : number < fn.params
  pub among : In from.leaf (leaves p h number)
  pub is : c ≡ put_cell l same_labels number fn.entry number from.leaf (content_of from.atom)

param_case : (p : Code) (l : Labelling) (h : ℕ) (fn : Function) (d c : Cell) (o : Option ℕ) → as_param p l h fn d o ≡ Some c
    → (j : ℕ) × (o ≡ Some j) × (j < fn.params) × In d.leaf (leaves p h j) × (c ≡ put_cell l same_labels j fn.entry j d.leaf (content_of d.atom))
param_case p l h fn d c None e = cc
param_case p l h fn d c (Some j) e =
    let t = Some-if (put_cell l same_labels j fn.entry j d.leaf (content_of d.atom)) c _ e in
    let b = and_both (nat_lt j fn.params) (has_path d.leaf (leaves p h j)) t.0 in
    let x : nat_lt j fn.params ≡ true = b.0 in
    let within : j < fn.params = grind (arith, nat_tests) in
    (j, refl, within, has_path_in d.leaf _ b.1, sym t.1)

pub In-to_params : (p : Code) (l : Labelling) (h : ℕ) (takes : Bool) (n : ℕ) (fn : Function) (cells : List Cell) (c : Cell) → In c (to_params p l h takes n fn cells) → ParamAt p l h takes n fn cells c
In-to_params p l h takes n fn cells c m =
    let a = In-filter_map (λ (c : Cell). as_param p l h fn c (param_of takes n c.register)) c cells m in
    let b = param_case p l h fn a.0 c (param_of takes n (a.0).register) a.2 in
    record { from = a.0; held = a.1; number = b.0; param = b.1; within = b.2; among = b.3; is = b.4 }

-- what is handed back
pub record ReturnedAt (p : Code) (l : Labelling) (f : Change) (g i k : ℕ) (to : List ℕ) (cells : List Cell) (c : Cell) : Type 0 where
  pub number : ℕ
  pub register : ℕ
  pub at : slice_get to number ≡ Some register
  pub copied : CopiedAt l f (k + number) register i (k + number) (leaves p g register) cells c

returned_case : (p : Code) (l : Labelling) (f : Change) (g i k t : ℕ) (ts : List ℕ) (cells : List Cell) (c : Cell) → (In c (handed_back p l f g i (k + 1) ts cells) → ReturnedAt p l f g i (k + 1) ts cells c)
    → In c (copied l f k t i k (leaves p g t) cells) ⊎ In c (handed_back p l f g i (k + 1) ts cells) → ReturnedAt p l f g i k (t ∷ ts) cells c
returned_case p l f g i k t ts cells c rec (inl h) =
    let z : k ≡ k + 0 = omega arith in
    record { number = 0; register = t; at = refl; copied = subst (λ x. CopiedAt l f x t i x (leaves p g t) cells c) z (In-copied l f k t i k (leaves p g t) cells c h) }
returned_case p l f g i k t ts cells c rec (inr h) =
    let m = rec h in
    let z : k + 1 + m.number ≡ k + suc m.number = omega arith in
    record { number = suc m.number; register = m.register; at = m.at; copied = subst (λ x. CopiedAt l f x m.register i x (leaves p g m.register) cells c) z m.copied }

pub In-returned : (p : Code) (l : Labelling) (f : Change) (g i k : ℕ) (to : List ℕ) (cells : List Cell) (c : Cell) → In c (handed_back p l f g i k to cells) → ReturnedAt p l f g i k to cells c
In-returned p l f g i k [] cells c h = elim h [ ]
In-returned p l f g i k (t ∷ ts) cells c h = returned_case p l f g i k t ts cells c (In-returned p l f g i (k + 1) ts cells c) (In-append c _ _ h)

-- what fills the leaves of a register
pub record FilledAt (l : Labelling) (f : Change) (to i k : ℕ) (P : List PathStep → List Content → Type 0) (qs : List (List PathStep)) (c : Cell) : Type 0 where
  pub leaf : List PathStep
  pub among : In leaf qs
  pub all : List Content
  pub allowed : P leaf all
  pub what : Content
  pub one : In what all
  pub is : c ≡ put_cell l f to i k leaf what

fills_case : (l : Labelling) (f : Change) (to i k : ℕ) (P : List PathStep → List Content → Type 0) (q : List PathStep) (qs : List (List PathStep)) (xs : List Content) (cells : List Cell) (c : Cell) → P q xs → (In c cells → FilledAt l f to i k P qs c)
    → In c (map (put_cell l f to i k q) xs) ⊎ In c cells → FilledAt l f to i k P (q ∷ qs) c
fills_case l f to i k P q qs xs cells c ok rec (inl h) = let m = In-map (put_cell l f to i k q) c xs h in record { leaf = q; among = here refl; all = xs; allowed = ok; what = m.0; one = m.1; is = m.2 }
fills_case l f to i k P q qs xs cells c ok rec (inr h) = let m = rec h in record { leaf = m.leaf; among = there m.among; all = m.all; allowed = m.allowed; what = m.what; one = m.one; is = m.is }

pub In-fills : (l : Labelling) (f : Change) (to i k : ℕ) (P : List PathStep → List Content → Type 0) (qs : List (List PathStep)) (given : List Cell) → Fills l f to i k P qs given → (c : Cell) → In c given → FilledAt l f to i k P qs c
In-fills l f to i k P qs given no_leaf c h = elim h [ ]
In-fills l f to i k P qs given (one_leaf {qs = qs'} {cells = cells} q xs ok rest) c h = fills_case l f to i k P q qs' xs cells c ok (In-fills l f to i k P qs' cells rest c) (In-append c _ _ h)

pub In-picks : (many : Bool) (all one xs : List Content) → Picks many all one xs → (x : Content) → In x xs → In x all ⊎ In x one
In-picks many all one xs (pick_all e) x h = inl h
In-picks many all one xs (pick_one {x = y} e m) x h = inr (subst (λ z. In z one) (sym (In-one x y h)) m)

-- what parts put together give
pub record JoinedAt (parts : List (List PathStep × ℕ)) (q : List PathStep) (cells : List Cell) (x : Content) : Type 0 where
  pub path : List PathStep
  pub register : ℕ
  pub rest : List PathStep
  pub lasts : Lasts path register q parts
  pub is : q ≡ path ++ rest
  pub held : HeldAt register rest cells x

part_case : (y : List PathStep × ℕ) (parts : List (List PathStep × ℕ)) (q : List PathStep) (cells : List Cell) (x : Content) → is_covered q parts ≡ false → (o : Option (List PathStep)) → below y.0 q ≡ o → In x (part_value y.1 cells o) → JoinedAt (y ∷ parts) q cells x
part_case y parts q cells x free None e h = elim h [ ]
part_case y parts q cells x free (Some r) e h = record { path = y.0; register = y.1; rest = r; lasts = last_here refl refl free; is = below_is y.0 q r e; held = In-value y.1 r cells x h }

joined_case : (y : List PathStep × ℕ) (parts : List (List PathStep × ℕ)) (q : List PathStep) (cells : List Cell) (x : Content) → (In x (joined parts q cells) → JoinedAt parts q cells x)
    → In x (if is_covered q parts then [] else part_value y.1 cells (below y.0 q)) ⊎ In x (joined parts q cells) → JoinedAt (y ∷ parts) q cells x
joined_case y parts q cells x rec (inl h) = let t = In-unless x (part_value y.1 cells (below y.0 q)) (is_covered q parts) h in part_case y parts q cells x t.0 (below y.0 q) refl t.1
joined_case y parts q cells x rec (inr h) = let m = rec h in record { path = m.path; register = m.register; rest = m.rest; lasts = last_there m.lasts; is = m.is; held = m.held }

pub In-joined : (parts : List (List PathStep × ℕ)) (q : List PathStep) (cells : List Cell) (x : Content) → In x (joined parts q cells) → JoinedAt parts q cells x
In-joined [] q cells x h = elim h [ ]
In-joined (y ∷ parts) q cells x h = joined_case y parts q cells x (In-joined parts q cells x) (In-append x _ _ h)

pub In-joined_or_zero : (parts : List (List PathStep × ℕ)) (q : List PathStep) (cells : List Cell) (x : Content) → In x (or_zero (joined parts q cells)) → JoinedAt parts q cells x ⊎ (x ≡ zero_content)
In-joined_or_zero parts q cells x h = elim (In-or_zero x (joined parts q cells) h) [ inl a ↦ inl (In-joined parts q cells x a) | inr b ↦ inr b ]

-- what objects hold
pub same_object_is : (a b : Object) → same_object a b ≡ true → a ≡ b
same_object_is a b h =
    let t = and_both _ _ h in
    let u = and_both _ _ t.0 in
    let x = same_number _ _ u.0 in let y = same_number _ _ u.1 in let z = same_number _ _ t.1 in
    ap (λ n. record { site = n; maker = a.maker; serial = a.serial }) x ∙ ap (λ n. record { site = b.site; maker = n; serial = a.serial }) y ∙ ap (λ n. record { site = b.site; maker = b.maker; serial = n }) z

pub record StoredAt (o : Object) (q : List PathStep) (ss : List Slot) (x : Content) : Type 0 where
  pub slot : Slot
  pub held : In slot ss
  pub object : slot.object ≡ o
  pub path : slot.path ≡ q
  pub is : x ≡ content_of slot.atom

pub In-stored : (o : Object) (q : List PathStep) (ss : List Slot) (x : Content) → In x (stored o q ss) → StoredAt o q ss x
In-stored o q ss x h =
    let m = In-map (λ (s : Slot). content_of s.atom) x _ h in
    let t = In-filter (λ (s : Slot). same_object s.object o && same_path s.path q) m.0 ss m.1 in
    let b = and_both _ _ t.1 in
    record { slot = m.0; held = t.0; object = same_object_is _ _ b.0; path = same_path_is _ _ b.1; is = m.2 }

-- what a reference leads to
pub data FoundAt (v : Datum) (q : List PathStep) (ss : List Slot) (x : Content) : Type 0 where
  found_at : (o : Object) → (base : List PathStep) → v ≡ Ref o base → StoredAt o (base ++ q) ss x → FoundAt v q ss x

pub In-found : (v : Datum) (q : List PathStep) (ss : List Slot) (x : Content) → In x (contents_behind v q ss) → FoundAt v q ss x
In-found Scalar q ss x h = elim h [ ]
In-found Nil q ss x h = elim h [ ]
In-found (Ref o base) q ss x h = found_at o base refl (In-stored o (base ++ q) ss x h)

-- what a Read may find
pub In-readable : (ref : Content) (q : List PathStep) (ss : List Slot) (x : Content) → In x (readable ref q ss) → (y : Content) × ((y ≡ zero_content) ⊎ FoundAt ref.value q ss y) × (x ≡ with_labels ref.labels y)
In-readable ref q ss x h = let m = In-map (with_labels ref.labels) x (zero_content ∷ contents_behind ref.value q ss) h in readable_case m.0 m.1 m.2
  where
    readable_case : (y : Content) → In y (zero_content ∷ contents_behind ref.value q ss) → x ≡ with_labels ref.labels y → (y : Content) × ((y ≡ zero_content) ⊎ FoundAt ref.value q ss y) × (x ≡ with_labels ref.labels y)
    readable_case y (here e) is = (y, inl e, is)
    readable_case y (there m) is = (y, inr (In-found ref.value q ss y m), is)

-- what is put into objects
pub record PutAt (p : Code) (l : Labelling) (o : Object) (q : List PathStep) (n : Mark) (xs : List Content) (s : Slot) : Type 0 where
  pub is_leaf : is_leaf_of p o.site q ≡ true
  pub what : Content
  pub among : In what xs
  pub is : s ≡ put_slot l o q n what

pub In-slots_at : (p : Code) (l : Labelling) (o : Object) (q : List PathStep) (n : Mark) (xs : List Content) (s : Slot) → In s (slots_at p l o q n xs) → PutAt p l o q n xs s
In-slots_at p l o q n xs s h =
    let t = In-if s (map (put_slot l o q n) xs) (is_leaf_of p o.site q) h in
    let m = In-map (put_slot l o q n) s xs t.1 in
    record { is_leaf = t.0; what = m.0; among = m.1; is = m.2 }

pub record WrittenAt (p : Code) (l : Labelling) (i from : ℕ) (o : Object) (base : List PathStep) (qs : List (List PathStep)) (cells : List Cell) (s : Slot) : Type 0 where
  pub leaf : List PathStep
  pub among : In leaf qs
  pub put : PutAt p l o (base ++ leaf) (mark i 0 leaf) (value_at from leaf cells) s

written_case : (p : Code) (l : Labelling) (i from : ℕ) (o : Object) (base : List PathStep) (q : List PathStep) (qs : List (List PathStep)) (cells : List Cell) (s : Slot) → (In s (written p l i from o base qs cells) → WrittenAt p l i from o base qs cells s)
    → In s (slots_at p l o (base ++ q) (mark i 0 q) (value_at from q cells)) ⊎ In s (written p l i from o base qs cells) → WrittenAt p l i from o base (q ∷ qs) cells s
written_case p l i from o base q qs cells s rec (inl h) = record { leaf = q; among = here refl; put = In-slots_at p l o (base ++ q) (mark i 0 q) (value_at from q cells) s h }
written_case p l i from o base q qs cells s rec (inr h) = let m = rec h in record { leaf = m.leaf; among = there m.among; put = m.put }

pub In-written : (p : Code) (l : Labelling) (i from : ℕ) (o : Object) (base : List PathStep) (qs : List (List PathStep)) (cells : List Cell) (s : Slot) → In s (written p l i from o base qs cells) → WrittenAt p l i from o base qs cells s
In-written p l i from o base [] cells s h = elim h [ ]
In-written p l i from o base (q ∷ qs) cells s h = written_case p l i from o base q qs cells s (In-written p l i from o base qs cells s) (In-append s _ _ h)

pub In-after_write : (s : Slot) (new old : List Slot) → In s (after_write new old) → In s new ⊎ In s old
In-after_write s new old h = elim (In-append s new _ h) [ inl a ↦ inl a | inr b ↦ inr (In-filter (λ t. not (stands_among t new && not (has_many t.path))) s old b).0 ]

-- items that a Grow adds
pub record AddedAt (p : Code) (l : Labelling) (i : ℕ) (o : Object) (base : List PathStep) (items : List ℕ) (qs : List (List PathStep)) (cells : List Cell) (s : Slot) : Type 0 where
  pub register : ℕ
  pub item : In register items
  pub leaf : List PathStep
  pub among : In leaf qs
  pub put : PutAt p l o (element base leaf) (mark i 1 leaf) (value_at register leaf cells) s

item_case : (p : Code) (l : Labelling) (i : ℕ) (o : Object) (base : List PathStep) (r : ℕ) (rs : List ℕ) (q : List PathStep) (qs : List (List PathStep)) (cells : List Cell) (s : Slot) → (In s (added_item p l i o base r qs cells) → AddedAt p l i o base (r ∷ rs) qs cells s)
    → In s (slots_at p l o (element base q) (mark i 1 q) (value_at r q cells)) ⊎ In s (added_item p l i o base r qs cells) → AddedAt p l i o base (r ∷ rs) (q ∷ qs) cells s
item_case p l i o base r rs q qs cells s rec (inl h) = record { register = r; item = here refl; leaf = q; among = here refl; put = In-slots_at p l o (element base q) (mark i 1 q) (value_at r q cells) s h }
item_case p l i o base r rs q qs cells s rec (inr h) = let m = rec h in record { register = m.register; item = m.item; leaf = m.leaf; among = there m.among; put = m.put }

In-item : (p : Code) (l : Labelling) (i : ℕ) (o : Object) (base : List PathStep) (r : ℕ) (rs : List ℕ) (qs : List (List PathStep)) (cells : List Cell) (s : Slot) → In s (added_item p l i o base r qs cells) → AddedAt p l i o base (r ∷ rs) qs cells s
In-item p l i o base r rs [] cells s h = elim h [ ]
In-item p l i o base r rs (q ∷ qs) cells s h = item_case p l i o base r rs q qs cells s (In-item p l i o base r rs qs cells s) (In-append s _ _ h)

added_case : (p : Code) (l : Labelling) (i : ℕ) (o : Object) (base : List PathStep) (r : ℕ) (rs : List ℕ) (qs : List (List PathStep)) (cells : List Cell) (s : Slot) → (In s (added p l i o base rs qs cells) → AddedAt p l i o base rs qs cells s)
    → In s (added_item p l i o base r qs cells) ⊎ In s (added p l i o base rs qs cells) → AddedAt p l i o base (r ∷ rs) qs cells s
added_case p l i o base r rs qs cells s rec (inl h) = In-item p l i o base r rs qs cells s h
added_case p l i o base r rs qs cells s rec (inr h) = let m = rec h in record { register = m.register; item = there m.item; leaf = m.leaf; among = m.among; put = m.put }

pub In-added : (p : Code) (l : Labelling) (i : ℕ) (o : Object) (base : List PathStep) (items : List ℕ) (qs : List (List PathStep)) (cells : List Cell) (s : Slot) → In s (added p l i o base items qs cells) → AddedAt p l i o base items qs cells s
In-added p l i o base [] qs cells s h = elim h [ ]
In-added p l i o base (r ∷ rs) qs cells s h = added_case p l i o base r rs qs cells s (In-added p l i o base rs qs cells s) (In-append s _ _ h)

-- elements that a Grow copies
pub record RecopiedAt (p : Code) (l : Labelling) (i : ℕ) (o : Object) (v : Datum) (qs : List (List PathStep)) (ss : List Slot) (s : Slot) : Type 0 where
  pub leaf : List PathStep
  pub among : In leaf qs
  pub is_leaf : is_leaf_of p o.site (element [] leaf) ≡ true
  pub what : Content
  pub found : FoundAt v (Element ∷ leaf) ss what
  pub is : s ≡ put_slot l o (element [] leaf) (mark i 1 leaf) (read_again l (mark i 2 leaf) what)

recopied_case : (p : Code) (l : Labelling) (i : ℕ) (o : Object) (v : Datum) (q : List PathStep) (qs : List (List PathStep)) (ss : List Slot) (s : Slot) → (In s (recopied p l i o v qs ss) → RecopiedAt p l i o v qs ss s)
    → In s (slots_at p l o (element [] q) (mark i 1 q) (map (read_again l (mark i 2 q)) (contents_behind v (Element ∷ q) ss))) ⊎ In s (recopied p l i o v qs ss) → RecopiedAt p l i o v (q ∷ qs) ss s
recopied_case p l i o v q qs ss s rec (inl h) =
    let t = In-slots_at p l o (element [] q) (mark i 1 q) (map (read_again l (mark i 2 q)) (contents_behind v (Element ∷ q) ss)) s h in
    let m = In-map (read_again l (mark i 2 q)) t.what (contents_behind v (Element ∷ q) ss) t.among in
    record { leaf = q; among = here refl; is_leaf = t.is_leaf; what = m.0; found = In-found v (Element ∷ q) ss m.0 m.1; is = t.is ∙ ap (put_slot l o (element [] q) (mark i 1 q)) m.2 }
recopied_case p l i o v q qs ss s rec (inr h) = let m = rec h in record { leaf = m.leaf; among = there m.among; is_leaf = m.is_leaf; what = m.what; found = m.found; is = m.is }

pub In-recopied : (p : Code) (l : Labelling) (i : ℕ) (o : Object) (v : Datum) (qs : List (List PathStep)) (ss : List Slot) (s : Slot) → In s (recopied p l i o v qs ss) → RecopiedAt p l i o v qs ss s
In-recopied p l i o v [] ss s h = elim h [ ]
In-recopied p l i o v (q ∷ qs) ss s h = recopied_case p l i o v q qs ss s (In-recopied p l i o v qs ss s) (In-append s _ _ h)

-- what an external gives
pub record OutsideAt (p : Code) (l : Labelling) (g i h maker fresh k : ℕ) (ls : List Mark) (to : List ℕ) (c : Cell) : Type 0 where
  pub number : ℕ
  pub register : ℕ
  pub at : slice_get to number ≡ Some register
  pub leaf : List PathStep
  pub among : In leaf (leaves p g register)
  pub value : Datum
  pub gives : ExternalValue p g i (k + number) register maker fresh leaf value
  pub is : c ≡ put_cell l (result_labels p l i h) register i (k + number) leaf (content value ls)

outside_case : (p : Code) (l : Labelling) (g i h maker fresh k : ℕ) (ls : List Mark) (t : ℕ) (ts : List ℕ) (cells rest : List Cell) (c : Cell) → Fills l (result_labels p l i h) t i k (MayGive p g i k t maker fresh ls) (leaves p g t) cells
    → (In c rest → OutsideAt p l g i h maker fresh (k + 1) ls ts c) → In c cells ⊎ In c rest → OutsideAt p l g i h maker fresh k ls (t ∷ ts) c
outside_case p l g i h maker fresh k ls t ts cells rest c fills rec (inl m) =
    let a = In-fills l (result_labels p l i h) t i k (MayGive p g i k t maker fresh ls) (leaves p g t) cells fills c m in
    let v = (a.allowed).0 in
    let e : a.what ≡ content v ls = In-one a.what (content v ls) (subst (In a.what) (a.allowed).2 a.one) in
    let z : k ≡ k + 0 = omega arith in
    record {
      number = 0;
      register = t;
      at = refl;
      leaf = a.leaf;
      among = a.among;
      value = v;
      gives = subst (λ x. ExternalValue p g i x t maker fresh a.leaf v) z (a.allowed).1;
      is = a.is ∙ ap (put_cell l (result_labels p l i h) t i k a.leaf) e ∙ ap (λ x. put_cell l (result_labels p l i h) t i x a.leaf (content v ls)) z;
    }
outside_case p l g i h maker fresh k ls t ts cells rest c fills rec (inr m) =
    let a = rec m in
    let z : k + 1 + a.number ≡ k + suc a.number = omega arith in
    record {
      number = suc a.number;
      register = a.register;
      at = a.at;
      leaf = a.leaf;
      among = a.among;
      value = a.value;
      gives = subst (λ x. ExternalValue p g i x a.register maker fresh a.leaf a.value) z a.gives;
      is = a.is ∙ ap (λ x. put_cell l (result_labels p l i h) a.register i x a.leaf (content a.value ls)) z;
    }

pub In-outside : (p : Code) (l : Labelling) (g i h maker fresh : ℕ) (ls : List Mark) (k : ℕ) (to : List ℕ) (given : List Cell) → ExternalGives p l g i h maker fresh ls k to given → (c : Cell) → In c given → OutsideAt p l g i h maker fresh k ls to c
In-outside p l g i h maker fresh ls k to given no_more c m = elim m [ ]
In-outside p l g i h maker fresh ls k to given (one_more {t = t} {ts = ts} {cells = cells} {rest = rest} fills more) c m =
    outside_case p l g i h maker fresh k ls t ts cells rest c fills (In-outside p l g i h maker fresh ls (k + 1) ts rest more c) (In-append c _ _ m)
