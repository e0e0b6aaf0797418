-- The law of single contents: at a leaf that doesn't lead to elements a register holds one content at most. So a function that is
-- found by a reference or a box is handed what selects it alone.
use Rattle.std.proofs.Common.{◌≡◌, length, ℕ, suc, ◌+◌, Bool, true, false, not, List, [], ◌∷◌, ◌++◌, Option, Some, None, refl, sym, ap, ◌∙◌, subst, inl, inr, arith, map}
use Rattle.std.specs.Prelude.{◌⊎◌, slice_get, ◌&&◌, ◌||◌, ◌==◌, nat_lt, if◌then◌else◌}
use Rattle.argot_plain.specs.Lists.{In, here, there, IsDistinct, member, has_element, below, begins_with, same_step}
use Rattle.argot_plain.specs.Code.{Code, IsAt, IsIn, Hands, by_call, by_go, by_defer, found_by, handed_values, arguments, defined, leaves, param_of, Selects, GoesTo}
use Rattle.argot_plain.specs.Code as Choosing
use Rattle.argot_plain.specs.WellFormed.{WellFormed}
use Rattle.argot_plain.specs.Machine.{Labelling, Datum, Ref, Object, Content, content, content_of, zero_content, Cell, Slot, Change, Found, Deferred, Frame, View, same_labels, put_cell, stands_at, contents_at, or_zero, value_at, kept, copied, handed, to_params, handed_back, is_covered, part_value, joined}
use Rattle.argot_plain.specs.Outside.{Names, GoesBy, goes_by_value, goes_by_method, Resolves, by_number, by_reference, MayGive, ExternalGives, no_more, one_more, result_labels}
use Rattle.argot_plain.specs.Outside as Named
use Rattle.argot_plain.specs.Puts.{Fills, no_leaf, one_leaf, Picks, pick_all, pick_one, MayMove, MayRead, readable, place_labels, passed_labels, Gives}
use Rattle.argot_plain.specs.Step.{Acts, act_puts, act_stores, act_stores_nothing, act_grows, act_grows_nothing, act_grows_anew, act_enters, act_calls_outside, act_starts, act_starts_outside, act_keeps, act_runs, act_runs_outside, act_runs_nothing, act_exits, act_leaves, act_leaves_deferred, act_ends, act_panics, act_drops, act_drops_last, first_frame, gets, handing, leaving, record_of}
use Rattle.argot_plain.specs.Nodes.{Mark}
use Rattle.argot_plain.specs.declared.functions.Function.{Function}
use Rattle.argot_plain.specs.declared.instructions.Callee.{Callee}
use Rattle.argot_plain.specs.declared.instructions.Callee.TheVariants.{Static, Value, Method}
use Rattle.argot_plain.specs.declared.instructions.Kind.{Kind}
use Rattle.argot_plain.specs.declared.instructions.Kind.TheVariants.{Op, Move, Join, New, Step, Read, Global, Assert, Goto, Branch, Passed}
use Rattle.argot_text.specs.declared.path.PathStep.{PathStep}
use Rattle.argot_text.specs.declared.path.PathStep.TheVariants.{Field, Element, Key, Channel, Capture}
use Rattle.argot_text.specs.declared.path.PathStep.TheVariants as steps
use Rattle.argot_sound.specs.Laws.{EachFrame, IsSingle, FrameSingle, AllGo}
use Rattle.argot_sound.proofs.Effects.{StandsInside}
use Rattle.argot_sound.proofs.Given.{puts_kind}
use Rattle.argot_sound.proofs.Handing.{outside_puts}
use Rattle.argot_sound.proofs.Lists.{In-append, In-one, In-map, In-filter, In-unless, Some-if, or_left, and_both, same_number, same_test, same_path_is, below_is, member_at, number_of}
use Rattle.argot_sound.proofs.Puts.{In-kept, In-copied, In-handed, In-to_params, In-returned, In-fills, In-outside}

-- lists without doubles
distinct_head : {A : Type 0} (x : A) (xs : List A) → IsDistinct (x ∷ xs) → In x xs → ⊥
distinct_head x xs d m = let a = number_of x xs m in let e : 0 ≡ suc a.0 = d 0 (suc a.0) x refl a.1 in omega arith

distinct_tail : {A : Type 0} (x : A) (xs : List A) → IsDistinct (x ∷ xs) → IsDistinct xs
distinct_tail x xs d = λ a b y h k. (let e : suc a ≡ suc b = d (suc a) (suc b) y h k in omega arith)

-- paths
element_append : (p q : List PathStep) → has_element p ≡ false → has_element q ≡ false → has_element (p ++ q) ≡ false
element_append [] q h k = k
element_append (Field n ∷ p) q h k = element_append p q h k
element_append (Element ∷ p) q h k = cc
element_append (Key ∷ p) q h k = element_append p q h k
element_append (steps.Value ∷ p) q h k = element_append p q h k
element_append (Channel ∷ p) q h k = element_append p q h k
element_append (Capture n ∷ p) q h k = element_append p q h k

element_front : (p q : List PathStep) → has_element (p ++ q) ≡ false → has_element p ≡ false
element_front [] q h = refl
element_front (Field n ∷ p) q h = element_front p q h
element_front (Element ∷ p) q h = cc
element_front (Key ∷ p) q h = element_front p q h
element_front (steps.Value ∷ p) q h = element_front p q h
element_front (Channel ∷ p) q h = element_front p q h
element_front (Capture n ∷ p) q h = element_front p q h

element_behind : (p q : List PathStep) → has_element (p ++ q) ≡ false → has_element q ≡ false
element_behind [] q h = h
element_behind (Field n ∷ p) q h = element_behind p q h
element_behind (Element ∷ p) q h = cc
element_behind (Key ∷ p) q h = element_behind p q h
element_behind (steps.Value ∷ p) q h = element_behind p q h
element_behind (Channel ∷ p) q h = element_behind p q h
element_behind (Capture n ∷ p) q h = element_behind p q h

below_begins : (p q r : List PathStep) → below p q ≡ Some r → begins_with p q ≡ true
below_begins [] q r h = refl
below_begins (s ∷ p) [] r h = absurd cc
below_begins (s ∷ p) (t ∷ q) r h = below_case (same_step s t) h (below_begins p q r)
  where
    below_case : (b : Bool) → (if b then below p q else None) ≡ Some r → (below p q ≡ Some r → begins_with p q ≡ true) → (b && begins_with p q) ≡ true
    below_case true k rec = rec k
    below_case false k rec = absurd cc

-- one content at most
abbrev pub AllSame : {A : Type 0} → List A → Type 0
AllSame {A} xs = (x y : A) → In x xs → In y xs → x ≡ y

same_one : {A : Type 0} (z : A) → AllSame (z ∷ [])
same_one z x y m n = In-one x z m ∙ sym (In-one y z n)

same_or_zero : (xs : List Content) → AllSame xs → AllSame (or_zero xs)
same_or_zero [] h x y m n = same_one zero_content x y m n
same_or_zero (z ∷ zs) h x y m n = h x y m n

held_cell : (r : ℕ) (q : List PathStep) (cells : List Cell) (x : Content) → In x (contents_at r q cells) → (c : Cell) × In c cells × (c.register ≡ r) × (c.leaf ≡ q) × (x ≡ content_of c.atom)
held_cell r q cells x h =
    let m = In-map (λ (c : Cell). content_of c.atom) x _ h in
    let t = In-filter (stands_at r q) m.0 cells m.1 in
    let b = and_both _ _ t.1 in
    (m.0, t.0, same_number _ _ b.0, same_path_is _ _ b.1, m.2)

held_same : (cells : List Cell) → IsSingle cells → (r : ℕ) (q : List PathStep) → has_element q ≡ false → AllSame (contents_at r q cells)
held_same cells s r q e x y m n =
    let a = held_cell r q cells x m in
    let b = held_cell r q cells y n in
    let same = s.each a.0 b.0 a.1 b.1 (a.2 ∙ sym b.2) (a.3 ∙ sym b.3) (subst (λ z. has_element z ≡ false) (sym a.3) e) in
    a.4 ∙ ap (λ (c : Cell). content_of c.atom) same ∙ sym b.4

pub value_same : (cells : List Cell) → IsSingle cells → (r : ℕ) (q : List PathStep) → has_element q ≡ false → AllSame (value_at r q cells)
value_same cells s r q e = same_or_zero (contents_at r q cells) (held_same cells s r q e)

picks_same : (many : Bool) (all one xs : List Content) → (many ≡ true → AllSame all) → Picks many all one xs → AllSame xs
picks_same many all one xs h (pick_all e) = h e
picks_same many all one xs h (pick_one {x = z} e m) = same_one z

-- of parts put together the last one that stands at a leaf counts
covered_first : (x : List PathStep × ℕ) (parts : List (List PathStep × ℕ)) (q r : List PathStep) → has_element q ≡ false → below x.0 q ≡ Some r → is_covered q (x ∷ parts) ≡ true
covered_first x parts q r e h =
    let f = element_front x.0 r (subst (λ z. has_element z ≡ false) (below_is x.0 q r h) e) in
    first_case (has_element x.0) (begins_with x.0 q) f (below_begins x.0 q r h)
  where
    first_case : (a b : Bool) → a ≡ false → b ≡ true → ((not a && b) || is_covered q parts) ≡ true
    first_case true b f t = absurd cc
    first_case false true f t = refl
    first_case false false f t = absurd cc

covered_later : (x : List PathStep × ℕ) (parts : List (List PathStep × ℕ)) (q : List PathStep) → is_covered q parts ≡ true → is_covered q (x ∷ parts) ≡ true
covered_later x parts q h = later_case (not (has_element x.0) && begins_with x.0 q)
  where
    later_case : (b : Bool) → (b || is_covered q parts) ≡ true
    later_case true = refl
    later_case false = h

joined_covered : (parts : List (List PathStep × ℕ)) (q : List PathStep) (cells : List Cell) (x : Content) → has_element q ≡ false → In x (joined parts q cells) → is_covered q parts ≡ true
joined_covered [] q cells x e m = elim m [ ]
joined_covered (y ∷ parts) q cells x e m = elim (In-append x (if is_covered q parts then [] else part_value y.1 cells (below y.0 q)) (joined parts q cells) m) [
  | inl a ↦ here_case (below y.0 q) refl (In-unless x (part_value y.1 cells (below y.0 q)) (is_covered q parts) a).1
  | inr b ↦ covered_later y parts q (joined_covered parts q cells x e b)
]
  where
    here_case : (o : Option (List PathStep)) → below y.0 q ≡ o → In x (part_value y.1 cells o) → is_covered q (y ∷ parts) ≡ true
    here_case None h n = elim n [ ]
    here_case (Some r) h n = covered_first y parts q r e h

abbrev front_of : List PathStep × ℕ → List (List PathStep × ℕ) → List PathStep → List Cell → List Content
front_of y parts q cells = if is_covered q parts then [] else part_value y.1 cells (below y.0 q)

joined_same : (parts : List (List PathStep × ℕ)) (q : List PathStep) (cells : List Cell) → IsSingle cells → has_element q ≡ false → AllSame (joined parts q cells)
joined_same [] q cells s e x z m n = elim m [ ]
joined_same (y ∷ parts) q cells s e x z m n = both (In-append x (front_of y parts q cells) (joined parts q cells) m) (In-append z (front_of y parts q cells) (joined parts q cells) n) (joined_same parts q cells s e x z)
  where
    part_same : (o : Option (List PathStep)) → below y.0 q ≡ o → AllSame (part_value y.1 cells o)
    part_same None h a b i j = elim i [ ]
    part_same (Some r) h a b i j = value_same cells s y.1 r (element_behind y.0 r (subst (λ z. has_element z ≡ false) (below_is y.0 q r h) e)) a b i j

    both : In x (front_of y parts q cells) ⊎ In x (joined parts q cells) → In z (front_of y parts q cells) ⊎ In z (joined parts q cells)
        → (In x (joined parts q cells) → In z (joined parts q cells) → x ≡ z) → x ≡ z
    both (inl a) (inl b) rec = part_same (below y.0 q) refl x z (In-unless x (part_value y.1 cells (below y.0 q)) (is_covered q parts) a).1 (In-unless z (part_value y.1 cells (below y.0 q)) (is_covered q parts) b).1
    both (inl a) (inr b) rec = let c = (In-unless x (part_value y.1 cells (below y.0 q)) (is_covered q parts) a).0 in let d = joined_covered parts q cells z e b in absurd cc
    both (inr a) (inl b) rec = let c = (In-unless z (part_value y.1 cells (below y.0 q)) (is_covered q parts) b).0 in let d = joined_covered parts q cells x e a in absurd cc
    both (inr a) (inr b) rec = rec a b

-- cells that are put alike
put_is : (l : Labelling) (f : Change) (to to' i k k' : ℕ) (q q' : List PathStep) (x x' : Content) → to ≡ to' → k ≡ k' → q ≡ q' → x ≡ x' → put_cell l f to i k q x ≡ put_cell l f to' i k' q' x'
put_is l f to to' i k k' q q' x x' a b c d =
    ap (λ z. put_cell l f z i k q x) a ∙ ap (λ z. put_cell l f to' i z q x) b ∙ ap (λ z. put_cell l f to' i k' z x) c ∙ ap (put_cell l f to' i k' q') d

single_none : IsSingle []
single_none = record { each = λ c d m n r q e. elim m [ ] }

single_one : (c : Cell) → IsSingle (c ∷ [])
single_one z = record { each = λ c d m n r q e. same_one z c d m n }

single_copied : (l : Labelling) (f : Change) (r to i k : ℕ) (qs : List (List PathStep)) (cells : List Cell) → IsSingle cells → IsSingle (copied l f r to i k qs cells)
single_copied l f r to i k qs cells s = record {
  each = λ c d m n same leaf e.
      let a = In-copied l f r to i k qs cells c m in
      let b = In-copied l f r to i k qs cells d n in
      let ac : c.leaf ≡ a.leaf = ap (λ (z : Cell). z.leaf) a.is in
      let bd : d.leaf ≡ b.leaf = ap (λ (z : Cell). z.leaf) b.is in
      let q : a.leaf ≡ b.leaf = sym ac ∙ leaf ∙ bd in
      let x = value_same cells s r a.leaf (subst (λ z. has_element z ≡ false) ac e) a.what b.what a.among_values (subst (λ z. In b.what (value_at r z cells)) (sym q) b.among_values) in
      a.is ∙ put_is l f to to i k k a.leaf b.leaf a.what b.what refl refl q x ∙ sym b.is;
}

single_filled : (l : Labelling) (f : Change) (to i k : ℕ) (P : List PathStep → List Content → Type 0) → ((q : List PathStep) (xs : List Content) → has_element q ≡ false → P q xs → AllSame xs)
    → (qs : List (List PathStep)) (given : List Cell) → IsDistinct qs → Fills l f to i k P qs given → IsSingle given
single_filled l f to i k P ok qs given d no_leaf = single_none
single_filled l f to i k P ok qs given d (one_leaf {qs = qs'} {cells = cells} q xs allowed rest) = record {
  each = λ c e m n same leaf none. both c e (In-append c (map (put_cell l f to i k q) xs) cells m) (In-append e (map (put_cell l f to i k q) xs) cells n) (single_filled l f to i k P ok qs' cells (distinct_tail q qs' d) rest) same leaf none;
}
  where
    elsewhere : (c e : Cell) → In c (map (put_cell l f to i k q) xs) → In e cells → c.leaf ≡ e.leaf → ⊥
    elsewhere c e m n leaf =
        let a = In-map (put_cell l f to i k q) c xs m in
        let b = In-fills l f to i k P qs' cells rest e n in
        let x : c.leaf ≡ q = ap (λ (z : Cell). z.leaf) a.2 in
        let y : e.leaf ≡ b.leaf = ap (λ (z : Cell). z.leaf) b.is in
        distinct_head q qs' d (subst (λ z. In z qs') (sym y ∙ sym leaf ∙ x) b.among)

    both : (c e : Cell) → In c (map (put_cell l f to i k q) xs) ⊎ In c cells → In e (map (put_cell l f to i k q) xs) ⊎ In e cells → IsSingle cells → c.register ≡ e.register → c.leaf ≡ e.leaf → has_element c.leaf ≡ false → c ≡ e
    both c e (inl m) (inl n) behind same leaf none =
        let a = In-map (put_cell l f to i k q) c xs m in
        let b = In-map (put_cell l f to i k q) e xs n in
        let x : c.leaf ≡ q = ap (λ (z : Cell). z.leaf) a.2 in
        a.2 ∙ ap (put_cell l f to i k q) (ok q xs (subst (λ z. has_element z ≡ false) x none) allowed a.0 b.0 a.1 b.1) ∙ sym b.2
    both c e (inl m) (inr n) behind same leaf none = absurd (elsewhere c e m n leaf)
    both c e (inr m) (inl n) behind same leaf none = absurd (elsewhere e c n m (sym leaf))
    both c e (inr m) (inr n) behind same leaf none = behind.each c e m n same leaf none

module _ (p : Code) (wf : WellFormed p) (l : Labelling) where
  single_handed : (g i n : ℕ) (rs : List ℕ) (cells : List Cell) → IsSingle cells → IsSingle (handed p l g i n 0 rs cells)
  single_handed g i n rs cells s = record {
    each = λ c d m o same leaf e.
        let a = In-handed p l g i n 0 rs cells c m in
        let b = In-handed p l g i n 0 rs cells d o in
        let ar : c.register ≡ 0 + a.number = ap (λ (z : Cell). z.register) a.copied.is in
        let br : d.register ≡ 0 + b.number = ap (λ (z : Cell). z.register) b.copied.is in
        let k : 0 + a.number ≡ 0 + b.number = sym ar ∙ same ∙ br in
        let k' : a.number ≡ b.number = omega arith in
        let at = sym a.at ∙ ap (slice_get rs) k' ∙ b.at in
        let r : a.register ≡ b.register = cc in
        let ac : c.leaf ≡ a.copied.leaf = ap (λ (z : Cell). z.leaf) a.copied.is in
        let bd : d.leaf ≡ b.copied.leaf = ap (λ (z : Cell). z.leaf) b.copied.is in
        let q : a.copied.leaf ≡ b.copied.leaf = sym ac ∙ leaf ∙ bd in
        let there_too = subst (λ z. In b.copied.what (value_at z a.copied.leaf cells)) (sym r) (subst (λ z. In b.copied.what (value_at b.register z cells)) (sym q) b.copied.among_values) in
        let x = value_same cells s a.register a.copied.leaf (subst (λ z. has_element z ≡ false) ac e) a.copied.what b.copied.what a.copied.among_values there_too in
        a.copied.is ∙ put_is l same_labels (0 + a.number) (0 + b.number) i (n + (0 + a.number)) (n + (0 + b.number)) a.copied.leaf b.copied.leaf a.copied.what b.copied.what k (ap (λ z. n + z) k) q x ∙ sym b.copied.is;
  }

  param_same : (takes : Bool) (n j a b : ℕ) → param_of takes n a ≡ Some j → param_of takes n b ≡ Some j → a ≡ b
  param_same true n j a b h k = true_case (a == n) (b == n) refl refl h k
    where
      true_case : (x y : Bool) → (a == n) ≡ x → (b == n) ≡ y → (if x then Some 0 else Some (a + 1)) ≡ Some j → (if y then Some 0 else Some (b + 1)) ≡ Some j → a ≡ b
      true_case true true e f u v = same_number a n e ∙ sym (same_number b n f)
      true_case true false e f u v = let x : 0 ≡ j = cc in let y : b + 1 ≡ j = cc in absurd (omega arith)
      true_case false true e f u v = let x : 0 ≡ j = cc in let y : a + 1 ≡ j = cc in absurd (omega arith)
      true_case false false e f u v = let x : a + 1 ≡ j = cc in let y : b + 1 ≡ j = cc in omega arith
  param_same false n j a b h k = (Some-if a j (nat_lt a n) h).1 ∙ sym (Some-if b j (nat_lt b n) k).1

  single_params : (h : ℕ) (takes : Bool) (n : ℕ) (fn : Function) (cells : List Cell) → IsSingle cells → IsSingle (to_params p l h takes n fn cells)
  single_params h takes n fn cells s = record {
    each = λ c d m o same leaf e.
        let a = In-to_params p l h takes n fn cells c m in
        let b = In-to_params p l h takes n fn cells d o in
        let ar : c.register ≡ a.number = ap (λ (z : Cell). z.register) a.is in
        let br : d.register ≡ b.number = ap (λ (z : Cell). z.register) b.is in
        let k : a.number ≡ b.number = sym ar ∙ same ∙ br in
        let ac : c.leaf ≡ a.from.leaf = ap (λ (z : Cell). z.leaf) a.is in
        let bd : d.leaf ≡ b.from.leaf = ap (λ (z : Cell). z.leaf) b.is in
        let q : a.from.leaf ≡ b.from.leaf = sym ac ∙ leaf ∙ bd in
        let r = param_same takes n b.number a.from.register b.from.register (a.param ∙ ap Some k) b.param in
        let x = s.each a.from b.from a.held b.held r q (subst (λ z. has_element z ≡ false) ac e) in
        a.is ∙ put_is l same_labels a.number b.number fn.entry a.number b.number a.from.leaf b.from.leaf (content_of a.from.atom) (content_of b.from.atom) k k q (ap (λ (z : Cell). content_of z.atom) x) ∙ sym b.is;
  }

  single_returned : (f : Change) (g i : ℕ) (to : List ℕ) (cells : List Cell) → IsDistinct to → IsSingle cells → IsSingle (handed_back p l f g i 0 to cells)
  single_returned f g i to cells once s = record {
    each = λ c d m o same leaf e.
        let a = In-returned p l f g i 0 to cells c m in
        let b = In-returned p l f g i 0 to cells d o in
        let ar : c.register ≡ a.register = ap (λ (z : Cell). z.register) a.copied.is in
        let br : d.register ≡ b.register = ap (λ (z : Cell). z.register) b.copied.is in
        let r : a.register ≡ b.register = sym ar ∙ same ∙ br in
        let k = once a.number b.number b.register (a.at ∙ ap Some r) b.at in
        let k' : 0 + a.number ≡ 0 + b.number = ap (λ z. 0 + z) k in
        let ac : c.leaf ≡ a.copied.leaf = ap (λ (z : Cell). z.leaf) a.copied.is in
        let bd : d.leaf ≡ b.copied.leaf = ap (λ (z : Cell). z.leaf) b.copied.is in
        let q : a.copied.leaf ≡ b.copied.leaf = sym ac ∙ leaf ∙ bd in
        let there_too = subst (λ z. In b.copied.what (value_at z a.copied.leaf cells)) (sym k') (subst (λ z. In b.copied.what (value_at (0 + b.number) z cells)) (sym q) b.copied.among_values) in
        let x = value_same cells s (0 + a.number) a.copied.leaf (subst (λ z. has_element z ≡ false) ac e) a.copied.what b.copied.what a.copied.among_values there_too in
        a.copied.is ∙ put_is l f a.register b.register i (0 + a.number) (0 + b.number) a.copied.leaf b.copied.leaf a.copied.what b.copied.what r k' q x ∙ sym b.copied.is;
  }

  may_give_same : (g i k t maker fresh : ℕ) (ls : List Mark) (q : List PathStep) (xs : List Content) → has_element q ≡ false → MayGive p g i k t maker fresh ls q xs → AllSame xs
  may_give_same g i k t maker fresh ls q xs e h x y m n = same_one (content h.0 ls) x y (subst (In x) h.2 m) (subst (In y) h.2 n)

  single_outside : (g i h maker fresh : ℕ) (ls : List Mark) (k : ℕ) (to : List ℕ) (given : List Cell) → IsDistinct to → ExternalGives p l g i h maker fresh ls k to given → IsSingle given
  single_outside g i h maker fresh ls k to given once no_more = single_none
  single_outside g i h maker fresh ls k to given once (one_more {t = t} {ts = ts} {cells = cells} {rest = rest} fills more) = record {
    each = λ c d m o same leaf none. both c d (In-append c cells rest m) (In-append d cells rest o) (single_outside g i h maker fresh ls (k + 1) ts rest (distinct_tail t ts once) more) same leaf none;
  }
    where
      elsewhere : (c d : Cell) → In c cells → In d rest → c.register ≡ d.register → ⊥
      elsewhere c d m o same =
          let a = In-fills l (result_labels p l i h) t i k (MayGive p g i k t maker fresh ls) (leaves p g t) cells fills c m in
          let b = In-outside p l g i h maker fresh ls (k + 1) ts rest more d o in
          let ar : c.register ≡ t = ap (λ (z : Cell). z.register) a.is in
          let br : d.register ≡ b.register = ap (λ (z : Cell). z.register) b.is in
          let r : b.register ≡ t = sym br ∙ sym same ∙ ar in
          let z : 0 ≡ suc b.number = once 0 (suc b.number) t refl (b.at ∙ ap Some r) in
          omega arith

      both : (c d : Cell) → In c cells ⊎ In c rest → In d cells ⊎ In d rest → IsSingle rest → c.register ≡ d.register → c.leaf ≡ d.leaf → has_element c.leaf ≡ false → c ≡ d
      both c d (inl m) (inl o) behind same leaf none =
          (single_filled l (result_labels p l i h) t i k (MayGive p g i k t maker fresh ls) (may_give_same g i k t maker fresh ls) (leaves p g t) cells (wf.registers.distinct g t) fills).each c d m o same leaf none
      both c d (inl m) (inr o) behind same leaf none = absurd (elsewhere c d m o same)
      both c d (inr m) (inl o) behind same leaf none = absurd (elsewhere d c o m (sym same))
      both c d (inr m) (inr o) behind same leaf none = behind.each c d m o same leaf none

  -- what an instruction puts
  may_move_same : (from : ℕ) (path : List PathStep) (cells : List Cell) → IsSingle cells → (q : List PathStep) (xs : List Content) → has_element q ≡ false → MayMove from path cells q xs → AllSame xs
  may_move_same from path cells s q xs e = picks_same (not (has_element path) || has_element q) (value_at from (path ++ q) cells) (zero_content ∷ contents_at from (path ++ q) cells) xs
      (λ t. value_same cells s from (path ++ q) (element_append path q (front_case (has_element path) (has_element q) e t) e))
    where
      front_case : (a b : Bool) → b ≡ false → (not a || b) ≡ true → a ≡ false
      front_case true true e t = absurd cc
      front_case true false e t = absurd cc
      front_case false b e t = refl

  may_read_same : (x : Content) (slots : List Slot) (q : List PathStep) (xs : List Content) → has_element q ≡ false → MayRead x slots q xs → AllSame xs
  may_read_same x slots q xs e = picks_same (has_element q) (readable x q slots) (readable x q slots) xs (λ t. absurd cc)

  is_one : (given : List Cell) (c : Cell) → given ≡ c ∷ [] → IsSingle given
  is_one given c e = subst IsSingle (sym e) (single_one c)

  single_gives : (kind : Kind) (g h i : ℕ) (ss : List Slot) (n : ℕ) (cells given : List Cell) → IsIn p i h → IsAt p i kind → IsSingle cells → Gives p l kind g h i ss n cells given → IsSingle given
  single_gives (Op to from) g h i ss n cells given inside at s x = is_one given _ x
  single_gives (Move to from path) g h i ss n cells given inside at s x = single_filled l (place_labels l) to i 0 (MayMove from path cells) (may_move_same from path cells s) (leaves p h to) given (wf.registers.distinct h to) x
  single_gives (Join to parts) g h i ss n cells given inside at s x =
      single_filled l same_labels to i 0 (λ q xs. xs ≡ or_zero (joined parts q cells)) (λ q xs e w. subst AllSame (sym w) (same_or_zero (joined parts q cells) (joined_same parts q cells s e))) (leaves p h to) given (wf.registers.distinct h to) x
  single_gives (New to site) g h i ss n cells given inside at s x = is_one given _ x
  single_gives (Step to from path) g h i ss n cells given inside at s x = is_one given _ x.2
  single_gives (Read to at' qs) g h i ss n cells given inside at s x =
      single_filled l (place_labels l) to i 0 (MayRead x.0 ss) (may_read_same x.0 ss) qs given (subst IsDistinct (sym (wf.read_leaves i h to at' qs inside at)) (wf.registers.distinct h to)) x.2
  single_gives (Global to global) g h i ss n cells given inside at s x = is_one given _ x.4
  single_gives (Assert to from target) g h i ss n cells given inside at s x = is_one given _ x.2
  single_gives (Passed to callee) g h i ss n cells given inside at s x = subst IsSingle (sym x) (single_copied l (passed_labels l callee) to to i 0 (leaves p h to) cells s)
  single_gives (Goto target) g h i ss n cells given inside at s x = subst IsSingle (sym x) single_none
  single_gives (Branch targets) g h i ss n cells given inside at s x = subst IsSingle (sym x) single_none
  single_gives _ g h i ss n cells given inside at s x = absurd x

  -- registers that get cells, beside those that keep theirs
  single_put : (regs : List ℕ) (given cells : List Cell) → ((c : Cell) → In c given → member c.register regs ≡ true) → IsSingle given → IsSingle cells → IsSingle (given ++ kept regs cells)
  single_put regs given cells defines new old = record {
    each = λ c d m n same leaf none. both c d (In-append c given (kept regs cells) m) (In-append d given (kept regs cells) n) same leaf none;
  }
    where
      both : (c d : Cell) → In c given ⊎ In c (kept regs cells) → In d given ⊎ In d (kept regs cells) → c.register ≡ d.register → c.leaf ≡ d.leaf → has_element c.leaf ≡ false → c ≡ d
      both c d (inl m) (inl n) same leaf none = new.each c d m n same leaf none
      both c d (inl m) (inr n) same leaf none =
          let a = subst (λ z. member z regs ≡ true) same (defines c m) in let b = (In-kept d regs cells n).1 in absurd cc
      both c d (inr m) (inl n) same leaf none =
          let a = subst (λ z. member z regs ≡ true) (sym same) (defines d n) in let b = (In-kept c regs cells m).1 in absurd cc
      both c d (inr m) (inr n) same leaf none = old.each c d (In-kept c regs cells m).0 (In-kept d regs cells n).0 same leaf none

  gets_single : (f : Frame) (rest : List Frame) (to : ℕ) (x : Content) (j : ℕ) → FrameSingle f rest → FrameSingle (gets l f to x j) rest
  gets_single f rest to x j s = record {
    registers = single_put (to ∷ []) (put_cell l same_labels to f.place 0 [] x ∷ []) f.cells
        (λ c m. or_left (c.register == to) false (subst (λ (z : Cell). (z.register == to) ≡ true) (sym (In-one c _ m)) (same_test to))) (single_one _) s.registers;
    records = s.records;
  }

  begins_single : (h : ℕ) (fn : Function) (cells : List Cell) (site : ℕ) (rest : List Frame) → IsSingle cells → FrameSingle (first_frame h fn cells site) rest
  begins_single h fn cells site rest s = record { registers = s; records = λ d m. elim m [ ] }

  handing_single : (f : Frame) (rest : List Frame) (n : ℕ) (callee : Callee) (args : List ℕ) → FrameSingle f rest → IsSingle (handing p l f n callee args)
  handing_single f rest n callee args s = single_handed f.function f.place n (handed_values callee args) f.cells s.registers

  module _ (g : ℕ) where
    -- each step keeps it
    pub keeps_single : {ss : List Slot} {n : ℕ} {frames : List Frame} {new : View} {started : List (List Frame)} {ended : Bool} → EachFrame (StandsInside p) frames → EachFrame FrameSingle frames → Acts p l g ss n frames new started ended → EachFrame FrameSingle new.frames
    keeps_single {ss} {n} v s (act_puts {f} {rest} kind given j at calm gives next) = (
      record {
        registers = single_put (defined kind) given f.cells (λ c m. let a = puts_kind p wf l g ss f kind n given v.0 at gives c m in member_at (defined kind) a.index c.register a.defines)
            (single_gives kind g f.function f.place ss n f.cells given v.0 at s.0.registers gives) s.0.registers;
        records = s.0.records;
      },
      s.1,
    )
    keeps_single v s (act_stores at from o base x j is calm m e next) = (record { registers = s.0.registers; records = s.0.records }, s.1)
    keeps_single v s (act_stores_nothing at from j is calm none next) = (record { registers = s.0.registers; records = s.0.records }, s.1)
    keeps_single v s (act_grows {f} {rest} to at items m site o base x j is calm sited i e next) = (gets_single f rest to x j s.0, s.1)
    keeps_single v s (act_grows_nothing {f} {rest} to at x j is calm m none next) = (gets_single f rest to x j s.0, s.1)
    keeps_single v s (act_grows_anew {f} {rest} to at items m site x j is calm sited i next) = (gets_single f rest to _ j s.0, s.1)
    keeps_single v s (act_enters {f} {rest} to callee args h takes fn at calm is isf body) =
        (begins_single h fn _ f.place (f ∷ rest) (single_params h takes (length (arguments callee args)) fn _ (handing_single f rest (length to) callee args s.0)), s)
    keeps_single {ss} {n} v s (act_calls_outside {f} {rest} to callee args h takes fn flows ls given j at calm is isf ext carries gives next) = (
      record {
        registers = single_put to given f.cells (λ c m. let a = outside_puts p wf l g ss f n to args callee h takes fn flows ls given v.0 at is isf ext carries gives c m in member_at to a.index c.register a.defines)
            (single_outside f.function f.place h g n ls 0 to given (wf.registers.once f.place to args callee at) gives) s.0.registers;
        records = s.0.records;
      },
      s.1,
    )
    keeps_single v s (act_leaves {f} {e} {rest} from to callee args j at calm site below next) = (
      record {
        registers = single_put to _ e.cells
            (λ c m. let a = In-returned p l (result_labels p l e.place f.function) e.function e.place 0 to (leaving p l f from) c m in
            let r : c.register ≡ a.register = ap (λ (z : Cell). z.register) a.copied.is in
            member_at to a.number c.register (a.at ∙ ap Some (sym r)))
            (single_returned (result_labels p l e.place f.function) e.function e.place to (leaving p l f from) (wf.registers.once e.place to args callee below) (single_handed f.function f.place 0 from f.cells s.0.registers))
            s.1.0.registers;
        records = s.1.0.records;
      },
      s.1.1,
    )
    keeps_single v s (act_starts callee args h takes fn j at calm is isf body next) = (record { registers = s.0.registers; records = s.0.records }, s.1)
    keeps_single v s (act_starts_outside callee args h takes fn flows j at calm is isf ext next) = (record { registers = s.0.registers; records = s.0.records }, s.1)
    keeps_single v s (act_keeps {f} {rest} callee args target j at calm is next) = (record { registers = s.0.registers; records = λ x m. kept_record x m }, s.1)
      where
        kept_record : (x : Deferred) → In x (record_of p l f callee args target ∷ f.records) → IsSingle x.cells
        kept_record x (here e) = subst (λ (z : Deferred). IsSingle z.cells) (sym e) (handing_single f rest 0 callee args s.0)
        kept_record x (there m) = s.0.records x m
    keeps_single v s (act_runs {f} {rest} d ds h takes fn at records target isf body) = (
      begins_single h fn _ d.place _ (single_params h takes d.count fn d.cells (s.0.records d (subst (In d) (sym records) (here refl)))),
      (record { registers = s.0.registers; records = λ x m. s.0.records x (subst (In x) (sym records) (there m)) }, s.1),
    )
    keeps_single v s (act_runs_outside d ds h takes fn flows at records target isf ext) = (record { registers = s.0.registers; records = λ x m. s.0.records x (subst (In x) (sym records) (there m)) }, s.1)
    keeps_single v s (act_runs_nothing d ds fn at records target isf) = (record { registers = s.0.registers; records = λ x m. s.0.records x (subst (In x) (sym records) (there m)) }, s.1)
    keeps_single v s (act_exits j at calm records next) = (record { registers = s.0.registers; records = s.0.records }, s.1)
    keeps_single v s (act_leaves_deferred from at calm below) = s.1
    keeps_single v s (act_panics fn isf calm) = (record { registers = s.0.registers; records = s.0.records }, s.1)
    keeps_single v s (act_drops fn at panics records isf) = (record { registers = s.1.0.registers; records = s.1.0.records }, s.1.1)
    keeps_single v s (act_drops_last at panics records) = tt
    keeps_single v s (act_ends from at calm) = tt

    -- a goroutine that starts
    pub starts_single : {ss : List Slot} {n : ℕ} {frames : List Frame} {new : View} {started : List (List Frame)} {ended : Bool} → EachFrame FrameSingle frames → Acts p l g ss n frames new started ended → (fs : List Frame) → In fs started → EachFrame FrameSingle fs
    starts_single s (act_starts {f} {rest} callee args h takes fn j at calm is isf body next) fs (here e) =
        subst (EachFrame FrameSingle) (sym e) (begins_single h fn _ f.place [] (single_params h takes (length (arguments callee args)) fn _ (handing_single f rest 0 callee args s.0)), tt)
    starts_single s (act_starts callee args h takes fn j at calm is isf body next) fs (there m) = elim m [ ]
    starts_single s _ fs m = elim m [ ]

  -- what is handed on, of the value by which the callee is found, selects the function that is meant
  named_value : (r h : ℕ) (takes : Bool) (v : Datum) (o : Object) (path : List PathStep) → v ≡ Ref o path → Names p (Value r) v h takes → Selects p o.site h (Value r)
  named_value r h takes v o path e (Named.by_value {o = o'} site fn is function isf env) =
      let same : o' ≡ o = cc in Choosing.by_value site (subst (λ (z : Object). slice_get p.sites z.site ≡ Some site) same is) function

  named_method : (r h : ℕ) (name : List ℕ) (takes : Bool) (v : Datum) (o : Object) (path : List PathStep) → v ≡ Ref o path → Names p (Method r name) v h takes → Selects p o.site h (Method r name)
  named_method r h name takes v o path e (Named.by_method {o = o'} site is wrapper) =
      let same : o' ≡ o = cc in Choosing.by_method site (subst (λ (z : Object). slice_get p.sites z.site ≡ Some site) same is) wrapper

  last_value : (args : List ℕ) (r : ℕ) → slice_get (args ++ r ∷ []) (length args) ≡ Some r
  last_value [] r = refl
  last_value (x ∷ args) r = last_value args r

  callee_leaf : (kind : Kind) (callee : Callee) (args : List ℕ) (n i g r : ℕ) → IsIn p i g → IsAt p i kind → Hands kind callee args n → GoesBy callee r → leaves p g r ≡ [] ∷ []
  callee_leaf kind (Static h) args n i g r inside at hands by = elim by [ ]
  callee_leaf kind (Value r) args n i g r' inside at by_call goes_by_value = wf.references.each i g r kind inside at (here refl)
  callee_leaf kind (Value r) args n i g r' inside at by_go goes_by_value = wf.references.each i g r kind inside at (here refl)
  callee_leaf kind (Value r) args n i g r' inside at by_defer goes_by_value = wf.references.each i g r kind inside at (here refl)
  callee_leaf kind (Method r name) args n i g r' inside at by_call goes_by_method = wf.references.each i g r kind inside at (here refl)
  callee_leaf kind (Method r name) args n i g r' inside at by_go goes_by_method = wf.references.each i g r kind inside at (here refl)
  callee_leaf kind (Method r name) args n i g r' inside at by_defer goes_by_method = wf.references.each i g r kind inside at (here refl)

  -- the content of the value by which the callee is found is the one that names the function
  chosen_is : (f : Frame) (rest : List Frame) (kind : Kind) (callee : Callee) (args : List ℕ) (n k r : ℕ) (x : Content) → FrameSingle f rest → IsIn p f.place f.function → IsAt p f.place kind → Hands kind callee args n
      → GoesBy callee r → slice_get (handed_values callee args) k ≡ Some r → In x (value_at r [] f.cells) → (c : Cell) → In c (handing p l f n callee args) → c.register ≡ k → c.atom.value ≡ x.value
  chosen_is f rest kind callee args n k r x s inside at hands by has m c i same =
      let a = In-handed p l f.function f.place n 0 (handed_values callee args) f.cells c i in
      let ar : c.register ≡ 0 + a.number = ap (λ (z : Cell). z.register) a.copied.is in
      let number : a.number ≡ k = omega arith in
      let at' = sym a.at ∙ ap (slice_get (handed_values callee args)) number ∙ has in
      let reg : a.register ≡ r = cc in
      let leaves_is = callee_leaf kind callee args n f.place f.function r inside at hands by in
      let leaf : a.copied.leaf ≡ [] = In-one a.copied.leaf [] (subst (In a.copied.leaf) (ap (leaves p f.function) reg ∙ leaves_is) a.copied.among) in
      let there_too = subst (λ z. In a.copied.what (value_at z [] f.cells)) reg (subst (λ z. In a.copied.what (value_at a.register z f.cells)) leaf a.copied.among_values) in
      let same_content = value_same f.cells s.registers r [] refl a.copied.what x there_too m in
      ap (λ (z : Cell). z.atom.value) a.copied.is ∙ ap (λ (z : Content). z.value) same_content

  pub goes_to_chosen : (f : Frame) (rest : List Frame) (kind : Kind) (callee : Callee) (args : List ℕ) (n h : ℕ) (takes : Bool) → FrameSingle f rest → IsIn p f.place f.function → IsAt p f.place kind → Hands kind callee args n
      → Resolves p f.cells callee (Found h takes) → AllGo p callee args (handing p l f n callee args) h
  goes_to_chosen f rest kind (Static g) args n h takes s inside at hands is = record { each = λ c m o path e found. absurd cc }
  goes_to_chosen f rest kind (Value r) args n h takes s inside at hands (by_reference r' x goes_by_value m names) = record {
    each = λ c i o path e found.
        let k : c.register ≡ length args = cc in
        let v = chosen_is f rest kind (Value r) args n (length args) r x s inside at hands goes_by_value (last_value args r) m c i k in
        named_value r h takes x.value o path (sym v ∙ e) names;
  }
  goes_to_chosen f rest kind (Method r name) args n h takes s inside at hands (by_reference r' x goes_by_method m names) = record {
    each = λ c i o path e found.
        let k : c.register ≡ 0 = cc in
        let v = chosen_is f rest kind (Method r name) args n 0 r x s inside at hands goes_by_method refl m c i k in
        named_method r h name takes x.value o path (sym v ∙ e) names;
  }
