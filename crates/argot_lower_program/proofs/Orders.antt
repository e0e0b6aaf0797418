-- Ordered lists of exactly what a claim holds of are one; so the functions of a program have one order, and its package variables.
use Rattle.std.proofs.Common.{◌≡◌, ℕ, zero, suc, ◌+◌, ◌<◌, Bool, true, false, List, [], ◌∷◌, ◌++◌, Some, inl, inr, refl, sym, ap, ◌∙◌, subst, arith, eqb-true, eq-eqb, ltb-true, lt-ltb}
use Rattle.std.specs.Prelude.{◌⊎◌, ◌||◌, ◌&&◌, ◌==◌, nat_lt, slice_get, bytes_eq, unwrap_or}
use Rattle.std.proofs.lemmas.Slice.Eq.{bytes_eq-Decides}
use Rattle.argot_plain.specs.Code.{Code}
use Rattle.argot_names_rules.specs.Lists.{In, IsOrdered, IsListOf}
use Rattle.argot_lower_scripts.specs.Script.{Note, Boxed}
use Rattle.argot_lower_locals.specs.Typed.{Typed}
use Rattle.argot_lower_locals.specs.Names.{decl_node, decl_path, optional_path}
use Rattle.argot_lower_locals.specs.Globals.{is_text_before, is_decl_before, is_in_order, is_package_variable, decl_package}
use Rattle.argot_lower_program.specs.TypeTexts.{type_text}
use Rattle.argot_lower_program.specs.Functions.{Origin, OfEntry, Anchor, anchor, anchor_of, is_anchor_before, package_of, printed_name}
use Rattle.argot_lower_program.specs.Orders.{IsOwn, IsWrapper, IsBound, IsExternal, StandsBefore, path_of, OwnBefore, IsFirstBox, boxed_type, WrapperBefore, ExternalBefore, IsOrder}
use Rattle.argot_lower_program.specs.Orders.OwnBefore.{by_path as own_path, by_package as own_package, by_place as own_place}
use Rattle.argot_lower_program.specs.Orders.WrapperBefore.{by_place as wrapper_place, by_text as wrapper_text, by_box as wrapper_box}
use Rattle.argot_lower_program.specs.Orders.ExternalBefore.{by_name as outside_name, by_place as outside_place}
use Rattle.argot_lower_program.specs.PlainCode.{AreGlobals}

-- Lists

module _ {A : Type 0} (R : A → A → Type 0) (never : (a : A) → R a a → ⊥) (onward : (a b c : A) → R a b → R b c → R a c) where
  tail_ordered : (x : A) (xs : List A) → IsOrdered R (x ∷ xs) → IsOrdered R xs
  tail_ordered x xs o k a b h g =
      let e : suc k + 1 ≡ suc (k + 1) = omega arith in
      o (suc k) a b h (ap (slice_get (x ∷ xs)) e ∙ g)

  first_before : (x : A) (xs : List A) → IsOrdered R (x ∷ xs) → (k : ℕ) (z : A) → slice_get xs k ≡ Some z → R x z
  first_before x [] o k z h = absurd cc
  first_before x (y ∷ xs) o zero z h = let e : y ≡ z = cc in subst (R x) e (o 0 x y refl refl)
  first_before x (y ∷ xs) o (suc k) z h = onward x y z (o 0 x y refl refl) (first_before y xs (tail_ordered x (y ∷ xs) o) k z h)

  same_first : (x y : A) (xs ys : List A) → IsOrdered R (x ∷ xs) → IsOrdered R (y ∷ ys) → (i : ℕ) → slice_get (y ∷ ys) i ≡ Some x → (j : ℕ) → slice_get (x ∷ xs) j ≡ Some y → x ≡ y
  same_first x y xs ys o p zero h j k = cc
  same_first x y xs ys o p (suc i) h zero k = cc
  same_first x y xs ys o p (suc i) h (suc j) k = absurd (never x (onward x y x (first_before x xs o j y k) (first_before y ys p i x h)))

  among_rest : (x y z : A) (ys : List A) → x ≡ y → R x z → (i : ℕ) → slice_get (y ∷ ys) i ≡ Some z → In z ys
  among_rest x y z ys e r zero h =
      let f : y ≡ z = cc in
      absurd (never x (subst (R x) (sym (e ∙ f)) r))
  among_rest x y z ys e r (suc i) h = (i, h)

  pub same_lists : (xs ys : List A) → IsOrdered R xs → IsOrdered R ys → ((z : A) → In z xs → In z ys) → ((z : A) → In z ys → In z xs) → xs ≡ ys
  same_lists [] [] o p a b = refl
  same_lists [] (y ∷ ys) o p a b = let m = b y (0, refl) in let e = m.1 in absurd cc
  same_lists (x ∷ xs) [] o p a b = let m = a x (0, refl) in let e = m.1 in absurd cc
  same_lists (x ∷ xs) (y ∷ ys) o p a b =
      let m = a x (0, refl) in
      let n = b y (0, refl) in
      let e : x ≡ y = same_first x y xs ys o p m.0 m.1 n.0 n.1 in
      let rest : xs ≡ ys =
      same_lists xs ys (tail_ordered x xs o) (tail_ordered y ys p)
      (λ z h. let g = a z (suc h.0, h.1) in among_rest x y z ys e (first_before x xs o h.0 z h.1) g.0 g.1)
      (λ z h. let g = b z (suc h.0, h.1) in among_rest y x z xs (sym e) (first_before y ys p h.0 z h.1) g.0 g.1) in
      ap (λ w. w ∷ xs) e ∙ ap (λ ws. y ∷ ws) rest

  pub one_list : (P : A → Type 0) (xs ys : List A) → IsListOf R P xs → IsListOf R P ys → xs ≡ ys
  one_list P xs ys h k = same_lists xs ys h.ordered k.ordered (λ z m. k.complete z (h.sound z m)) (λ z m. h.complete z (k.sound z m))

-- Numbers before others, and what decides where they are equal

split : (a b : ℕ) (r : Bool) → (nat_lt a b || ((a == b) && r)) ≡ true → (a < b) ⊎ ((a ≡ b) × (r ≡ true))
split a b r h = by (nat_lt a b) refl (a == b) refl h
  where
    by : (p : Bool) → nat_lt a b ≡ p → (q : Bool) → (a == b) ≡ q → (p || (q && r)) ≡ true → (a < b) ⊎ ((a ≡ b) × (r ≡ true))
    by true e q f g = inl (ltb-true a b e)
    by false e true f g = inr (eqb-true a b f, g)
    by false e false f g = absurd cc

less : (a b : ℕ) (r : Bool) → a < b → (nat_lt a b || ((a == b) && r)) ≡ true
less a b r h = subst (λ p. (p || ((a == b) && r)) ≡ true) (sym (lt-ltb a b h)) refl

equal : (a b : ℕ) (r : Bool) → a ≡ b → r ≡ true → (nat_lt a b || ((a == b) && r)) ≡ true
equal a b r e h = by (nat_lt a b)
  where
    by : (p : Bool) → (p || ((a == b) && r)) ≡ true
    by true = refl
    by false = subst (λ q. (q && r) ≡ true) (sym (eq-eqb a b e)) h

text_never : (xs : List ℕ) → is_text_before xs xs ≡ true → ⊥
text_never [] h = absurd cc
text_never (x ∷ xs) h = elim (split x x (is_text_before xs xs) h) [ inl l ↦ absurd (omega (arith, l)) | inr p ↦ text_never xs p.1 ]

text_onward : (xs ys zs : List ℕ) → is_text_before xs ys ≡ true → is_text_before ys zs ≡ true → is_text_before xs zs ≡ true
text_onward [] [] zs h k = absurd cc
text_onward [] (y ∷ ys) [] h k = absurd cc
text_onward [] (y ∷ ys) (z ∷ zs) h k = refl
text_onward (x ∷ xs) [] zs h k = absurd cc
text_onward (x ∷ xs) (y ∷ ys) [] h k = absurd cc
text_onward (x ∷ xs) (y ∷ ys) (z ∷ zs) h k =
    elim (split x y (is_text_before xs ys) h) [
      | inl l ↦ elim (split y z (is_text_before ys zs) k) [
        | inl m ↦ less x z (is_text_before xs zs) (omega (arith, l, m))
        | inr q ↦ less x z (is_text_before xs zs) (omega (arith, l, q.0))
      ]
      | inr p ↦ elim (split y z (is_text_before ys zs) k) [
        | inl m ↦ less x z (is_text_before xs zs) (omega (arith, p.0, m))
        | inr q ↦ equal x z (is_text_before xs zs) (p.0 ∙ q.0) (text_onward xs ys zs p.1 q.1)
      ]
    ]

anchor_never : (a : Anchor) → is_anchor_before a a ≡ true → ⊥
anchor_never a h =
    elim (split a.file a.file (nat_lt a.token a.token) h) [ inl l ↦ absurd (omega (arith, l)) | inr p ↦ let l = ltb-true a.token a.token p.1 in absurd (omega (arith, l)) ]

anchor_onward : (a b c : Anchor) → is_anchor_before a b ≡ true → is_anchor_before b c ≡ true → is_anchor_before a c ≡ true
anchor_onward a b c h k =
    elim (split a.file b.file (nat_lt a.token b.token) h) [
      | inl l ↦ elim (split b.file c.file (nat_lt b.token c.token) k) [
        | inl m ↦ less a.file c.file (nat_lt a.token c.token) (omega (arith, l, m))
        | inr q ↦ less a.file c.file (nat_lt a.token c.token) (omega (arith, l, q.0))
      ]
      | inr p ↦ elim (split b.file c.file (nat_lt b.token c.token) k) [
        | inl m ↦ less a.file c.file (nat_lt a.token c.token) (omega (arith, p.0, m))
        | inr q ↦
            let l = ltb-true a.token b.token p.1 in
            let m = ltb-true b.token c.token q.1 in
            equal a.file c.file (nat_lt a.token c.token) (p.0 ∙ q.0) (lt-ltb a.token c.token (omega (arith, l, m)))
      ]
    ]

-- Functions

module _ (t : Typed) where
  stands_never : (a : Origin) → StandsBefore t a a → ⊥
  stands_never a h = anchor_never (anchor_of t (anchor t a)) h

  stands_onward : (a b c : Origin) → StandsBefore t a b → StandsBefore t b c → StandsBefore t a c
  stands_onward a b c h k = anchor_onward (anchor_of t (anchor t a)) (anchor_of t (anchor t b)) (anchor_of t (anchor t c)) h k

  own_never : (a : Origin) → OwnBefore t a a → ⊥
  own_never a (own_path h) = text_never (path_of t a) h
  own_never a (own_package {p = p} {q = q} e f g l) =
      let z = sym f ∙ g in
      let same : p ≡ q = cc in
      absurd (omega (arith, same, l))
  own_never a (own_place e s) = stands_never a s

  own_onward : (a b c : Origin) → OwnBefore t a b → OwnBefore t b c → OwnBefore t a c
  own_onward a b c (own_path h) (own_path k) = own_path (text_onward (path_of t a) (path_of t b) (path_of t c) h k)
  own_onward a b c (own_path h) (own_package e f g l) = own_path (subst (λ z. is_text_before (path_of t a) z ≡ true) e h)
  own_onward a b c (own_path h) (own_place e s) = own_path (subst (λ z. is_text_before (path_of t a) z ≡ true) (ap (optional_path t) e) h)
  own_onward a b c (own_package e f g l) (own_path k) = own_path (subst (λ z. is_text_before z (path_of t c) ≡ true) (sym e) k)
  own_onward a b c (own_package {q = q} e f g l) (own_package {p = r} e' f' g' l') =
      let z = sym g ∙ f' in
      let same : q ≡ r = cc in
      own_package (e ∙ e') f g' (omega (arith, l, same, l'))
  own_onward a b c (own_package e f g l) (own_place e' s) = own_package (e ∙ ap (optional_path t) e') f (sym e' ∙ g) l
  own_onward a b c (own_place e s) (own_path k) = own_path (subst (λ z. is_text_before z (path_of t c) ≡ true) (sym (ap (optional_path t) e)) k)
  own_onward a b c (own_place e s) (own_package e' f' g' l') = own_package (ap (optional_path t) e ∙ e') (e ∙ f') g' l'
  own_onward a b c (own_place e s) (own_place e' s') = own_place (e ∙ e') (stands_onward a b c s s')

  outside_never : (a : Origin) → ExternalBefore t a a → ⊥
  outside_never a (outside_name h) = text_never (printed_name t a) h
  outside_never a (outside_place e s) = stands_never a s

  outside_onward : (a b c : Origin) → ExternalBefore t a b → ExternalBefore t b c → ExternalBefore t a c
  outside_onward a b c (outside_name h) (outside_name k) = outside_name (text_onward (printed_name t a) (printed_name t b) (printed_name t c) h k)
  outside_onward a b c (outside_name h) (outside_place e s) = outside_name (subst (λ z. is_text_before (printed_name t a) z ≡ true) e h)
  outside_onward a b c (outside_place e s) (outside_name k) = outside_name (subst (λ z. is_text_before z (printed_name t c) ≡ true) (sym e) k)
  outside_onward a b c (outside_place e s) (outside_place e' s') = outside_place (e ∙ e') (stands_onward a b c s s')

  module _ (notes : List Note) where
    first_box_is : (x j k : ℕ) → IsFirstBox notes x j → IsFirstBox notes x k → j < k → ⊥
    first_box_is x j k f g l = g.first j f.is l

    wrapper_never : (a : Origin) → WrapperBefore t notes a a → ⊥
    wrapper_never a (wrapper_place s) = stands_never a s
    wrapper_never a (wrapper_text e h) = text_never (type_text t (boxed_type a)) h
    wrapper_never a (wrapper_box {j = j} {k = k} e x f g l) = first_box_is (boxed_type a) j k f g l

    later : (x j k k' i : ℕ) → IsFirstBox notes x k → IsFirstBox notes x k' → j < k → k' < i → j < i
    later x j k k' i f g l m = elim (compare k k') [
      | inl a ↦ absurd (first_box_is x k k' f g a)
      | inr r ↦ elim r [ inl e ↦ omega (arith, l, e, m) | inr b ↦ absurd (first_box_is x k' k g f b) ]
    ]
      where
        compare : (a b : ℕ) → (a < b) ⊎ ((a ≡ b) ⊎ (b < a))
        compare zero zero = inr (inl refl)
        compare zero (suc b) = inl (omega arith)
        compare (suc a) zero = inr (inr (omega arith))
        compare (suc a) (suc b) = elim (compare a b) [
          | inl l ↦ inl (omega (arith, l))
          | inr r ↦ elim r [ inl e ↦ inr (inl (ap suc e)) | inr l ↦ inr (inr (omega (arith, l))) ]
        ]

    wrapper_onward : (a b c : Origin) → WrapperBefore t notes a b → WrapperBefore t notes b c → WrapperBefore t notes a c
    wrapper_onward a b c (wrapper_place s) (wrapper_place s') = wrapper_place (stands_onward a b c s s')
    wrapper_onward a b c (wrapper_place s) (wrapper_text e h) = wrapper_place (subst (λ n. is_anchor_before (anchor_of t (anchor t a)) (anchor_of t n) ≡ true) e s)
    wrapper_onward a b c (wrapper_place s) (wrapper_box e x f g l) = wrapper_place (subst (λ n. is_anchor_before (anchor_of t (anchor t a)) (anchor_of t n) ≡ true) e s)
    wrapper_onward a b c (wrapper_text e h) (wrapper_place s) = wrapper_place (subst (λ n. is_anchor_before (anchor_of t n) (anchor_of t (anchor t c)) ≡ true) (sym e) s)
    wrapper_onward a b c (wrapper_text e h) (wrapper_text e' h') = wrapper_text (e ∙ e') (text_onward (type_text t (boxed_type a)) (type_text t (boxed_type b)) (type_text t (boxed_type c)) h h')
    wrapper_onward a b c (wrapper_text e h) (wrapper_box e' x f g l) = wrapper_text (e ∙ e') (subst (λ z. is_text_before (type_text t (boxed_type a)) z ≡ true) x h)
    wrapper_onward a b c (wrapper_box e x f g l) (wrapper_place s) = wrapper_place (subst (λ n. is_anchor_before (anchor_of t n) (anchor_of t (anchor t c)) ≡ true) (sym e) s)
    wrapper_onward a b c (wrapper_box e x f g l) (wrapper_text e' h) = wrapper_text (e ∙ e') (subst (λ z. is_text_before z (type_text t (boxed_type c)) ≡ true) (sym x) h)
    wrapper_onward a b c (wrapper_box {j = j} {k = k} e x f g l) (wrapper_box {j = j'} {k = k'} e' x' f' g' l') =
        wrapper_box (e ∙ e') (x ∙ x') f g' (later (boxed_type b) j k j' k' g f' l l')

    -- one order of the functions
    pub one_order : (a b : List Origin) → IsOrder t notes a → IsOrder t notes b → a ≡ b
    one_order a b x y =
        let owns : x.own ≡ y.own = one_list (OwnBefore t) own_never own_onward (IsOwn t) x.own y.own x.own_are y.own_are in
        let wraps : x.wrappers ≡ y.wrappers = one_list (WrapperBefore t notes) wrapper_never wrapper_onward (IsWrapper t notes) x.wrappers y.wrappers x.wrappers_are y.wrappers_are in
        let bounds : x.bounds ≡ y.bounds = one_list (StandsBefore t) stands_never stands_onward (IsBound notes) x.bounds y.bounds x.bounds_are y.bounds_are in
        let others : x.externals ≡ y.externals = one_list (ExternalBefore t) outside_never outside_onward (IsExternal t notes) x.externals y.externals x.externals_are y.externals_are in
        x.is
        ∙ ap (λ (os : List Origin). OfEntry ∷ (os ++ x.wrappers ++ x.bounds ++ x.externals)) owns
        ∙ ap (λ (os : List Origin). OfEntry ∷ (y.own ++ os ++ x.bounds ++ x.externals)) wraps
        ∙ ap (λ (os : List Origin). OfEntry ∷ (y.own ++ y.wrappers ++ os ++ x.externals)) bounds
        ∙ ap (λ (os : List Origin). OfEntry ∷ (y.own ++ y.wrappers ++ y.bounds ++ os)) others
        ∙ sym y.is

-- Package variables

in_order_by : (path path' : List ℕ) (r : Bool) → (is_text_before path path' || (bytes_eq path path' && r)) ≡ true → (is_text_before path path' ≡ true) ⊎ ((path ≡ path') × (r ≡ true))
in_order_by path path' r h = by (is_text_before path path') refl (bytes_eq path path') refl h
  where
    by : (p : Bool) → is_text_before path path' ≡ p → (q : Bool) → bytes_eq path path' ≡ q → (p || (q && r)) ≡ true → (is_text_before path path' ≡ true) ⊎ ((path ≡ path') × (r ≡ true))
    by true e q f g = inl e
    by false e true f g = inr ((bytes_eq-Decides path path').0 f, g)
    by false e false f g = absurd cc

text_first : (path path' : List ℕ) (r : Bool) → is_text_before path path' ≡ true → (is_text_before path path' || (bytes_eq path path' && r)) ≡ true
text_first path path' r h = subst (λ p. (p || (bytes_eq path path' && r)) ≡ true) (sym h) refl

text_same : (path path' : List ℕ) (r : Bool) → path ≡ path' → r ≡ true → (is_text_before path path' || (bytes_eq path path' && r)) ≡ true
text_same path path' r e h = by (is_text_before path path')
  where
    by : (p : Bool) → (p || (bytes_eq path path' && r)) ≡ true
    by true = refl
    by false = subst (λ q. (q && r) ≡ true) (sym ((bytes_eq-Decides path path').1 e)) h

-- a number, and behind it another
pair_onward : (p n q m r o : ℕ) → (nat_lt p q || ((p == q) && nat_lt n m)) ≡ true → (nat_lt q r || ((q == r) && nat_lt m o)) ≡ true → (nat_lt p r || ((p == r) && nat_lt n o)) ≡ true
pair_onward p n q m r o h k = anchor_onward (record { file = p; token = n }) (record { file = q; token = m }) (record { file = r; token = o }) h k

abbrev number : Typed → ℕ → ℕ
number t d = unwrap_or (decl_node t d) 0

-- by package and node, behind the bytes of the path
abbrev is_behind : Typed → ℕ → ℕ → Bool
is_behind t d e = nat_lt (decl_package t d) (decl_package t e) || ((decl_package t d == decl_package t e) && nat_lt (number t d) (number t e))

decl_never : (t : Typed) (d : ℕ) → is_decl_before t d d ≡ true → ⊥
decl_never t d h = elim (in_order_by (decl_path t d) (decl_path t d) (is_behind t d d) h) [
  | inl l ↦ text_never (decl_path t d) l
  | inr p ↦ anchor_never (record { file = decl_package t d; token = number t d }) p.1
]

decl_onward : (t : Typed) (d e f : ℕ) → is_decl_before t d e ≡ true → is_decl_before t e f ≡ true → is_decl_before t d f ≡ true
decl_onward t d e f h k =
    elim (in_order_by (decl_path t d) (decl_path t e) (is_behind t d e) h) [
      | inl l ↦ elim (in_order_by (decl_path t e) (decl_path t f) (is_behind t e f) k) [
        | inl m ↦ text_first (decl_path t d) (decl_path t f) (is_behind t d f) (text_onward (decl_path t d) (decl_path t e) (decl_path t f) l m)
        | inr q ↦ text_first (decl_path t d) (decl_path t f) (is_behind t d f) (subst (λ z. is_text_before (decl_path t d) z ≡ true) q.0 l)
      ]
      | inr p ↦ elim (in_order_by (decl_path t e) (decl_path t f) (is_behind t e f) k) [
        | inl m ↦ text_first (decl_path t d) (decl_path t f) (is_behind t d f) (subst (λ z. is_text_before z (decl_path t f) ≡ true) (sym p.0) m)
        | inr q ↦ text_same (decl_path t d) (decl_path t f) (is_behind t d f) (p.0 ∙ q.0)
            (pair_onward (decl_package t d) (number t d) (decl_package t e) (number t e) (decl_package t f) (number t f) p.1 q.1)
      ]
    ]

-- one list of the package variables
pub one_variables : (t : Typed) (c d : Code) (xs ys : List ℕ) → AreGlobals t c xs → AreGlobals t d ys → xs ≡ ys
one_variables t c d xs ys x y =
    one_list (λ (d e : ℕ). is_decl_before t d e ≡ true) (decl_never t) (decl_onward t) (λ (d : ℕ). is_package_variable t d ≡ true) xs ys x.ordered y.ordered
