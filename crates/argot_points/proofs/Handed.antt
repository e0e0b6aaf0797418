-- The same of calls, places and functions; and the definitions of a place.
use Rattle.std.proofs.Common.{◌≡◌, Bool, true, false, ℕ, zero, suc, ◌+◌, ◌-◌, ◌<◌, ◌≤◌, List, [], ◌∷◌, Some, None, Option, refl, sym, ap, ◌∙◌, inl, inr, arith, subst, eqb-true, eq-eqb}
use Rattle.std.specs.Prelude.{slice_get, ◌==◌, if◌then◌else◌}
use Rattle.std.proofs.lemmas.Bool.{cases_eq}
use Rattle.argot_plain.specs.Lists.{In, here, there}
use Rattle.argot_plain.specs.Code.{Code, IsAt, kind_of}
use Rattle.argot_plain.specs.declared.functions.Function.{Function}
use Rattle.argot_plain.specs.declared.instructions.Kind.{Kind}
use Rattle.argot_plain.specs.declared.sites.Site.{Site}
use Rattle.argot_text.specs.declared.path.PathStep.{PathStep}
use Rattle.argot_facts.specs.Numbers.{node, leaves_of}
use Rattle.argot_facts.specs.declared.nodes.Node.{Node}
use Rattle.argot_points_rules.specs.declared.rules.Owned.{Owned}
use Rattle.argot_points_rules.specs.declared.rules.Rule.TheVariants.{Enter, Choose, Return, Fresh}
use Rattle.argot_points_rules.specs.Column.{owned, enter_leaves, is_value, enters, return_leaves, returns, fresh_from, positions, kind_rules, optional_rules, place_rules, function_rules}
use Rattle.argot_points.proofs.Each.{In-append, In-left, In-right, In-if, if-In, one-In}

pub each_enter_leaves : (P : Owned → Type 0) (o : Owned) (h i : ℕ) (by : Node) (n k a : ℕ) (qs : List (List PathStep)) → In o (enter_leaves h i by n k a qs)
    → ((c b : ℕ) (q : List PathStep) → c ≡ a + b → slice_get qs b ≡ Some q → P (owned h (Enter i by k q (node i (n + k) c)))) → P o
each_enter_leaves P o h i by n k a [] m f = elim m [ ]
each_enter_leaves P o h i by n k a (q ∷ qs) (here e) f = subst P (sym e) (f a 0 q (omega arith) refl)
each_enter_leaves P o h i by n k a (q ∷ qs) (there m) f = each_enter_leaves P o h i by n k (a + 1) qs m (λ c b q e g. f c (suc b) q (omega (arith, e)) g)

pub enter_leaves_have : (h i : ℕ) (by : Node) (n k a : ℕ) (qs : List (List PathStep)) (c b : ℕ) (q : List PathStep) → c ≡ a + b → slice_get qs b ≡ Some q → In (owned h (Enter i by k q (node i (n + k) c))) (enter_leaves h i by n k a qs)
enter_leaves_have h i by n k a [] c b q e g = absurd cc
enter_leaves_have h i by n k a (p ∷ qs) c zero q e g = let z : c ≡ a = omega (arith, e) in let y : q ≡ p = cc in here (ap (λ w. owned h (Enter i by k q (node i (n + k) w))) z ∙ ap (λ w. owned h (Enter i by k w (node i (n + k) a))) y)
enter_leaves_have h i by n k a (p ∷ qs) c (suc b) q e g = there (enter_leaves_have h i by n k (a + 1) qs c b q (omega (arith, e)) g)

pub each_enters : (P : Owned → Type 0) (o : Owned) (fn : Function) (h i : ℕ) (by : Node) (n : ℕ) (v : Option ℕ) (k : ℕ) (rs : List ℕ) → In o (enters fn h i by n v k rs)
    → ((l j r : ℕ) → l ≡ k + j → slice_get rs j ≡ Some r → is_value v l ≡ false → (a : ℕ) (q : List PathStep) → slice_get (leaves_of fn r) a ≡ Some q → P (owned h (Enter i by l q (node i (n + l) a))))
    → ((l j r : ℕ) → l ≡ k + j → slice_get rs j ≡ Some r → is_value v l ≡ true → P (owned h (Choose i by l))) → P o
each_enters P o fn h i by n v k [] m f g = elim m [ ]
each_enters P o fn h i by n v k (r ∷ rs) m f g = elim (In-append o (if is_value v k then owned h (Choose i by k) ∷ [] else enter_leaves h i by n k 0 (leaves_of fn r)) (enters fn h i by n v (k + 1) rs) m) [
  | inl l ↦ first (is_value v k) refl l
  | inr l ↦ each_enters P o fn h i by n v (k + 1) rs l (λ l j r e t. f l (suc j) r (omega (arith, e)) t) (λ l j r e t. g l (suc j) r (omega (arith, e)) t)
]
  where
    first : (b : Bool) → is_value v k ≡ b → In o (if b then owned h (Choose i by k) ∷ [] else enter_leaves h i by n k 0 (leaves_of fn r)) → P o
    first true e l = subst P (sym (one-In o (owned h (Choose i by k)) l)) (g k 0 r (omega arith) refl e)
    first false e l = each_enter_leaves P o h i by n k 0 (leaves_of fn r) l (λ c b q d t. let z : b ≡ c = omega (arith, d) in f k 0 r (omega arith) refl e c q (subst (λ w. slice_get (leaves_of fn r) w ≡ Some q) z t))

enter_there : (o : Owned) (xs ys : List Owned) (b : Bool) → b ≡ false → In o ys → In o (if b then xs else ys)
enter_there o xs ys true e m = absurd cc
enter_there o xs ys false e m = m

pub enters_have : (fn : Function) (h i : ℕ) (by : Node) (n : ℕ) (v : Option ℕ) (k : ℕ) (rs : List ℕ) (l j r : ℕ) → l ≡ k + j → slice_get rs j ≡ Some r → is_value v l ≡ false → (a : ℕ) (q : List PathStep) → slice_get (leaves_of fn r) a ≡ Some q
    → In (owned h (Enter i by l q (node i (n + l) a))) (enters fn h i by n v k rs)
enters_have fn h i by n v k [] l j r e g t a q s = absurd cc
enters_have fn h i by n v k (x ∷ rs) l zero r e g t a q s =
    let z : k ≡ l = omega (arith, e) in let y : x ≡ r = cc in
    let o = owned h (Enter i by l q (node i (n + l) a)) in
    In-left o (if is_value v k then owned h (Choose i by k) ∷ [] else enter_leaves h i by n k 0 (leaves_of fn x)) (enters fn h i by n v (k + 1) rs)
    (enter_there o (owned h (Choose i by k) ∷ []) (enter_leaves h i by n k 0 (leaves_of fn x)) (is_value v k) (ap (is_value v) z ∙ t)
    (subst (λ w. In (owned h (Enter i by w q (node i (n + w) a))) (enter_leaves h i by n k 0 (leaves_of fn x))) z (enter_leaves_have h i by n k 0 (leaves_of fn x) a a q (omega arith) (subst (λ w. slice_get (leaves_of fn w) a ≡ Some q) (sym y) s))))
enters_have fn h i by n v k (x ∷ rs) l (suc j) r e g t a q s =
    In-right (owned h (Enter i by l q (node i (n + l) a))) (if is_value v k then owned h (Choose i by k) ∷ [] else enter_leaves h i by n k 0 (leaves_of fn x)) (enters fn h i by n v (k + 1) rs)
    (enters_have fn h i by n v (k + 1) rs l j r (omega (arith, e)) g t a q s)

choose_there : (o : Owned) (xs ys : List Owned) (b : Bool) → b ≡ true → In o xs → In o (if b then xs else ys)
choose_there o xs ys true e m = m
choose_there o xs ys false e m = absurd cc

pub chooses_have : (fn : Function) (h i : ℕ) (by : Node) (n : ℕ) (v : Option ℕ) (k : ℕ) (rs : List ℕ) (l j r : ℕ) → l ≡ k + j → slice_get rs j ≡ Some r → is_value v l ≡ true → In (owned h (Choose i by l)) (enters fn h i by n v k rs)
chooses_have fn h i by n v k [] l j r e g t = absurd cc
chooses_have fn h i by n v k (x ∷ rs) l zero r e g t =
    let z : k ≡ l = omega (arith, e) in
    In-left (owned h (Choose i by l)) (if is_value v k then owned h (Choose i by k) ∷ [] else enter_leaves h i by n k 0 (leaves_of fn x)) (enters fn h i by n v (k + 1) rs)
    (choose_there (owned h (Choose i by l)) (owned h (Choose i by k) ∷ []) (enter_leaves h i by n k 0 (leaves_of fn x)) (is_value v k) (ap (is_value v) z ∙ t) (here (ap (λ w. owned h (Choose i by w)) (sym z))))
chooses_have fn h i by n v k (x ∷ rs) l (suc j) r e g t =
    In-right (owned h (Choose i by l)) (if is_value v k then owned h (Choose i by k) ∷ [] else enter_leaves h i by n k 0 (leaves_of fn x)) (enters fn h i by n v (k + 1) rs)
    (chooses_have fn h i by n v (k + 1) rs l j r (omega (arith, e)) g t)

pub each_return_leaves : (P : Owned → Type 0) (o : Owned) (h i : ℕ) (by : Node) (k a : ℕ) (qs : List (List PathStep)) → In o (return_leaves h i by k a qs)
    → ((c b : ℕ) (q : List PathStep) → c ≡ a + b → slice_get qs b ≡ Some q → P (owned h (Return i by k q (node i k c)))) → P o
each_return_leaves P o h i by k a [] m f = elim m [ ]
each_return_leaves P o h i by k a (q ∷ qs) (here e) f = subst P (sym e) (f a 0 q (omega arith) refl)
each_return_leaves P o h i by k a (q ∷ qs) (there m) f = each_return_leaves P o h i by k (a + 1) qs m (λ c b q e g. f c (suc b) q (omega (arith, e)) g)

pub return_leaves_have : (h i : ℕ) (by : Node) (k a : ℕ) (qs : List (List PathStep)) (c b : ℕ) (q : List PathStep) → c ≡ a + b → slice_get qs b ≡ Some q → In (owned h (Return i by k q (node i k c))) (return_leaves h i by k a qs)
return_leaves_have h i by k a [] c b q e g = absurd cc
return_leaves_have h i by k a (p ∷ qs) c zero q e g = let z : c ≡ a = omega (arith, e) in let y : q ≡ p = cc in here (ap (λ w. owned h (Return i by k q (node i k w))) z ∙ ap (λ w. owned h (Return i by k w (node i k a))) y)
return_leaves_have h i by k a (p ∷ qs) c (suc b) q e g = there (return_leaves_have h i by k (a + 1) qs c b q (omega (arith, e)) g)

pub each_returns : (P : Owned → Type 0) (o : Owned) (fn : Function) (h i : ℕ) (by : Node) (k : ℕ) (rs : List ℕ) → In o (returns fn h i by k rs)
    → ((l j r : ℕ) → l ≡ k + j → slice_get rs j ≡ Some r → (a : ℕ) (q : List PathStep) → slice_get (leaves_of fn r) a ≡ Some q → P (owned h (Return i by l q (node i l a)))) → P o
each_returns P o fn h i by k [] m f = elim m [ ]
each_returns P o fn h i by k (r ∷ rs) m f = elim (In-append o (return_leaves h i by k 0 (leaves_of fn r)) (returns fn h i by (k + 1) rs) m) [
  | inl l ↦ each_return_leaves P o h i by k 0 (leaves_of fn r) l (λ c b q e g. let z : b ≡ c = omega (arith, e) in f k 0 r (omega arith) refl c q (subst (λ w. slice_get (leaves_of fn r) w ≡ Some q) z g))
  | inr l ↦ each_returns P o fn h i by (k + 1) rs l (λ l j r e g. f l (suc j) r (omega (arith, e)) g)
]

pub returns_have : (fn : Function) (h i : ℕ) (by : Node) (k : ℕ) (rs : List ℕ) (l j r : ℕ) → l ≡ k + j → slice_get rs j ≡ Some r → (a : ℕ) (q : List PathStep) → slice_get (leaves_of fn r) a ≡ Some q → In (owned h (Return i by l q (node i l a))) (returns fn h i by k rs)
returns_have fn h i by k [] l j r e g a q s = absurd cc
returns_have fn h i by k (t ∷ rs) l zero r e g a q s =
    let z : k ≡ l = omega (arith, e) in let y : t ≡ r = cc in
    In-left (owned h (Return i by l q (node i l a))) (return_leaves h i by k 0 (leaves_of fn t)) (returns fn h i by (k + 1) rs)
    (subst (λ w. In (owned h (Return i by w q (node i w a))) (return_leaves h i by k 0 (leaves_of fn t))) z (return_leaves_have h i by k 0 (leaves_of fn t) a a q (omega arith) (subst (λ w. slice_get (leaves_of fn w) a ≡ Some q) (sym y) s)))
returns_have fn h i by k (t ∷ rs) l (suc j) r e g a q s = In-right (owned h (Return i by l q (node i l a))) (return_leaves h i by k 0 (leaves_of fn t)) (returns fn h i by (k + 1) rs) (returns_have fn h i by (k + 1) rs l j r (omega (arith, e)) g a q s)

pub each_fresh : (P : Owned → Type 0) (o : Owned) (h i : ℕ) (by : Node) (s : ℕ) (sites : List Site) → In o (fresh_from h i by s sites)
    → ((n b : ℕ) (site : Site) → n ≡ s + b → slice_get sites b ≡ Some site → site.place ≡ i → P (owned h (Fresh i by (node i site.result site.leaf) n))) → P o
each_fresh P o h i by s [] m f = elim m [ ]
each_fresh P o h i by s (site ∷ sites) m f = elim (In-append o (if site.place == i then owned h (Fresh i by (node i site.result site.leaf) s) ∷ [] else []) (fresh_from h i by (s + 1) sites) m) [
  | inl l ↦ let r = In-if o (owned h (Fresh i by (node i site.result site.leaf) s) ∷ []) (site.place == i) l in subst P (sym (one-In o (owned h (Fresh i by (node i site.result site.leaf) s)) r.1)) (f s 0 site (omega arith) refl (eqb-true site.place i r.0))
  | inr l ↦ each_fresh P o h i by (s + 1) sites l (λ n b site e g. f n (suc b) site (omega (arith, e)) g)
]

pub fresh_have : (h i : ℕ) (by : Node) (s : ℕ) (sites : List Site) (n b : ℕ) (site : Site) → n ≡ s + b → slice_get sites b ≡ Some site → site.place ≡ i → In (owned h (Fresh i by (node i site.result site.leaf) n)) (fresh_from h i by s sites)
fresh_have h i by s [] n b site e g k = absurd cc
fresh_have h i by s (x ∷ sites) n zero site e g k =
    let z : n ≡ s = omega (arith, e) in let y : site ≡ x = cc in
    In-left (owned h (Fresh i by (node i site.result site.leaf) n)) (if x.place == i then owned h (Fresh i by (node i x.result x.leaf) s) ∷ [] else []) (fresh_from h i by (s + 1) sites)
    (if-In (owned h (Fresh i by (node i site.result site.leaf) n)) (owned h (Fresh i by (node i x.result x.leaf) s) ∷ []) (x.place == i) (eq-eqb x.place i (subst (λ (w : Site). w.place ≡ i) y k))
    (here (ap (λ (w : Site). owned h (Fresh i by (node i w.result w.leaf) n)) y ∙ ap (λ w. owned h (Fresh i by (node i x.result x.leaf) w)) z)))
fresh_have h i by s (x ∷ sites) n (suc b) site e g k = In-right (owned h (Fresh i by (node i site.result site.leaf) n)) (if x.place == i then owned h (Fresh i by (node i x.result x.leaf) s) ∷ [] else []) (fresh_from h i by (s + 1) sites) (fresh_have h i by (s + 1) sites n b site (omega (arith, e)) g k)

-- the rules of a place
module _ (p : Code) (ds : List (ℕ × ℕ × ℕ)) where
  optional_found : (fn : Function) (h i : ℕ) (k : Option Kind) (o : Owned) → In o (optional_rules p fn ds h i k) → (kind : Kind) × (k ≡ Some kind) × In o (kind_rules p fn ds h i kind)
  optional_found fn h i None o m = elim m [ ]
  optional_found fn h i (Some kind) o m = (kind, refl, m)

  place_found : (fn : Function) (h i n : ℕ) (o : Owned) → In o (place_rules p fn ds h i n) → (j : ℕ) × (kind : Kind) × (i ≤ j) × (j < i + n) × IsAt p j kind × In o (kind_rules p fn ds h j kind)
  place_found fn h i zero o m = elim m [ ]
  place_found fn h i (suc n) o m = elim (In-append o (optional_rules p fn ds h i (kind_of (slice_get p.instrs i))) (place_rules p fn ds h (i + 1) n) m) [
    | inl l ↦ let r = optional_found fn h i (kind_of (slice_get p.instrs i)) o l in (i, r.0, omega arith, omega arith, r.1, r.2)
    | inr l ↦ let r = place_found fn h (i + 1) n o l in (r.0, r.1, omega (arith, r.2), omega (arith, r.3), r.4, r.5)
  ]

  place_listed : (fn : Function) (h i n j : ℕ) (kind : Kind) (o : Owned) → i ≤ j → j < i + n → IsAt p j kind → In o (kind_rules p fn ds h j kind) → In o (place_rules p fn ds h i n)
  place_listed fn h i zero j kind o a b at m = absurd (omega arith)
  place_listed fn h i (suc n) j kind o a b at m = elim (cases_eq j i) [
    | inl e ↦ In-left o (optional_rules p fn ds h i (kind_of (slice_get p.instrs i))) (place_rules p fn ds h (i + 1) n)
        (subst (λ w. In o (optional_rules p fn ds h w (kind_of (slice_get p.instrs w)))) e (subst (λ w. In o (optional_rules p fn ds h j w)) (sym at) m))
    | inr e ↦ In-right o (optional_rules p fn ds h i (kind_of (slice_get p.instrs i))) (place_rules p fn ds h (i + 1) n) (place_listed fn h (i + 1) n j kind o (omega arith) (omega arith) at m)
  ]

  pub rule_found : (g : ℕ) (fns : List Function) (o : Owned) → In o (function_rules p ds g fns) → (h : ℕ) × (k : ℕ) × (fn : Function) × (h ≡ g + k) × (slice_get fns k ≡ Some fn)
      × (j : ℕ) × (kind : Kind) × (fn.entry ≤ j) × (j < fn.entry + (fn.leave + 1 - fn.entry)) × IsAt p j kind × In o (kind_rules p fn ds h j kind)
  rule_found g [] o m = elim m [ ]
  rule_found g (fn ∷ fns) o m = elim (In-append o (place_rules p fn ds g fn.entry (fn.leave + 1 - fn.entry)) (function_rules p ds (g + 1) fns) m) [
    | inl l ↦ let r = place_found fn g fn.entry (fn.leave + 1 - fn.entry) o l in (g, 0, fn, omega arith, refl, r.0, r.1, r.2, r.3, r.4, r.5)
    | inr l ↦ let r = rule_found (g + 1) fns o l in (r.0, suc r.1, r.2, omega (arith, r.3), r.4, r.5, r.6, r.7, r.8, r.9, r.10)
  ]

  pub rule_listed : (g : ℕ) (fns : List Function) (h k : ℕ) (fn : Function) (j : ℕ) (kind : Kind) (o : Owned) → h ≡ g + k → slice_get fns k ≡ Some fn → fn.entry ≤ j → j < fn.entry + (fn.leave + 1 - fn.entry) → IsAt p j kind
      → In o (kind_rules p fn ds h j kind) → In o (function_rules p ds g fns)
  rule_listed g [] h k fn j kind o e f a b at m = absurd cc
  rule_listed g (x ∷ fns) h zero fn j kind o e f a b at m =
      let z : h ≡ g = omega (arith, e) in let y : fn ≡ x = cc in
      In-left o (place_rules p x ds g x.entry (x.leave + 1 - x.entry)) (function_rules p ds (g + 1) fns)
      (subst (λ (w : Function). In o (place_rules p w ds g w.entry (w.leave + 1 - w.entry))) y (subst (λ w. In o (place_rules p fn ds w fn.entry (fn.leave + 1 - fn.entry))) z (place_listed fn h fn.entry (fn.leave + 1 - fn.entry) j kind o a b at m)))
  rule_listed g (x ∷ fns) h (suc k) fn j kind o e f a b at m = In-right o (place_rules p x ds g x.entry (x.leave + 1 - x.entry)) (function_rules p ds (g + 1) fns) (rule_listed (g + 1) fns h k fn j kind o (omega (arith, e)) f a b at m)

-- the definitions of a place
pub position_found : (d r k : ℕ) (xs : List ℕ) (x : ℕ × ℕ) → In x (positions d r k xs) → (j : ℕ) × (x ≡ (d, k + j)) × (slice_get xs j ≡ Some r)
position_found d r k [] x m = elim m [ ]
position_found d r k (y ∷ xs) x m = elim (In-append x (if y == r then (d, k) ∷ [] else []) (positions d r (k + 1) xs) m) [
  | inl l ↦ let t = In-if x ((d, k) ∷ []) (y == r) l in let z : k ≡ k + 0 = omega arith in let e = eqb-true y r t.0 in (0, one-In x (d, k) t.1 ∙ ap (λ (w : ℕ). (d, w)) z, ap Some e)
  | inr l ↦ let t = position_found d r (k + 1) xs x l in let z : k + 1 + t.0 ≡ k + suc t.0 = omega arith in (suc t.0, t.1 ∙ ap (λ (w : ℕ). (d, w)) z, t.2)
]

pub position_listed : (d r k : ℕ) (xs : List ℕ) (c j : ℕ) → c ≡ k + j → slice_get xs j ≡ Some r → In {A = ℕ × ℕ} (d, c) (positions d r k xs)
position_listed d r k [] c j e g = absurd cc
position_listed d r k (y ∷ xs) c zero e g =
    let z : c ≡ k = omega (arith, e) in let s : y ≡ r = cc in
    In-left {A = ℕ × ℕ} (d, c) (if y == r then (d, k) ∷ [] else []) (positions d r (k + 1) xs) (if-In {A = ℕ × ℕ} (d, c) ((d, k) ∷ []) (y == r) (eq-eqb y r s) (here (ap (λ (w : ℕ). (d, w)) z)))
position_listed d r k (y ∷ xs) c (suc j) e g = In-right {A = ℕ × ℕ} (d, c) (if y == r then (d, k) ∷ [] else []) (positions d r (k + 1) xs) (position_listed d r (k + 1) xs c j (omega (arith, e)) g)
