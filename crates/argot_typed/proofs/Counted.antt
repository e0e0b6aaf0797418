-- Counts that are known are right, and where none can be added all are known.
use Rattle.std.proofs.Common.{◌≡◌, ℕ, zero, suc, ◌+◌, ◌-◌, ◌<◌, ◌≤◌, ◌⊎◌, false, List, [], ◌∷◌, length, get_or, set, drop, replicate, Option, Some, None, refl, sym, ap, ap₂, ◌∙◌, inl, inr, arith, length-append, drop-cons}
use Rattle.std.specs.List.{AllByRecursion}
use Rattle.std.specs.Option.{is_some}
use Rattle.std.proofs.lemmas.Bool.{cases_eq, cases_lt}
use Rattle.std.proofs.lemmas.List.{get_or-set_same, get_or-set_other, get_or_past, get_or-replicate, length-replicate, length-map}
use Rattle.argot_text.specs.declared.path.PathStep.{PathStep}
use Rattle.argot_typed.specs.declared.shape.FieldShape.{FieldShape}
use Rattle.argot_typed.specs.declared.shape.Shape.{Shape}
use Rattle.argot_typed.specs.declared.shape.Shape.TheVariants.{Named, Array, Struct}
use Rattle.argot_typed.specs.Parts.{shape_at, types_of_fields, held_by}
use Rattle.argot_typed.specs.Fitting.{Ends, AreFit}
use Rattle.argot_typed.specs.Leaves.{leaves_of_fields, leaves_of_shape, leaves_of, capped, leaf_count_of}
use Rattle.argot_typed.specs.Counts.{count_sum, count_of_fields, count_of_shape, known_at, AreRight, IsClosed, unknown_count}
use Rattle.argot_typed.proofs.Walks.{both, held_parts, held, leaves_are}

-- ---- sums

sum_parts : (x y : Option ℕ) (c : ℕ) → count_sum x y ≡ Some c → (a : ℕ) × (b : ℕ) × (x ≡ Some a) × (y ≡ Some b) × (c ≡ capped (a + b))
sum_parts None y c e = cc
sum_parts (Some a) None c e = cc
sum_parts (Some a) (Some b) c e = (a, b, refl, refl, (cc))

sum_right : (m n : ℕ) → capped (capped m + capped n) ≡ capped (m + n)
sum_right m n = omega arith

-- ---- what is known of a shape is right

module _ (known : ℕ → Option ℕ) (below : ℕ → List (List PathStep)) (right : (t c : ℕ) → known t ≡ Some c → c ≡ capped (length (below t))) where
  fields_right : (n : ℕ) (fs : List FieldShape) (c : ℕ) → count_of_fields known fs ≡ Some c → c ≡ capped (length (leaves_of_fields below n fs))
  fields_right n [] c e = let z : 0 ≡ c = cc in omega (arith, z)
  fields_right n (f ∷ fs) c e =
      let s = sum_parts (known f.of.0) (count_of_fields known fs) c e in
      let first = right f.of.0 s.0 s.2 in
      let rest = fields_right (suc n) fs s.1 s.3 in
      simp (length-append, length-map) (omega (arith, s.4, first, rest))

  pub shape_right : (s : Shape) (c : ℕ) → count_of_shape known s ≡ Some c → c ≡ capped (length (leaves_of_shape below s))
  shape_right (Named decl under methods) c e = right under.0 c e
  shape_right (Array len of) c e = right of.0 c e ∙ ap capped (sym (length-map _ _))
  shape_right (Struct fields) c e = fields_right 0 fields c e
  shape_right _ c e = let z : 1 ≡ c = cc in omega (arith, z)

-- ---- one more count

pub right_more : (shapes : List Shape) (counts : List (Option ℕ)) (t c : ℕ) → AreRight shapes counts → c ≡ leaf_count_of shapes t → AreRight shapes (set counts t (Some c))
right_more shapes counts t c right e u d known = elim (cases_eq u t) [
  | inl q ↦ elim (cases_lt t (length counts)) [
    | inl l ↦ let now : Some c ≡ Some d = sym (get_or-set_same counts t (Some c) None l) ∙ (ap (λ x. get_or (set counts t (Some c)) x None) (sym q) ∙ known) in
        let same : c ≡ d = cc in rw (← same, q) e
    | inr m ↦ right u d (sym (ap (λ xs. get_or xs u None) (unchanged counts t m)) ∙ known)
  ]
  | inr n ↦ right u d (sym (get_or-set_other counts t u (Some c) None n) ∙ known)
]
  where
    unchanged : (xs : List (Option ℕ)) (i : ℕ) → length xs ≤ i → set xs i (Some c) ≡ xs
    unchanged [] i m = refl
    unchanged (x ∷ xs) zero m = absurd (omega arith)
    unchanged (x ∷ xs) (suc i) m = ap (λ ys. x ∷ ys) (unchanged xs i (omega arith))

-- a type whose shape's count is known
pub type_right : (shapes : List Shape) (counts : List (Option ℕ)) (t c : ℕ) → AreFit shapes → t < length shapes → AreRight shapes counts → count_of_shape (known_at counts) (shape_at shapes t) ≡ Some c → c ≡ leaf_count_of shapes t
type_right shapes counts t c fit l right e =
    shape_right (known_at counts) (leaves_of shapes) right (shape_at shapes t) c e ∙ ap (λ ps. capped (length ps)) (sym (leaves_are shapes fit t l))

pub unknown_falls : (counts : List (Option ℕ)) (t c : ℕ) → t < length counts → known_at counts t ≡ None → unknown_count (set counts t (Some c)) < unknown_count counts
unknown_falls [] t c l e = absurd (omega arith)
unknown_falls (None ∷ cs) zero c l e = omega arith
unknown_falls (Some d ∷ cs) zero c l e = cc
unknown_falls (None ∷ cs) (suc t) c l e = let rest = unknown_falls cs t c (omega arith) e in omega arith
unknown_falls (Some d ∷ cs) (suc t) c l e = unknown_falls cs t c (omega arith) e

pub none_known : (n t : ℕ) → known_at (replicate n None) t ≡ None
none_known n t = elim (cases_lt t n) [ inl l ↦ get_or-replicate n t None None l | inr m ↦ get_or_past (replicate n None) t None (rw length-replicate m) ]

-- ---- all are known in the end

abbrev Known : (ℕ → Option ℕ) → ℕ → Type 0
Known known p = (c : ℕ) × (known p ≡ Some c)

fields_known : (known : ℕ → Option ℕ) (fs : List FieldShape) → AllByRecursion (Known known) (types_of_fields fs) → (c : ℕ) × (count_of_fields known fs ≡ Some c)
fields_known known [] a = (0, refl)
fields_known known (f ∷ fs) a =
    let first = a.0 in
    let rest = fields_known known fs a.1 in
    (capped (first.0 + rest.0), ap₂ count_sum first.1 rest.1)

shape_known : (known : ℕ → Option ℕ) (s : Shape) → AllByRecursion (Known known) (held_by s) → (c : ℕ) × (count_of_shape known s ≡ Some c)
shape_known known (Named decl under methods) a = a.0
shape_known known (Array len of) a = a.0
shape_known known (Struct fields) a = fields_known known fields a
shape_known known _ a = (1, refl)

known_or_not : (x : Option ℕ) → ((c : ℕ) × (x ≡ Some c)) ⊎ (x ≡ None)
known_or_not None = inr refl
known_or_not (Some c) = inl (c, refl)

module _ (shapes : List Shape) (counts : List (Option ℕ)) (fit : AreFit shapes) (closed : (t : ℕ) → t < length shapes → IsClosed shapes counts t) where
  known_within : (k t : ℕ) → t < length shapes → Ends (held shapes) k t → Known (known_at counts) t
  known_within zero t l e = absurd e
  known_within (suc k) t l e = elim (known_or_not (known_at counts t)) [
    | inl known ↦ known
    | inr none ↦
        let inside = held_parts (λ p. p < length shapes) (shape_at shapes t) (fit.in_range t l) in
        let parts = both (λ p. p < length shapes) (Ends (held shapes) k) (Known (known_at counts)) (held shapes t) (λ p m h. known_within k p m h) inside e in
        let some = shape_known (known_at counts) (shape_at shapes t) parts in
        let not : count_of_shape (known_at counts) (shape_at shapes t) ≡ None = closed t l none in
        absurd (clash _ some.0 some.1 not)
  ]
    where
      clash : (x : Option ℕ) (c : ℕ) → x ≡ Some c → x ≡ None → ⊥
      clash x c p q = cc

  pub all_known : (t : ℕ) → t < length shapes → (c : ℕ) × (known_at counts t ≡ Some c)
  all_known t l = known_within (length shapes) t l (fit.held t l)

-- ---- fields from the last on

drop_all : (fs : List FieldShape) → drop (length fs) fs ≡ []
drop_all [] = refl
drop_all (f ∷ fs) = drop_all fs

pub fields_begin : (known : ℕ → Option ℕ) (fs : List FieldShape) → count_of_fields known (drop (length fs) fs) ≡ Some 0
fields_begin known fs = ap (count_of_fields known) (drop_all fs)

field_at : (fs : List FieldShape) (i : ℕ) (d : FieldShape) → i < length fs → drop i fs ≡ get_or fs i d ∷ drop (suc i) fs
field_at fs i d l = drop-cons fs i d l

pub fields_more : (known : ℕ → Option ℕ) (fs : List FieldShape) (i : ℕ) (d : FieldShape) (total count : ℕ) → 0 < i → i ≤ length fs → count_of_fields known (drop i fs) ≡ Some total → known (get_or fs (i - 1) d).of.0 ≡ Some count → count_of_fields known (drop (i - 1) fs) ≡ Some (capped (total + count))
fields_more known fs i d total count p l rest here =
    let next : suc (i - 1) ≡ i = omega arith in
    let sum : capped (count + total) ≡ capped (total + count) = omega arith in
    ap (count_of_fields known) (field_at fs (i - 1) d (omega arith)) ∙ (ap₂ count_sum here (ap (λ k. count_of_fields known (drop k fs)) next ∙ rest) ∙ ap Some sum)

sum_none : (x : Option ℕ) → count_sum x None ≡ None
sum_none None = refl
sum_none (Some a) = refl

none_behind : (known : ℕ → Option ℕ) (fs : List FieldShape) (i : ℕ) → count_of_fields known (drop i fs) ≡ None → count_of_fields known fs ≡ None
none_behind known fs zero e = e
none_behind known [] (suc i) e = e
none_behind known (f ∷ fs) (suc i) e = ap (count_sum (known f.of.0)) (none_behind known fs i e) ∙ sum_none (known f.of.0)

pub fields_none : (known : ℕ → Option ℕ) (fs : List FieldShape) (i : ℕ) (d : FieldShape) → i < length fs → known (get_or fs i d).of.0 ≡ None → count_of_fields known fs ≡ None
fields_none known fs i d l here =
    none_behind known fs i (ap (count_of_fields known) (field_at fs i d l) ∙ ap (λ x. count_sum x (count_of_fields known (drop (suc i) fs))) here)

pub field_below : (n : ℕ) (fs : List FieldShape) (i : ℕ) (d : FieldShape) → AllByRecursion (λ p. p < n) (types_of_fields fs) → i < length fs → (get_or fs i d).of.0 < n
field_below n [] i d a l = absurd (omega arith)
field_below n (x ∷ xs) zero d a l = a.0
field_below n (x ∷ xs) (suc i) d a l = field_below n xs i d a.1 (omega arith)

pub not_some : (x : Option ℕ) → is_some x ≡ false → x ≡ None
not_some None e = refl
not_some (Some c) e = cc
