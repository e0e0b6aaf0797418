-- Leaves by their number: one step along a path.
use Rattle.std.proofs.Common.{◌≡◌, ℕ, zero, suc, ◌+◌, ◌-◌, ◌^◌, ◌<◌, ◌≤◌, List, [], ◌∷◌, ◌++◌, length, map, get_or, drop, take, Option, Some, None, refl, sym, ap, ◌∙◌, subst, arith, append_assoc, length-append, drop-cons}
use Rattle.std.specs.List.{AllByRecursion, Contains, slice_get}
use Rattle.std.specs.Option.{option_map, option_to_list}
use Rattle.std.proofs.lemmas.List.{length-map, append-nil, take_more}
use Rattle.std.proofs.lemmas.Option.{slice_get-map, slice_get_within, get_or_from_slice_get}
use Rattle.std.proofs.lemmas.Iterator.Adapters.{option_map_id}
use Rattle.argot_text.specs.declared.path.PathStep.{PathStep}
use Rattle.argot_text.specs.declared.path.PathStep.TheVariants.{Field, Element}
use Rattle.argot_typed.specs.declared.shape.TypeId.{TypeId}
use Rattle.argot_typed.specs.declared.shape.FieldShape.{FieldShape}
use Rattle.argot_typed.specs.declared.shape.MethodShape.{MethodShape}
use Rattle.argot_typed.specs.declared.shape.Shape.{Shape}
use Rattle.argot_typed.specs.declared.shape.Shape.TheVariants.{Named, Array, Struct}
use Rattle.argot_typed.specs.declared.paths.Found.{Found}
use Rattle.argot_typed.specs.declared.paths.Step.{Step}
use Rattle.argot_typed.specs.Parts.{shape_at, types_of_fields, held_by, field_count}
use Rattle.argot_typed.specs.Fitting.{Ends, AreFit}
use Rattle.argot_typed.specs.Leaves.{leaves_of, leaves_of_fields, leaves_of_shape, leaf_count_of}
use Rattle.argot_typed.specs.Steps.{IsFound, IsOnward}
use Rattle.argot_typed.proofs.Walks.{held, held_parts, leaves_are}

-- ---- lists

get_left : {X : Type 0} → (xs ys : List X) (i : ℕ) → i < length xs → slice_get (xs ++ ys) i ≡ slice_get xs i
get_left [] ys i l = absurd (omega arith)
get_left (x ∷ xs) ys zero l = refl
get_left (x ∷ xs) ys (suc i) l = get_left xs ys i (omega arith)

get_right : {X : Type 0} → (xs ys : List X) (i : ℕ) → length xs ≤ i → slice_get (xs ++ ys) i ≡ slice_get ys (i - length xs)
get_right [] ys i l = ap (slice_get ys) (omega arith)
get_right (x ∷ xs) ys zero l = absurd (omega arith)
get_right (x ∷ xs) ys (suc i) l = get_right xs ys i (omega arith) ∙ ap (slice_get ys) (omega arith)

pub one_left : {X : Type 0} → (xs : List X) (x d : X) (i : ℕ) → xs ≡ x ∷ [] → i < length xs → slice_get xs i ≡ Some x
one_left xs x d i e l = ap (λ ys. slice_get ys i) e ∙ first i (subst (λ ys. i < length ys) e l)
  where
    first : (j : ℕ) → j < length (x ∷ []) → slice_get (x ∷ []) j ≡ Some x
    first zero m = refl
    first (suc j) m = absurd (omega arith)

part_at : (P : ℕ → Type 0) (xs : List ℕ) (x k : ℕ) → AllByRecursion P xs → k < length xs → get_or xs k x ≡ x → P x
part_at P [] x k a l e = absurd (omega arith)
part_at P (y ∷ ys) x zero a l e = subst P e a.0
part_at P (y ∷ ys) x (suc k) a l e = part_at P ys x k a.1 (omega arith) e

pub part_of : (P : ℕ → Type 0) (xs : List ℕ) (x : ℕ) → AllByRecursion P xs → Contains xs x → P x
part_of P xs x a h = part_at P xs x h.0 a h.1 h.2

-- steps so far, and one more or none
pub farther : (steps more : List PathStep) (o : Option (List PathStep)) → option_map (λ p. steps ++ p) (option_map (λ p. more ++ p) o) ≡ option_map (λ p. (steps ++ more) ++ p) o
farther steps more None = refl
farther steps more (Some x) = ap Some (sym (append_assoc steps more x))

pub arrived : (steps : List PathStep) → option_map (λ p. steps ++ p) (Some []) ≡ Some steps
arrived steps = ap Some (append-nil steps)

-- ---- fields

types_have : (fs : List FieldShape) (k : ℕ) (d : FieldShape) → k < length fs → Contains (types_of_fields fs) (get_or fs k d).of.0
types_have [] k d l = absurd (omega arith)
types_have (f ∷ fs) zero d l = (0, omega arith, refl)
types_have (f ∷ fs) (suc k) d l = let h = types_have fs k d (omega arith) in (suc h.0, omega (arith, h.1), h.2)

module _ (shapes : List Shape) (fs : List FieldShape) (n k left : ℕ) (d : FieldShape) (l : k < length fs)
    (there : left < length (leaves_of_fields (leaves_of shapes) k (drop k fs)))
    (few : length (leaves_of_fields (leaves_of shapes) k (drop k fs)) ≤ 4096)
    (same : slice_get (leaves_of_fields (leaves_of shapes) 0 fs) n ≡ slice_get (leaves_of_fields (leaves_of shapes) k (drop k fs)) left) where
  abbrev first : List (List PathStep)
  first = map (λ path. Field k ∷ path) (leaves_of shapes (get_or fs k d).of.0)

  abbrev rest : List (List PathStep)
  rest = leaves_of_fields (leaves_of shapes) (k + 1) (drop (k + 1) fs)

  split : leaves_of_fields (leaves_of shapes) k (drop k fs) ≡ first ++ rest
  split =
      let next : suc k ≡ k + 1 = omega arith in
      ap (leaves_of_fields (leaves_of shapes) k) (drop-cons fs k d l) ∙ ap (λ m. first ++ leaves_of_fields (leaves_of shapes) m (drop m fs)) next

  first_length : length first ≡ length (leaves_of shapes (get_or fs k d).of.0)
  first_length = length-map _ _

  lengths : length (leaves_of_fields (leaves_of shapes) k (drop k fs)) ≡ length (leaves_of shapes (get_or fs k d).of.0) + length rest
  lengths = ap length split ∙ (length-append first rest ∙ ap (λ m. m + length rest) first_length)

  pub counted : leaf_count_of shapes (get_or fs k d).of.0 ≡ length (leaves_of shapes (get_or fs k d).of.0)
  counted = omega (arith, lengths, few)

  pub is_found : left < leaf_count_of shapes (get_or fs k d).of.0 → IsFound shapes fs n (record { field = k; of = (get_or fs k d).of; left = left })
  is_found m =
      let within : left < length (leaves_of shapes (get_or fs k d).of.0) = omega (arith, counted) in
      let inside : left < length first = omega (arith, within, first_length) in
      record {
        part = types_have fs k d l;
        there = within;
        few = omega (arith, lengths, few);
        same = same ∙ (ap (λ xs. slice_get xs left) split ∙ (get_left first rest left inside ∙ slice_get-map (λ path. Field k ∷ path) (leaves_of shapes (get_or fs k d).of.0) left));
      }

  module _ (m : leaf_count_of shapes (get_or fs k d).of.0 ≤ left) where
    pub later_there : left - leaf_count_of shapes (get_or fs k d).of.0 < length rest
    later_there = omega (arith, lengths, counted, there)

    pub later_few : length rest ≤ 4096
    later_few = omega (arith, lengths, few)

    pub later_same : slice_get (leaves_of_fields (leaves_of shapes) 0 fs) n ≡ slice_get rest (left - leaf_count_of shapes (get_or fs k d).of.0)
    later_same =
        let past : length first ≤ left = omega (arith, first_length, counted) in
        let place : left - length first ≡ left - leaf_count_of shapes (get_or fs k d).of.0 = omega (arith, first_length, counted) in
        same ∙ (ap (λ xs. slice_get xs left) split ∙ (get_right first rest left past ∙ ap (slice_get rest) place))

-- ---- a type and its shape

module _ (shapes : List Shape) (fit : AreFit shapes) (t n : ℕ) (l : t < length shapes) (few : length (leaves_of shapes t) ≤ 4096) (there : n < length (leaves_of shapes t)) (s : Shape) (is : slice_get shapes t ≡ Some s) where
  shape_is : shape_at shapes t ≡ s
  shape_is = get_or_from_slice_get shapes t s _ is

  pub by_shape : leaves_of shapes t ≡ leaves_of_shape (leaves_of shapes) s
  by_shape = leaves_are shapes fit t l ∙ ap (leaves_of_shape (leaves_of shapes)) shape_is

  pub named_onward : (decl : ℕ) (under : TypeId) (methods : List MethodShape) → s ≡ Named decl under methods → IsOnward shapes t n (record { step = None; of = under; left = n })
  named_onward decl under methods e =
      let all : leaves_of shapes t ≡ leaves_of shapes under.0 = by_shape ∙ ap (leaves_of_shape (leaves_of shapes)) e in
      record {
        part = subst (λ x. Contains (held_by x) under.0) (sym (shape_is ∙ e)) (0, omega arith, refl);
        there = subst (λ xs. n < length xs) all there;
        few = subst (λ xs. length xs ≤ 4096) all few;
        same = ap (λ xs. slice_get xs n) all ∙ sym (option_map_id (slice_get (leaves_of shapes under.0) n));
      }

  pub array_onward : (len : ℕ) (of : TypeId) → s ≡ Array len of → IsOnward shapes t n (record { step = Some Element; of = of; left = n })
  array_onward len of e =
      let all : leaves_of shapes t ≡ map (λ path. Element ∷ path) (leaves_of shapes of.0) = by_shape ∙ ap (leaves_of_shape (leaves_of shapes)) e in
      let lengths : length (leaves_of shapes t) ≡ length (leaves_of shapes of.0) = ap length all ∙ length-map _ _ in
      record {
        part = subst (λ x. Contains (held_by x) of.0) (sym (shape_is ∙ e)) (0, omega arith, refl);
        there = omega (arith, lengths, there);
        few = omega (arith, lengths, few);
        same = ap (λ xs. slice_get xs n) all ∙ slice_get-map (λ path. Element ∷ path) (leaves_of shapes of.0) n;
      }

  module _ (fields : List FieldShape) (e : s ≡ Struct fields) where
    all_fields : leaves_of shapes t ≡ leaves_of_fields (leaves_of shapes) 0 fields
    all_fields = by_shape ∙ ap (leaves_of_shape (leaves_of shapes)) e

    pub fields_in_range : AllByRecursion (λ p. p < length shapes) (types_of_fields fields)
    fields_in_range = subst (λ x. AllByRecursion (λ p. p < length shapes) (held_by x)) (shape_is ∙ e) (held_parts (λ p. p < length shapes) (shape_at shapes t) (fit.in_range t l))

    pub fields_narrow : field_count (Struct fields) < 2 ^ 32
    fields_narrow = subst (λ x. field_count x < 2 ^ 32) (shape_is ∙ e) (fit.fields t l)

    pub fields_few : length (leaves_of_fields (leaves_of shapes) 0 fields) ≤ 4096
    fields_few = subst (λ xs. length xs ≤ 4096) all_fields few

    pub fields_there : n < length (leaves_of_fields (leaves_of shapes) 0 fields)
    fields_there = subst (λ xs. n < length xs) all_fields there

    pub struct_onward : (it : Found) → IsFound shapes fields n it → IsOnward shapes t n (record { step = Some (Field it.field); of = it.of; left = it.left })
    struct_onward it f = record {
      part = subst (λ x. Contains (held_by x) it.of.0) (sym (shape_is ∙ e)) f.part;
      there = f.there;
      few = f.few;
      same = ap (λ xs. slice_get xs n) all_fields ∙ f.same;
    }

-- ---- along a path

module _ (shapes : List Shape) (fit : AreFit shapes) (t n at left walked : ℕ) (l : at < length shapes) (it : Step) (f : IsOnward shapes at left it) where
  pub next_in : it.of.0 < length shapes
  next_in = part_of (λ p. p < length shapes) (held shapes at) it.of.0 (held_parts (λ p. p < length shapes) (shape_at shapes at) (fit.in_range at l)) f.part

  pub next_ends : walked < length shapes → Ends (held shapes) (length shapes - walked) at → Ends (held shapes) (length shapes - (walked + 1)) it.of.0
  next_ends m e =
      let fewer : length shapes - walked ≡ suc (length shapes - (walked + 1)) = omega arith in
      part_of (Ends (held shapes) (length shapes - (walked + 1))) (held shapes at) it.of.0 (subst (λ k. Ends (held shapes) k at) fewer e) f.part

  pub next_same : (steps more : List PathStep) → more ≡ steps ++ option_to_list it.step → slice_get (leaves_of shapes t) n ≡ option_map (λ path. steps ++ path) (slice_get (leaves_of shapes at) left) → slice_get (leaves_of shapes t) n ≡ option_map (λ path. more ++ path) (slice_get (leaves_of shapes it.of.0) it.left)
  next_same steps more e same =
      let rest = slice_get (leaves_of shapes it.of.0) it.left in
      same ∙ (ap (option_map (λ path. steps ++ path)) f.same ∙ (farther steps (option_to_list it.step) rest ∙ ap (λ xs. option_map (λ path. xs ++ path) rest) (sym e)))

-- one path more
pub paths_more : (paths all : List (List PathStep)) (n : ℕ) (path : List PathStep) → paths ≡ take n all → slice_get all n ≡ Some path → paths ++ path ∷ [] ≡ take (n + 1) all
paths_more paths all n path so_far next =
    let here : get_or all n path ≡ path = get_or_from_slice_get all n path path next in
    let within = slice_get_within all n path next in
    ap (λ xs. xs ++ path ∷ []) so_far ∙ (ap (λ x. take n all ++ x ∷ []) (sym here) ∙ sym (take_more all n path within))
