-- Walks that end and walks that lead back exclude each other, and ranks make walks end.
use Rattle.std.proofs.Common.{ℕ, zero, suc, ◌+◌, ◌^◌, ◌<◌, List, [], ◌∷◌, ◌++◌, length, arith}
use Rattle.std.specs.List.{AllByRecursion, Contains}
use Rattle.argot_typed.specs.Fitting.{Ends, Leads, one, more, AreFit, IsOrderedFrom}
use Rattle.argot_typed.proofs.Walks.{each, held_parts}
use Rattle.argot_typed.specs.declared.shape.Shape.{Shape}
use Rattle.argot_typed.specs.declared.shape.Shape.TheVariants.{Truth, Chars, Whole, Named, Pointer, Array, Slice, Map, Struct, Func, Interface, Chan, Untyped, NilShape}
use Rattle.argot_typed.specs.Parts.{shape_at, parts_of, held_by, unnamed_parts_of, field_count}
use Rattle.argot_typed.proofs.Onward.{part_of}

-- one more step at the end of a walk
farther : (parts : ℕ → List ℕ) {t u v : ℕ} → Leads parts t u → Contains (parts u) v → Leads parts t v
farther parts (one h) k = more h (one k)
farther parts (more h w) k = more h (farther parts w k)

pub never_back : (parts : ℕ → List ℕ) (k t : ℕ) → Ends parts k t → Leads parts t t → ⊥
never_back parts zero t e w = e
never_back parts (suc k) t e (one h) = never_back parts k t (part_of (Ends parts k) (parts t) t e h) (one h)
never_back parts (suc k) t e (more {u = u} h w) = never_back parts k u (part_of (Ends parts k) (parts t) u e h) (farther parts w h)

ends_below : (parts : ℕ → List ℕ) (rank : ℕ → ℕ) (n : ℕ) → ((t : ℕ) → t < n → AllByRecursion (λ p. (p < n) × (rank p < rank t)) (parts t)) → (k t : ℕ) → t < n → rank t < k → Ends parts k t
ends_below parts rank n falls zero t l m = absurd (omega arith)
ends_below parts rank n falls (suc k) t l m =
    each (λ p. (p < n) × (rank p < rank t)) (Ends parts k) (parts t) (λ p h. ends_below parts rank n falls k p h.0 (omega (arith, h.1))) (falls t l)

pub ranked_end : (parts : ℕ → List ℕ) (rank : ℕ → ℕ) (n : ℕ) → ((t : ℕ) → t < n → rank t < n) → ((t : ℕ) → t < n → AllByRecursion (λ p. (p < n) × (rank p < rank t)) (parts t)) → (t : ℕ) → t < n → Ends parts n t
ranked_end parts rank n small falls t l = ends_below parts rank n falls n t l (small t l)

-- ---- tables in order

ordered_at : (n : ℕ) (shapes : List Shape) (t : ℕ) → IsOrderedFrom n shapes → t < length shapes → AllByRecursion (λ p. p < n + t) (parts_of (shape_at shapes t)) × (field_count (shape_at shapes t) < 2 ^ 32)
ordered_at n [] t o l = absurd (omega arith)
ordered_at n (s ∷ ss) zero o l = (each (λ p. p < n) (λ p. p < n + 0) (parts_of s) (λ p h. omega arith) o.0, o.1)
ordered_at n (s ∷ ss) (suc t) o l =
    let rest = ordered_at (suc n) ss t o.2 (omega arith) in
    (each (λ p. p < suc n + t) (λ p. p < n + suc t) (parts_of (shape_at ss t)) (λ p h. omega arith) rest.0, rest.1)

unnamed_parts : (P : ℕ → Type 0) (s : Shape) → AllByRecursion P (parts_of s) → AllByRecursion P (unnamed_parts_of s)
unnamed_parts P (Named decl under methods) a = tt
unnamed_parts P Truth a = a
unnamed_parts P Chars a = a
unnamed_parts P (Whole bits signed) a = a
unnamed_parts P (Pointer to) a = a
unnamed_parts P (Array len of) a = a
unnamed_parts P (Slice of) a = a
unnamed_parts P (Map key value) a = a
unnamed_parts P (Struct fields) a = a
unnamed_parts P (Func params results variadic) a = a
unnamed_parts P (Interface methods) a = a
unnamed_parts P (Chan dir of) a = a
unnamed_parts P (Untyped normal) a = a
unnamed_parts P NilShape a = a

module _ (shapes : List Shape) (o : IsOrderedFrom 0 shapes) where
  before : (t : ℕ) → t < length shapes → AllByRecursion (λ p. (p < length shapes) × (p < t)) (parts_of (shape_at shapes t))
  before t l = each (λ p. p < 0 + t) (λ p. (p < length shapes) × (p < t)) (parts_of (shape_at shapes t)) (λ p h. (omega arith, omega arith)) (ordered_at 0 shapes t o l).0

  pub ordered_fit : AreFit shapes
  ordered_fit = record {
    in_range = λ t l. each (λ p. (p < length shapes) × (p < t)) (λ p. p < length shapes) (parts_of (shape_at shapes t)) (λ p h. h.0) (before t l);
    fields = λ t l. (ordered_at 0 shapes t o l).1;
    named = ranked_end (λ u. unnamed_parts_of (shape_at shapes u)) (λ t. t) (length shapes) (λ t l. l) (λ t l. unnamed_parts (λ p. (p < length shapes) × (p < t)) (shape_at shapes t) (before t l));
    held = ranked_end (λ u. held_by (shape_at shapes u)) (λ t. t) (length shapes) (λ t l. l) (λ t l. held_parts (λ p. (p < length shapes) × (p < t)) (shape_at shapes t) (before t l));
  }

-- one more type behind its parts
pub ordered_more : (n : ℕ) (shapes : List Shape) (s : Shape) → IsOrderedFrom n shapes → AllByRecursion (λ p. p < n + length shapes) (parts_of s) → field_count s < 2 ^ 32 → IsOrderedFrom n (shapes ++ s ∷ [])
ordered_more n [] s o a f = (each (λ p. p < n + 0) (λ p. p < n) (parts_of s) (λ p h. omega arith) a, f, tt)
ordered_more n (x ∷ xs) s o a f = (o.0, o.1, ordered_more (suc n) xs s o.2 (each (λ p. p < n + length (x ∷ xs)) (λ p. p < suc n + length xs) (parts_of s) (λ p h. omega arith) a) f)

pub ordered_push : (shapes : List Shape) (s : Shape) → IsOrderedFrom 0 shapes → AllByRecursion (λ p. p < length shapes) (parts_of s) → field_count s < 2 ^ 32 → IsOrderedFrom 0 (shapes ++ s ∷ [])
ordered_push shapes s o a f = ordered_more 0 shapes s o (each (λ p. p < length shapes) (λ p. p < 0 + length shapes) (parts_of s) (λ p h. omega arith) a) f
