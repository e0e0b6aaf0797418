-- Walks that end, and the leaf paths of a table that fits.
use Rattle.std.proofs.Common.{◌≡◌, ℕ, zero, suc, ◌<◌, ◌≤◌, List, [], ◌∷◌, ◌++◌, length, map, refl, ap, ap₂, arith}
use Rattle.std.specs.List.{AllByRecursion}
use Rattle.argot_text.specs.declared.path.PathStep.{PathStep}
use Rattle.argot_text.specs.declared.path.PathStep.TheVariants.{Field, Element}
use Rattle.argot_typed.specs.declared.shape.FieldShape.{FieldShape}
use Rattle.argot_typed.specs.declared.shape.Shape.{Shape}
use Rattle.argot_typed.specs.declared.shape.Shape.TheVariants.{Named, Array, Struct}
use Rattle.argot_typed.specs.Parts.{shape_at, types_of_fields, parts_of, held_by}
use Rattle.argot_typed.specs.Fitting.{Ends, AreFit}
use Rattle.argot_typed.specs.Leaves.{leaves_of_fields, leaves_of_shape, leaves_within, leaves_of}

pub each : (P Q : ℕ → Type 0) (xs : List ℕ) → ((x : ℕ) → P x → Q x) → AllByRecursion P xs → AllByRecursion Q xs
each P Q [] f a = tt
each P Q (x ∷ xs) f a = (f x a.0, each P Q xs f a.1)

pub both : (P Q R : ℕ → Type 0) (xs : List ℕ) → ((x : ℕ) → P x → Q x → R x) → AllByRecursion P xs → AllByRecursion Q xs → AllByRecursion R xs
both P Q R [] f a b = tt
both P Q R (x ∷ xs) f a b = (f x a.0 b.0, both P Q R xs f a.1 b.1)

-- what a type holds by value is part of it
pub held_parts : (P : ℕ → Type 0) (s : Shape) → AllByRecursion P (parts_of s) → AllByRecursion P (held_by s)
held_parts P (Named decl under methods) a = (a.0, tt)
held_parts P (Array len of) a = a
held_parts P (Struct fields) a = a
held_parts P _ a = tt

fields_same : (f g : ℕ → List (List PathStep)) (n : ℕ) (fs : List FieldShape) → AllByRecursion (λ p. f p ≡ g p) (types_of_fields fs) → leaves_of_fields f n fs ≡ leaves_of_fields g n fs
fields_same f g n [] a = refl
fields_same f g n (x ∷ xs) a = ap₂ ◌++◌ (ap (λ ps. map (λ path. Field n ∷ path) ps) a.0) (fields_same f g (suc n) xs a.1)

shape_same : (f g : ℕ → List (List PathStep)) (s : Shape) → AllByRecursion (λ p. f p ≡ g p) (held_by s) → leaves_of_shape f s ≡ leaves_of_shape g s
shape_same f g (Named decl under methods) a = a.0
shape_same f g (Array len of) a = ap (λ ps. map (λ path. Element ∷ path) ps) a.0
shape_same f g (Struct fields) a = fields_same f g 0 fields a
shape_same f g _ a = refl

abbrev pub held : List Shape → ℕ → List ℕ
held shapes t = held_by (shape_at shapes t)

-- where walks end, more steps find no more
enough : (shapes : List Shape) (k j t : ℕ) → Ends (held shapes) k t → k ≤ j → leaves_within k shapes t ≡ leaves_within j shapes t
enough shapes zero j t e l = absurd e
enough shapes (suc k) zero t e l = absurd (omega arith)
enough shapes (suc k) (suc j) t e l =
    shape_same (leaves_within k shapes) (leaves_within j shapes) (shape_at shapes t)
    (each (Ends (held shapes) k) (λ p. leaves_within k shapes p ≡ leaves_within j shapes p) (held shapes t) (λ p h. enough shapes k j p h (omega arith)) e)

unrolled : (shapes : List Shape) (n t : ℕ) → Ends (held shapes) n t → leaves_within n shapes t ≡ leaves_of_shape (leaves_within n shapes) (shape_at shapes t)
unrolled shapes zero t e = absurd e
unrolled shapes (suc k) t e =
    shape_same (leaves_within k shapes) (leaves_within (suc k) shapes) (shape_at shapes t)
    (each (Ends (held shapes) k) (λ p. leaves_within k shapes p ≡ leaves_within (suc k) shapes p) (held shapes t) (λ p h. enough shapes k (suc k) p h (omega arith)) e)

-- the leaf paths of a type are those of its shape
pub leaves_are : (shapes : List Shape) → AreFit shapes → (t : ℕ) → t < length shapes → leaves_of shapes t ≡ leaves_of_shape (leaves_of shapes) (shape_at shapes t)
unfolding leaves_of
leaves_are shapes fit t l = unrolled shapes (length shapes) t (fit.held t l)
