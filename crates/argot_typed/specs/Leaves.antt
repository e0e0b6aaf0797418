-- The leaf paths of a type: its paths to numbers, texts, truth values and references. A struct goes on by its fields, in
-- order, an array by its elements, whichever, and a declared type by the type under its name.
use Rattle.std.specs.Prelude.{ℕ, zero, suc, ◌-◌, ◌^◌, min, List, [], ◌∷◌, ◌++◌, map, length}
use Rattle.argot_text.specs.declared.path.PathStep.{PathStep}
use Rattle.argot_text.specs.declared.path.PathStep.TheVariants.{Field, Element}
use Rattle.argot_typed.specs.declared.shape.FieldShape.{FieldShape}
use Rattle.argot_typed.specs.declared.shape.Shape.{Shape}
use Rattle.argot_typed.specs.declared.shape.Shape.TheVariants.{Named, Array, Struct}
use Rattle.argot_typed.specs.Parts.{shape_at}

-- the paths behind fields, the first of which has number n, where below gives those of a type
abbrev pub leaves_of_fields : (ℕ → List (List PathStep)) → ℕ → List FieldShape → List (List PathStep)
leaves_of_fields below n [] = []
leaves_of_fields below n (f ∷ fs) = map (λ path. Field n ∷ path) (below f.of.0) ++ leaves_of_fields below (suc n) fs

-- the paths of a shape, where below gives those of its parts
abbrev pub leaves_of_shape : (ℕ → List (List PathStep)) → Shape → List (List PathStep)
leaves_of_shape below (Named decl under methods) = below under.0
leaves_of_shape below (Array len of) = map (λ path. Element ∷ path) (below of.0)
leaves_of_shape below (Struct fields) = leaves_of_fields below 0 fields
leaves_of_shape below _ = [] ∷ []

-- the paths that go through fewer than k types
abbrev pub leaves_within : ℕ → List Shape → ℕ → List (List PathStep)
leaves_within zero shapes t = []
leaves_within (suc k) shapes t = leaves_of_shape (leaves_within k shapes) (shape_at shapes t)

-- all of them, as no path of a table that fits goes through more types than there are
unfoldable pub leaves_of : List Shape → ℕ → List (List PathStep)
leaves_of shapes t = leaves_within (length shapes) shapes t

-- a number, or the greatest of 32 bits where it is greater
abbrev pub capped : ℕ → ℕ
capped n = min n (2 ^ 32 - 1)

-- how many leaf paths the type has, as far as 32 bits tell
abbrev pub leaf_count_of : List Shape → ℕ → ℕ
leaf_count_of shapes t = capped (length (leaves_of shapes t))
