-- Counting the leaf paths of a table's types from those of their parts.
use Rattle.std.specs.Prelude.{◌≡◌, ℕ, suc, ◌+◌, ◌<◌, List, [], ◌∷◌, length, slice_index, slice_index_or}
use Rattle.std.specs.declared.option.Option.{Option}
use Rattle.std.specs.declared.option.Option.TheVariants.{Some, None}
use Rattle.argot_typed.specs.declared.shape.FieldShape.{FieldShape}
use Rattle.argot_typed.specs.declared.shape.Shape.{Shape}
use Rattle.argot_typed.specs.declared.shape.Shape.TheVariants.{Named, Array, Struct}
use Rattle.argot_typed.specs.Parts.{shape_at}
use Rattle.argot_typed.specs.Fitting.{AreFit}
use Rattle.argot_typed.specs.Leaves.{leaf_count_of, capped}

-- the sum, if both are known
abbrev pub count_sum : Option ℕ → Option ℕ → Option ℕ
count_sum (Some a) (Some b) = Some (capped (a + b))
count_sum _ _ = None

-- the count of fields, if that of each type is known
abbrev pub count_of_fields : (ℕ → Option ℕ) → List FieldShape → Option ℕ
count_of_fields known [] = Some 0
count_of_fields known (f ∷ fs) = count_sum (known f.of.0) (count_of_fields known fs)

-- the count of a shape, if those that it needs are known
abbrev pub count_of_shape : (ℕ → Option ℕ) → Shape → Option ℕ
count_of_shape known (Named decl under methods) = known under.0
count_of_shape known (Array len of) = known of.0
count_of_shape known (Struct fields) = count_of_fields known fields
count_of_shape known _ = Some 1

-- what is known of a type
abbrev pub known_at : List (Option ℕ) → ℕ → Option ℕ
known_at counts t = slice_index_or counts t None

-- what is known is so
abbrev pub AreRight : List Shape → List (Option ℕ) → Type 0
AreRight shapes counts = (t c : ℕ) → known_at counts t ≡ Some c → c ≡ leaf_count_of shapes t

-- a type that isn't known needs one that isn't
abbrev pub IsClosed : List Shape → List (Option ℕ) → ℕ → Type 0
IsClosed shapes counts t = known_at counts t ≡ None → count_of_shape (known_at counts) (shape_at shapes t) ≡ None

-- a table that fits, with the count of each of its types
pub record AreCounted (shapes : List Shape) (counts : List ℕ) : Type 0 where
  pub fit : AreFit shapes
  pub as_many : length counts ≡ length shapes
  pub right : (t : ℕ) → t < length shapes → slice_index counts t ≡ leaf_count_of shapes t

-- how many are not known
abbrev pub unknown_count : List (Option ℕ) → ℕ
unknown_count [] = 0
unknown_count (None ∷ cs) = suc (unknown_count cs)
unknown_count (Some c ∷ cs) = unknown_count cs
