-- One step along a leaf path, when a leaf is known by its number.
use Rattle.std.specs.Prelude.{◌≡◌, ℕ, ◌<◌, ◌≤◌, List, [], ◌∷◌, ◌++◌, length, slice_get, option_to_list}
use Rattle.std.specs.Option.{option_map, MatchOption}
use Rattle.std.specs.List.{Contains}
use Rattle.std.specs.declared.option.Option.{Option}
use Rattle.argot_text.specs.declared.path.PathStep.TheVariants.{Field}
use Rattle.argot_typed.specs.declared.shape.FieldShape.{FieldShape}
use Rattle.argot_typed.specs.declared.shape.Shape.{Shape}
use Rattle.argot_typed.specs.declared.paths.Found.{Found}
use Rattle.argot_typed.specs.declared.paths.Step.{Step}
use Rattle.argot_typed.specs.Parts.{shape_at, types_of_fields, held_by}
use Rattle.argot_typed.specs.Leaves.{leaves_of, leaves_of_fields}

-- leaf number n of the fields is the leaf of one field's type that is found, behind that field
pub record IsFound (shapes : List Shape) (fields : List FieldShape) (n : ℕ) (it : Found) : Type 0 where
  pub part : Contains (types_of_fields fields) it.of.0
  pub there : it.left < length (leaves_of shapes it.of.0)
  pub few : length (leaves_of shapes it.of.0) ≤ 4096
  pub same : slice_get (leaves_of_fields (leaves_of shapes) 0 fields) n ≡ option_map (λ path. Field it.field ∷ path) (slice_get (leaves_of shapes it.of.0) it.left)

-- leaf number n of the type is a leaf of a type that it holds, behind a step or none
pub record IsOnward (shapes : List Shape) (t n : ℕ) (it : Step) : Type 0 where
  pub part : Contains (held_by (shape_at shapes t)) it.of.0
  pub there : it.left < length (leaves_of shapes it.of.0)
  pub few : length (leaves_of shapes it.of.0) ≤ 4096
  pub same : slice_get (leaves_of shapes t) n ≡ option_map (λ path. option_to_list it.step ++ path) (slice_get (leaves_of shapes it.of.0) it.left)

-- the next step, or none where the type has the one leaf path that takes no step
abbrev pub IsStep : List Shape → ℕ → ℕ → Option Step → Type 0
IsStep shapes t n next = MatchOption next (leaves_of shapes t ≡ [] ∷ []) (IsOnward shapes t n)
