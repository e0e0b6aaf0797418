-- Elements and slices.
use Rattle.std.specs.Prelude.{ℕ, Bool, List, [], ◌∷◌, if◌then◌else◌}
use Rattle.argot_plain.specs.declared.instructions.Kind.TheVariants.{Op, Move, Step}
use Rattle.argot_plain.specs.declared.instructions.Tag.{Tag}
use Rattle.argot_text.specs.declared.path.PathStep.TheVariants.{Element, Value}
use Rattle.argot_text.specs.declared.position.Pos.{Pos}
use Rattle.argot_lower_scripts.specs.Script.{Leaves, Part, Reference, Script, part}
use Rattle.argot_lower_scripts.specs.Words.{first, answer, make, one, load, load_at, value, values}
use Rattle.argot_lower_locals.specs.Typed.{Typed}
use Rattle.argot_lower_locals.specs.Nodes.{at}
use Rattle.argot_lower_locals.specs.Types.{leaves_at, value_form, key_of, is_array}
use Rattle.argot_lower_locals.specs.Places.{tags}
use Rattle.argot_lower_rows.specs.Conversions.{AsType, value_as}

-- the reference of an array's place, or the pointer or slice itself
abbrev pub base : Typed → ℕ → (ℕ → Script) → Script
base t x k = if is_array (value_form t x) then part Reference x (λ rs. k (first rs)) else value x k

-- an element of a map: m = value x; value i as the key type; a := Step m {v}; r := Read a
abbrev pub map_index_row : Typed → ℕ → ℕ → ℕ → (ℕ → Script) → Script
map_index_row t n x i k = value x (λ m. value_as t i (AsType (key_of (value_form t x))) (λ _. load_at (at t n) (leaves_at t n) m Value k))

-- a byte of a text: a = value x; value i; r := Op [a]
abbrev pub text_index_row : Pos → ℕ → ℕ → Script
text_index_row p x i = value x (λ a. value i (λ _. one p (λ r. Op r (a ∷ [])) answer))

-- an element of an array without a place: a = part x; value i; r := Move a []
abbrev pub array_index_row : Pos → Leaves → List Tag → ℕ → ℕ → Script
array_index_row p ls tags x i = part Part x (λ found. value i (λ _. make p ls tags (λ r. Move r (first found) (Element ∷ [])) answer))

-- the reference to an element of a slice, of what a pointer to an array points to, of an array with a place
abbrev pub element_reference : Typed → ℕ → ℕ → ℕ → (ℕ → Script) → Script
element_reference t n x i k = base t x (λ b. value i (λ _. one (at t n) (λ r. Step r b (Element ∷ [])) k))

-- such an element
abbrev pub element_row : Typed → ℕ → ℕ → ℕ → Script
element_row t n x i = element_reference t n x i (λ a. load (at t n) (leaves_at t n) (tags t n) a answer)

-- x[a:b:c]: the indexes that are there; of a text an Op, else the reference moved
abbrev pub slice_row : Typed → ℕ → ℕ → List ℕ → Bool → Script
slice_row t n x is text = base t x (λ a. values is (λ _. one (at t n) (λ r. if text then Op r (a ∷ []) else Move r a []) answer))
