-- What the sites of new objects hold: the leaf paths and the type.
use Rattle.std.specs.Prelude.{ℕ, zero, suc, ◌+◌, List, [], ◌∷◌, ◌++◌, Some, None, length}
use Rattle.argot_text.specs.declared.path.PathStep.TheVariants.{Capture}
use Rattle.argot_typed.specs.declared.shape.FieldShape.{FieldShape}
use Rattle.argot_typed.specs.declared.shape.Shape.{Shape}
use Rattle.argot_typed.specs.declared.shape.Shape.TheVariants.{Pointer, Slice, Map, Chan, Struct, Array}
use Rattle.argot_lower_scripts.specs.Script.{Leaves, SiteOf, Script, site}
use Rattle.argot_lower_locals.specs.Typed.{Typed}
use Rattle.argot_lower_locals.specs.Types.{form, leaves, shape_of_parts}

abbrev pub object_site : Leaves → ℕ → SiteOf
object_site ls x = record { result = 0; leaf = 0; shape = ls; dynamic = x; function = None }

-- the object of a variable of the type, of a box that holds one, of what a new pointer points to
abbrev pub variable_site : Typed → ℕ → SiteOf
variable_site t x = object_site (leaves t x) x

-- the object of a slice, map or channel type
abbrev pub parts_site : Typed → ℕ → SiteOf
parts_site t x = object_site (shape_of_parts t (form t x)) x

-- a path to each of so many captures, the first of which has this number
abbrev pub captured : ℕ → ℕ → Leaves
captured i zero = []
captured i (suc n) = (Capture i ∷ []) ∷ captured (i + 1) n

-- the object of a function value, by the function's name
abbrev pub function_site : ℕ → Leaves → ℕ → SiteOf
function_site name ls x = record { result = 0; leaf = 0; shape = ls; dynamic = x; function = Some name }

-- the types of the leaves of a type, in the order of its leaf paths
abbrev pub leaf_types_of_fields : (ℕ → List ℕ) → List FieldShape → List ℕ
leaf_types_of_fields again [] = []
leaf_types_of_fields again (f ∷ fs) = again f.of.0 ++ leaf_types_of_fields again fs

abbrev pub leaf_types_of : (ℕ → List ℕ) → ℕ → Shape → List ℕ
leaf_types_of again x (Struct fields) = leaf_types_of_fields again fields
leaf_types_of again x (Array len of) = again of.0
leaf_types_of again x _ = x ∷ []

abbrev pub leaf_types_within : ℕ → Typed → ℕ → List ℕ
leaf_types_within zero t x = []
leaf_types_within (suc k) t x = leaf_types_of (leaf_types_within k t) x (form t x)

abbrev pub leaf_types : Typed → ℕ → List ℕ
leaf_types t x = leaf_types_within (length t.program.table) t x

-- the site of a fresh reference at this leaf of this result
abbrev pub result_site : ℕ → ℕ → Leaves → ℕ → SiteOf
result_site result leaf ls x = record { result = result; leaf = leaf; shape = ls; dynamic = x; function = None }

-- a leaf whose type is a pointer, slice, map or channel is a fresh reference of an external
abbrev pub leaf_site : Typed → ℕ → ℕ → ℕ → Shape → Script → Script
leaf_site t result leaf x (Pointer to) c = site (result_site result leaf (leaves t to.0) to.0) (λ _. c)
leaf_site t result leaf x (Slice of) c = site (result_site result leaf (shape_of_parts t (Slice of)) x) (λ _. c)
leaf_site t result leaf x (Map key value) c = site (result_site result leaf (shape_of_parts t (Map key value)) x) (λ _. c)
leaf_site t result leaf x (Chan dir of) c = site (result_site result leaf (shape_of_parts t (Chan dir of)) x) (λ _. c)
leaf_site t result leaf x _ c = c

abbrev pub leaf_sites : Typed → ℕ → ℕ → List ℕ → Script → Script
leaf_sites t result leaf [] c = c
leaf_sites t result leaf (x ∷ xs) c = leaf_site t result leaf x (form t x) (leaf_sites t result (leaf + 1) xs c)

-- the sites of the results of a call whose function may have no body, in order of result and leaf
abbrev pub result_sites : Typed → ℕ → List ℕ → Script → Script
result_sites t result [] c = c
result_sites t result (x ∷ xs) c = leaf_sites t result 0 (leaf_types t x) (result_sites t (result + 1) xs c)
