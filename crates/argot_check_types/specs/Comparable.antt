-- Which types can be compared (Go specification: Comparison operators).
use Rattle.std.specs.Prelude.{ℕ, zero, suc, Bool, true, false, ◌&&◌, ◌||◌, List, [], ◌∷◌, ◌++◌}
use Rattle.argot_check_types.specs.Types.{Ty, named, array, slice, mapping, structure, function, nil, field, is_whole, is_text}
use Rattle.argot_check_types.specs.Known.{Known, under_in}

-- the declared types that a value of the type holds: itself, elements of an array, fields of a struct; not those that
-- these hold in turn
abbrev pub held_in : Ty → List ℕ
held_in (named d) = d ∷ []
held_in (array n t) = held_in t
held_in (structure t) = held_in t
held_in (field name home tag embedded t rest) = held_in t ++ held_in rest
held_in _ = []

-- declared types aside, no slice, map or function is among what it holds
abbrev pub is_comparable_form : Ty → Bool
is_comparable_form (slice t) = false
is_comparable_form (mapping t u) = false
is_comparable_form (function t u v) = false
is_comparable_form nil = false
is_comparable_form (array n t) = is_comparable_form t
is_comparable_form (structure t) = is_comparable_form t
is_comparable_form (field name home tag embedded t rest) = is_comparable_form t && is_comparable_form rest
is_comparable_form _ = true

abbrev pub all_are : (ℕ → Bool) → List ℕ → Bool
all_are test [] = true
all_are test (d ∷ ds) = test d && all_are test ds

-- values of the type can be compared, where the test tells it of declared types
abbrev pub is_comparable_by : (ℕ → Bool) → Ty → Bool
is_comparable_by test t = is_comparable_form t && all_are test (held_in t)

-- what is held through fewer than so many declared types can be
abbrev pub is_comparable_within : ℕ → Known → ℕ → Bool
is_comparable_within zero known d = false
is_comparable_within (suc n) known d = is_comparable_by (is_comparable_within n known) (under_in known (named d))

abbrev pub is_comparable : Known → Ty → Bool
is_comparable known t = is_comparable_by (is_comparable_within known.depth known) t

-- and values of this form can be ordered
abbrev pub is_ordered_form : Ty → Bool
is_ordered_form t = is_whole t || is_text t
