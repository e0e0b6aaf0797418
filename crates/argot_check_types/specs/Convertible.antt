-- Which values can be converted to a type (Go specification: Conversions).
use Rattle.std.specs.Prelude.{Bool, true, false, ◌||◌}
use Rattle.argot_check_types.specs.Types.{Ty, chars, whole, pointer, array, slice}
use Rattle.argot_check_types.specs.Identity.{identical, identical_but_tags}
use Rattle.argot_check_types.specs.Known.{Known, under_in}

-- both are pointers without a name, and what stands under their bases is identical but for tags
abbrev pub are_like_pointers : Known → Ty → Ty → Bool
are_like_pointers known (pointer t) (pointer u) = identical_but_tags (under_in known t) (under_in known u)
are_like_pointers known _ _ = false

-- bytes, or characters
abbrev pub is_part_of_text : Ty → Bool
is_part_of_text t = identical t (whole 8 false) || identical t (whole 32 true)

-- an array of such elements
abbrev pub is_array_of : Ty → Ty → Bool
is_array_of t (array n u) = identical t u
is_array_of t _ = false

-- from one form to another, where they aren't alike
abbrev pub changes_form : Known → Ty → Ty → Bool
changes_form known (whole a b) (whole c d) = true
changes_form known (whole a b) chars = true
changes_form known chars (slice t) = is_part_of_text (under_in known t)
changes_form known (slice t) chars = is_part_of_text (under_in known t)
changes_form known (slice t) (array n u) = identical t u
changes_form known (slice t) (pointer u) = is_array_of t (under_in known u)
changes_form known _ _ = false

-- a value of the first type, which is no untyped one, to the second
abbrev pub changes_type : Known → Ty → Ty → Bool
changes_type known t u =
    identical_but_tags (under_in known t) (under_in known u)
    || (are_like_pointers known t u
    || changes_form known (under_in known t) (under_in known u))
