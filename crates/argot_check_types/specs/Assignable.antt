-- Which values a variable of a type takes (Go specification: Assignability).
use Rattle.std.specs.Prelude.{Bool, true, false, not, ◌&&◌, ◌||◌, Option, Some, None}
use Rattle.argot_consts.specs.declared.constants.Const.{Const}
use Rattle.argot_typed.specs.declared.shape.Dir.TheVariants.{Both}
use Rattle.argot_check_types.specs.Types.{Basic, bool, string, int, int32, Ty, truth, chars, whole, pointer, slice, mapping, channel, function, interface, untyped, nil, nothing, has_name}
use Rattle.argot_check_types.specs.Identity.{identical}
use Rattle.argot_check_types.specs.Constants.{represents}
use Rattle.argot_check_types.specs.Facts.{Fact, value, no_value}
use Rattle.argot_check_types.specs.Known.{Known, under_in}
use Rattle.argot_check_types.specs.Members.{implements}

-- `nil` is a value of types of this form
abbrev pub takes_nil : Ty → Bool
takes_nil (pointer t) = true
takes_nil (function t u v) = true
takes_nil (slice t) = true
takes_nil (mapping t u) = true
takes_nil (channel d t) = true
takes_nil (interface t) = true
takes_nil _ = false

-- one of the two has no name
abbrev pub is_one_nameless : Ty → Ty → Bool
is_one_nameless t u = not (has_name t) || not (has_name u)

abbrev pub implements_form : Known → Ty → Ty → Bool
implements_form known t (interface methods) = implements known t methods
implements_form known t _ = false

-- a channel that goes both ways, and a channel of the same elements
abbrev pub narrows_channel : Ty → Ty → Bool
narrows_channel (channel Both t) (channel d u) = identical t u
narrows_channel _ _ = false

-- a value of the first type, which is no untyped one, to a variable of the second
abbrev pub assignable : Known → Ty → Ty → Bool
assignable known t u =
    identical t u
    || (identical (under_in known t) (under_in known u) && is_one_nameless t u
    || (implements_form known t (under_in known u)
    || narrows_channel (under_in known t) (under_in known u) && is_one_nameless t u))

-- an untyped value to a variable of this form. An interface without methods takes each, also a constant that its default
-- type doesn't represent
abbrev pub takes_untyped : Basic → Option Const → Ty → Bool
takes_untyped b c (interface nothing) = true
takes_untyped b c (interface t) = false
takes_untyped b (Some c) t = represents t c
takes_untyped bool None truth = true
takes_untyped int None (whole bits signed) = true
takes_untyped int32 None (whole bits signed) = true
takes_untyped string None chars = true
takes_untyped _ _ _ = false

-- what is said of an expression fits the type
abbrev pub fits_value : Known → Ty → Option Const → Ty → Bool
fits_value known (untyped b) c u = takes_untyped b c (under_in known u)
fits_value known t c u = assignable known t u

abbrev pub fits : Known → Fact → Ty → Bool
fits known (value v) t = fits_value known v.of v.constant t
fits known no_value t = takes_nil (under_in known t)
fits known _ t = false

-- types alone: `nil` and untyped ones go by their kind
abbrev pub assignable_type : Known → Ty → Ty → Bool
assignable_type known nil u = takes_nil (under_in known u)
assignable_type known t u = fits_value known t None u
