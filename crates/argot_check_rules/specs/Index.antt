-- Rule 7: an index of an array, a pointer to one, a slice or a text is whole, and a constant one isn't negative and lies below a
-- known length; a map takes a key that fits. Rule 8: a slice of an array that has a place, of a pointer to an array, of a
-- slice, or with two indexes of a text; indexes are whole, and constant ones in order.
use Rattle.std.specs.Prelude.{ℕ, nat_lt, ℤ, int_lt, Bool, true, false, not, ◌&&◌, ◌||◌, List, [], ◌∷◌, Option, Some, None, if◌then◌else◌}
use Rattle.argot_consts.specs.declared.constants.Const.{Const}
use Rattle.argot_consts.specs.declared.constants.Const.TheVariants.{Whole, Text}
use Rattle.argot_check_asking.specs.Rules.{AskBoth, AskAll, Say}
use Rattle.argot_check_types.specs.Types.{Ty, chars, behind_pointer, pointer, array, slice, mapping, byte_type, string_type, is_whole, is_untyped}
use Rattle.argot_check_types.specs.Constants.{count_in}
use Rattle.argot_check_types.specs.Facts.{Value, Way, Plain, Place, Element, Fact, value, ill, is_busy, is_any_busy, is_place, constant_in}
use Rattle.argot_check_rules.specs.Rows.{Row, Rule, Setting}
use Rattle.argot_check_rules.specs.Stages.{asks_under, asks_form, asks_fits}

-- a constant index: not negative, and below the length where that is known
abbrev pub is_below : Option ℕ → ℕ → Bool
is_below None n = true
is_below (Some len) n = nat_lt n len

abbrev pub is_index : Option ℕ → Option Const → Bool
is_index len None = true
is_index len (Some c) = elim (count_in (Some c)) [ None ↦ false | Some n ↦ is_below len n ]

-- goes on with whether an expression is a whole number
abbrev pub asks_whole : Setting → Fact → (Bool → Rule) → Rule
asks_whole s (value v) k = asks_form s v.of (λ form. k (is_whole form))
asks_whole s f k = k false

abbrev pub asks_all_whole : Setting → List Fact → (Bool → Rule) → Rule
asks_all_whole s [] k = k true
asks_all_whole s (f ∷ fs) k = asks_whole s f (λ b. asks_all_whole s fs (λ c. k (b && c)))

-- an element: the type, its way, and the length that bounds a constant index
abbrev pub element_rule : Setting → Value → Fact → Ty → Way → Option ℕ → Rule
element_rule s v i of way len =
    asks_whole s i (λ b. Say (if b && is_index len (constant_in i) then value (record { of = of; constant = None; way = way; busy = v.busy || is_busy i }) else ill 7))

abbrev pub text_length : Option Const → Option ℕ
text_length (Some (Text n)) = Some n
text_length _ = None

abbrev pub map_element_rule : Setting → Value → Fact → Ty → Ty → Rule
map_element_rule s v i key of =
    asks_fits s i key (λ b. Say (if b then value (record { of = of; constant = None; way = Element; busy = v.busy || is_busy i }) else ill 7))

-- an element of an array has a place where the array has one
abbrev pub part_way : Way → Way
part_way way = if is_place way then Place else Plain

-- by the form of what is indexed, and by what is behind it where it is a pointer
abbrev pub index_form : Setting → Value → Fact → Ty → Ty → Rule
index_form s v i (mapping key of) w = map_element_rule s v i key of
index_form s v i chars w = element_rule s v i byte_type Plain (text_length v.constant)
index_form s v i (slice of) w = element_rule s v i of Place None
index_form s v i (array len of) w = element_rule s v i of (part_way v.way) (Some len)
index_form s v i (pointer to) (array len of) = element_rule s v i of Place (Some len)
index_form s v i u w = Say (ill 7)

abbrev pub index_by : Setting → Fact → Fact → Rule
index_by s (value v) i = asks_form s v.of (λ u. asks_under s (behind_pointer u) (λ w. index_form s v i u w))
index_by s f i = Say (ill 7)

abbrev pub index_rule : Setting → Row → Row → Rule
index_rule s x i = AskBoth x i (index_by s)

-- Slices ------------------------------------------------------------------------------------------------------------

-- the whole constants among the indexes
abbrev pub and_whole : Option Const → List ℤ → List ℤ
and_whole (Some (Whole z)) zs = z ∷ zs
and_whole _ zs = zs

abbrev pub whole_constants : List Fact → List ℤ
whole_constants [] = []
whole_constants (f ∷ fs) = and_whole (constant_in f) (whole_constants fs)

-- none is followed by a smaller one
abbrev pub are_rising : List ℤ → Bool
are_rising (a ∷ b ∷ zs) = not (int_lt b a) && are_rising (b ∷ zs)
are_rising _ = true

-- the type of a slice of this form, with a third index or without
abbrev pub text_slice : Bool → Ty → Option Ty
text_slice three t = if three then None else Some (if is_untyped t then string_type else t)

abbrev pub array_slice : Way → Ty → Option Ty
array_slice way of = if is_place way then Some (slice of) else None

abbrev pub slice_type : Bool → Value → Ty → Ty → Option Ty
slice_type three v chars w = text_slice three v.of
slice_type three v (slice of) w = Some v.of
slice_type three v (array len of) w = array_slice v.way of
slice_type three v (pointer to) (array len of) = Some (slice of)
slice_type three v u w = None

abbrev pub slice_fact : List Fact → Bool → Option Ty → Fact
slice_fact fs b None = ill 8
slice_fact fs b (Some t) = if b then value (record { of = t; constant = None; way = Plain; busy = is_any_busy fs }) else ill 8

abbrev pub slice_by : Setting → Bool → List Fact → Rule
slice_by s three (value v ∷ is) =
    asks_all_whole s is (λ b. asks_form s v.of (λ u. asks_under s (behind_pointer u) (λ w.
    Say (slice_fact (value v ∷ is) (b && are_rising (whole_constants is)) (slice_type three v u w)))))
slice_by s three fs = Say (ill 8)

-- what is sliced, and its indexes; whether a third one is there
abbrev pub slice_rule : Setting → Bool → Row → List Row → Rule
slice_rule s three x is = AskAll (x ∷ is) (slice_by s three)
