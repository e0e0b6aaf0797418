-- Rule 12: calls of built-in functions.
use Rattle.std.specs.Prelude.{ℕ, ℤ, pos, int_lt, Bool, true, false, not, ◌&&◌, ◌||◌, List, [], ◌∷◌, Option, Some, None, if◌then◌else◌}
use Rattle.argot_typed.specs.declared.shape.Dir.TheVariants.{Receive}
use Rattle.argot_consts.specs.declared.constants.Const.{Const}
use Rattle.argot_consts.specs.declared.constants.Const.TheVariants.{Whole}
use Rattle.argot_check_asking.specs.Rules.{Say}
use Rattle.argot_check_types.specs.Types.{Ty, chars, whole, pointer, array, slice, mapping, channel, nothing, any_type, int_type, behind_pointer, default_type, is_whole, is_text, is_untyped}
use Rattle.argot_check_types.specs.Identity.{identical}
use Rattle.argot_check_types.specs.Constants.{is_negative}
use Rattle.argot_check_types.specs.Facts.{Value, Plain, BuiltIn, Append, Cap, Clear, Close, Copy, Delete, Len, Make, Max, Min, New, Panic, Print, Println, Recover, Fact, value, results, kind, ill, constant_value, constant_in, is_operand}
use Rattle.argot_check_rules.specs.Rows.{Rule, Setting}
use Rattle.argot_check_rules.specs.Stages.{Pair, asks_under, asks_form, asks_fits, asks_all_fit}
use Rattle.argot_check_rules.specs.Index.{asks_all_whole, whole_constants, are_rising, text_length}
use Rattle.argot_check_rules.specs.Binary.{common}

-- a value that a call gives
abbrev pub called : Ty → Fact
called t = value (record { of = t; constant = None; way = Plain; busy = true })

abbrev pub no_results : Fact
no_results = results []

abbrev pub says_call : Bool → Fact → Rule
says_call b f = Say (if b then f else ill 12)

-- the form of an argument, and what is behind it where it is a pointer; `nil` has none
abbrev pub asks_argument : Setting → Fact → (Ty → Ty → Rule) → Rule
asks_argument s (value v) k = asks_form s v.of (λ u. asks_under s (behind_pointer u) (λ w. k u w))
asks_argument s f k = k nothing nothing

abbrev pub is_bytes : Ty → Bool
is_bytes t = identical t (whole 8 false)

-- append ------------------------------------------------------------------------------------------------------------

abbrev pub all_to : Ty → List Fact → List Pair
all_to t [] = []
all_to t (f ∷ fs) = record { it = f; of = t } ∷ all_to t fs

-- behind `...` a slice of these elements, or a text where they are bytes
abbrev pub append_spread : Setting → Value → Ty → List Fact → Rule
append_spread s v of (f ∷ []) =
    asks_fits s f (slice of) (λ b. asks_under s of (λ e. asks_argument s f (λ u w. says_call (b || is_text u && is_bytes e) (called v.of))))
append_spread s v of fs = Say (ill 12)

abbrev pub append_to : Setting → Bool → Value → List Fact → Ty → Rule
append_to s true v fs (slice of) = append_spread s v of fs
append_to s false v fs (slice of) = asks_all_fit s (all_to of fs) (λ b. says_call b (called v.of))
append_to s spread v fs u = Say (ill 12)

abbrev pub append_call : Setting → Bool → List Fact → Rule
append_call s spread (value v ∷ fs) = asks_under s v.of (append_to s spread v fs)
append_call s spread fs = Say (ill 12)

-- len and cap -------------------------------------------------------------------------------------------------------

-- a length that is known: of an array, unless a receive or a call that is no constant stands in it
abbrev pub array_length : Value → ℕ → Fact
array_length v len = value (record { of = int_type; constant = if v.busy then None else Some (Whole (pos len)); way = Plain; busy = v.busy })

abbrev pub text_fact : Option ℕ → Fact
text_fact None = called int_type
text_fact (Some n) = value (constant_value int_type (Whole (pos n)))

-- a map and a text have a length and no capacity
abbrev pub length_of : Bool → Value → Ty → Ty → Fact
length_of cap v (array len of) w = array_length v len
length_of cap v (pointer to) (array len of) = array_length v len
length_of cap v (slice of) w = called int_type
length_of cap v (channel d of) w = called int_type
length_of false v (mapping key of) w = called int_type
length_of false v chars w = text_fact (text_length v.constant)
length_of cap v u w = ill 12

abbrev pub length_call : Setting → Bool → List Fact → Rule
length_call s cap (value v ∷ []) = asks_argument s (value v) (λ u w. Say (length_of cap v u w))
length_call s cap fs = Say (ill 12)

-- clear, close, copy, delete ----------------------------------------------------------------------------------------

abbrev pub is_cleared : Ty → Bool
is_cleared (slice of) = true
is_cleared (mapping key of) = true
is_cleared u = false

abbrev pub is_closed : Ty → Bool
is_closed (channel Receive of) = false
is_closed (channel d of) = true
is_closed u = false

abbrev pub one_call : Setting → (Ty → Bool) → List Fact → Rule
one_call s takes (f ∷ []) = asks_argument s f (λ u w. says_call (takes u) no_results)
one_call s takes fs = Say (ill 12)

abbrev pub is_copied : Ty → Ty → Ty → Bool
is_copied (slice of) (slice from) e = identical of from
is_copied (slice of) chars e = is_bytes e
is_copied u v e = false

abbrev pub elements : Ty → Ty
elements (slice of) = of
elements u = nothing

abbrev pub copy_call : Setting → List Fact → Rule
copy_call s (f ∷ g ∷ []) =
    asks_argument s f (λ u w. asks_argument s g (λ v x. asks_under s (elements u) (λ e. says_call (is_copied u v e) (called int_type))))
copy_call s fs = Say (ill 12)

abbrev pub delete_from : Setting → Fact → Ty → Rule
delete_from s f (mapping key of) = asks_fits s f key (λ b. says_call b no_results)
delete_from s f u = Say (ill 12)

abbrev pub delete_call : Setting → List Fact → Rule
delete_call s (value v ∷ f ∷ []) = asks_under s v.of (delete_from s f)
delete_call s fs = Say (ill 12)

-- make and new ------------------------------------------------------------------------------------------------------

-- a slice has a length and may have a capacity; a map and a channel may have a size
abbrev pub takes_sizes : Ty → List Fact → Bool
takes_sizes (slice of) (f ∷ []) = true
takes_sizes (slice of) (f ∷ g ∷ []) = true
takes_sizes (mapping key of) [] = true
takes_sizes (mapping key of) (f ∷ []) = true
takes_sizes (channel d of) [] = true
takes_sizes (channel d of) (f ∷ []) = true
takes_sizes u fs = false

abbrev pub is_any_negative : List Fact → Bool
is_any_negative [] = false
is_any_negative (f ∷ fs) = is_negative (constant_in f) || is_any_negative fs

abbrev pub make_call : Setting → Bool → List Fact → Rule
make_call s false (kind t ∷ fs) =
    asks_under s t (λ u. asks_all_whole s fs (λ b. says_call (takes_sizes u fs && (b && (not (is_any_negative fs) && are_rising (whole_constants fs)))) (called t)))
make_call s spread fs = Say (ill 12)

abbrev pub new_call : Bool → List Fact → Rule
new_call false (kind t ∷ []) = Say (called (pointer t))
new_call spread fs = Say (ill 12)

-- min and max -------------------------------------------------------------------------------------------------------

-- the type of all, taken from left to right
abbrev pub common_of : Ty → List Fact → Option Ty
common_of t [] = Some t
common_of t (value v ∷ fs) = elim (common t v.of) [ None ↦ None | Some u ↦ common_of u fs ]
common_of t (f ∷ fs) = None

abbrev pub asks_all_ordered : Setting → List Fact → (Bool → Rule) → Rule
asks_all_ordered s [] k = k true
asks_all_ordered s (f ∷ fs) k = asks_argument s f (λ u w. asks_all_ordered s fs (λ b. k ((is_whole u || is_text u) && b)))

abbrev pub lesser : Bool → ℤ → ℤ → ℤ
lesser greatest a b = if greatest then (if int_lt a b then b else a) else (if int_lt b a then b else a)

abbrev pub whole_in : Option Const → Option ℤ
whole_in (Some (Whole z)) = Some z
whole_in c = None

-- the least or the greatest of whole constants, where all are such
abbrev pub extreme : Bool → ℤ → List Fact → Option ℤ
extreme greatest z [] = Some z
extreme greatest z (f ∷ fs) = elim (whole_in (constant_in f)) [ None ↦ None | Some a ↦ extreme greatest (lesser greatest z a) fs ]

abbrev pub extreme_from : Bool → Option Const → List Fact → Option ℤ
extreme_from greatest c fs = elim (whole_in c) [ None ↦ None | Some z ↦ extreme greatest z fs ]

-- constants of whole numbers give one; all else is a value of the type, or of its default type
abbrev pub extreme_fact : Ty → Option ℤ → Fact
extreme_fact t None = called (default_type t)
extreme_fact t (Some z) = value (constant_value t (Whole z))

abbrev pub extreme_of : Setting → Bool → List Fact → Option ℤ → Option Ty → Rule
extreme_of s b fs z None = Say (ill 12)
extreme_of s b fs z (Some t) = asks_all_fit s (all_to t fs) (λ c. says_call (b && (is_untyped t || c)) (extreme_fact t z))

abbrev pub extreme_call : Setting → Bool → List Fact → Rule
extreme_call s greatest (value v ∷ fs) =
    asks_all_ordered s (value v ∷ fs) (λ b. extreme_of s b (value v ∷ fs) (extreme_from greatest v.constant fs) (common_of v.of fs))
extreme_call s greatest fs = Say (ill 12)

-- all ---------------------------------------------------------------------------------------------------------------

abbrev pub panic_call : List Fact → Rule
panic_call (f ∷ []) = Say no_results
panic_call fs = Say (ill 12)

abbrev pub recover_call : List Fact → Rule
recover_call [] = Say (called any_type)
recover_call fs = Say (ill 12)

abbrev pub all_operands : List Fact → Bool
all_operands [] = true
all_operands (f ∷ fs) = is_operand f && all_operands fs

-- those whose arguments are all values or `nil`
abbrev pub plain_call : Setting → BuiltIn → Bool → List Fact → Rule
plain_call s Append spread fs = append_call s spread fs
plain_call s b true fs = Say (ill 12)
plain_call s Cap false fs = length_call s true fs
plain_call s Clear false fs = one_call s is_cleared fs
plain_call s Close false fs = one_call s is_closed fs
plain_call s Copy false fs = copy_call s fs
plain_call s Delete false fs = delete_call s fs
plain_call s Len false fs = length_call s false fs
plain_call s Max false fs = extreme_call s true fs
plain_call s Min false fs = extreme_call s false fs
plain_call s Panic false fs = panic_call fs
plain_call s Print false fs = Say no_results
plain_call s Println false fs = Say no_results
plain_call s Recover false fs = recover_call fs
plain_call s b false fs = Say (ill 12)

-- `...` may follow the arguments of `append` alone
abbrev pub built_in_call : Setting → BuiltIn → Bool → List Fact → Rule
built_in_call s Make spread fs = make_call s spread fs
built_in_call s New spread fs = new_call spread fs
built_in_call s b spread fs = if all_operands fs then plain_call s b spread fs else Say (ill 12)
