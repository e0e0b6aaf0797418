-- Constants and the types that represent them (Go specification: Representability, Conversions). A text is known by its
-- length.
use Rattle.std.specs.Prelude.{ℕ, ◌-◌, ◌^◌, nat_lt, ℤ, pos, negsuc, Bool, true, false, Option, Some, None, if◌then◌else◌}
use Rattle.argot_consts.specs.declared.constants.Const.{Const}
use Rattle.argot_consts.specs.declared.constants.Const.TheVariants.{Whole, Text, Truth}
use Rattle.argot_check_types.specs.Types.{Ty, truth, chars, whole}

-- a whole number of so many bits
abbrev pub is_in_range : ℕ → Bool → ℤ → Bool
is_in_range bits true (pos n) = nat_lt n (2 ^ (bits - 1))
is_in_range bits true (negsuc n) = nat_lt n (2 ^ (bits - 1))
is_in_range bits false (pos n) = nat_lt n (2 ^ bits)
is_in_range bits false (negsuc n) = false

-- types of this form represent the constant
abbrev pub represents : Ty → Const → Bool
represents (whole bits signed) (Whole z) = is_in_range bits signed z
represents chars (Text n) = true
represents truth Truth = true
represents _ _ = false

-- the bytes that a character takes in UTF-8, and those of U+FFFD where the number is none
abbrev pub utf8_length : ℤ → ℕ
utf8_length (pos n) = if nat_lt n 0x80 then 1 else if nat_lt n 0x800 then 2 else if nat_lt n 0x1_0000 then 3 else if nat_lt n 0x11_0000 then 4 else 3
utf8_length (negsuc n) = 3

-- a constant may have a type of this form
abbrev pub is_constant_form : Ty → Bool
is_constant_form truth = true
is_constant_form chars = true
is_constant_form (whole bits signed) = true
is_constant_form _ = false

-- the constant that a conversion to such a form gives, if it gives one: a whole number gives a text, else the form has to
-- represent it
abbrev pub converted : Ty → Const → Option Const
converted chars (Whole z) = Some (Text (utf8_length z))
converted t c = if represents t c then Some c else None

-- the number of a constant that is a whole one and not negative
abbrev pub count_in : Option Const → Option ℕ
count_in (Some (Whole (pos n))) = Some n
count_in _ = None

-- a constant below zero
abbrev pub is_negative : Option Const → Bool
is_negative (Some (Whole (negsuc n))) = true
is_negative _ = false

abbrev pub is_zero : Option Const → Bool
is_zero (Some (Whole (pos n))) = nat_lt n 1
is_zero _ = false
