-- What an operator gives on constants: "Constant expressions" of the Go specification, with a text known by its length
-- and a truth value not told from the other.
use Rattle.std.specs.Prelude.{ℕ, zero, suc, ◌+◌, ◌^◌, ℤ, pos, negsuc, ◌+ℤ◌, ◌-ℤ◌, ◌*ℤ◌, neg_ℤ, int_div, int_rem, nat_lt, if◌then◌else◌}
use Rattle.std.specs.declared.result.Result.{Result}
use Rattle.std.specs.declared.result.Result.TheVariants.{Ok, Err}
use Rattle.argot_consts.specs.declared.constants.Const.{Const}
use Rattle.argot_consts.specs.declared.constants.Const.TheVariants.{Whole, Text, Truth}
use Rattle.argot_consts.specs.declared.constants.ConstFault.{ConstFault}
use Rattle.argot_consts.specs.declared.constants.ConstFault.TheVariants.{TooWide, DivideByZero, Mismatched}
use Rattle.argot_consts.specs.declared.operators.Binary.{Binary}
use Rattle.argot_consts.specs.declared.operators.Binary.TheVariants.{Times, Divide, Remainder, ShiftLeft, ShiftRight, BitAnd, BitClear, Plus, Minus, BitOr, BitXor, Equal, NotEqual, Less, AtMost, Greater, AtLeast, Both, Either}
use Rattle.argot_consts.specs.declared.operators.Unary.{Unary}
use Rattle.argot_consts.specs.declared.operators.Unary.TheVariants.{Same, Negate, Not, Complement}
use Rattle.argot_consts.specs.Whole.{fits, shifted_left, shifted_right, and_of, or_of, xor_of, clear_of, complement_of}

-- a value, or why there is none
abbrev pub Folded : Type 0
Folded = Result Const ConstFault

-- the whole number, if it has 128 signed bits
abbrev pub whole_value : ℤ → Folded
whole_value z = if fits z then Ok (Whole z) else Err TooWide

-- a text of that length, if the length has 64 bits
abbrev pub text_value : ℕ → Folded
text_value n = if nat_lt n (2 ^ 64) then Ok (Text n) else Err TooWide

-- the value that a division computes, unless the divisor is 0
abbrev pub divided : ℤ → ℤ → Folded
divided z (pos zero) = Err DivideByZero
divided z (pos (suc n)) = whole_value z
divided z (negsuc n) = whole_value z

-- the value for a shift count that isn't negative
abbrev pub shifted : (ℕ → ℤ) → ℤ → Folded
shifted f (pos n) = whole_value (f n)
shifted f (negsuc n) = Err Mismatched

-- two whole numbers
abbrev pub fold_wholes : Binary → ℤ → ℤ → Folded
fold_wholes Times a b = whole_value (a *ℤ b)
fold_wholes Divide a b = divided (int_div a b) b
fold_wholes Remainder a b = divided (int_rem a b) b
fold_wholes ShiftLeft a b = shifted (shifted_left a) b
fold_wholes ShiftRight a b = shifted (shifted_right a) b
fold_wholes BitAnd a b = whole_value (and_of a b)
fold_wholes BitClear a b = whole_value (clear_of a b)
fold_wholes Plus a b = whole_value (a +ℤ b)
fold_wholes Minus a b = whole_value (a -ℤ b)
fold_wholes BitOr a b = whole_value (or_of a b)
fold_wholes BitXor a b = whole_value (xor_of a b)
fold_wholes Equal a b = Ok Truth
fold_wholes NotEqual a b = Ok Truth
fold_wholes Less a b = Ok Truth
fold_wholes AtMost a b = Ok Truth
fold_wholes Greater a b = Ok Truth
fold_wholes AtLeast a b = Ok Truth
fold_wholes Both a b = Err Mismatched
fold_wholes Either a b = Err Mismatched

-- two texts, by their lengths
abbrev pub fold_texts : Binary → ℕ → ℕ → Folded
fold_texts Plus m n = text_value (m + n)
fold_texts Equal m n = Ok Truth
fold_texts NotEqual m n = Ok Truth
fold_texts Less m n = Ok Truth
fold_texts AtMost m n = Ok Truth
fold_texts Greater m n = Ok Truth
fold_texts AtLeast m n = Ok Truth
fold_texts _ m n = Err Mismatched

-- two truth values
abbrev pub fold_truths : Binary → Folded
fold_truths Equal = Ok Truth
fold_truths NotEqual = Ok Truth
fold_truths Both = Ok Truth
fold_truths Either = Ok Truth
fold_truths _ = Err Mismatched

-- two constants
abbrev pub fold_of : Binary → Const → Const → Folded
fold_of op (Whole a) (Whole b) = fold_wholes op a b
fold_of op (Text m) (Text n) = fold_texts op m n
fold_of op Truth Truth = fold_truths op
fold_of op _ _ = Err Mismatched

-- one constant
abbrev pub fold_one_of : Unary → Const → Folded
fold_one_of Same (Whole a) = whole_value a
fold_one_of Negate (Whole a) = whole_value (neg_ℤ a)
fold_one_of Complement (Whole a) = whole_value (complement_of a)
fold_one_of Not Truth = Ok Truth
fold_one_of _ _ = Err Mismatched
