-- How numbers are written (Go specification: Integer literals, Floating-point literals, Imaginary literals).
use Rattle.std.specs.Prelude.{ℕ, List, codes}
use Rattle.argot_tree.specs.Forms.{Form, OneOf, Either, Then, Many, maybe}

-- one of these digits and more, with one `_` before each but the first where one is wanted
abbrev pub digits : List ℕ → Form
digits some = Then (OneOf some) (Many (Then (maybe (OneOf (codes "_"))) (OneOf some)))

abbrev pub decimal_digits : List ℕ
decimal_digits = codes "0123456789"

abbrev pub octal_digits : List ℕ
octal_digits = codes "01234567"

abbrev pub binary_digits : List ℕ
binary_digits = codes "01"

abbrev pub hex_digits : List ℕ
hex_digits = codes "0123456789abcdefABCDEF"

-- the form behind one `_`, which may be left out
abbrev pub barred : Form → Form
barred f = Then (maybe (OneOf (codes "_"))) f

-- `0`, one of two letters, and then the form
abbrev pub based : List ℕ → Form → Form
based letters f = Then (OneOf (codes "0")) (Then (OneOf letters) f)

-- decimal digits, as they stand in floating-point and imaginary literals
abbrev pub decimals : Form
decimals = digits decimal_digits

abbrev pub hexes : Form
hexes = digits hex_digits

abbrev pub whole : Form
whole =
    Either (OneOf (codes "0"))
    (Either (Then (OneOf (codes "123456789")) (Many (barred (OneOf decimal_digits))))
    (Either (Then (OneOf (codes "0")) (barred (digits octal_digits)))
    (Either (based (codes "bB") (barred (digits binary_digits)))
    (Either (based (codes "oO") (barred (digits octal_digits)))
    (based (codes "xX") (barred hexes))))))

-- one of two letters, maybe a sign, and decimal digits
abbrev pub power : List ℕ → Form
power letters = Then (OneOf letters) (Then (maybe (OneOf (codes "+-"))) decimals)

abbrev pub exponent : Form
exponent = power (codes "eE")

abbrev pub point : Form
point = OneOf (codes ".")

-- hexadecimal digits with or without a point, before the exponent
abbrev pub hex_mantissa : Form
hex_mantissa =
    Either (barred hexes)
    (Either (barred (Then hexes (Then point (maybe hexes))))
    (Then point hexes))

abbrev pub floating : Form
floating =
    Either (Then decimals (Then point (Then (maybe decimals) (maybe exponent))))
    (Either (Then decimals exponent)
    (Either (Then point (Then decimals (maybe exponent)))
    (based (codes "xX") (Then hex_mantissa (power (codes "pP"))))))

-- a number of any kind and `i`; decimal digits may begin with `0` here
abbrev pub imaginary : Form
imaginary = Then (Either decimals (Either whole floating)) (OneOf (codes "i"))
