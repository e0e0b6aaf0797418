-- The longest number at the front of a text, computed by an automaton.
use Rattle.std.specs.Prelude.{ℕ, ◌+◌, Bool, true, false, ◌==◌, ◌||◌, List, [], ◌∷◌, Option, Some, None, if◌then◌else◌}
use Rattle.std.specs.Int.{is_in_range}
use Rattle.argot_tree.specs.declared.token.TokenKind.{TokenKind}
use Rattle.argot_tree.specs.declared.token.TokenKind.TheVariants as kinds
use Rattle.argot_lex.specs.declared.numbers.Sort.{Sort}
use Rattle.argot_lex.specs.declared.numbers.Sort.TheVariants as sorts
use Rattle.argot_lex.specs.declared.numbers.State.{State}
use Rattle.argot_lex.specs.declared.numbers.State.TheVariants as states

-- what a byte is to a number
unfoldable pub sort_of : ℕ → Sort
sort_of b =
    if b == 48 then sorts.Zero
    else (if b == 49 then sorts.One
    else (if is_in_range 50 55 b then sorts.TwoToSeven
    else (if b == 56 || b == 57 then sorts.EightOrNine
    else (if b == 98 || b == 66 then sorts.LetterB
    else (if b == 101 || b == 69 then sorts.LetterE
    else (if is_in_range 97 102 b || is_in_range 65 70 b then sorts.HexLetter
    else (if b == 105 then sorts.LetterI
    else (if b == 111 || b == 79 then sorts.LetterO
    else (if b == 112 || b == 80 then sorts.LetterP
    else (if b == 120 || b == 88 then sorts.LetterX
    else (if b == 95 then sorts.Bar
    else (if b == 46 then sorts.Point
    else (if b == 43 || b == 45 then sorts.Sign
    else sorts.Other)))))))))))))

-- digits of a base
abbrev pub is_binary : Sort → Bool
is_binary sorts.Zero = true
is_binary sorts.One = true
is_binary _ = false

abbrev pub is_octal : Sort → Bool
is_octal sorts.Zero = true
is_octal sorts.One = true
is_octal sorts.TwoToSeven = true
is_octal _ = false

abbrev pub is_decimal : Sort → Bool
is_decimal sorts.Zero = true
is_decimal sorts.One = true
is_decimal sorts.TwoToSeven = true
is_decimal sorts.EightOrNine = true
is_decimal _ = false

abbrev pub is_hex : Sort → Bool
is_hex sorts.Zero = true
is_hex sorts.One = true
is_hex sorts.TwoToSeven = true
is_hex sorts.EightOrNine = true
is_hex sorts.HexLetter = true
is_hex sorts.LetterB = true
is_hex sorts.LetterE = true
is_hex _ = false

-- that state where the digit is one of the base
abbrev pub goes_on : Bool → State → Option State
goes_on digit to = if digit then Some to else None

-- the state behind `_`, and otherwise another
abbrev pub barred : Sort → State → Option State → Option State
barred sorts.Bar bar other = Some bar
barred _ bar other = other

-- digits of a base, with `_` between them, and otherwise what may follow
abbrev pub in_run : Bool → Sort → State → State → Option State → Option State
in_run digit sort to bar other = if digit then Some to else barred sort bar other

-- what may follow what has been read
abbrev pub behind_decimals : Sort → Option State
behind_decimals sorts.Point = Some states.Point
behind_decimals sorts.LetterE = Some states.ExponentMark
behind_decimals sorts.LetterI = Some states.Imaginary
behind_decimals _ = None

abbrev pub behind_lead : Sort → Option State
behind_lead sorts.Zero = Some states.Lead
behind_lead sorts.One = Some states.Lead
behind_lead sorts.TwoToSeven = Some states.Lead
behind_lead sorts.EightOrNine = Some states.Mixed
behind_lead sorts.Bar = Some states.LeadBar
behind_lead sorts.Point = Some states.Point
behind_lead sorts.LetterE = Some states.ExponentMark
behind_lead sorts.LetterI = Some states.Imaginary
behind_lead _ = None

abbrev pub behind_bar : Sort → Option State
behind_bar sorts.EightOrNine = Some states.Mixed
behind_bar sort = goes_on (is_octal sort) states.Lead

abbrev pub behind_zero : Sort → Option State
behind_zero sorts.LetterB = Some states.BinaryMark
behind_zero sorts.LetterO = Some states.OctalMark
behind_zero sorts.LetterX = Some states.HexMark
behind_zero sort = behind_lead sort

abbrev pub behind_hex : Sort → Option State
behind_hex sorts.Point = Some states.HexPoint
behind_hex sorts.LetterP = Some states.ExponentMark
behind_hex sorts.LetterI = Some states.Imaginary
behind_hex _ = None

abbrev pub imaginary : Sort → Option State
imaginary sorts.LetterI = Some states.Imaginary
imaginary _ = None

abbrev pub power : Sort → Option State
power sorts.LetterP = Some states.ExponentMark
power _ = None

abbrev pub hex_dot : Sort → Option State
hex_dot sorts.Point = Some states.HexDot
hex_dot _ = None

abbrev pub behind_fraction : Sort → Option State
behind_fraction sorts.LetterE = Some states.ExponentMark
behind_fraction sorts.LetterI = Some states.Imaginary
behind_fraction _ = None

abbrev pub first : Sort → Option State
first sorts.Zero = Some states.Zero
first sorts.Point = Some states.Dot
first sort = goes_on (is_decimal sort) states.Decimal

abbrev pub behind_power : Sort → Option State
behind_power sorts.Sign = Some states.ExponentSign
behind_power sort = goes_on (is_decimal sort) states.Exponent

abbrev pub behind_point : Sort → Option State
behind_point sort = if is_decimal sort then Some states.Fraction else behind_fraction sort

abbrev pub behind_hex_point : Sort → Option State
behind_hex_point sort = if is_hex sort then Some states.HexFraction else power sort

-- the same of hexadecimal numbers
abbrev pub next_hex : State → Sort → Option State
next_hex states.HexMark sort = in_run (is_hex sort) sort states.Hex states.HexBar (hex_dot sort)
next_hex states.HexBar sort = goes_on (is_hex sort) states.Hex
next_hex states.Hex sort = in_run (is_hex sort) sort states.Hex states.HexBar (behind_hex sort)
next_hex states.HexPoint sort = behind_hex_point sort
next_hex states.HexDot sort = goes_on (is_hex sort) states.HexFraction
next_hex states.HexFraction sort = in_run (is_hex sort) sort states.HexFraction states.HexFractionBar (power sort)
next_hex states.HexFractionBar sort = goes_on (is_hex sort) states.HexFraction
next_hex _ sort = None

-- the same of binary and octal numbers and of exponents
abbrev pub next_behind_letter : State → Sort → Option State
next_behind_letter states.BinaryMark sort = in_run (is_binary sort) sort states.Binary states.BinaryBar None
next_behind_letter states.BinaryBar sort = goes_on (is_binary sort) states.Binary
next_behind_letter states.Binary sort = in_run (is_binary sort) sort states.Binary states.BinaryBar (imaginary sort)
next_behind_letter states.OctalMark sort = in_run (is_octal sort) sort states.Octal states.OctalBar None
next_behind_letter states.OctalBar sort = goes_on (is_octal sort) states.Octal
next_behind_letter states.Octal sort = in_run (is_octal sort) sort states.Octal states.OctalBar (imaginary sort)
next_behind_letter states.ExponentMark sort = behind_power sort
next_behind_letter states.ExponentSign sort = goes_on (is_decimal sort) states.Exponent
next_behind_letter states.Exponent sort = in_run (is_decimal sort) sort states.Exponent states.ExponentBar (imaginary sort)
next_behind_letter states.ExponentBar sort = goes_on (is_decimal sort) states.Exponent
next_behind_letter state sort = next_hex state sort

-- what one more byte makes of what has been read; None where no number goes on so
abbrev pub next : State → Sort → Option State
next states.Start sort = first sort
next states.Zero sort = behind_zero sort
next states.Lead sort = behind_lead sort
next states.LeadBar sort = behind_bar sort
next states.Mixed sort = in_run (is_decimal sort) sort states.Mixed states.MixedBar (behind_decimals sort)
next states.MixedBar sort = goes_on (is_decimal sort) states.Mixed
next states.Decimal sort = in_run (is_decimal sort) sort states.Decimal states.DecimalBar (behind_decimals sort)
next states.DecimalBar sort = goes_on (is_decimal sort) states.Decimal
next states.Point sort = behind_point sort
next states.Dot sort = goes_on (is_decimal sort) states.Fraction
next states.Fraction sort = in_run (is_decimal sort) sort states.Fraction states.FractionBar (behind_fraction sort)
next states.FractionBar sort = goes_on (is_decimal sort) states.Fraction
next state sort = next_behind_letter state sort

-- the number that has been read, if it is one
abbrev pub accepted : State → Option TokenKind
accepted states.Zero = Some kinds.Whole
accepted states.Lead = Some kinds.Whole
accepted states.Decimal = Some kinds.Whole
accepted states.Binary = Some kinds.Whole
accepted states.Octal = Some kinds.Whole
accepted states.Hex = Some kinds.Whole
accepted states.Point = Some kinds.Float
accepted states.Fraction = Some kinds.Float
accepted states.Exponent = Some kinds.Float
accepted states.Imaginary = Some kinds.Imaginary
accepted _ = None

-- the longest number so far, behind n bytes
abbrev pub improved_by : Option TokenKind → ℕ → Option (TokenKind × ℕ) → Option (TokenKind × ℕ)
improved_by None n best = best
improved_by (Some kind) n best = Some (kind, n)

abbrev pub improved : State → ℕ → Option (TokenKind × ℕ) → Option (TokenKind × ℕ)
improved state n best = improved_by (accepted state) n best

-- goes on from a state, or stops with the best
abbrev pub scan_by : Option State → Option (TokenKind × ℕ) → (State → Option (TokenKind × ℕ)) → Option (TokenKind × ℕ)
scan_by None best go = best
scan_by (Some state) best go = go state

-- the longest number, where n bytes led to a state
abbrev pub scan : State → ℕ → Option (TokenKind × ℕ) → List ℕ → Option (TokenKind × ℕ)
scan state n best [] = best
scan state n best (b ∷ bs) =
    scan_by (next state (sort_of b)) best (λ to. scan to (n + 1) (improved to (n + 1) best) bs)

abbrev pub number_front : List ℕ → Option (TokenKind × ℕ)
number_front text = scan states.Start 0 None text
