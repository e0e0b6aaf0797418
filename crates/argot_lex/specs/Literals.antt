-- The rune or text at the front of some bytes, computed.
use Rattle.std.specs.Prelude.{ℕ, zero, suc, ◌+◌, ◌*◌, Bool, true, false, ◌==◌, ◌||◌, nat_le, List, [], ◌∷◌, drop, Option, Some, None, if◌then◌else◌}
use Rattle.std.proofs.Math.Utf8.{scalar}
use Rattle.std.specs.Char.{digit_value, is_digit}
use Rattle.argot_tree.specs.Forms.{has}
use Rattle.argot_tree.specs.Literals.{value_of, are_digits, simple_escapes, is_plain}
use Rattle.argot_tree.specs.Characters.{is_other_than}
use Rattle.argot_lex.specs.Characters.{char_at, run_from}

-- the value of a digit of the base
abbrev pub digit_of : ℕ → ℕ → Option ℕ
digit_of base b = if is_digit b base then Some (digit_value b) else None

-- the number that the first digits write, where they are digits of the base
abbrev pub octal_of : List ℕ → Option ℕ
octal_of (a ∷ b ∷ c ∷ bs) = if are_digits 8 (a ∷ b ∷ c ∷ []) then Some (value_of 8 (a ∷ b ∷ c ∷ [])) else None
octal_of _ = None

abbrev pub pair_of : List ℕ → Option ℕ
pair_of (a ∷ b ∷ bs) = if are_digits 16 (a ∷ b ∷ []) then Some (value_of 16 (a ∷ b ∷ [])) else None
pair_of _ = None

abbrev pub four_of : List ℕ → Option ℕ
four_of (a ∷ b ∷ c ∷ d ∷ bs) = if are_digits 16 (a ∷ b ∷ c ∷ d ∷ []) then Some (value_of 16 (a ∷ b ∷ c ∷ d ∷ [])) else None
four_of _ = None

-- four digits and four behind them
abbrev pub joined : Option ℕ → Option ℕ → Option ℕ
joined None low = None
joined (Some high) None = None
joined (Some high) (Some low) = Some (high * 65536 + low)

abbrev pub eight_of : List ℕ → Option ℕ
eight_of (a ∷ b ∷ c ∷ d ∷ bs) = joined (four_of (a ∷ b ∷ c ∷ d ∷ bs)) (four_of bs)
eight_of _ = None

-- a length, where there is a value that passes
abbrev pub where_passes : (ℕ → Bool) → ℕ → Option ℕ → Option ℕ
where_passes p n None = None
where_passes p n (Some v) = if p v then Some n else None

-- how long an escape is, of which the backslash has been read
abbrev pub octal_len : List ℕ → Option ℕ
octal_len bs = where_passes (λ v. nat_le v 255) 4 (octal_of bs)

abbrev pub hex_len : ℕ → List ℕ → Option ℕ
hex_len b bs =
    if b == 120 then where_passes (λ _. true) 4 (pair_of bs)
    else (if b == 117 then where_passes scalar 6 (four_of bs)
    else (if b == 85 then where_passes scalar 10 (eight_of bs)
    else octal_len (b ∷ bs)))

unfoldable pub escape_len : ℕ → List ℕ → Option ℕ
escape_len quote [] = None
escape_len quote (b ∷ bs) = if has simple_escapes b || (b == quote) then Some 2 else hex_len b bs

abbrev pub plain_len : ℕ → Option (ℕ × ℕ) → Option ℕ
plain_len quote None = None
plain_len quote (Some r) = if is_plain quote r.0 then Some r.1 else None

-- how long the first character of a literal is, as it is written
unfoldable pub element_len : ℕ → List ℕ → Option ℕ
element_len quote [] = None
element_len quote (b ∷ bs) = if b == 92 then escape_len quote bs else plain_len quote (char_at (b ∷ bs))

-- the text begins with the byte
abbrev pub begins : ℕ → List ℕ → Bool
begins quote [] = false
begins quote (b ∷ bs) = b == quote

abbrev pub closed : ℕ → List ℕ → ℕ → Option ℕ
closed quote rest n = if begins quote rest then Some (n + 1) else None

abbrev pub rune_by : Option ℕ → List ℕ → Option ℕ
rune_by None bs = None
rune_by (Some n) bs = closed 39 (drop n bs) (1 + n)

-- how long the rune is; the opening quote is known to stand there
abbrev pub rune_front : List ℕ → Option ℕ
rune_front text = rune_by (element_len 39 (drop 1 text)) (drop 1 text)

abbrev pub raw_by : ℕ → List ℕ → Option ℕ
raw_by n bs = closed 96 (drop n bs) (1 + n)

abbrev pub raw_front : List ℕ → Option ℕ
raw_front text = raw_by (run_from (is_other_than 96) 0 (drop 1 text)) (drop 1 text)

abbrev pub goes_over : Option ℕ → (ℕ → Option ℕ) → Option ℕ
goes_over None go = None
goes_over (Some zero) go = None
goes_over (Some (suc k)) go = go k

-- where the text ends, read up to an offset, and where the next so many bytes belong to a character that has been read
abbrev pub text_from : ℕ → ℕ → ℕ → List ℕ → Option ℕ
text_from quote skip at [] = None
text_from quote zero at (b ∷ bs) =
    if b == quote then Some (at + 1)
    else goes_over (element_len quote (b ∷ bs)) (λ k. text_from quote k (at + 1) bs)
text_from quote (suc k) at (b ∷ bs) = text_from quote k (at + 1) bs

abbrev pub text_front : List ℕ → Option ℕ
text_front text = text_from 34 0 1 (drop 1 text)
