-- What an element of a text in double quotes stands for, computed.
use Rattle.std.specs.Prelude.{ℕ, ◌+◌, ◌*◌, Bool, true, ◌==◌, nat_le, List, [], ◌∷◌, Option, Some, None, if◌then◌else◌, encode_utf8}
use Rattle.std.proofs.Math.Utf8.{scalar}
use Rattle.std.specs.Char.{digit_value, is_digit}
use Rattle.argot_tree.specs.Literals.{value_of, are_digits}

-- the value of a digit of the base
abbrev pub digit_of : ℕ → ℕ → Option ℕ
digit_of base b = if is_digit b base then Some (digit_value b) else None

-- the number that the first digits write, where they are digits of the base
abbrev pub octal_of : List ℕ → Option ℕ
octal_of (a ∷ b ∷ c ∷ bs) = if are_digits 8 (a ∷ b ∷ c ∷ []) then Some (value_of 8 (a ∷ b ∷ c ∷ [])) else None
octal_of _ = None

abbrev pub pair_of : List ℕ → Option ℕ
pair_of (a ∷ b ∷ bs) = if are_digits 16 (a ∷ b ∷ []) then Some (value_of 16 (a ∷ b ∷ [])) else None
pair_of _ = None

abbrev pub four_of : List ℕ → Option ℕ
four_of (a ∷ b ∷ c ∷ d ∷ bs) = if are_digits 16 (a ∷ b ∷ c ∷ d ∷ []) then Some (value_of 16 (a ∷ b ∷ c ∷ d ∷ [])) else None
four_of _ = None

-- four digits and four behind them
abbrev pub joined : Option ℕ → Option ℕ → Option ℕ
joined None low = None
joined (Some high) None = None
joined (Some high) (Some low) = Some (high * 65536 + low)

abbrev pub eight_of : List ℕ → Option ℕ
eight_of (a ∷ b ∷ c ∷ d ∷ bs) = joined (four_of (a ∷ b ∷ c ∷ d ∷ bs)) (four_of bs)
eight_of _ = None

-- the byte that a letter behind a backslash stands for
unfoldable pub simple_of : ℕ → Option ℕ
simple_of b =
    if b == 97 then Some 7
    else (if b == 98 then Some 8
    else (if b == 102 then Some 12
    else (if b == 110 then Some 10
    else (if b == 114 then Some 13
    else (if b == 116 then Some 9
    else (if b == 118 then Some 11
    else (if b == 92 then Some 92
    else (if b == 34 then Some 34
    else None))))))))

-- how long an element is, and what it stands for
abbrev pub Element : Type 0
Element = ℕ × List ℕ

-- an element by a number, where there is one that passes
abbrev pub by_number : (ℕ → Bool) → ℕ → (ℕ → List ℕ) → Option ℕ → Option Element
by_number passes size value None = None
by_number passes size value (Some v) = if passes v then Some (size, value v) else None

abbrev pub alone : ℕ → List ℕ
alone b = b ∷ []

-- an escape by a number, of which the backslash has been read; b is what stands behind it
abbrev pub numbered_of : ℕ → List ℕ → Option Element
numbered_of b bs =
    if b == 120 then by_number (λ _. true) 4 alone (pair_of bs)
    else (if b == 117 then by_number scalar 6 encode_utf8 (four_of bs)
    else (if b == 85 then by_number scalar 10 encode_utf8 (eight_of bs)
    else by_number (λ v. nat_le v 255) 4 alone (octal_of (b ∷ bs))))

abbrev pub or_numbered : Option ℕ → ℕ → List ℕ → Option Element
or_numbered None b bs = numbered_of b bs
or_numbered (Some v) b bs = Some (2, alone v)

-- an escape, of which the backslash has been read
unfoldable pub escape_of : List ℕ → Option Element
escape_of [] = None
escape_of (b ∷ bs) = or_numbered (simple_of b) b bs

-- the element at the front
unfoldable pub element_of : List ℕ → Option Element
element_of [] = None
element_of (b ∷ bs) = if b == 92 then escape_of bs else Some (1, alone b)
