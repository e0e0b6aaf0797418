-- The values of literals (Go specification: Integer literals, Rune literals, String literals).
use Rattle.std.specs.Prelude.{ℕ, zero, suc, ◌+◌, ◌-◌, nat_lt, ◌==◌, Bool, true, false, not, ◌||◌, ◌&&◌, List, [], ◌∷◌, ◌++◌, take, drop, length, filter, if◌then◌else◌, encode_utf8}
use Rattle.std.specs.Str.{chars}
use Rattle.argot_tree.specs.Literals.{value_of}

-- a letter in either case, by its code in lower case
abbrev pub is_letter : ℕ → ℕ → Bool
is_letter lower b = b == lower || b + 32 == lower

-- the number that digits write behind a leading `0`
abbrev pub based_value : ℕ → List ℕ → ℕ
based_value b ds =
    if is_letter 120 b then value_of 16 ds else if is_letter 98 b then value_of 2 ds else if is_letter 111 b then value_of 8 ds else value_of 8 (b ∷ ds)

abbrev pub digits_value : List ℕ → ℕ
digits_value (a ∷ b ∷ ds) = if a == 48 then based_value b ds else value_of 10 (a ∷ b ∷ ds)
digits_value ds = value_of 10 ds

-- a whole number; `_` between its digits doesn't count
abbrev pub whole_value : List ℕ → ℕ
whole_value bytes = digits_value (filter (λ b. not (b == 95)) bytes)

-- what stands between the quotes
abbrev pub between_quotes : List ℕ → List ℕ
between_quotes bytes = take (length bytes - 2) (drop 1 bytes)

-- what an escape stands for, and how many bytes it has behind its backslash
pub record Escape : Type 0 where
  pub number : ℕ
  -- the number is a character's, and not a byte
  pub character : Bool
  pub length : ℕ

abbrev pub simple_escape : ℕ → ℕ
simple_escape b =
    if b == 97 then 7 else if b == 98 then 8 else if b == 102 then 12 else if b == 110 then 10 else if b == 114 then 13 else if b == 116 then 9 else if b == 118 then 11 else b

-- by the bytes behind the backslash
abbrev pub escape_of : List ℕ → Escape
escape_of [] = record { number = 0; character = false; length = 0 }
escape_of (b ∷ bs) =
    if b == 120 then record { number = value_of 16 (take 2 bs); character = false; length = 3 }
    else if b == 117 then record { number = value_of 16 (take 4 bs); character = true; length = 5 }
    else if b == 85 then record { number = value_of 16 (take 8 bs); character = true; length = 9 }
    else if nat_lt b 56 && not (nat_lt b 48) then record { number = value_of 8 (take 3 (b ∷ bs)); character = false; length = 3 }
    else record { number = simple_escape b; character = false; length = 1 }

abbrev pub escaped_bytes : Escape → List ℕ
escaped_bytes e = if e.character then encode_utf8 e.number else e.number ∷ []

-- bytes between double quotes, at most so many
abbrev pub unescaped : ℕ → List ℕ → List ℕ
unescaped zero bs = []
unescaped (suc k) [] = []
unescaped (suc k) (b ∷ bs) = if b == 92 then escaped_bytes (escape_of bs) ++ unescaped k (drop (escape_of bs).length bs) else b ∷ unescaped k bs

abbrev pub is_raw : List ℕ → Bool
is_raw [] = false
is_raw (b ∷ bs) = b == 96

-- the bytes of a text; between backquotes each counts but carriage returns
abbrev pub text_value : List ℕ → List ℕ
text_value bytes =
    if is_raw bytes then filter (λ b. not (b == 13)) (between_quotes bytes) else unescaped (length bytes) (between_quotes bytes)

abbrev pub first_character : List ℕ → ℕ
first_character [] = 0
first_character (ch ∷ chs) = ch

abbrev pub rune_inside : List ℕ → ℕ
rune_inside [] = 0
rune_inside (b ∷ bs) = if b == 92 then (escape_of bs).number else first_character (chars (b ∷ bs))

-- the number of a character between single quotes
abbrev pub rune_value : List ℕ → ℕ
rune_value bytes = rune_inside (between_quotes bytes)
