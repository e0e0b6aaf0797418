-- Runes and texts (Go specification: Rune literals, String literals).
use Rattle.std.specs.Prelude.{◌≡◌, ℕ, ◌+◌, ◌*◌, ◌≤◌, Bool, true, not, ◌==◌, ◌&&◌, ◌||◌, List, [], ◌∷◌, ◌++◌, codes, encode_utf8}
use Rattle.std.specs.List.{list_all}
use Rattle.std.specs.Char.{IsScalar, digit_value, is_digit}
use Rattle.argot_tree.specs.Forms.{has}
use Rattle.argot_tree.specs.Characters.{AreCharacters, is_other_than}

-- the number that digits write in a base, behind others that write `before`
abbrev pub value_behind : ℕ → ℕ → List ℕ → ℕ
value_behind base before [] = before
value_behind base before (d ∷ ds) = value_behind base (before * base + digit_value d) ds

-- these are digits of the base
abbrev pub are_digits : ℕ → List ℕ → Bool
are_digits base ds = list_all (λ d. is_digit d base) ds

abbrev pub value_of : ℕ → List ℕ → ℕ
value_of base ds = value_behind base 0 ds

-- `\a \b \f \n \r \t \v \\`, behind the backslash
abbrev pub simple_escapes : List ℕ
simple_escapes = codes "abfnrtv\\"

-- a backslash and what may stand behind it in a literal between these quotes
pub data IsEscape (quote : ℕ) : List ℕ → Type 0 where
  simple : {b : ℕ} → (has simple_escapes b || (b == quote)) ≡ true → IsEscape quote (92 ∷ b ∷ [])
  -- three octal digits up to 255
  octal : {a b c : ℕ} → are_digits 8 (a ∷ b ∷ c ∷ []) ≡ true → value_of 8 (a ∷ b ∷ c ∷ []) ≤ 255 → IsEscape quote (92 ∷ a ∷ b ∷ c ∷ [])
  -- `x` and two hexadecimal digits
  byte : {a b : ℕ} → are_digits 16 (a ∷ b ∷ []) ≡ true → IsEscape quote (92 ∷ 120 ∷ a ∷ b ∷ [])
  -- `u` and four, or `U` and eight, that write a character and no surrogate
  short : {a b c d : ℕ} → are_digits 16 (a ∷ b ∷ c ∷ d ∷ []) ≡ true → IsScalar (value_of 16 (a ∷ b ∷ c ∷ d ∷ [])) → IsEscape quote (92 ∷ 117 ∷ a ∷ b ∷ c ∷ d ∷ [])
  long : {a b c d e f g h : ℕ} → are_digits 16 (a ∷ b ∷ c ∷ d ∷ e ∷ f ∷ g ∷ h ∷ []) ≡ true → IsScalar (value_of 16 (a ∷ b ∷ c ∷ d ∷ e ∷ f ∷ g ∷ h ∷ [])) → IsEscape quote (92 ∷ 85 ∷ a ∷ b ∷ c ∷ d ∷ e ∷ f ∷ g ∷ h ∷ [])

-- a character that stands for itself between these quotes: neither a quote nor a backslash nor a newline
abbrev pub is_plain : ℕ → ℕ → Bool
is_plain quote c = (not (c == 0) && not (c == 10)) && (not (c == 92) && not (c == quote))

-- one character of a literal, as it is written
pub data IsElement (quote : ℕ) : List ℕ → Type 0 where
  plain : (c : ℕ) → IsScalar c → is_plain quote c ≡ true → IsElement quote (encode_utf8 c)
  escaped : {bytes : List ℕ} → IsEscape quote bytes → IsElement quote bytes

pub data AreElements (quote : ℕ) : List ℕ → Type 0 where
  none : AreElements quote []
  more : {front back : List ℕ} → IsElement quote front → AreElements quote back → AreElements quote (front ++ back)

-- one character in single quotes
abbrev pub IsRune : List ℕ → Type 0
IsRune bytes = (inner : List ℕ) × IsElement 39 inner × (bytes ≡ 39 ∷ (inner ++ 39 ∷ []))

-- characters in double quotes
abbrev pub IsChars : List ℕ → Type 0
IsChars bytes = (inner : List ℕ) × AreElements 34 inner × (bytes ≡ 34 ∷ (inner ++ 34 ∷ []))

-- characters in backquotes, each for itself
abbrev pub IsRawChars : List ℕ → Type 0
IsRawChars bytes = (characters : List ℕ) × (inner : List ℕ) × AreCharacters (is_other_than 96) characters inner × (bytes ≡ 96 ∷ (inner ++ 96 ∷ []))
