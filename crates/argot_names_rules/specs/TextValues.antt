-- The value of a text literal, as bytes (Go specification: String literals).
use Rattle.std.specs.Prelude.{◌≡◌, ◌≢◌, ℕ, ◌≤◌, ◌==◌, true, not, List, [], ◌∷◌, ◌++◌, filter, encode_utf8}
use Rattle.std.specs.Char.{IsScalar}
use Rattle.argot_tree.specs.Literals.{value_of, are_digits}

-- what an escape in double quotes stands for
pub data EscapeValue : List ℕ → List ℕ → Type 0 where
  alert : EscapeValue (92 ∷ 97 ∷ []) (7 ∷ [])
  backspace : EscapeValue (92 ∷ 98 ∷ []) (8 ∷ [])
  form_feed : EscapeValue (92 ∷ 102 ∷ []) (12 ∷ [])
  newline : EscapeValue (92 ∷ 110 ∷ []) (10 ∷ [])
  carriage_return : EscapeValue (92 ∷ 114 ∷ []) (13 ∷ [])
  tab : EscapeValue (92 ∷ 116 ∷ []) (9 ∷ [])
  vertical_tab : EscapeValue (92 ∷ 118 ∷ []) (11 ∷ [])
  backslash : EscapeValue (92 ∷ 92 ∷ []) (92 ∷ [])
  quote : EscapeValue (92 ∷ 34 ∷ []) (34 ∷ [])
  -- a byte by three octal or two hexadecimal digits
  octal : {a b c : ℕ} → are_digits 8 (a ∷ b ∷ c ∷ []) ≡ true → value_of 8 (a ∷ b ∷ c ∷ []) ≤ 255 → EscapeValue (92 ∷ a ∷ b ∷ c ∷ []) (value_of 8 (a ∷ b ∷ c ∷ []) ∷ [])
  byte : {a b : ℕ} → are_digits 16 (a ∷ b ∷ []) ≡ true → EscapeValue (92 ∷ 120 ∷ a ∷ b ∷ []) (value_of 16 (a ∷ b ∷ []) ∷ [])
  -- a character by four or eight hexadecimal digits
  short : {a b c d : ℕ} → are_digits 16 (a ∷ b ∷ c ∷ d ∷ []) ≡ true → IsScalar (value_of 16 (a ∷ b ∷ c ∷ d ∷ [])) → EscapeValue (92 ∷ 117 ∷ a ∷ b ∷ c ∷ d ∷ []) (encode_utf8 (value_of 16 (a ∷ b ∷ c ∷ d ∷ [])))
  long : {a b c d e f g h : ℕ} → are_digits 16 (a ∷ b ∷ c ∷ d ∷ e ∷ f ∷ g ∷ h ∷ []) ≡ true → IsScalar (value_of 16 (a ∷ b ∷ c ∷ d ∷ e ∷ f ∷ g ∷ h ∷ [])) → EscapeValue (92 ∷ 85 ∷ a ∷ b ∷ c ∷ d ∷ e ∷ f ∷ g ∷ h ∷ []) (encode_utf8 (value_of 16 (a ∷ b ∷ c ∷ d ∷ e ∷ f ∷ g ∷ h ∷ [])))

-- what the bytes between double quotes stand for; each but a backslash stands for itself
pub data ElementsValue : List ℕ → List ℕ → Type 0 where
  none : ElementsValue [] []
  plain : {b : ℕ} {back value : List ℕ} → b ≢ 92 → ElementsValue back value → ElementsValue (b ∷ back) (b ∷ value)
  escaped : {front back one value : List ℕ} → EscapeValue front one → ElementsValue back value → ElementsValue (front ++ back) (one ++ value)

-- a literal and its value; between backquotes carriage returns are left out
pub data TextValue : List ℕ → List ℕ → Type 0 where
  chars : {inner value : List ℕ} → ElementsValue inner value → TextValue (34 ∷ (inner ++ 34 ∷ [])) value
  raw : (inner : List ℕ) → TextValue (96 ∷ (inner ++ 96 ∷ [])) (filter (λ c. not (c == 13)) inner)
