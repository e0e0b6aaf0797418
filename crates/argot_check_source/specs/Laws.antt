-- Worked values: what some literals stand for.
use Rattle.std.specs.Prelude.{◌≡◌, [], ◌∷◌, codes}
use Rattle.argot_check_source.specs.LiteralValues.{whole_value, rune_value, text_value}

pub record ValuesOfLiterals : Type 0 where
  pub decimal : whole_value (codes "1_000") ≡ 1000
  pub hexadecimal : whole_value (codes "0x1F") ≡ 31
  pub octal : whole_value (codes "0o17") ≡ 15
  pub old_octal : whole_value (codes "017") ≡ 15
  pub binary : whole_value (codes "0B101") ≡ 5
  pub zero : whole_value (codes "0") ≡ 0
  pub rune : rune_value (codes "'a'") ≡ 97
  pub rune_escaped : rune_value (codes "'\\n'") ≡ 10
  pub rune_by_number : rune_value (codes "'\\u00e4'") ≡ 228
  pub rune_of_two_bytes : rune_value (39 ∷ 195 ∷ 164 ∷ 39 ∷ []) ≡ 228
  pub text : text_value (codes "\"a\\tb\"") ≡ 97 ∷ 9 ∷ 98 ∷ []
  pub text_by_number : text_value (codes "\"\\xff\\101\"") ≡ 255 ∷ 65 ∷ []
  pub raw : text_value (codes "`a\\n`") ≡ 97 ∷ 92 ∷ 110 ∷ []
