-- Characters in UTF-8.
use Rattle.std.specs.Prelude.{◌≡◌, ℕ, Bool, true, not, ◌==◌, ◌&&◌, List, encode_utf8_all}
use Rattle.std.specs.List.{list_all}
use Rattle.std.specs.Str.{all_scalars}

-- the bytes are these characters, and each passes the test
pub record AreCharacters (passes : ℕ → Bool) (characters bytes : List ℕ) : Type 0 where
  pub scalar : all_scalars characters ≡ true
  pub pass : list_all passes characters ≡ true
  pub bytes_are : bytes ≡ encode_utf8_all characters

-- a character that may stand in a file: any but U+0000
abbrev pub is_some_character : ℕ → Bool
is_some_character c = not (c == 0)

-- any but this one
abbrev pub is_other_than : ℕ → ℕ → Bool
is_other_than this c = not (c == 0) && not (c == this)
