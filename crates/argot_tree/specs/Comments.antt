-- Comments (Go specification: Comments).
use Rattle.std.specs.Prelude.{◌≡◌, ℕ, Bool, true, false, ◌==◌, ◌&&◌, ◌||◌, List, [], ◌∷◌, ◌++◌, codes}
use Rattle.std.specs.List.{list_any}
use Rattle.argot_tree.specs.Characters.{AreCharacters, is_some_character, is_other_than}

-- the text begins with the words
abbrev pub begins_with : List ℕ → List ℕ → Bool
begins_with [] text = true
begins_with (b ∷ bs) [] = false
begins_with (b ∷ bs) (c ∷ cs) = (c == b) && begins_with bs cs

-- `//` and characters other than a newline; that they go on to the line's end is said of what stands behind them
pub record IsLineComment (bytes : List ℕ) : Type 0 where
  pub characters : List ℕ
  pub inner : List ℕ
  pub are : AreCharacters (is_other_than 10) characters inner
  pub bytes_are : bytes ≡ 47 ∷ 47 ∷ inner

-- the end of a line, or of the file
abbrev pub EndsLine : List ℕ → Type 0
EndsLine [] = Unit {0}
EndsLine (b ∷ bs) = b ≡ 10

-- it is one for the compiler
abbrev pub is_directive : List ℕ → Bool
is_directive bytes = begins_with (codes "//go:") bytes

-- `*/` stands somewhere in the characters
abbrev pub has_close : List ℕ → Bool
has_close [] = false
has_close (c ∷ cs) = begins_with (codes "*/") (c ∷ cs) || has_close cs

-- `/*` and characters up to the first `*/`, with a newline among them or without one
pub record IsGeneralComment (breaks : Bool) (bytes : List ℕ) : Type 0 where
  pub characters : List ℕ
  pub inner : List ℕ
  pub are : AreCharacters is_some_character characters inner
  pub first : has_close (characters ++ 42 ∷ []) ≡ false
  pub broken : list_any (λ c. c == 10) characters ≡ breaks
  pub bytes_are : bytes ≡ 47 ∷ 42 ∷ (inner ++ 42 ∷ 47 ∷ [])

-- a comment begins here
abbrev pub opens_comment : List ℕ → Bool
opens_comment text = begins_with (codes "//") text || begins_with (codes "/*") text
