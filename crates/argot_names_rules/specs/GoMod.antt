-- What `go.mod` gives: the module's path and the numbers of its `go` line.
use Rattle.std.specs.Prelude.{◌≡◌, ◌≢◌, ℕ, ◌+◌, ◌<◌, ◌^◌, ◌==◌, nat_eq, Bool, true, false, not, ◌||◌, ◌⊎◌, List, [], ◌∷◌, ◌++◌, codes, length, drop, take_while, Option, Some, None, slice_get, if◌then◌else◌}
use Rattle.std.specs.List.{list_all, list_any, starts_with}
use Rattle.std.specs.Str.{IsUtf8}
use Rattle.argot_tree.specs.Literals.{value_of, are_digits}

-- a line begins there
pub data BeginsLine (bytes : List ℕ) : ℕ → Type 0 where
  top : BeginsLine bytes 0
  behind : (at : ℕ) → slice_get bytes at ≡ Some 10 → BeginsLine bytes (at + 1)

-- the bytes of the line
abbrev pub line_at : List ℕ → ℕ → List ℕ
line_at bytes at = take_while (λ b. not (b == 10)) (drop at bytes)

-- what stands before the first `//`
abbrev pub before_comment : List ℕ → List ℕ
before_comment [] = []
before_comment (b ∷ bs) = if starts_with nat_eq (b ∷ bs) (codes "//") then [] else b ∷ before_comment bs

-- space, tab, carriage return
abbrev pub separates : ℕ → Bool
separates b = b == 32 || (b == 9 || b == 13)

-- a word, which ends where the text ends or a separator stands
pub record IsWord (word rest : List ℕ) : Type 0 where
  pub some : word ≢ []
  pub whole : list_any separates word ≡ false
  pub ends : rest ≡ [] ⊎ ((b : ℕ) × (bs : List ℕ) × (rest ≡ b ∷ bs) × (separates b ≡ true))

-- the first two words of a line, and how many bytes stand before the first
pub record HasWords (line first second : List ℕ) (skipped : ℕ) : Type 0 where
  pub blank : List ℕ
  pub between : List ℕ
  pub behind : List ℕ
  pub is_utf8 : IsUtf8 line
  pub is : before_comment line ≡ blank ++ (first ++ (between ++ (second ++ behind)))
  pub blank_is : list_all separates blank ≡ true
  pub between_is : list_all separates between ≡ true
  pub first_is : IsWord first (between ++ (second ++ behind))
  pub second_is : IsWord second behind
  pub skipped_is : skipped ≡ length blank

-- the first line that has this word first and another behind it: where its first word stands, and the second
pub record FirstLine (bytes word : List ℕ) (offset : ℕ) (second : List ℕ) : Type 0 where
  pub at : ℕ
  pub skipped : ℕ
  pub begins : BeginsLine bytes at
  pub has : HasWords (line_at bytes at) word second skipped
  pub offset_is : offset ≡ at + skipped
  pub first : (other skips : ℕ) (words : List ℕ) → BeginsLine bytes other → HasWords (line_at bytes other) word words skips → other < at → ⊥

-- a quote, `"` or a backquote
abbrev pub is_quote : ℕ → Bool
is_quote b = b == 34 || b == 96

-- a word without the quotes at its ends
pub record IsCut (word path : List ℕ) : Type 0 where
  pub front : List ℕ
  pub back : List ℕ
  pub is : word ≡ front ++ (path ++ back)
  pub front_is : list_all is_quote front ≡ true
  pub back_is : list_all is_quote back ≡ true
  pub begins : (b : ℕ) (bs : List ℕ) → path ≡ b ∷ bs → is_quote b ≡ false
  pub ends : (b : ℕ) (bs : List ℕ) → path ≡ bs ++ b ∷ [] → is_quote b ≡ false

-- digits, a dot and digits, taken as far as they go
pub record HasNumbers (word : List ℕ) (major minor : ℕ) : Type 0 where
  pub front : List ℕ
  pub back : List ℕ
  pub behind : List ℕ
  pub is : word ≡ front ++ 46 ∷ (back ++ behind)
  pub front_some : front ≢ []
  pub back_some : back ≢ []
  pub front_is : are_digits 10 front ≡ true
  pub back_is : are_digits 10 back ≡ true
  pub far : (b : ℕ) (bs : List ℕ) → behind ≡ b ∷ bs → are_digits 10 (b ∷ []) ≡ false
  pub major_is : major ≡ value_of 10 front
  pub minor_is : minor ≡ value_of 10 back
  pub major_fits : major < 2 ^ 32
  pub minor_fits : minor < 2 ^ 32

-- the module's path; empty where no line gives it
pub data GivesModule (bytes : List ℕ) : List ℕ → Type 0 where
  given : {path word : List ℕ} {offset : ℕ} → FirstLine bytes (codes "module") offset word → IsCut word path → GivesModule bytes path
  none : ((offset : ℕ) (word : List ℕ) → FirstLine bytes (codes "module") offset word → ⊥) → GivesModule bytes []

-- the numbers of the `go` line; a word of another shape counts as none
pub data GivesNumbers (bytes : List ℕ) : Option (ℕ × ℕ) → Type 0 where
  given : {offset major minor : ℕ} {word : List ℕ} → FirstLine bytes (codes "go") offset word → HasNumbers word major minor → GivesNumbers bytes (Some (major, minor))
  none : ((offset major minor : ℕ) (word : List ℕ) → FirstLine bytes (codes "go") offset word → HasNumbers word major minor → ⊥) → GivesNumbers bytes None
