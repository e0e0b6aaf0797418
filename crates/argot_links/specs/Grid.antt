-- A table of bits, as its words.
use Rattle.std.specs.Prelude.{◌≡◌, ℕ, ◌+◌, ◌*◌, ◌/◌, ◌%◌, ◌^◌, ◌<◌, Bool, true, ◌==◌, ◌&&◌, nat_lt, List, length, slice_index}
use Rattle.std.specs.Int.{bit_at}
use Rattle.argot_links.specs.Pairs.{refused}

pub record Grid : Type 0 where
  pub rows : ℕ
  pub cols : ℕ
  -- the number of words of a row
  pub stride : ℕ
  pub words : List ℕ

-- bit b of the words from start on, 64 to a word
abbrev pub run_bit : List ℕ → ℕ → ℕ → ℕ
run_bit words start b = bit_at (slice_index words (start + b / 64)) (b % 64)

-- row r has column c
unfoldable pub bit : Grid → ℕ → ℕ → Bool
bit g r c = nat_lt (c / 64) g.stride && (run_bit g.words (r * g.stride) c == 1)

-- the two have as many rows and columns
pub record SameSize (old new : Grid) : Type 0 where
  pub rows : new.rows ≡ old.rows
  pub cols : new.cols ≡ old.cols

-- each column that is there is in range
abbrev pub IsWithin : Grid → Type 0
IsWithin g = (a b : ℕ) → bit g a b ≡ true → (a < g.rows) × (b < g.cols)

-- a row has the words for its columns, and no bit stands beyond them
pub record IsLaidOut (g : Grid) : Type 0 where
  pub words : length g.words ≡ g.rows * g.stride
  pub stride : g.stride ≡ (g.cols + 63) / 64
  pub within : IsWithin g
  pub small : g.cols < 2 ^ 32

-- how many bits are 0, over all rows and columns
unfoldable pub zeros : Grid → ℕ
zeros g = refused (bit g) g.rows g.cols
