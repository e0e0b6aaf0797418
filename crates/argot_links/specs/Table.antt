-- For each row an ascending list of columns.
use Rattle.std.specs.Prelude.{◌≡◌, ℕ, zero, suc, Bool, cond, List, [], ◌∷◌, length, slice_index_or}
use Rattle.argot_links.specs.Members.{has as contains, IsAscending}
use Rattle.argot_links.specs.Pairs.{refused}
use Rattle.argot_links.specs.Grid.{Grid, bit}

pub record Table : Type 0 where
  pub cols : ℕ
  pub rows : List (List ℕ)

-- the columns of row r
abbrev pub row : Table → ℕ → List ℕ
row t r = slice_index_or t.rows r []

-- row r has column c
unfoldable pub has : Table → ℕ → ℕ → Bool
has t r c = contains (row t r) c

-- the columns of each row ascend
abbrev pub AreAscending : Table → Type 0
AreAscending t = (r : ℕ) → IsAscending (row t r)

-- as many rows and columns
pub record SameShape (old new : Table) : Type 0 where
  pub rows : length new.rows ≡ length old.rows
  pub cols : new.cols ≡ old.cols

-- for how many more columns the rows have room
unfoldable pub room : Table → ℕ
room t = refused (has t) (length t.rows) t.cols

-- of the n numbers from at on those that pass, in order
abbrev pub columns : (ℕ → Bool) → ℕ → ℕ → List ℕ
columns f at zero = []
columns f at (suc n) = cond (f at) (at ∷ columns f (suc at) n) (columns f (suc at) n)

-- n rows of a grid, from row r on
abbrev pub rows_from : Grid → ℕ → ℕ → List (List ℕ)
rows_from g r zero = []
rows_from g r (suc n) = columns (bit g r) 0 g.cols ∷ rows_from g (suc r) n

-- what the words of a grid stand for
unfoldable pub table_of : Grid → Table
table_of g = record { cols = g.cols; rows = rows_from g 0 g.rows }
