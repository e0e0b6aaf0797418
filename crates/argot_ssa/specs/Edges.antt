-- Edges between numbers, as a list of ends for each number, and what is reached along them.
use Rattle.std.specs.Prelude.{◌≡◌, ℕ, Bool, true, false, List, [], length, slice_index_or}
use Rattle.argot_links.specs.Members.{has}
use Rattle.argot_links.specs.Table.{Table}
use Rattle.argot_links.specs.Table.{has as has_column}

-- an edge leads from a to b: the list of a has b
unfoldable pub leads : List (List ℕ) → ℕ → ℕ → Bool
leads lists a b = has (slice_index_or lists a []) b

-- a set of numbers below n, as a table of one row
pub record IsSet (n : ℕ) (t : Table) : Type 0 where
  pub rows : length t.rows ≡ 1
  pub cols : t.cols ≡ n

-- the set has this number
abbrev pub holds : Table → ℕ → Bool
holds t a = has_column t 0 a

-- reached from the first ones along edges, each of which begins at a number that doesn't stop
pub data Spreads (lists : List (List ℕ)) (stops begins : ℕ → Bool) : ℕ → Type 0 where
  first : {j : ℕ} → begins j ≡ true → Spreads lists stops begins j
  on : {i j : ℕ} → Spreads lists stops begins i → stops i ≡ false → leads lists i j ≡ true → Spreads lists stops begins j
