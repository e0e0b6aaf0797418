-- Lists linked by index through one column of cells. Each cell leads to an earlier one, so that every list ends.
use Rattle.std.specs.Prelude.{ℕ, zero, suc, ◌+◌, ◌<◌, ◌≤◌, ◌^◌, List, [], ◌∷◌, length, map, slice_index_or, All}
use Rattle.argot_links.specs.declared.chains.Cell.{Cell}

abbrev pub cell_at : List Cell → ℕ → Cell
cell_at cells j = slice_index_or cells j (record { item = 0; next = 0 })

-- the items from a link on, at most k of them: the link 0 is the end, and suc j leads to the cell j
abbrev pub chain : ℕ → List Cell → ℕ → List ℕ
chain zero cells link = []
chain (suc k) cells zero = []
chain (suc k) cells (suc j) = (cell_at cells j).item ∷ chain k cells (cell_at cells j).next

-- the lists that begin with these links; none has more items than its link says
abbrev pub chains : List Cell → List ℕ → List (List ℕ)
chains cells heads = map (λ link. chain link cells link) heads

-- each cell leads to an earlier one, or to the end
abbrev pub IsDown : List Cell → Type 0
IsDown cells = (j : ℕ) → j < length cells → (cell_at cells j).next ≤ j

pub record IsLinked (cells : List Cell) (heads : List ℕ) (capacity spare : ℕ) : Type 0 where
  pub starts : All (λ link. link ≤ length cells) heads
  pub down : IsDown cells
  pub room : length cells + spare ≤ capacity
  pub small : length cells + spare < 2 ^ 32
