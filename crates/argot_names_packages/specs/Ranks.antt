-- Ranks of packages, by their first files.
use Rattle.std.specs.Prelude.{ℕ, ◌<◌, List, slice_get, unwrap_or}
use Rattle.argot_names_imports.specs.Graph.{Leads}

abbrev pub rank_of : List ℕ → ℕ → ℕ
rank_of ranks node = unwrap_or (slice_get ranks node) 0

-- each edge from the node leads to a lower rank, or to a node without one
abbrev pub FallsFrom : List (List ℕ) → List ℕ → ℕ → Type 0
FallsFrom lists ranks node = (t : ℕ) → Leads lists node t → 0 < rank_of ranks t → rank_of ranks t < rank_of ranks node
