-- The numbers of nodes, through all trees.
use Rattle.std.specs.Prelude.{◌≡◌, ℕ, ◌+◌, ◌<◌, ◌^◌, List, Some, length, slice_get, take}
use Rattle.argot_tree.specs.declared.tree.Tree.{Tree}
use Rattle.argot_names_rules.specs.Loaded.{count_nodes}

-- for each file how many nodes stand before it, and at the end how many there are
pub record AreBases (trees : List Tree) (bases : List ℕ) : Type 0 where
  pub as_many : length bases ≡ length trees + 1
  pub each : (file base : ℕ) → slice_get bases file ≡ Some base → base ≡ count_nodes (take file trees)
  pub few : count_nodes trees < 2 ^ 32

-- as far as the files before this number go
pub record AreBasesUpTo (trees : List Tree) (count : ℕ) (bases : List ℕ) (sum : ℕ) : Type 0 where
  pub as_many : length bases ≡ count + 1
  pub each : (file base : ℕ) → slice_get bases file ≡ Some base → base ≡ count_nodes (take file trees)
  pub sum_is : sum ≡ count_nodes (take count trees)
  pub fits : sum < 2 ^ 32
