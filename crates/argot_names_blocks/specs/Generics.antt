-- Declarations with type parameters, and imports under a dot, computed.
use Rattle.std.specs.Prelude.{◌≡◌, ℕ, ◌<◌, ◌≤◌, ◌⊎◌, Bool, true, false, List, Option, Some, None, length, slice_get}
use Rattle.argot_tree.specs.declared.tree.TreeNode.{TreeNode}
use Rattle.argot_names_blocks.specs.declared.tables.Found.{Found}
use Rattle.argot_names_blocks.specs.declared.roles.Role.{Role}
use Rattle.argot_names_blocks.specs.declared.roles.Role.TheVariants as roles
use Rattle.argot_names_blocks.specs.declared.bindings.Lookup.{Lookup}
use Rattle.argot_names_blocks.specs.Roles.{role_of}
use Rattle.argot_names_blocks.specs.Bringing.{found_at}
use Rattle.argot_names_blocks.specs.Looking.{looked_of, is_key_of}

-- each node begins at a token before this one
abbrev pub BeginBefore : List TreeNode → ℕ → Type 0
BeginBefore tree count = (k : ℕ) (n : TreeNode) → slice_get tree k ≡ Some n → n.token < count

-- the table has true at these tokens, and else what it had
pub record PaintsTrue (old new : List Bool) (from to : ℕ) : Type 0 where
  pub as_long : length new ≡ length old
  pub inside : (token : ℕ) → from ≤ token → token ≤ to → token < length old → slice_get new token ≡ Some true
  pub others : (token : ℕ) → (token < from) ⊎ (to < token) → slice_get new token ≡ slice_get old token

abbrev pub is_true : Option Bool → Bool
is_true None = false
is_true (Some b) = b

abbrev pub by_path : Role → Bool
by_path roles.Path = true
by_path _ = false

abbrev pub dot_at : Option Found → Bool
dot_at None = false
dot_at (Some path) = by_path (role_of path.node.kind)

abbrev pub by_dot : List TreeNode → TreeNode → Role → Bool
by_dot tree node roles.DotImport = dot_at (found_at tree node.first)
by_dot tree node _ = false

abbrev pub dot_of : List TreeNode → Option TreeNode → Bool
dot_of tree None = false
dot_of tree (Some node) = by_dot tree node (role_of node.kind)

abbrev pub is_dot_of : List TreeNode → ℕ → Bool
is_dot_of tree k = dot_of tree (slice_get tree k)

-- a name that node k looks up
abbrev pub seen_with : ℕ → Bool → Option ℕ → Option Lookup
seen_with k key None = None
seen_with k key (Some token) = Some (record { node = k; token = token; key = key })

abbrev pub seen_of : List TreeNode → List (Option ℕ) → ℕ → Option Lookup
seen_of tree parents k = seen_with k (is_key_of tree parents k) (looked_of tree parents k)
