-- One more declaration, as it is taken up where it is in scope.
use Rattle.std.specs.Prelude.{◌≡◌, ◌⊎◌, ℕ, List, Option, Some, slice_get}
use Rattle.argot_names_blocks.specs.declared.binding.Binding.{Binding}
use Rattle.argot_names_scopes.specs.declared.file.FileNames.{FileNames}
use Rattle.argot_names_scopes.specs.Meant.{IsInScope, IsBetter}

-- the better one of the best so far and item k, or the best so far where the item isn't in scope
pub record IsConsidered (n : FileNames) (k token : ℕ) (name : List ℕ) (best result : Option Binding) : Type 0 where
  pub item : Binding
  pub there : slice_get n.bindings.brought.items k ≡ Some item
  pub outcome : (IsInScope n.bytes.now n.tokens.now token name item × IsBetter best item result) ⊎ ((IsInScope n.bytes.now n.tokens.now token name item → ⊥) × (result ≡ best))
