-- Which of the names that came into a file's blocks a name means at its place.
use Rattle.std.specs.Prelude.{◌≡◌, ◌≢◌, ℕ, ◌<◌, ◌≤◌, ◌⊎◌, Bool, true, List, Option, Some, None, codes, slice_get}
use Rattle.argot_tree.specs.declared.token.Token.{Token}
use Rattle.argot_names_blocks.specs.declared.binding.Binding.{Binding}
use Rattle.argot_names_scopes.specs.Texts.{text_in}

-- the item has this name, which isn't `_`, and is in scope at the token
pub record IsInScope (bytes : List ℕ) (tokens : List Token) (token : ℕ) (name : List ℕ) (b : Binding) : Type 0 where
  pub named : text_in bytes tokens b.token ≢ codes "_"
  pub spells : text_in bytes tokens b.token ≡ name
  pub from : b.from ≤ token
  pub to : token ≤ b.closes

-- the item of this number is such a declaration, and a new one
pub record IsScoped (bytes : List ℕ) (tokens : List Token) (brought : List Binding) (news : List Bool) (token : ℕ) (name : List ℕ) (k : ℕ) (b : Binding) : Type 0 where
  pub there : slice_get brought k ≡ Some b
  pub new : slice_get news k ≡ Some true
  pub is : IsInScope bytes tokens token name b

-- the one lies further in, or comes first in the same block
abbrev pub IsAhead : Binding → Binding → Type 0
IsAhead a b = (b.opens < a.opens) ⊎ ((a.opens ≡ b.opens) × (a.node ≤ b.node))

-- of the items before this number that are in scope the name means this one
pub record IsBest (bytes : List ℕ) (tokens : List Token) (brought : List Binding) (news : List Bool) (token : ℕ) (name : List ℕ) (count : ℕ) (result : Option Binding) : Type 0 where
  pub there : (b : Binding) → result ≡ Some b → (k : ℕ) × (k < count) × IsScoped bytes tokens brought news token name k b
  pub best : (b other : Binding) (k : ℕ) → result ≡ Some b → k < count → IsScoped bytes tokens brought news token name k other → IsAhead b other
  pub none : (other : Binding) (k : ℕ) → result ≡ None → k < count → IsScoped bytes tokens brought news token name k other → ⊥

-- of the items of one block from a number on that are in scope the name means this one
pub record IsBestFrom (bytes : List ℕ) (tokens : List Token) (brought : List Binding) (news : List Bool) (token : ℕ) (name : List ℕ) (opens bound : ℕ) (result : Option Binding) : Type 0 where
  pub there : (b : Binding) → result ≡ Some b → (k : ℕ) × IsScoped bytes tokens brought news token name k b × (b.opens ≡ opens)
  pub best : (b other : Binding) (k : ℕ) → result ≡ Some b → bound ≤ k → IsScoped bytes tokens brought news token name k other → other.opens ≡ opens → IsAhead b other
  pub none : (other : Binding) (k : ℕ) → result ≡ None → bound ≤ k → IsScoped bytes tokens brought news token name k other → other.opens ≡ opens → ⊥

-- the better one of two, where there are two
pub record IsBetter (best : Option Binding) (b : Binding) (result : Option Binding) : Type 0 where
  pub one : (result ≡ best) ⊎ (result ≡ Some b)
  pub some : result ≡ None → ⊥
  pub not_behind : (a : Binding) → result ≡ Some a → IsAhead a b
  pub kept : (a c : Binding) → best ≡ Some c → result ≡ Some a → IsAhead a c
