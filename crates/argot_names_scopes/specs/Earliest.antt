-- The first name of a block with the text of a later one.
use Rattle.std.specs.Prelude.{◌≡◌, ℕ, ◌<◌, ◌≤◌, List, Option, Some, None, length, slice_get}
use Rattle.argot_tree.specs.declared.token.Token.{Token}
use Rattle.argot_names_blocks.specs.declared.binding.Binding.{Binding}
use Rattle.argot_names_scopes.specs.News.{IsEarlier}
use Rattle.argot_names_scopes.specs.Tables.{IsNamed}

-- the item of this number is an earlier name
pub record IsEarlierAt (bytes : List ℕ) (tokens : List Token) (brought : List Binding) (token opens k : ℕ) (b : Binding) : Type 0 where
  pub there : slice_get brought k ≡ Some b
  pub is : IsEarlier bytes tokens token opens b

-- the item stands at that number or before it
abbrev pub StandsBy : List Binding → Binding → ℕ → Type 0
StandsBy brought b j = (k : ℕ) × (slice_get brought k ≡ Some b) × (k ≤ j)

-- of the earlier names before this number the one that stands first, and of those at one token the first of the list
pub record IsEarliest (bytes : List ℕ) (tokens : List Token) (brought : List Binding) (token opens count : ℕ) (result : Option Binding) : Type 0 where
  pub there : (b : Binding) → result ≡ Some b → (k : ℕ) × (k < count) × IsEarlierAt bytes tokens brought token opens k b
  pub first : (b other : Binding) (k : ℕ) → result ≡ Some b → k < count → IsEarlierAt bytes tokens brought token opens k other → b.token ≤ other.token
  pub least : (b other : Binding) (k : ℕ) → result ≡ Some b → k < count → IsEarlierAt bytes tokens brought token opens k other → b.token ≡ other.token → StandsBy brought b k
  pub none : (other : Binding) (k : ℕ) → result ≡ None → k < count → IsEarlierAt bytes tokens brought token opens k other → ⊥

-- of the names of that block with this text the one that stands first, and of those at one token the first of the list
pub record IsFirstItem (bytes : List ℕ) (tokens : List Token) (brought : List Binding) (opens : ℕ) (text : List ℕ) (result : Option Binding) : Type 0 where
  pub there : (b : Binding) → result ≡ Some b → (k : ℕ) × (k < length brought) × IsNamed bytes tokens brought opens text k b
  pub first : (b other : Binding) (j : ℕ) → result ≡ Some b → IsNamed bytes tokens brought opens text j other → b.token ≤ other.token
  pub least : (b other : Binding) (j : ℕ) → result ≡ Some b → IsNamed bytes tokens brought opens text j other → b.token ≡ other.token → StandsBy brought b j
  pub none : (other : Binding) (j : ℕ) → result ≡ None → IsNamed bytes tokens brought opens text j other → ⊥
