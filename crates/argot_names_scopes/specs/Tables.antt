-- Tables of the names that come into blocks, by block and text.
use Rattle.std.specs.Prelude.{◌≡◌, ℕ, ◌<◌, ◌≤◌, ◌⊎◌, nat_eq, ◌&&◌, true, Bool, length, List, Option, Some, None, slice_get}
use Rattle.std.specs.Cmp.Lexicographic.{pointwise}
use Rattle.std.specs.declared.hash.FoldHasher.{FoldHasher}
use Rattle.std.specs.declared.hash.BuildHasherDefault.{BuildHasherDefault}
use Rattle.std.specs.HashMap.{get_by}
use Rattle.std.specs.Borrow.{Bor}
use Rattle.indexmap.specs.IndexMap.{IndexMap}
use Rattle.argot_tree.specs.declared.token.Token.{Token}
use Rattle.argot_names_blocks.specs.declared.binding.Binding.{Binding}
use Rattle.argot_names_scopes.specs.declared.links.Links.{Links}
use Rattle.argot_names_scopes.specs.Texts.{text_in}

-- numbers of items by the first tokens of blocks and by texts
abbrev pub Numbers : Type 0
Numbers = IndexMap (ℕ × Bor (List ℕ)) ℕ (BuildHasherDefault FoldHasher)

abbrev pub number_at : Numbers → ℕ → List ℕ → Option ℕ
number_at m opens text = get_by (λ k. nat_eq opens k.0 && pointwise nat_eq text k.1.now) m

-- the item of this number is a name of that block with this text
pub record IsNamed (bytes : List ℕ) (tokens : List Token) (brought : List Binding) (opens : ℕ) (text : List ℕ) (k : ℕ) (b : Binding) : Type 0 where
  pub there : slice_get brought k ≡ Some b
  pub block : b.opens ≡ opens
  pub spells : text_in bytes tokens b.token ≡ text

-- of the names of that block with this text before a number the one that stands first, and of those at one token the one
-- with the smallest number
pub record IsFirstNamed (bytes : List ℕ) (tokens : List Token) (brought : List Binding) (opens : ℕ) (text : List ℕ) (count : ℕ) (result : Option ℕ) : Type 0 where
  pub there : (k : ℕ) → result ≡ Some k → (b : Binding) × (k < count) × IsNamed bytes tokens brought opens text k b
  pub first : (k j : ℕ) (b other : Binding) → result ≡ Some k → slice_get brought k ≡ Some b → j < count → IsNamed bytes tokens brought opens text j other → b.token ≤ other.token
  pub least : (k j : ℕ) (b other : Binding) → result ≡ Some k → slice_get brought k ≡ Some b → j < count → IsNamed bytes tokens brought opens text j other → b.token ≡ other.token → k ≤ j
  pub none : (j : ℕ) (other : Binding) → result ≡ None → j < count → IsNamed bytes tokens brought opens text j other → ⊥

-- the table has them
abbrev pub AreFirstNames : List ℕ → List Token → List Binding → ℕ → Numbers → Type 0
AreFirstNames bytes tokens brought count m = (opens : ℕ) (text : List ℕ) → IsFirstNamed bytes tokens brought opens text count (number_at m opens text)

-- the item of this number is a new name of that block with this text
pub record IsNewNamed (bytes : List ℕ) (tokens : List Token) (brought : List Binding) (news : List Bool) (opens : ℕ) (text : List ℕ) (k : ℕ) : Type 0 where
  pub item : Binding
  pub named : IsNamed bytes tokens brought opens text k item
  pub new : slice_get news k ≡ Some true

-- the one is in scope wherever the other of its block is, and comes first of the two
pub record Covers (a b : Binding) : Type 0 where
  pub from : a.from ≤ b.from
  pub closes : b.closes ≤ a.closes
  pub node : a.node ≤ b.node

-- the same for the items of two numbers
abbrev pub CoversAt : List Binding → ℕ → ℕ → Type 0
CoversAt brought k j = (a b : Binding) → slice_get brought k ≡ Some a → slice_get brought j ≡ Some b → Covers a b

-- of them before a number the last one that is kept: those behind it are covered by it
pub record IsLastNew (bytes : List ℕ) (tokens : List Token) (brought : List Binding) (news : List Bool) (opens : ℕ) (text : List ℕ) (count : ℕ) (result : Option ℕ) : Type 0 where
  pub there : (k : ℕ) → result ≡ Some k → (k < count) × IsNewNamed bytes tokens brought news opens text k
  pub last : (k j : ℕ) → result ≡ Some k → j < count → IsNewNamed bytes tokens brought news opens text j → (j ≤ k) ⊎ CoversAt brought k j
  pub none : (j : ℕ) → result ≡ None → j < count → IsNewNamed bytes tokens brought news opens text j → ⊥

-- for each item the last new name before it that is kept in its block with its text
abbrev pub AreBefores : List ℕ → List Token → List Binding → List Bool → List (Option ℕ) → Type 0
AreBefores bytes tokens brought news befores = (k : ℕ) (b : Binding) (before : Option ℕ) → slice_get brought k ≡ Some b → slice_get befores k ≡ Some before → IsLastNew bytes tokens brought news b.opens (text_in bytes tokens b.token) k before

-- the tables of new names as far as the items before a number go
pub record AreLinksUpTo (bytes : List ℕ) (tokens : List Token) (brought : List Binding) (news : List Bool) (count : ℕ) (lasts : Numbers) (befores : List (Option ℕ)) : Type 0 where
  pub are_last : (opens : ℕ) (text : List ℕ) → IsLastNew bytes tokens brought news opens text count (number_at lasts opens text)
  pub as_long : length befores ≡ count
  pub are_before : AreBefores bytes tokens brought news befores

-- and those of all items
abbrev pub AreLinks : List ℕ → List Token → List Binding → List Bool → Links → Type 0
AreLinks bytes tokens brought news l = AreLinksUpTo bytes tokens brought news (length brought) l.lasts l.befores.items
