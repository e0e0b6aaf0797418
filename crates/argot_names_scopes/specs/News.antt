-- Which of the names that come into blocks are new.
use Rattle.std.specs.Prelude.{◌≡◌, ◌≢◌, ℕ, ◌<◌, Bool, true, false, List, Some, codes, length, slice_get}
use Rattle.argot_tree.specs.declared.token.Token.{Token}
use Rattle.argot_names_rules.specs.Lists.{In}
use Rattle.argot_names_blocks.specs.declared.binding.BindingKind.{BindingKind}
use Rattle.argot_names_blocks.specs.declared.binding.BindingKind.TheVariants as manners
use Rattle.argot_names_blocks.specs.declared.binding.Binding.{Binding}
use Rattle.argot_names_scopes.specs.Texts.{text_in}

-- the item is a name of that block with the text of a later token
pub record IsEarlier (bytes : List ℕ) (tokens : List Token) (token opens : ℕ) (item : Binding) : Type 0 where
  pub block : item.opens ≡ opens
  pub earlier : item.token < token
  pub same : text_in bytes tokens item.token ≡ text_in bytes tokens token

-- such an item stands in the list
pub record HasEarlierIn (bytes : List ℕ) (tokens : List Token) (brought : List Binding) (token opens : ℕ) : Type 0 where
  pub item : Binding
  pub among : In item brought
  pub is : IsEarlier bytes tokens token opens item

-- a `:=` declares neither `_` nor a name that its block has
abbrev pub IsNewIn : List ℕ → List Token → List Binding → BindingKind → ℕ → ℕ → Type 0
IsNewIn bytes tokens brought manners.Defined token opens = (text_in bytes tokens token ≢ codes "_") × (HasEarlierIn bytes tokens brought token opens → ⊥)
IsNewIn bytes tokens brought _ token opens = Unit {0}

-- which items are new, by their numbers
pub record AreNews (bytes : List ℕ) (tokens : List Token) (brought : List Binding) (news : List Bool) : Type 0 where
  pub as_long : length news ≡ length brought
  pub new : (k : ℕ) (b : Binding) → slice_get brought k ≡ Some b → slice_get news k ≡ Some true → IsNewIn bytes tokens brought b.manner b.token b.opens
  pub old : (k : ℕ) (b : Binding) → slice_get brought k ≡ Some b → slice_get news k ≡ Some false → IsNewIn bytes tokens brought b.manner b.token b.opens → ⊥

-- as far as items before this number go
pub record AreNewsUpTo (bytes : List ℕ) (tokens : List Token) (brought : List Binding) (k : ℕ) (news : List Bool) : Type 0 where
  pub as_long : length news ≡ k
  pub new : (j : ℕ) (b : Binding) → slice_get brought j ≡ Some b → slice_get news j ≡ Some true → IsNewIn bytes tokens brought b.manner b.token b.opens
  pub old : (j : ℕ) (b : Binding) → slice_get brought j ≡ Some b → slice_get news j ≡ Some false → IsNewIn bytes tokens brought b.manner b.token b.opens → ⊥
