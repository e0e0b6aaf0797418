-- The first name in a file's functions that is declared again in its block.
use Rattle.std.specs.Prelude.{◌≡◌, ◌≢◌, ℕ, ◌<◌, ◌≤◌, if◌then◌else◌, nat_le, List, Option, Some, None, codes, slice_get}
use Rattle.argot_tree.specs.declared.token.Token.{Token}
use Rattle.argot_names_blocks.specs.declared.binding.BindingKind.TheVariants as manners
use Rattle.argot_names_blocks.specs.declared.binding.Binding.{Binding}
use Rattle.argot_names_scopes.specs.Texts.{text_in}
use Rattle.argot_names_scopes.specs.News.{HasEarlierIn}

-- a specification declares a name that its block has from an earlier place
pub record IsAgainIn (bytes : List ℕ) (tokens : List Token) (brought : List Binding) (item : Binding) : Type 0 where
  pub specified : item.manner ≡ manners.Specified
  pub named : text_in bytes tokens item.token ≢ codes "_"
  pub earlier : HasEarlierIn bytes tokens brought item.token item.opens

abbrev pub start_of : Option Token → Option ℕ
start_of None = None
start_of (Some token) = Some token.start

-- the smaller one of two, where there are two
abbrev pub smaller : ℕ → ℕ → ℕ
smaller a b = if nat_le a b then a else b

abbrev pub sooner_of : Option ℕ → Option ℕ → Option ℕ
sooner_of best None = best
sooner_of None (Some b) = Some b
sooner_of (Some a) (Some b) = Some (smaller a b)

-- the item of this number is such a name, and begins at this offset
pub record IsAgainAt (bytes : List ℕ) (tokens : List Token) (brought : List Binding) (k offset : ℕ) : Type 0 where
  pub item : Binding
  pub there : slice_get brought k ≡ Some item
  pub again : IsAgainIn bytes tokens brought item
  pub begins : start_of (slice_get tokens item.token) ≡ Some offset

-- the first of the places of such items before this number
pub record IsFirstAgain (bytes : List ℕ) (tokens : List Token) (brought : List Binding) (count : ℕ) (result : Option ℕ) : Type 0 where
  pub there : (offset : ℕ) → result ≡ Some offset → (k : ℕ) × (k < count) × IsAgainAt bytes tokens brought k offset
  pub first : (offset other k : ℕ) → result ≡ Some offset → k < count → IsAgainAt bytes tokens brought k other → offset ≤ other
  pub none : (other k : ℕ) → result ≡ None → k < count → IsAgainAt bytes tokens brought k other → ⊥
