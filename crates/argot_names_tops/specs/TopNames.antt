-- The names that are declared outside functions in one file, and are in scope in its package.
use Rattle.std.specs.Prelude.{◌≡◌, ◌≢◌, ℕ, List, Option, Some, None, codes, slice_get}
use Rattle.argot_tree.specs.declared.token.Token.{Token}
use Rattle.argot_names_rules.specs.Files.{spelled}
use Rattle.argot_names_rules.specs.PackageScope.{HasScope}
use Rattle.argot_names_blocks.specs.declared.tops.TopName.{TopName}
use Rattle.argot_names_blocks.specs.Looking.{sort_of}
use Rattle.argot_names_tops.specs.declared.named.Named.{Named}

-- the first byte of a token, where there is one
abbrev pub start_of : Option Token → Option ℕ
start_of None = None
start_of (Some token) = Some token.start

-- the bytes of the token of this number
abbrev pub text_in : List ℕ → List Token → ℕ → List ℕ
text_in bytes tokens at = spelled bytes (slice_get tokens at)

-- the item is this name, which is in scope in the package
pub record IsScopedTop (bytes : List ℕ) (tokens : List Token) (scope file : ℕ) (t : TopName) (n : Named) : Type 0 where
  pub scope_is : n.scope ≡ scope
  pub file_is : n.place.file ≡ file
  pub of_is : n.of ≡ t.node
  pub spells : n.name.now ≡ text_in bytes tokens t.token
  pub has_scope : HasScope (sort_of t.sort) (text_in bytes tokens t.token)
  pub named : text_in bytes tokens t.token ≢ codes "_"
  pub begins : start_of (slice_get tokens t.token) ≡ Some n.place.offset

-- the same, whatever its number in the list
abbrev pub GivesTop : List ℕ → List Token → ℕ → ℕ → ℕ → TopName → Named → Type 0
GivesTop bytes tokens scope file number t n = IsScopedTop bytes tokens scope file t n
