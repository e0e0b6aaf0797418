-- A file, and which declaration of its functions a name means.
use Rattle.std.specs.Prelude.{◌≡◌, ◌≢◌, ℕ, ◌<◌, ◌≤◌, ◌⊎◌, List, Some, codes, slice_get}
use Rattle.argot_tree.specs.declared.token.Token.{Token}
use Rattle.argot_tree.specs.declared.tree.TreeNode.{TreeNode}
use Rattle.argot_names_rules.specs.Files.{SourceFile, text_at}
use Rattle.argot_names_rules.specs.Bindings.{Specified, Brings, HasEarlier, IsLocal}
use Rattle.argot_names_blocks.specs.declared.binding.Binding.{Binding}
use Rattle.argot_names_scopes.specs.Again.{start_of}

abbrev pub file_of : List ℕ → List Token → List TreeNode → SourceFile
file_of bytes tokens nodes = record { bytes = bytes; tokens = tokens; nodes = nodes }

-- the name means this declaration in a function: it is in scope at the token, no other in scope lies further in, and of one
-- block none comes before it
pub record MeansLocal (f : SourceFile) (token : ℕ) (name : List ℕ) (b : Binding) : Type 0 where
  pub is : IsLocal f b.node b.token b.opens b.closes b.from
  pub spells : name ≡ text_at f b.token
  pub from : b.from ≤ token
  pub to : token ≤ b.closes
  pub innermost : (node at opens closes from : ℕ) → IsLocal f node at opens closes from → name ≡ text_at f at → from ≤ token → token ≤ closes → (opens < b.opens) ⊎ ((b.opens ≡ opens) × (b.node ≤ node))

-- no declaration of it in a function is in scope
abbrev pub MeansNoLocal : SourceFile → ℕ → List ℕ → Type 0
MeansNoLocal f token name = (node at opens closes from : ℕ) → IsLocal f node at opens closes from → name ≡ text_at f at → from ≤ token → token ≤ closes → ⊥

-- the name at the token is declared again in its block
pub record IsAgain (f : SourceFile) (token : ℕ) : Type 0 where
  pub node : ℕ
  pub opens : ℕ
  pub closes : ℕ
  pub from : ℕ
  pub brings : Brings f.nodes Specified node token opens closes from
  pub named : text_at f token ≢ codes "_"
  pub earlier : HasEarlier f token opens

-- a token with this first byte
abbrev pub BeginsAt : List Token → ℕ → ℕ → Type 0
BeginsAt tokens token offset = start_of (slice_get tokens token) ≡ Some offset

-- the first byte of the first name that is declared again in a function
pub record IsFirstPlace (f : SourceFile) (offset : ℕ) : Type 0 where
  pub token : ℕ
  pub again : IsAgain f token
  pub begins : BeginsAt f.tokens token offset
  pub first : (other further : ℕ) → IsAgain f other → BeginsAt f.tokens other further → offset ≤ further

-- no name is
abbrev pub HasNoPlace : SourceFile → Type 0
HasNoPlace f = (token offset : ℕ) → IsAgain f token → BeginsAt f.tokens token offset → ⊥
