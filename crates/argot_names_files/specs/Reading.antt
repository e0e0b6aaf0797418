-- What is read of each file of a folder, and which file can't be read.
use Rattle.std.specs.Prelude.{◌≡◌, ℕ, ◌<◌, true, false, List, [], length, Option, Some, None, slice_get}
use Rattle.argot_text.specs.declared.sources.Sources.{Sources}
use Rattle.argot_tree.specs.declared.token.Token.{Token}
use Rattle.argot_tree.specs.declared.lexed.Lexed.{Lexed}
use Rattle.argot_tree.specs.declared.tree.Tree.{Tree}
use Rattle.argot_tree.specs.Text.{SpellsText, IsFirstBad}
use Rattle.argot_tree.specs.Trees.{SpellsTree}
use Rattle.argot_tree.specs.Nesting.{IsTooDeep, IsShallow}
use Rattle.argot_names_rules.specs.Agreeing.{is_go_file}
use Rattle.argot_names_imports.specs.Reads.{bytes_at}
use Rattle.argot_names_files.specs.declared.reading.ReadingFault.{ReadingFault}
use Rattle.argot_names_files.specs.declared.reading.ReadingFault.TheVariants as faults

-- the tokens spell the bytes, and the tree spells the tokens
pub record HasTree (bytes : List ℕ) (lexed : Lexed) (tree : Tree) : Type 0 where
  pub spells_text : SpellsText lexed bytes
  pub spells_tree : SpellsTree tree lexed.tokens

-- nothing was read
pub record HasNothing (lexed : Lexed) (tree : Tree) : Type 0 where
  pub no_tokens : lexed.tokens ≡ []
  pub no_directives : lexed.directives ≡ []
  pub no_nodes : tree.nodes ≡ []

-- a Go file has its tree, and of another file nothing is read
pub record IsReading (path bytes : List ℕ) (lexed : Lexed) (tree : Tree) : Type 0 where
  pub go : is_go_file path ≡ true → HasTree bytes lexed tree
  pub other : is_go_file path ≡ false → HasNothing lexed tree

-- the first files of these sources, so many, are read
pub record AreReadings (s : Sources) (count : ℕ) (lexed : List Lexed) (trees : List Tree) : Type 0 where
  pub lexed_many : length lexed ≡ count
  pub trees_many : length trees ≡ count
  pub each : (file : ℕ) (path : List ℕ) (l : Lexed) (t : Tree) → slice_get s.paths file ≡ Some path → slice_get lexed file ≡ Some l → slice_get trees file ≡ Some t → IsReading path (bytes_at s file) l t

-- no tree spells the tokens
abbrev pub SpellsNoTree : List Token → Type 0
SpellsNoTree tokens = (tree : Tree) → SpellsTree tree tokens → ⊥

-- no tokens spell the bytes of this file, or there was no memory
abbrev pub IsUnlexed : List ℕ → ℕ → ReadingFault → Type 0
IsUnlexed bytes file (faults.Token f offset) = (f ≡ file) × (IsFirstBad bytes offset × ((lexed : Lexed) → SpellsText lexed bytes → ⊥))
IsUnlexed bytes file (faults.TooDeep f at) = ⊥
IsUnlexed bytes file (faults.Syntax f at) = ⊥
IsUnlexed bytes file faults.Memory = Unit {0}

-- no tree spells the tokens of this file, or there was no memory
abbrev pub IsUnparsed : List Token → ℕ → ReadingFault → Type 0
IsUnparsed tokens file (faults.Token f offset) = ⊥
IsUnparsed tokens file (faults.TooDeep f at) = (f ≡ file) × IsTooDeep tokens at
IsUnparsed tokens file (faults.Syntax f at) = (f ≡ file) × (IsShallow tokens × SpellsNoTree tokens)
IsUnparsed tokens file faults.Memory = Unit {0}

-- no tokens spell the bytes; or those that do are nested too deeply, or no tree spells them
pub data IsUnreadable (bytes : List ℕ) : ReadingFault → Type 0 where
  no_tokens : {file offset : ℕ} → IsFirstBad bytes offset → ((lexed : Lexed) → SpellsText lexed bytes → ⊥) → IsUnreadable bytes (faults.Token file offset)
  too_deep : {file at : ℕ} (lexed : Lexed) → SpellsText lexed bytes → IsTooDeep lexed.tokens at → IsUnreadable bytes (faults.TooDeep file at)
  no_tree : {file at : ℕ} (lexed : Lexed) → SpellsText lexed bytes → IsShallow lexed.tokens → SpellsNoTree lexed.tokens → IsUnreadable bytes (faults.Syntax file at)

-- the file that is told
abbrev pub file_of : ReadingFault → Option ℕ
file_of (faults.Token file offset) = Some file
file_of (faults.TooDeep file at) = Some file
file_of (faults.Syntax file at) = Some file
file_of faults.Memory = None

-- the bytes of this file can't be read, or there was no memory
abbrev pub HasNoTree : List ℕ → ℕ → ReadingFault → Type 0
HasNoTree bytes file faults.Memory = Unit {0}
HasNoTree bytes file fault = (file_of fault ≡ Some file) × IsUnreadable bytes fault

-- the first Go file that can't be read
pub record IsFirstUnread (s : Sources) (fault : ReadingFault) : Type 0 where
  pub file : ℕ
  pub path : List ℕ
  pub lexed : List Lexed
  pub trees : List Tree
  pub there : slice_get s.paths file ≡ Some path
  pub go : is_go_file path ≡ true
  pub told : file_of fault ≡ Some file
  pub unreadable : IsUnreadable (bytes_at s file) fault
  pub earlier : AreReadings s file lexed trees

-- that file is told, or there was no memory
abbrev pub IsUnread : Sources → ReadingFault → Type 0
IsUnread s faults.Memory = Unit {0}
IsUnread s fault = IsFirstUnread s fault
