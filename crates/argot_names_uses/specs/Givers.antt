-- The items that entries of a file's lists give, and imports.
use Rattle.std.specs.Prelude.{◌≡◌, ℕ, List, true, Some, slice_get}
use Rattle.argot_names_rules.specs.Files.{SourceFiles}
use Rattle.argot_names_rules.specs.Loaded.{number_of}
use Rattle.argot_names_blocks.specs.declared.tops.TopName.{TopName}
use Rattle.argot_names_blocks.specs.declared.binding.Binding.{Binding}
use Rattle.argot_names_scopes.specs.declared.file.FileNames.{FileNames}
use Rattle.argot_names_scopes.specs.Texts.{text_in}
use Rattle.argot_names_imports.specs.declared.written.Written.{Written}
use Rattle.argot_names_imports.specs.declared.reached.Reached.{Reached}
use Rattle.argot_names_imports.specs.Numbers.{IsOfNumber}
use Rattle.argot_names_tops.specs.declared.named.Named.{Named}
use Rattle.argot_names_uses.specs.declared.item.Item.{Item}
use Rattle.argot_names_uses.specs.Items.{IsMade}

-- a name that is declared outside functions
pub record GivesTop (h : SourceFiles) (n : FileNames) (owner file k : ℕ) (item : Item) : Type 0 where
  pub top : TopName
  pub there : slice_get n.bindings.tops.items k ≡ Some top
  pub made : IsMade owner (number_of h file top.node) (text_in n.bytes.now n.tokens.now top.token) item

-- a name that is new in a block
pub record GivesNew (h : SourceFiles) (n : FileNames) (owner file k : ℕ) (item : Item) : Type 0 where
  pub brought : Binding
  pub there : slice_get n.bindings.brought.items k ≡ Some brought
  pub new : slice_get n.news.items k ≡ Some true
  pub made : IsMade owner (number_of h file brought.node) (text_in n.bytes.now n.tokens.now brought.token) item

-- a name of an import
pub record GivesImport (h : SourceFiles) (r : Reached) (imports : List Named) (k : ℕ) (item : Item) : Type 0 where
  pub named : Named
  pub there : slice_get imports k ≡ Some named
  pub import_ : Written
  pub is_import : slice_get r.survey.imports.items named.of ≡ Some import_
  pub of : IsOfNumber h r named.scope item.owner
  pub made : IsMade item.owner (number_of h named.scope import_.node) named.name.now item
