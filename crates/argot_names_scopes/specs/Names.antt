-- What is kept of a file's names.
use Rattle.std.specs.Prelude.{List, length}
use Rattle.argot_tree.specs.declared.token.Token.{Token}
use Rattle.argot_tree.specs.Trees.{SpellsTree}
use Rattle.argot_names_blocks.specs.Listing.{AreBindings}
use Rattle.argot_names_scopes.specs.declared.file.FileNames.{FileNames}
use Rattle.argot_names_scopes.specs.News.{AreNews}
use Rattle.argot_names_scopes.specs.Shapes.{AreShapes}
use Rattle.argot_names_scopes.specs.Tables.{AreFirstNames, AreLinks}

-- the lists and tables are those of the file's bytes, tokens and nodes, and the tree spells tokens
pub record AreNames (n : FileNames) : Type 0 where
  pub spelled : List Token
  pub spells : SpellsTree n.tree.now spelled
  pub brings : AreBindings n.tree.now.nodes n.bindings
  pub first_names : AreFirstNames n.bytes.now n.tokens.now n.bindings.brought.items (length n.bindings.brought.items) n.firsts
  pub are_new : AreNews n.bytes.now n.tokens.now n.bindings.brought.items n.news.items
  pub links : AreLinks n.bytes.now n.tokens.now n.bindings.brought.items n.news.items n.links
  pub shapes : AreShapes n.bytes.now n.tokens.now n.bindings.brought.items (length n.bindings.brought.items) n.shapes.items
