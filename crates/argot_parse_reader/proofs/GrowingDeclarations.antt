-- What is read is put behind what was there: declarations.
use Rattle.std.proofs.Common.{ℕ, List}
use Rattle.argot_tree.specs.declared.token.Token.{Token}
use Rattle.argot_tree.specs.Grammar.{Sort, Constant, Variable, TypeSort}
use Rattle.argot_parse_reader.specs.declared.post.Post.{Post}
use Rattle.argot_parse_reader.specs.Reading.{Task, Reader}
use Rattle.argot_parse_reader.specs.DeclarationReader.{maybe_values_by, maybe_typed_by, declared_by, declared_list_by, decl_by}
use Rattle.argot_parse_reader.proofs.Growing.{AlwaysGrows, Grows, Extends, growing, by}

module _ (tokens : List Token) (rec : Reader) (g : AlwaysGrows rec) where
  further : (old out : List Post) (task : Task) (at : ℕ) → Extends old out → Grows old (rec task at out)
  further old out task at p = by task at g p

  module _ (at : ℕ) (out : List Post) where
    pub maybe_values_grows : Grows out (maybe_values_by tokens rec at out)
    maybe_values_grows = search (growing, further) depth 40 fits 20000

    pub maybe_typed_grows : Grows out (maybe_typed_by tokens rec at out)
    maybe_typed_grows = search (growing, further) depth 40 fits 20000

    pub declared_grows : (sort : Sort) → Grows out (declared_by tokens rec sort at out)
    declared_grows Constant = search (growing, further) depth 40 fits 20000
    declared_grows Variable = search (growing, further) depth 40 fits 20000
    declared_grows TypeSort = search (growing, further) depth 40 fits 20000

    pub declared_list_grows : (sort : Sort) → Grows out (declared_list_by tokens rec sort at out)
    declared_list_grows sort = search (growing, further) depth 40 fits 20000

    pub decl_grows : Grows out (decl_by tokens rec at out)
    decl_grows = search (growing, further) depth 40 fits 20000
