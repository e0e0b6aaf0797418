-- What is read is put behind what was there: types.
use Rattle.std.proofs.Common.{ℕ, List, Bool}
use Rattle.argot_tree.specs.declared.token.Token.{Token}
use Rattle.argot_parse_reader.specs.declared.post.Post.{Post}
use Rattle.argot_parse_reader.specs.Reading.{Task, Reader}
use Rattle.argot_parse_reader.specs.TypeReader.{named_type_by, result_by, type_by, formed_by, signature_by, params_by, types_by, named_list_by, names_by, embedded_by, tag_by, field_by, fields_by, element_by, elements_by}
use Rattle.argot_parse_reader.proofs.Growing.{AlwaysGrows, Grows, Extends, growing, by, same}

module _ (tokens : List Token) (rec : Reader) (g : AlwaysGrows rec) where
  further : (old out : List Post) (task : Task) (at : ℕ) → Extends old out → Grows old (rec task at out)
  further old out task at p = by task at g p

  module _ (at : ℕ) (out : List Post) where
    pub named_grows : Grows out (named_type_by tokens at out)
    named_grows = search growing depth 40 fits 20000

    pub result_grows : Grows out (result_by tokens rec (at, out))
    result_grows = search (growing, further, same out) depth 40 fits 20000

    pub type_grows : Grows out (type_by tokens rec at out)
    type_grows = search (growing, further) depth 40 fits 20000

    pub formed_grows : Grows out (formed_by tokens rec at out)
    formed_grows = search (growing, further) depth 40 fits 20000

    pub signature_grows : Grows out (signature_by tokens rec at out)
    signature_grows = search (growing, further) depth 40 fits 20000

    pub params_grows : (dots : Bool) → Grows out (params_by tokens rec dots at out)
    params_grows dots = search (growing, further) depth 40 fits 20000

    pub types_grows : (dots : Bool) → Grows out (types_by tokens rec dots at out)
    types_grows dots = search (growing, further) depth 40 fits 20000

    pub named_list_grows : (dots : Bool) → Grows out (named_list_by tokens rec dots at out)
    named_list_grows dots = search (growing, further) depth 40 fits 20000

    pub names_grows : Grows out (names_by tokens rec at out)
    names_grows = search (growing, further) depth 40 fits 20000

    pub embedded_grows : Grows out (embedded_by tokens at out)
    embedded_grows = search (growing, further) depth 40 fits 20000

    pub tag_grows : Grows out (tag_by tokens at out)
    tag_grows = search (growing, further) depth 40 fits 20000

    pub field_grows : Grows out (field_by tokens rec at out)
    field_grows = search (growing, further) depth 40 fits 20000

    pub fields_grows : Grows out (fields_by tokens rec at out)
    fields_grows = search (growing, further) depth 40 fits 20000

    pub element_grows : Grows out (element_by tokens rec at out)
    element_grows = search (growing, further) depth 40 fits 20000

    pub elements_grows : Grows out (elements_by tokens rec at out)
    elements_grows = search (growing, further) depth 40 fits 20000
