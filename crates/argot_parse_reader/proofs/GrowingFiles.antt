-- What is read is put behind what was there: files.
use Rattle.std.proofs.Common.{ℕ, List}
use Rattle.argot_tree.specs.declared.token.Token.{Token}
use Rattle.argot_parse_reader.specs.declared.post.Post.{Post}
use Rattle.argot_parse_reader.specs.Reading.{Task, Reader}
use Rattle.argot_parse_reader.specs.FileReader.{func_parts_by, file_by, imports_by, import_by, specs_by, spec_by, tops_by, top_by, maybe_receiver_by, receiver_by, maybe_type_params_by, type_params_by, in_brackets_by, balanced_by, maybe_body_by}
use Rattle.argot_parse_reader.proofs.Growing.{AlwaysGrows, Grows, Extends, growing, by}

module _ (tokens : List Token) (rec : Reader) (g : AlwaysGrows rec) where
  further : (old out : List Post) (task : Task) (at : ℕ) → Extends old out → Grows old (rec task at out)
  further old out task at p = by task at g p

  module _ (at : ℕ) (out : List Post) where
    pub file_grows : Grows out (file_by tokens rec at out)
    file_grows = search (growing, further) depth 40 fits 20000

    pub imports_grows : Grows out (imports_by tokens rec at out)
    imports_grows = search (growing, further) depth 40 fits 20000

    pub import_grows : Grows out (import_by tokens rec at out)
    import_grows = search (growing, further) depth 40 fits 20000

    pub specs_grows : Grows out (specs_by tokens rec at out)
    specs_grows = search (growing, further) depth 40 fits 20000

    pub spec_grows : Grows out (spec_by tokens at out)
    spec_grows = search (growing, further) depth 40 fits 20000

    pub tops_grows : Grows out (tops_by tokens rec at out)
    tops_grows = search (growing, further) depth 40 fits 20000

    pub func_parts_grows : Grows out (func_parts_by rec at out)
    func_parts_grows = search (growing, further) depth 40 fits 20000

    pub top_grows : Grows out (top_by tokens rec at out)
    top_grows = search (growing, further) depth 40 fits 20000

    pub maybe_receiver_grows : Grows out (maybe_receiver_by tokens rec at out)
    maybe_receiver_grows = search (growing, further) depth 40 fits 20000

    pub receiver_grows : Grows out (receiver_by tokens rec at out)
    receiver_grows = search (growing, further) depth 40 fits 20000

    pub maybe_type_params_grows : Grows out (maybe_type_params_by tokens rec at out)
    maybe_type_params_grows = search (growing, further) depth 40 fits 20000

    pub type_params_grows : Grows out (type_params_by tokens rec at out)
    type_params_grows = search (growing, further) depth 40 fits 20000

    pub in_brackets_grows : Grows out (in_brackets_by tokens rec at out)
    in_brackets_grows = search (growing, further) depth 40 fits 20000

    pub balanced_grows : Grows out (balanced_by tokens rec at out)
    balanced_grows = search (growing, further) depth 40 fits 20000

    pub maybe_body_grows : Grows out (maybe_body_by tokens rec at out)
    maybe_body_grows = search (growing, further) depth 40 fits 20000
