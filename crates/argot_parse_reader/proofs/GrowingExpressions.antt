-- What is read is put behind what was there: expressions.
use Rattle.std.proofs.Common.{ℕ, List, Bool}
use Rattle.argot_tree.specs.declared.token.Token.{Token}
use Rattle.argot_parse_reader.specs.declared.post.Post.{Post}
use Rattle.argot_parse_reader.specs.Reading.{Task, Reader}
use Rattle.argot_parse_reader.specs.ExpressionReader.{level_by, either_by, climb_by, unary_by, primary_by, operand_by, suffix_by, suffixes_by, exprs_by, more_exprs_by, eithers_by, elems_by, items_by, item_by, value_by}
use Rattle.argot_parse_reader.proofs.Growing.{AlwaysGrows, Grows, Extends, growing, by}

module _ (tokens : List Token) (rec : Reader) (g : AlwaysGrows rec) where
  further : (old out : List Post) (task : Task) (at : ℕ) → Extends old out → Grows old (rec task at out)
  further old out task at p = by task at g p

  module _ (at : ℕ) (out : List Post) where
    pub level_grows : (k : ℕ) (bare : Bool) → Grows out (level_by tokens rec k bare at out)
    level_grows k bare = search (growing, further) depth 40 fits 20000

    pub either_grows : Grows out (either_by tokens rec at out)
    either_grows = search (growing, further) depth 40 fits 20000

    pub climb_grows : (k : ℕ) (limit : ℕ) (bare : Bool) (from : ℕ) (mark : ℕ) → Grows out (climb_by tokens rec k limit bare from mark at out)
    climb_grows k limit bare from mark = search (growing, further) depth 40 fits 20000

    pub unary_grows : (types : Bool) (bare : Bool) → Grows out (unary_by tokens rec types bare at out)
    unary_grows types bare = search (growing, further) depth 40 fits 20000

    pub primary_grows : (types : Bool) (bare : Bool) → Grows out (primary_by tokens rec types bare at out)
    primary_grows types bare = search (growing, further) depth 40 fits 20000

    pub operand_grows : (types : Bool) (bare : Bool) → Grows out (operand_by tokens rec types bare at out)
    operand_grows types bare = search (growing, further) depth 40 fits 20000

    pub suffix_grows : (from : ℕ) (mark : ℕ) → Grows out (suffix_by tokens rec from mark at out)
    suffix_grows from mark = search (growing, further) depth 40 fits 20000

    pub suffixes_grows : (from : ℕ) (mark : ℕ) → Grows out (suffixes_by tokens rec from mark at out)
    suffixes_grows from mark = search (growing, further) depth 40 fits 20000

    pub exprs_grows : (bare : Bool) → Grows out (exprs_by tokens rec bare at out)
    exprs_grows bare = search (growing, further) depth 40 fits 20000

    pub more_exprs_grows : (bare : Bool) → Grows out (more_exprs_by tokens rec bare at out)
    more_exprs_grows bare = search (growing, further) depth 40 fits 20000

    pub eithers_grows : Grows out (eithers_by tokens rec at out)
    eithers_grows = search (growing, further) depth 40 fits 20000

    pub elems_grows : Grows out (elems_by tokens rec at out)
    elems_grows = search (growing, further) depth 40 fits 20000

    pub items_grows : Grows out (items_by tokens rec at out)
    items_grows = search (growing, further) depth 40 fits 20000

    pub item_grows : Grows out (item_by tokens rec at out)
    item_grows = search (growing, further) depth 40 fits 20000

    pub value_grows : Grows out (value_by tokens rec at out)
    value_grows = search (growing, further) depth 40 fits 20000
