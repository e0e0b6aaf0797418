-- What is read is put behind what was there: statements.
use Rattle.std.proofs.Common.{ℕ, List, Bool, Option, Some}
use Rattle.argot_tree.specs.declared.token.Token.{Token}
use Rattle.argot_tree.specs.declared.token.TokenKind.{TokenKind}
use Rattle.argot_tree.specs.declared.keyword.Keyword.TheVariants as words
use Rattle.argot_tree.specs.declared.mark.Mark.TheVariants as marks
use Rattle.argot_tree.specs.declared.token.TokenKind.TheVariants as kinds
use Rattle.argot_parse_reader.specs.declared.post.Post.{Post}
use Rattle.argot_parse_reader.specs.Reading.{Task, Reader}
use Rattle.argot_parse_reader.specs.StatementReader.{more_by, opening_by, condition_by, assign_by, simple_behind_by, block_by, stmts_by, stmt_by, labels_by, simple_by, maybe_label_by, ifs_by, cases_by, case_by, comms_by, comm_by, maybe_condition_by, maybe_post_by}
use Rattle.argot_parse_reader.proofs.Growing.{AlwaysGrows, Grows, Extends, growing, by, same}

module _ (tokens : List Token) (rec : Reader) (g : AlwaysGrows rec) where
  further : (old out : List Post) (task : Task) (at : ℕ) → Extends old out → Grows old (rec task at out)
  further old out task at p = by task at g p

  behind_grows : (bare : Bool) (from mark : ℕ) (old : List Post) (r : ℕ × List Post) → Extends old r.1 → Grows old (simple_behind_by tokens rec bare from mark r)
  behind_grows bare from mark old r p = search (growing, further) depth 40 fits 20000

  assign_behind_grows : (bare : Bool) (from mark : ℕ) (old : List Post) (r : ℕ × List Post) → Extends old r.1 → Grows old (assign_by tokens rec bare from mark r)
  assign_behind_grows bare from mark old r p = search (growing, further) depth 40 fits 20000

  module _ (at : ℕ) (out : List Post) where
    pub more_grows : (bare : Bool) → Grows out (more_by tokens rec bare (at, out))
    more_grows bare = search (growing, further, same out) depth 40 fits 20000

    pub opening_grows : Grows out (opening_by tokens rec at out)
    opening_grows = search (growing, further) depth 40 fits 20000

    pub condition_grows : Grows out (condition_by tokens rec at out)
    condition_grows = search (growing, further) depth 40 fits 20000

    pub assign_grows : (bare : Bool) (from mark : ℕ) → Grows out (assign_by tokens rec bare from mark (at, out))
    assign_grows bare from mark = assign_behind_grows bare from mark out (at, out) (same out)

    pub simple_behind_grows : (bare : Bool) (from mark : ℕ) → Grows out (simple_behind_by tokens rec bare from mark (at, out))
    simple_behind_grows bare from mark = behind_grows bare from mark out (at, out) (same out)

    pub block_grows : Grows out (block_by tokens rec at out)
    block_grows = search (growing, further) depth 40 fits 20000

    pub stmts_grows : Grows out (stmts_by tokens rec at out)
    stmts_grows = search (growing, further) depth 40 fits 20000

    pub stmt_grows : (kind : Option TokenKind) → Grows out (stmt_by tokens rec kind at out)
    stmt_grows (Some (kinds.Word words.Const)) = search (growing, further) depth 40 fits 20000
    stmt_grows (Some (kinds.Word words.Var)) = search (growing, further) depth 40 fits 20000
    stmt_grows (Some (kinds.Word words.TypeWord)) = search (growing, further) depth 40 fits 20000
    stmt_grows (Some (kinds.Word words.Go)) = search (growing, further) depth 40 fits 20000
    stmt_grows (Some (kinds.Word words.Defer)) = search (growing, further) depth 40 fits 20000
    stmt_grows (Some (kinds.Word words.Return)) = search (growing, further) depth 40 fits 20000
    stmt_grows (Some (kinds.Word words.Break)) = search (growing, further) depth 40 fits 20000
    stmt_grows (Some (kinds.Word words.Continue)) = search (growing, further) depth 40 fits 20000
    stmt_grows (Some (kinds.Word words.Goto)) = search (growing, further) depth 40 fits 20000
    stmt_grows (Some (kinds.Word words.Fallthrough)) = search (growing, further) depth 40 fits 20000
    stmt_grows (Some (kinds.Word words.If)) = search (growing, further) depth 40 fits 20000
    stmt_grows (Some (kinds.Word words.Switch)) = search (growing, further) depth 40 fits 20000
    stmt_grows (Some (kinds.Word words.Select)) = search (growing, further) depth 40 fits 20000
    stmt_grows (Some (kinds.Word words.For)) = search (growing, further) depth 40 fits 20000
    stmt_grows (Some (kinds.Mark marks.OpenBrace)) = search (growing, further) depth 40 fits 20000
    stmt_grows (Some kinds.Name) = search (growing, further) depth 40 fits 20000
    stmt_grows _ = search (growing, further) depth 40 fits 20000

    pub labels_grows : (begun : List (ℕ × ℕ)) → Grows out (labels_by tokens rec begun at out)
    labels_grows begun = search (growing, further) depth 40 fits 20000

    pub simple_grows : (bare : Bool) → Grows out (simple_by tokens rec bare at out)
    simple_grows bare = search (growing, further) depth 40 fits 20000

    pub maybe_label_grows : Grows out (maybe_label_by tokens at out)
    maybe_label_grows = search (growing, further) depth 40 fits 20000

    pub ifs_grows : (begun : List (ℕ × ℕ)) → Grows out (ifs_by tokens rec begun at out)
    ifs_grows begun = search (growing, further) depth 40 fits 20000

    pub cases_grows : Grows out (cases_by tokens rec at out)
    cases_grows = search (growing, further) depth 40 fits 20000

    pub case_grows : Grows out (case_by tokens rec at out)
    case_grows = search (growing, further) depth 40 fits 20000

    pub comms_grows : Grows out (comms_by tokens rec at out)
    comms_grows = search (growing, further) depth 40 fits 20000

    pub comm_grows : Grows out (comm_by tokens rec at out)
    comm_grows = search (growing, further) depth 40 fits 20000

    pub maybe_condition_grows : Grows out (maybe_condition_by tokens rec at out)
    maybe_condition_grows = search (growing, further) depth 40 fits 20000

    pub maybe_post_grows : Grows out (maybe_post_by tokens rec at out)
    maybe_post_grows = search (growing, further) depth 40 fits 20000
