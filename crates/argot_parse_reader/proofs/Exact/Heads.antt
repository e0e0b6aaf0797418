-- The heads of statements: an `if` that is spelled is read, with the branches behind it.
use Rattle.std.proofs.Common.{◌≡◌, ℕ, ◌+◌, ◌-◌, ◌<◌, ◌≤◌, List, ◌∷◌, ◌++◌, length, true, false, Option, Some, refl, ◌∙◌, arith}
use Rattle.std.proofs.lemmas.List.{append-nil}
use Rattle.std.proofs.lemmas.Bool.{false≢true}
use Rattle.argot_tree.specs.declared.keyword.Keyword.TheVariants as words
use Rattle.argot_tree.specs.declared.mark.Mark.TheVariants as marks
use Rattle.argot_tree.specs.declared.node_kind.NodeKind.TheVariants as nodes
use Rattle.argot_tree.specs.declared.token.TokenKind.{TokenKind}
use Rattle.argot_tree.specs.declared.token.TokenKind.TheVariants as kinds
use Rattle.argot_tree.specs.declared.token.Token.{Token}
use Rattle.argot_tree.specs.Forests.{Forest, leaf, beside, one}
use Rattle.argot_tree.specs.TokensAt.{HasWord, HasMark, is_semicolon}
use Rattle.argot_tree.specs.Grammar.{Spells, Level, Block, If, MaybeInit, MaybeElse, last_expr}
use Rattle.argot_parse_reader.specs.declared.post.Post.{Post}
use Rattle.argot_parse_reader.specs.Posts.{posts}
use Rattle.argot_parse_reader.specs.Rooms.{room}
use Rattle.argot_parse_reader.specs.Reading.{Ifs}
use Rattle.argot_parse_reader.specs.StatementReader.{opening_by, condition_by}
use Rattle.argot_parse_reader.specs.Reader.{read}
use Rattle.argot_parse_reader.proofs.Steps.{read_more}
use Rattle.argot_parse_reader.proofs.PostLaws.{put_posts}
use Rattle.argot_parse_reader.proofs.Exact.Nodes.{over, over_four}
use Rattle.argot_parse_reader.proofs.Exact.Ahead.{ahead}
use Rattle.argot_parse_reader.proofs.Exact.Starts.{starts}
use Rattle.argot_parse_reader.proofs.Exact.Tokens.{apart, failing, follows, begins_expr, at_mark, by_mark, within_word, within_pass}
use Rattle.argot_parse_reader.proofs.Exact.Simples.{undefined_mark}
use Rattle.argot_parse_reader.proofs.Exact.Levels.{level_gets}
use Rattle.argot_parse_reader.proofs.Exact.Claims.{OfLevel, OfInit, no_statement, empty_statement, a_statement, Exact}

pub expr_no_semicolon : (o : Option TokenKind) → begins_expr o ≡ true → is_semicolon o ≡ false
expr_no_semicolon (Some kinds.Inserted) h = absurd (false≢true h)
expr_no_semicolon (Some (kinds.Mark marks.Semicolon)) h = absurd (false≢true h)
expr_no_semicolon _ h = refl

module _ (tokens : List Token) where
  -- an expression before a brace, at the beginning of a head
  pub opens_expr : {x : Forest} {from to : ℕ} → Spells tokens (Level 1 false) x from to → OfLevel tokens 1 false x from to → HasMark tokens to marks.OpenBrace → (n : ℕ) (out : List Post) → room tokens from 5 ≤ n → opening_by tokens (read tokens n) from out ≡ Some (to, out ++ posts x)
  opens_expr {x} {from} {to} s ih b n out enough =
      let none = undefined_mark tokens (last_expr s) (at_mark b) refl refl in
      let reads = level_gets tokens s ih (by_mark (follows false) b refl) n out enough in
      simp (none, reads, b.there)

  -- a condition, with what stands before it
  pub conditions : {x y : Forest} {from mid to : ℕ} → OfInit tokens x from mid → Spells tokens (Level 1 false) y mid to → OfLevel tokens 1 false y mid to → HasMark tokens to marks.OpenBrace → (n : ℕ) (out : List Post) → room tokens from 6 ≤ n → condition_by tokens (read tokens n) from out ≡ Some (to, (out ++ posts x) ++ posts y)
  conditions {x} {y} {from} {mid} {to} no_statement t ihy b n out enough =
      let no_semicolon = failing is_semicolon expr_no_semicolon (starts tokens t) in
      let opens = opens_expr t ihy b n out (omega arith) in
      simp (no_semicolon.there, opens, b.there, append-nil out)
  conditions {x} {y} {from} {mid} {to} (empty_statement c) t ihy b n out enough =
      let within = within_pass c refl in
      let empty = one nodes.Empty from from leaf in
      let init = one nodes.Init from from empty in
      let reads = level_gets tokens t ihy (by_mark (follows false) b refl) n (out ++ posts init) (omega arith) in
      simp (c.there, put_posts nodes.Empty from from out, over nodes.Init from from out empty, reads)
  conditions {x} {y} {from} {mid} {to} (a_statement {x = z} {to = end} s ih c) t ihy b n out enough =
      let within = within_pass c refl in
      let forward = ahead tokens s in
      let no_semicolon = failing is_semicolon expr_no_semicolon (starts tokens s) in
      let opens = ih.opens n out refl enough c in
      let init = one nodes.Init from end z in
      let reads = level_gets tokens t ihy (by_mark (follows false) b refl) n (out ++ posts init) (omega arith) in
      simp (no_semicolon.there, opens, c.there, over nodes.Init from end out z, reads)

  pub exact_if : {x y z w : Forest} {from mid mid2 mid3 to : ℕ} → HasWord tokens from words.If → Spells tokens MaybeInit x (from + 1) mid → Spells tokens (Level 1 false) y mid mid2 → Spells tokens Block z mid2 mid3 → Spells tokens MaybeElse w mid3 to → OfInit tokens x (from + 1) mid → OfLevel tokens 1 false y mid mid2 → Exact tokens Block z mid2 mid3 → Exact tokens MaybeElse w mid3 to → Exact tokens If (one nodes.If from to (beside x (beside y (beside z w)))) from to
  exact_if {x} {y} {z} {w} {from} {mid} {mid2} {mid3} {to} h s t u v ihx ihy ihz ihw = λ begun n out enough ends.
      let within = within_word h in
      let forward = ahead tokens s in
      let onward = ahead tokens t in
      let behind = ahead tokens u in
      let more : 0 < n = omega arith in
      let condition = conditions ihx t ihy (starts tokens u) (n - 1) out (omega arith) in
      let block = ihz (n - 1) ((out ++ posts x) ++ posts y) (omega arith) in
      let branch = ihw ((from, length out) ∷ begun) (n - 1) (((out ++ posts x) ++ posts y) ++ posts z) (omega arith) ends in
      read_more tokens n (Ifs begun) from out more ∙ simp (h.there, condition, block, branch, over_four nodes.If from to out x y z w)

  pub exact_no_else : {from : ℕ} → Exact tokens MaybeElse leaf from from
  exact_no_else {from} = λ begun n out enough ends.
      let word = apart (kinds.Word words.Else) ends refl in
      simp (word.is, append-nil out)

  pub exact_else_if : {x : Forest} {from to : ℕ} → HasWord tokens from words.Else → Spells tokens If x (from + 1) to → Exact tokens If x (from + 1) to → Exact tokens MaybeElse x from to
  exact_else_if {x} {from} {to} h s ih = λ begun n out enough ends.
      let within = within_word h in
      let word = starts tokens s in
      let reads = ih begun n out (omega arith) ends in
      simp (h.there, word.there, reads)

  pub exact_else_block : {x : Forest} {from to : ℕ} → HasWord tokens from words.Else → Spells tokens Block x (from + 1) to → Exact tokens Block x (from + 1) to → Exact tokens MaybeElse x from to
  exact_else_block {x} {from} {to} h s ih = λ begun n out enough ends.
      let within = within_word h in
      let open_brace = starts tokens s in
      let reads = ih n out (omega arith) in
      simp (h.there, open_brace.there, reads)
