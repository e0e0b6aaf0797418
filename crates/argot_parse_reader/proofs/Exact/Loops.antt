-- Loops that are spelled are read.
use Rattle.std.proofs.Common.{◌≡◌, ℕ, ◌+◌, ◌-◌, ◌<◌, ◌≤◌, List, ◌++◌, Bool, true, false, Option, Some, refl, sym, ◌∙◌, subst, ⊎_elim, arith}
use Rattle.std.proofs.lemmas.List.{append-nil}
use Rattle.std.proofs.Math.Bool.{and-false}
use Rattle.std.proofs.lemmas.Bool.{false≢true}
use Rattle.argot_tree.specs.declared.keyword.Keyword.TheVariants as words
use Rattle.argot_tree.specs.declared.mark.Mark.TheVariants as marks
use Rattle.argot_tree.specs.declared.node_kind.NodeKind.TheVariants as nodes
use Rattle.argot_tree.specs.declared.token.TokenKind.{TokenKind}
use Rattle.argot_tree.specs.declared.token.TokenKind.TheVariants as kinds
use Rattle.argot_tree.specs.declared.token.Token.{Token}
use Rattle.argot_tree.specs.Forests.{Forest, leaf, beside, one}
use Rattle.std.specs.Prelude.{◌||◌}
use Rattle.argot_tree.specs.TokensAt.{kind_at, HasWord, HasMark, Passes, is_semicolon}
use Rattle.argot_tree.specs.Grammar.{Spells, Level, Exprs, Block, Stmt, Simple, MaybeCondition, MaybePost}
use Rattle.argot_parse_reader.specs.declared.post.Post.{Post}
use Rattle.argot_parse_reader.specs.Posts.{posts}
use Rattle.argot_parse_reader.specs.Rooms.{room}
use Rattle.argot_parse_reader.specs.Reading.{The, is_mark, is_kind}
use Rattle.argot_parse_reader.specs.StatementReader.{is_range, begins_assign, opening_by}
use Rattle.argot_parse_reader.specs.Reader.{read}
use Rattle.argot_parse_reader.proofs.Steps.{read_more}
use Rattle.argot_parse_reader.proofs.PostLaws.{put_posts}
use Rattle.argot_parse_reader.proofs.Exact.Nodes.{over, over_two, over_three, over_four}
use Rattle.argot_parse_reader.proofs.Exact.Ahead.{ahead}
use Rattle.argot_parse_reader.proofs.Exact.Starts.{starts}
use Rattle.argot_parse_reader.proofs.Exact.Tokens.{Not, apart, failing, stops, follows, ends_simple, at_word, by_mark, by_test, within_word, within_pass}
use Rattle.argot_parse_reader.proofs.Exact.Simples.{expr_no_range, semicolon_simple, simple_follows}
use Rattle.argot_parse_reader.proofs.Exact.Levels.{level_gets, after_stop}
use Rattle.argot_parse_reader.proofs.Exact.Seconds.{defines_not}
use Rattle.argot_parse_reader.proofs.Exact.Heads.{expr_no_semicolon, opens_expr}
use Rattle.argot_parse_reader.proofs.Exact.Statements.{begun_by}
use Rattle.argot_parse_reader.proofs.Exact.Claims.{Gets, OfLevel, OfExprs, OfSimple, OfStmt, OfMaybe, no_expression, an_expression, Exact}

-- what stands behind the first of the left sides before `range`
abbrev goes_to_range : Option TokenKind → Bool
goes_to_range (Some (kinds.Mark marks.Comma)) = true
goes_to_range (Some (kinds.Mark marks.Assign)) = true
goes_to_range (Some (kinds.Mark marks.Define)) = true
goes_to_range _ = false

range_lists : (o : Option TokenKind) → goes_to_range o ≡ true → (begins_assign o || is_kind o (kinds.Mark marks.Define)) ≡ true
range_lists (Some (kinds.Mark marks.Comma)) h = refl
range_lists (Some (kinds.Mark marks.Assign)) h = refl
range_lists (Some (kinds.Mark marks.Define)) h = refl
range_lists _ h = absurd (false≢true h)

range_stops : (o : Option TokenKind) → goes_to_range o ≡ true → stops o ≡ true
range_stops (Some (kinds.Mark marks.Comma)) h = refl
range_stops (Some (kinds.Mark marks.Assign)) h = refl
range_stops (Some (kinds.Mark marks.Define)) h = refl
range_stops _ h = absurd (false≢true h)

semicolon_no_range : (o : Option TokenKind) → is_semicolon o ≡ true → is_range o ≡ false
semicolon_no_range (Some kinds.Inserted) h = refl
semicolon_no_range (Some (kinds.Mark marks.Semicolon)) h = refl
semicolon_no_range _ h = absurd (false≢true h)

module _ (tokens : List Token) where
  pub exact_empty_post : {from : ℕ} → Exact tokens MaybePost (one nodes.Post from from (one nodes.Empty from from leaf)) from from
  exact_empty_post {from} = λ n out enough b.
      let more : 0 < n = omega arith in
      read_more tokens n (The MaybePost) from out more ∙ simp (b.there, put_posts nodes.Empty from from out, over nodes.Post from from out (one nodes.Empty from from leaf))

  pub exact_a_post : {x : Forest} {from to : ℕ} → Spells tokens (Simple false) x from to → OfSimple tokens false x from to → Exact tokens MaybePost (one nodes.Post from to x) from to
  exact_a_post {x} {from} {to} s ih = λ n out enough b.
      let more : 0 < n = omega arith in
      let open_brace = apart (kinds.Mark marks.OpenBrace) (starts tokens s) refl in
      let reads = ih.gets (n - 1) out (omega arith) (by_mark (ends_simple false) b refl) in
      read_more tokens n (The MaybePost) from out more ∙ simp (open_brace.is, reads, over nodes.Post from to out x)

  -- the condition between two semicolons
  condition_reads : {x : Forest} {from to : ℕ} → OfMaybe tokens x from to → Passes tokens is_semicolon to → (n : ℕ) (out : List Post) → room tokens from 6 ≤ n → Gets tokens n (The MaybeCondition) from out x to
  condition_reads {x} {from} {to} no_expression c n out enough =
      let more : 0 < n = omega arith in
      read_more tokens n (The MaybeCondition) from out more ∙ simp (c.there, append-nil out)
  condition_reads {x} {from} {to} (an_expression s ih) c n out enough =
      let more : 0 < n = omega arith in
      let no_semicolon = failing is_semicolon expr_no_semicolon (starts tokens s) in
      let reads = level_gets tokens s ih (by_test (follows false) (λ o e. simple_follows false o (semicolon_simple false o e)) c) (n - 1) out (omega arith) in
      read_more tokens n (The MaybeCondition) from out more ∙ simp (no_semicolon.there, reads)

  pub exact_while_loop : {x y : Forest} {from mid to : ℕ} → HasWord tokens from words.For → Spells tokens Block y mid to → Spells tokens Stmt (one nodes.While from to (beside x y)) from to → OfMaybe tokens x (from + 1) mid → Exact tokens Block y mid to → OfStmt tokens (one nodes.While from to (beside x y)) from to
  exact_while_loop {x} {y} {from} {mid} {to} h t whole no_expression ihy = begun_by tokens (at_word h) refl whole
      (λ n out enough ends.
      let within = within_word h in
      let more : 0 < n = omega arith in
      let open_brace = starts tokens t in
      let block = ihy (n - 1) out (omega arith) in
      read_more tokens n (The Stmt) from out more ∙ simp (h.there, open_brace.there, block, over nodes.While from to out y))
  exact_while_loop {x} {y} {from} {mid} {to} h t whole (an_expression s ih) ihy = begun_by tokens (at_word h) refl whole
      (λ n out enough ends.
      let within = within_word h in
      let forward = ahead tokens s in
      let more : 0 < n = omega arith in
      let open_brace = starts tokens t in
      let start = starts tokens s in
      let no_range = failing is_range expr_no_range start in
      let no_semicolon = failing is_semicolon expr_no_semicolon start in
      let no_brace = apart (kinds.Mark marks.OpenBrace) start refl in
      let opens = opens_expr tokens s ih open_brace (n - 1) out (omega arith) in
      let block = ihy (n - 1) (out ++ posts x) (omega arith) in
      read_more tokens n (The Stmt) from out more ∙ simp (h.there, no_range.there, no_semicolon.there, no_brace.is) (simp opens (simp (open_brace.there, block, over_two nodes.While from to out x y))))

  pub exact_for_loop : {x y z w : Forest} {from mid mid2 mid3 to : ℕ} → HasWord tokens from words.For → Spells tokens (Simple false) x (from + 1) mid → Passes tokens is_semicolon mid → Spells tokens MaybeCondition y (mid + 1) mid2 → Passes tokens is_semicolon mid2 → Spells tokens MaybePost z (mid2 + 1) mid3 → Spells tokens Block w mid3 to → Spells tokens Stmt (one nodes.For from to (beside (one nodes.Init (from + 1) mid x) (beside y (beside z w)))) from to → OfSimple tokens false x (from + 1) mid → OfMaybe tokens y (mid + 1) mid2 → Exact tokens MaybePost z (mid2 + 1) mid3 → Exact tokens Block w mid3 to → OfStmt tokens (one nodes.For from to (beside (one nodes.Init (from + 1) mid x) (beside y (beside z w)))) from to
  exact_for_loop {x} {y} {z} {w} {from} {mid} {mid2} {mid3} {to} h s c t d u v whole ihx ihy ihz ihw = begun_by tokens (at_word h) refl whole
      (λ n out enough ends.
      let within = within_word h in
      let inside = within_pass c refl in
      let deep = within_pass d refl in
      let forward = ahead tokens s in
      let onward = ahead tokens t in
      let behind = ahead tokens u in
      let more : 0 < n = omega arith in
      let start = starts tokens s in
      let no_range = failing is_range expr_no_range start in
      let no_semicolon = failing is_semicolon expr_no_semicolon start in
      let no_brace = apart (kinds.Mark marks.OpenBrace) start refl in
      let opens = ihx.opens (n - 1) out refl (omega arith) c in
      let init = one nodes.Init (from + 1) mid x in
      let condition = condition_reads ihy d (n - 1) (out ++ posts init) (omega arith) in
      let post = ihz (n - 1) ((out ++ posts init) ++ posts y) (omega arith) (starts tokens v) in
      let block = ihw (n - 1) (((out ++ posts init) ++ posts y) ++ posts z) (omega arith) in
      read_more tokens n (The Stmt) from out more ∙ simp (h.there, no_range.there, no_semicolon.there, no_brace.is) (simp opens (simp (c.there, over nodes.Init (from + 1) mid out x, condition, d.there, post, block, over_four nodes.For from to out init y z w))))

  pub exact_for_empty : {x y z : Forest} {from mid mid2 to : ℕ} → HasWord tokens from words.For → Passes tokens is_semicolon (from + 1) → Spells tokens MaybeCondition x (from + 2) mid → Passes tokens is_semicolon mid → Spells tokens MaybePost y (mid + 1) mid2 → Spells tokens Block z mid2 to → Spells tokens Stmt (one nodes.For from to (beside (one nodes.Init (from + 1) (from + 1) (one nodes.Empty (from + 1) (from + 1) leaf)) (beside x (beside y z)))) from to → OfMaybe tokens x (from + 2) mid → Exact tokens MaybePost y (mid + 1) mid2 → Exact tokens Block z mid2 to → OfStmt tokens (one nodes.For from to (beside (one nodes.Init (from + 1) (from + 1) (one nodes.Empty (from + 1) (from + 1) leaf)) (beside x (beside y z)))) from to
  exact_for_empty {x} {y} {z} {from} {mid} {mid2} {to} h c t d u v whole ihx ihy ihz = begun_by tokens (at_word h) refl whole
      (λ n out enough ends.
      let within = within_word h in
      let deep = within_pass d refl in
      let forward = ahead tokens t in
      let behind = ahead tokens u in
      let more : 0 < n = omega arith in
      let no_range = failing is_range semicolon_no_range c in
      let empty = one nodes.Empty (from + 1) (from + 1) leaf in
      let init = one nodes.Init (from + 1) (from + 1) empty in
      let condition = condition_reads ihx d (n - 1) (out ++ posts init) (omega arith) in
      let post = ihy (n - 1) ((out ++ posts init) ++ posts x) (omega arith) (starts tokens v) in
      let block = ihz (n - 1) (((out ++ posts init) ++ posts x) ++ posts y) (omega arith) in
      read_more tokens n (The Stmt) from out more ∙ simp (h.there, no_range.there, c.there, put_posts nodes.Empty (from + 1) (from + 1) out, over nodes.Init (from + 1) (from + 1) out empty, condition, d.there, post, block, over_four nodes.For from to out init x y z))

  pub exact_range_loop : {x y : Forest} {from mid to : ℕ} → HasWord tokens from words.For → HasWord tokens (from + 1) words.Range → Spells tokens (Level 1 false) x (from + 2) mid → Spells tokens Block y mid to → Spells tokens Stmt (one nodes.Range from to (beside x y)) from to → OfLevel tokens 1 false x (from + 2) mid → Exact tokens Block y mid to → OfStmt tokens (one nodes.Range from to (beside x y)) from to
  exact_range_loop {x} {y} {from} {mid} {to} h i s t whole ihx ihy = begun_by tokens (at_word h) refl whole
      (λ n out enough ends.
      let within = within_word h in
      let forward = ahead tokens s in
      let next : from + 1 + 1 ≡ from + 2 = omega arith in
      let more : 0 < n = omega arith in
      let reads = level_gets tokens s ihx (by_mark (follows false) (starts tokens t) refl) (n - 1) out (omega arith) in
      let block = ihy (n - 1) (out ++ posts x) (omega arith) in
      read_more tokens n (The Stmt) from out more ∙ simp (h.there, i.there, next, reads, block, over_two nodes.Range from to out x y))

  -- the left sides before `range`
  ranged : {x : Forest} {from mid : ℕ} → Spells tokens (Exprs false) x from mid → OfExprs tokens false x from mid → Passes tokens goes_to_range mid → is_mark tokens mid marks.Comma ≡ false → HasWord tokens (mid + 1) words.Range → (is_mark tokens mid marks.Assign || is_mark tokens mid marks.Define) ≡ true → (n : ℕ) (out : List Post) → room tokens from 5 ≤ n → opening_by tokens (read tokens n) from out ≡ Some (mid, out ++ posts x)
  ranged {x} {from} {mid} s ih h no_comma w either n out enough =
      let comma : Not tokens mid (kinds.Mark marks.Comma) = record { is = no_comma } in
      let none = defines_not tokens s comma (simp (w.there, and-false)) in
      let r = ih n out enough (after_stop tokens false (by_test stops range_stops h)) comma in
      let reads = r.reads in
      let goes = r.goes in
      let first : Passes tokens goes_to_range r.first.0 = ⊎_elim (λ e. subst (λ i. Passes tokens goes_to_range i) (sym e) h) (λ c. by_mark goes_to_range c refl) r.then in
      let no_brace = apart (kinds.Mark marks.OpenBrace) first refl in
      let dot = apart (kinds.Mark marks.Dot) first refl in
      let lists : (begins_assign (kind_at tokens r.first.0) || is_mark tokens r.first.0 marks.Define) ≡ true = range_lists (kind_at tokens r.first.0) first.there in
      simp (none, reads, no_brace.is, dot.is, lists, goes, either, w.there)

  pub exact_assign_range : {x y z : Forest} {from mid mid2 to : ℕ} → HasWord tokens from words.For → Spells tokens (Exprs false) x (from + 1) mid → HasMark tokens mid marks.Assign → HasWord tokens (mid + 1) words.Range → Spells tokens (Level 1 false) y (mid + 2) mid2 → Spells tokens Block z mid2 to → Spells tokens Stmt (one nodes.AssignRange from to (beside (one nodes.Exprs (from + 1) mid x) (beside y z))) from to → OfExprs tokens false x (from + 1) mid → OfLevel tokens 1 false y (mid + 2) mid2 → Exact tokens Block z mid2 to → OfStmt tokens (one nodes.AssignRange from to (beside (one nodes.Exprs (from + 1) mid x) (beside y z))) from to
  exact_assign_range {x} {y} {z} {from} {mid} {mid2} {to} h s a w t u whole ihx ihy ihz = begun_by tokens (at_word h) refl whole
      (λ n out enough ends.
      let within = within_word h in
      let deep = within_word w in
      let forward = ahead tokens s in
      let onward = ahead tokens t in
      let more : 0 < n = omega arith in
      let start = starts tokens s in
      let no_range = failing is_range expr_no_range start in
      let no_semicolon = failing is_semicolon expr_no_semicolon start in
      let no_brace = apart (kinds.Mark marks.OpenBrace) start refl in
      let opens = ranged s ihx (by_mark goes_to_range a refl) (simp a.there) w (simp a.there) (n - 1) out (omega arith) in
      let left = one nodes.Exprs (from + 1) mid x in
      let reads = level_gets tokens t ihy (by_mark (follows false) (starts tokens u) refl) (n - 1) (out ++ posts left) (omega arith) in
      let block = ihz (n - 1) ((out ++ posts left) ++ posts y) (omega arith) in
      read_more tokens n (The Stmt) from out more ∙ simp (h.there, no_range.there, no_semicolon.there, no_brace.is) (simp opens (simp (a.there, w.there, over nodes.Exprs (from + 1) mid out x, reads, block, over_three nodes.AssignRange from to out left y z))))

  pub exact_define_range : {x y z : Forest} {from mid mid2 to : ℕ} → HasWord tokens from words.For → Spells tokens (Exprs false) x (from + 1) mid → HasMark tokens mid marks.Define → HasWord tokens (mid + 1) words.Range → Spells tokens (Level 1 false) y (mid + 2) mid2 → Spells tokens Block z mid2 to → Spells tokens Stmt (one nodes.DefineRange from to (beside (one nodes.Exprs (from + 1) mid x) (beside y z))) from to → OfExprs tokens false x (from + 1) mid → OfLevel tokens 1 false y (mid + 2) mid2 → Exact tokens Block z mid2 to → OfStmt tokens (one nodes.DefineRange from to (beside (one nodes.Exprs (from + 1) mid x) (beside y z))) from to
  exact_define_range {x} {y} {z} {from} {mid} {mid2} {to} h s a w t u whole ihx ihy ihz = begun_by tokens (at_word h) refl whole
      (λ n out enough ends.
      let within = within_word h in
      let deep = within_word w in
      let forward = ahead tokens s in
      let onward = ahead tokens t in
      let more : 0 < n = omega arith in
      let start = starts tokens s in
      let no_range = failing is_range expr_no_range start in
      let no_semicolon = failing is_semicolon expr_no_semicolon start in
      let no_brace = apart (kinds.Mark marks.OpenBrace) start refl in
      let opens = ranged s ihx (by_mark goes_to_range a refl) (simp a.there) w (simp a.there) (n - 1) out (omega arith) in
      let left = one nodes.Exprs (from + 1) mid x in
      let reads = level_gets tokens t ihy (by_mark (follows false) (starts tokens u) refl) (n - 1) (out ++ posts left) (omega arith) in
      let block = ihz (n - 1) ((out ++ posts left) ++ posts y) (omega arith) in
      read_more tokens n (The Stmt) from out more ∙ simp (h.there, no_range.there, no_semicolon.there, no_brace.is) (simp opens (simp (a.there, w.there, over nodes.Exprs (from + 1) mid out x, reads, block, over_three nodes.DefineRange from to out left y z))))
