-- Statements and blocks that are spelled are read.
use Rattle.std.proofs.Common.{◌≡◌, ℕ, ◌+◌, ◌-◌, ◌<◌, ◌≤◌, List, [], ◌∷◌, ◌++◌, length, true, false, Option, Some, refl, ◌∙◌, arith}
use Rattle.std.specs.Prelude.{◌==◌}
use Rattle.std.proofs.lemmas.List.{append-nil}
use Rattle.std.proofs.lemmas.Bool.{false≢true}
use Rattle.argot_tree.specs.declared.keyword.Keyword.TheVariants as words
use Rattle.argot_tree.specs.declared.mark.Mark.TheVariants as marks
use Rattle.argot_tree.specs.declared.node_kind.NodeKind.TheVariants as nodes
use Rattle.argot_tree.specs.declared.token.TokenKind.{TokenKind}
use Rattle.argot_tree.specs.declared.token.TokenKind.TheVariants as kinds
use Rattle.argot_tree.specs.declared.token.Token.{Token}
use Rattle.argot_tree.specs.Forests.{Forest, leaf, beside, one}
use Rattle.argot_tree.specs.TokensAt.{kind_at, HasAt, HasWord, HasMark, Passes, is_semicolon}
use Rattle.argot_tree.specs.Grammar.{Spells, Level, Exprs, Decl, Block, Stmts, Stmt, Simple, MaybeLabel, If}
use Rattle.argot_parse_reader.specs.declared.post.Post.{Post}
use Rattle.argot_parse_reader.specs.Posts.{posts}
use Rattle.argot_parse_reader.specs.Rooms.{room}
use Rattle.argot_parse_reader.specs.Reading.{The, Labels, Reader, ◌>>=◌, closed_all, closing, kind_number}
use Rattle.argot_parse_reader.specs.StatementReader.{ends_stmt, ends_stmts, labels, stmt_by}
use Rattle.argot_parse_reader.specs.Reader.{read}
use Rattle.argot_parse_reader.proofs.Steps.{read_more}
use Rattle.argot_parse_reader.proofs.PostLaws.{put_posts}
use Rattle.argot_parse_reader.proofs.Exact.Nodes.{over, over_two, two, declared, names_it}
use Rattle.argot_parse_reader.proofs.Exact.Ahead.{ahead}
use Rattle.argot_parse_reader.proofs.Exact.Starts.{starts}
use Rattle.argot_parse_reader.proofs.Exact.Tokens.{other, apart, failing, stops, ends_simple, ends_spec, begins_expr, begins_decl, begins_stmt, at_mark, at_word, by_mark, by_test, within_at, within_mark, within_word, within_pass}
use Rattle.argot_parse_reader.proofs.Exact.Members.{semicolon_ends}
use Rattle.argot_parse_reader.proofs.Exact.Declarations.{stmt_spec}
use Rattle.argot_parse_reader.proofs.Exact.Simples.{stmt_stops, simple_unlabelled}
use Rattle.argot_parse_reader.proofs.Exact.Levels.{level_after, after_stop}
use Rattle.argot_parse_reader.proofs.Exact.Elements.{exprs_whole}
use Rattle.argot_parse_reader.proofs.Exact.Claims.{Gets, OfLevel, OfExprs, OfSimple, OfStmt, Exact}

stmt_simple : (o : Option TokenKind) → ends_stmt o ≡ true → ends_simple true o ≡ true
stmt_simple (Some (kinds.Mark marks.OpenBrace)) h = absurd (false≢true h)
stmt_simple _ h = h

-- what begins a statement ends none, and no list of them, and is no semicolon
stmt_no_end : (o : Option TokenKind) → begins_stmt o ≡ true → ends_stmt o ≡ false
stmt_no_end (Some kinds.Inserted) h = absurd (false≢true h)
stmt_no_end (Some (kinds.Mark marks.Semicolon)) h = absurd (false≢true h)
stmt_no_end (Some (kinds.Mark marks.CloseBrace)) h = absurd (false≢true h)
stmt_no_end _ h = refl

stmt_no_ends : (o : Option TokenKind) → begins_stmt o ≡ true → ends_stmts o ≡ false
stmt_no_ends (Some (kinds.Mark marks.CloseBrace)) h = absurd (false≢true h)
stmt_no_ends (Some (kinds.Word words.Case)) h = absurd (false≢true h)
stmt_no_ends (Some (kinds.Word words.Default)) h = absurd (false≢true h)
stmt_no_ends _ h = refl

stmt_no_semicolon : (o : Option TokenKind) → begins_stmt o ≡ true → is_semicolon o ≡ false
stmt_no_semicolon (Some kinds.Inserted) h = absurd (false≢true h)
stmt_no_semicolon (Some (kinds.Mark marks.Semicolon)) h = absurd (false≢true h)
stmt_no_semicolon _ h = refl

semicolon_no_ends : (o : Option TokenKind) → is_semicolon o ≡ true → ends_stmts o ≡ false
semicolon_no_ends (Some kinds.Inserted) h = refl
semicolon_no_ends (Some (kinds.Mark marks.Semicolon)) h = refl
semicolon_no_ends _ h = absurd (false≢true h)

expr_no_end : (o : Option TokenKind) → begins_expr o ≡ true → ends_stmt o ≡ false
expr_no_end (Some kinds.Inserted) h = absurd (false≢true h)
expr_no_end (Some (kinds.Mark marks.Semicolon)) h = absurd (false≢true h)
expr_no_end (Some (kinds.Mark marks.CloseBrace)) h = absurd (false≢true h)
expr_no_end _ h = refl

module _ (tokens : List Token) where
  decl_dispatch : (rec : Reader) (o : Option TokenKind) (at : ℕ) (out : List Post) → begins_decl o ≡ true → stmt_by tokens rec o at out ≡ (rec (The Decl) at out >>= closing nodes.DeclStmt at out)
  decl_dispatch rec (Some (kinds.Word words.Const)) at out h = refl
  decl_dispatch rec (Some (kinds.Word words.Var)) at out h = refl
  decl_dispatch rec (Some (kinds.Word words.TypeWord)) at out h = refl
  decl_dispatch rec _ at out h = absurd (false≢true h)

  simple_dispatch : (rec : Reader) (o : Option TokenKind) (at : ℕ) (out : List Post) → begins_expr o ≡ true → labels tokens at ≡ false → stmt_by tokens rec o at out ≡ rec (The (Simple true)) at out
  simple_dispatch rec (Some kinds.Name) at out h l = simp l
  simple_dispatch rec (Some (kinds.Word words.Const)) at out h l = absurd (false≢true h)
  simple_dispatch rec (Some (kinds.Word words.Var)) at out h l = absurd (false≢true h)
  simple_dispatch rec (Some (kinds.Word words.TypeWord)) at out h l = absurd (false≢true h)
  simple_dispatch rec (Some (kinds.Word words.Go)) at out h l = absurd (false≢true h)
  simple_dispatch rec (Some (kinds.Word words.Defer)) at out h l = absurd (false≢true h)
  simple_dispatch rec (Some (kinds.Word words.Return)) at out h l = absurd (false≢true h)
  simple_dispatch rec (Some (kinds.Word words.Break)) at out h l = absurd (false≢true h)
  simple_dispatch rec (Some (kinds.Word words.Continue)) at out h l = absurd (false≢true h)
  simple_dispatch rec (Some (kinds.Word words.Goto)) at out h l = absurd (false≢true h)
  simple_dispatch rec (Some (kinds.Word words.Fallthrough)) at out h l = absurd (false≢true h)
  simple_dispatch rec (Some (kinds.Word words.If)) at out h l = absurd (false≢true h)
  simple_dispatch rec (Some (kinds.Word words.Switch)) at out h l = absurd (false≢true h)
  simple_dispatch rec (Some (kinds.Word words.Select)) at out h l = absurd (false≢true h)
  simple_dispatch rec (Some (kinds.Word words.For)) at out h l = absurd (false≢true h)
  simple_dispatch rec (Some (kinds.Mark marks.OpenBrace)) at out h l = absurd (false≢true h)
  simple_dispatch rec _ at out h l = refl

  abbrev pub ReadStmt : Forest → ℕ → ℕ → Type 0
  ReadStmt x from to = (n : ℕ) (out : List Post) → room tokens from 7 ≤ n → Passes tokens ends_stmt to → Gets tokens n (The Stmt) from out x to

  -- a statement before which no label stands
  pub unlabelled : {x : Forest} {from to : ℕ} → Spells tokens Stmt x from to → labels tokens from ≡ false → ReadStmt x from to → OfStmt tokens x from to
  unlabelled {x} {from} {to} s l gets = record {
    gets = gets;
    labelled = λ begun n out enough ends.
        let more : 0 < n = omega arith in
        let no_end = failing ends_stmt stmt_no_end (starts tokens s) in
        let reads = gets (n - 1) out (omega arith) ends in
        read_more tokens n (Labels begun) from out more ∙ simp (l, no_end.there, reads);
  }

  -- where it begins with another token than a name, it is such a one
  pub begun_by : {kind : TokenKind} {x : Forest} {from to : ℕ} → HasAt tokens from kind → (kind_number kind == kind_number kinds.Name) ≡ false → Spells tokens Stmt x from to → ReadStmt x from to → OfStmt tokens x from to
  begun_by {kind} {x} {from} {to} h e s gets = unlabelled s (let name = other kinds.Name h e in simp name.is) gets

  pub exact_block : {x : Forest} {from to : ℕ} → HasMark tokens from marks.OpenBrace → Spells tokens Stmts x (from + 1) to → HasMark tokens to marks.CloseBrace → Exact tokens Stmts x (from + 1) to → Exact tokens Block (one nodes.Block from (to + 1) x) from (to + 1)
  exact_block {x} {from} {to} h s c ih = λ n out enough.
      let within = within_mark h in
      let more : 0 < n = omega arith in
      let reads = ih (n - 1) out (omega arith) (by_mark ends_stmts c refl) in
      read_more tokens n (The Block) from out more ∙ simp (h.there, reads, c.there, over nodes.Block from (to + 1) out x)

  pub exact_no_stmt : {from : ℕ} → Exact tokens Stmts leaf from from
  exact_no_stmt {from} = λ n out enough ends.
      let more : 0 < n = omega arith in
      read_more tokens n (The Stmts) from out more ∙ simp (ends.there, append-nil out)

  pub exact_last_stmt : {x : Forest} {from to : ℕ} → Spells tokens Stmt x from to → HasMark tokens to marks.CloseBrace → OfStmt tokens x from to → Exact tokens Stmts x from to
  exact_last_stmt {x} {from} {to} s c ih = λ n out enough ends.
      let more : 0 < n = omega arith in
      let no_ends = failing ends_stmts stmt_no_ends (starts tokens s) in
      let no_semicolon = failing is_semicolon stmt_no_semicolon (starts tokens s) in
      let reads = ih.gets (n - 1) out (omega arith) (by_mark ends_stmt c refl) in
      read_more tokens n (The Stmts) from out more ∙ simp (no_ends.there, no_semicolon.there, reads, c.there)

  pub exact_one_stmt : {x y : Forest} {from mid to : ℕ} → Spells tokens Stmt x from mid → Passes tokens is_semicolon mid → Spells tokens Stmts y (mid + 1) to → OfStmt tokens x from mid → Exact tokens Stmts y (mid + 1) to → Exact tokens Stmts (beside x y) from to
  exact_one_stmt {x} {y} {from} {mid} {to} s c t ihx ihy = λ n out enough ends.
      let within = within_pass c refl in
      let forward = ahead tokens s in
      let more : 0 < n = omega arith in
      let no_ends = failing ends_stmts stmt_no_ends (starts tokens s) in
      let no_semicolon = failing is_semicolon stmt_no_semicolon (starts tokens s) in
      let reads = ihx.gets (n - 1) out (omega arith) (by_test ends_stmt semicolon_ends c) in
      let then = ihy (n - 1) (out ++ posts x) (omega arith) ends in
      read_more tokens n (The Stmts) from out more ∙ simp (no_ends.there, no_semicolon.there, reads, c.there, then, two out x y)

  pub exact_empty_stmt : {x : Forest} {from to : ℕ} → Passes tokens is_semicolon from → Spells tokens Stmts x (from + 1) to → Exact tokens Stmts x (from + 1) to → Exact tokens Stmts (beside (one nodes.Empty from from leaf) x) from to
  exact_empty_stmt {x} {from} {to} c s ih = λ n out enough ends.
      let within = within_pass c refl in
      let more : 0 < n = omega arith in
      let no_ends = failing ends_stmts semicolon_no_ends c in
      let empty = one nodes.Empty from from leaf in
      let reads = ih (n - 1) (out ++ posts empty) (omega arith) ends in
      read_more tokens n (The Stmts) from out more ∙ simp (no_ends.there, c.there, put_posts nodes.Empty from from out, reads, two out empty x)

  pub exact_decl_stmt : {x : Forest} {from to : ℕ} → Spells tokens Decl x from to → Spells tokens Stmt (one nodes.DeclStmt from to x) from to → Exact tokens Decl x from to → OfStmt tokens (one nodes.DeclStmt from to x) from to
  exact_decl_stmt {x} {from} {to} s whole ih = unlabelled whole (let name = apart kinds.Name (starts tokens s) refl in simp name.is)
      (λ n out enough ends.
      let more : 0 < n = omega arith in
      let start = starts tokens s in
      let reads = ih (n - 1) out (omega arith) (by_test ends_spec stmt_spec ends) in
      read_more tokens n (The Stmt) from out more ∙ decl_dispatch (read tokens (n - 1)) (kind_at tokens from) from out start.there ∙ simp (reads, over nodes.DeclStmt from to out x))

  -- whatever follows it, a simple statement is read as a statement before which no label stands
  pub exact_simple_stmt : {x : Forest} {from to : ℕ} → Spells tokens (Simple true) x from to → Spells tokens Stmt x from to → OfSimple tokens true x from to → OfStmt tokens x from to
  exact_simple_stmt {x} {from} {to} s whole ih =
      let gets : ReadStmt x from to = λ n out enough ends.
      (let more : 0 < n = omega arith in
      let start = starts tokens s in
      let end = by_test (ends_simple true) stmt_simple ends in
      let reads = ih.gets (n - 1) out (omega arith) end in
      read_more tokens n (The Stmt) from out more ∙ simple_dispatch (read tokens (n - 1)) (kind_at tokens from) from out start.there (simple_unlabelled tokens s end) ∙ reads) in
      record {
        gets = gets;
        labelled = λ begun n out enough ends. (unlabelled whole (simple_unlabelled tokens s (by_test (ends_simple true) stmt_simple ends)) gets).labelled begun n out enough ends;
      }

  pub exact_labeled : {x : Forest} {from to : ℕ} → HasAt tokens from kinds.Name → HasMark tokens (from + 1) marks.Colon → Spells tokens Stmt x (from + 2) to → OfStmt tokens x (from + 2) to → OfStmt tokens (one nodes.Labeled from to (beside (one nodes.DeclName from (from + 1) leaf) x)) from to
  exact_labeled {x} {from} {to} h c s ih = record {
    gets = λ n out enough ends.
        let within = within_at h in
        let more : 0 < n = omega arith in
        let reads = ih.labelled ((from, length out) ∷ []) (n - 1) (out ++ posts (declared from)) (omega arith) ends in
        read_more tokens n (The Stmt) from out more ∙ simp (h.there, c.there, names_it from out, reads, over_two nodes.Labeled from to out (declared from) x);
    labelled = λ begun n out enough ends.
        let within = within_at h in
        let more : 0 < n = omega arith in
        let reads = ih.labelled ((from, length out) ∷ begun) (n - 1) (out ++ posts (declared from)) (omega arith) ends in
        read_more tokens n (Labels begun) from out more ∙ simp (h.there, c.there, names_it from out, reads, over_two nodes.Labeled from to out (declared from) x);
  }

  -- an empty statement behind labels
  ends_labels : (begun : List (ℕ × ℕ)) (n at : ℕ) (out : List Post) → 0 < n → Passes tokens ends_stmt at → read tokens n (Labels begun) at out ≡ Some (at, closed_all nodes.Labeled begun at (out ++ posts (one nodes.Empty at at leaf)))
  ends_labels begun n at out more ends =
      let name = apart kinds.Name ends refl in
      read_more tokens n (Labels begun) at out more ∙ simp (name.is, ends.there, put_posts nodes.Empty at at out)

  pub exact_labeled_empty : {from : ℕ} → HasAt tokens from kinds.Name → HasMark tokens (from + 1) marks.Colon → OfStmt tokens (one nodes.Labeled from (from + 2) (beside (one nodes.DeclName from (from + 1) leaf) (one nodes.Empty (from + 2) (from + 2) leaf))) from (from + 2)
  exact_labeled_empty {from} h c = record {
    gets = λ n out enough ends.
        let within = within_at h in
        let more : 0 < n = omega arith in
        let empty = one nodes.Empty (from + 2) (from + 2) leaf in
        let reads = ends_labels ((from, length out) ∷ []) (n - 1) (from + 2) (out ++ posts (declared from)) (omega arith) ends in
        read_more tokens n (The Stmt) from out more ∙ simp (h.there, c.there, names_it from out, reads, over_two nodes.Labeled from (from + 2) out (declared from) empty);
    labelled = λ begun n out enough ends.
        let within = within_at h in
        let more : 0 < n = omega arith in
        let empty = one nodes.Empty (from + 2) (from + 2) leaf in
        let reads = ends_labels ((from, length out) ∷ begun) (n - 1) (from + 2) (out ++ posts (declared from)) (omega arith) ends in
        read_more tokens n (Labels begun) from out more ∙ simp (h.there, c.there, names_it from out, reads, over_two nodes.Labeled from (from + 2) out (declared from) empty);
  }

  pub exact_go_stmt : {x : Forest} {from to : ℕ} → HasWord tokens from words.Go → Spells tokens (Level 1 true) x (from + 1) to → Spells tokens Stmt (one nodes.Go from to x) from to → OfLevel tokens 1 true x (from + 1) to → OfStmt tokens (one nodes.Go from to x) from to
  exact_go_stmt {x} {from} {to} h s whole ih = begun_by (at_word h) refl whole
      (λ n out enough ends.
      let within = within_word h in
      let more : 0 < n = omega arith in
      let reads = level_after tokens s ih (after_stop tokens true (by_test stops stmt_stops ends)) (n - 1) out (omega arith) in
      read_more tokens n (The Stmt) from out more ∙ simp (h.there, reads, over nodes.Go from to out x))

  pub exact_defer_stmt : {x : Forest} {from to : ℕ} → HasWord tokens from words.Defer → Spells tokens (Level 1 true) x (from + 1) to → Spells tokens Stmt (one nodes.Defer from to x) from to → OfLevel tokens 1 true x (from + 1) to → OfStmt tokens (one nodes.Defer from to x) from to
  exact_defer_stmt {x} {from} {to} h s whole ih = begun_by (at_word h) refl whole
      (λ n out enough ends.
      let within = within_word h in
      let more : 0 < n = omega arith in
      let reads = level_after tokens s ih (after_stop tokens true (by_test stops stmt_stops ends)) (n - 1) out (omega arith) in
      read_more tokens n (The Stmt) from out more ∙ simp (h.there, reads, over nodes.Defer from to out x))

  pub exact_return_none : {from : ℕ} → HasWord tokens from words.Return → Spells tokens Stmt (one nodes.Return from (from + 1) leaf) from (from + 1) → OfStmt tokens (one nodes.Return from (from + 1) leaf) from (from + 1)
  exact_return_none {from} h whole = begun_by (at_word h) refl whole
      (λ n out enough ends.
      let more : 0 < n = omega arith in
      read_more tokens n (The Stmt) from out more ∙ simp (h.there, ends.there, put_posts nodes.Return from (from + 1) out))

  pub exact_return_values : {x : Forest} {from to : ℕ} → HasWord tokens from words.Return → Spells tokens (Exprs true) x (from + 1) to → Spells tokens Stmt (one nodes.Return from to x) from to → OfExprs tokens true x (from + 1) to → OfStmt tokens (one nodes.Return from to x) from to
  exact_return_values {x} {from} {to} h s whole ih = begun_by (at_word h) refl whole
      (λ n out enough ends.
      let within = within_word h in
      let more : 0 < n = omega arith in
      let no_end = failing ends_stmt expr_no_end (starts tokens s) in
      let reads = exprs_whole tokens ih (after_stop tokens true (by_test stops stmt_stops ends)) (apart (kinds.Mark marks.Comma) ends refl) (n - 1) out (omega arith) in
      read_more tokens n (The Stmt) from out more ∙ simp (h.there, no_end.there, reads, over nodes.Return from to out x))

  pub exact_no_label : {from : ℕ} → Exact tokens MaybeLabel leaf from from
  exact_no_label {from} = λ n out enough ends.
      let more : 0 < n = omega arith in
      let name = apart kinds.Name ends refl in
      read_more tokens n (The MaybeLabel) from out more ∙ simp (name.is, append-nil out)

  pub exact_a_label : {from : ℕ} → HasAt tokens from kinds.Name → Exact tokens MaybeLabel (one nodes.LabelUse from (from + 1) leaf) from (from + 1)
  exact_a_label {from} h = λ n out enough ends.
      let more : 0 < n = omega arith in
      read_more tokens n (The MaybeLabel) from out more ∙ simp (h.there, put_posts nodes.LabelUse from (from + 1) out)

  pub exact_break_stmt : {x : Forest} {from to : ℕ} → HasWord tokens from words.Break → Spells tokens MaybeLabel x (from + 1) to → Spells tokens Stmt (one nodes.Break from to x) from to → Exact tokens MaybeLabel x (from + 1) to → OfStmt tokens (one nodes.Break from to x) from to
  exact_break_stmt {x} {from} {to} h s whole ih = begun_by (at_word h) refl whole
      (λ n out enough ends.
      let within = within_word h in
      let more : 0 < n = omega arith in
      let reads = ih (n - 1) out (omega arith) ends in
      read_more tokens n (The Stmt) from out more ∙ simp (h.there, reads, over nodes.Break from to out x))

  pub exact_continue_stmt : {x : Forest} {from to : ℕ} → HasWord tokens from words.Continue → Spells tokens MaybeLabel x (from + 1) to → Spells tokens Stmt (one nodes.Continue from to x) from to → Exact tokens MaybeLabel x (from + 1) to → OfStmt tokens (one nodes.Continue from to x) from to
  exact_continue_stmt {x} {from} {to} h s whole ih = begun_by (at_word h) refl whole
      (λ n out enough ends.
      let within = within_word h in
      let more : 0 < n = omega arith in
      let reads = ih (n - 1) out (omega arith) ends in
      read_more tokens n (The Stmt) from out more ∙ simp (h.there, reads, over nodes.Continue from to out x))

  pub exact_goto_stmt : {from : ℕ} → HasWord tokens from words.Goto → HasAt tokens (from + 1) kinds.Name → Spells tokens Stmt (one nodes.Goto from (from + 2) (one nodes.LabelUse (from + 1) (from + 2) leaf)) from (from + 2) → OfStmt tokens (one nodes.Goto from (from + 2) (one nodes.LabelUse (from + 1) (from + 2) leaf)) from (from + 2)
  exact_goto_stmt {from} h i whole = begun_by (at_word h) refl whole
      (λ n out enough ends.
      let more : 0 < n = omega arith in
      let label = one nodes.LabelUse (from + 1) (from + 2) leaf in
      read_more tokens n (The Stmt) from out more ∙ simp (h.there, i.there, put_posts nodes.LabelUse (from + 1) (from + 2) out, over nodes.Goto from (from + 2) out label))

  pub exact_fallthrough_stmt : {from : ℕ} → HasWord tokens from words.Fallthrough → Spells tokens Stmt (one nodes.Fallthrough from (from + 1) leaf) from (from + 1) → OfStmt tokens (one nodes.Fallthrough from (from + 1) leaf) from (from + 1)
  exact_fallthrough_stmt {from} h whole = begun_by (at_word h) refl whole
      (λ n out enough ends.
      let more : 0 < n = omega arith in
      read_more tokens n (The Stmt) from out more ∙ simp (h.there, put_posts nodes.Fallthrough from (from + 1) out))

  pub exact_block_stmt : {x : Forest} {from to : ℕ} → Spells tokens Block x from to → Spells tokens Stmt x from to → Exact tokens Block x from to → OfStmt tokens x from to
  exact_block_stmt {x} {from} {to} s whole ih = begun_by (at_mark (starts tokens s)) refl whole
      (λ n out enough ends.
      let more : 0 < n = omega arith in
      let open_brace = starts tokens s in
      let reads = ih (n - 1) out (omega arith) in
      read_more tokens n (The Stmt) from out more ∙ simp (open_brace.there, reads))

  pub exact_if_stmt : {x : Forest} {from to : ℕ} → Spells tokens If x from to → Spells tokens Stmt x from to → Exact tokens If x from to → OfStmt tokens x from to
  exact_if_stmt {x} {from} {to} s whole ih = begun_by (at_word (starts tokens s)) refl whole
      (λ n out enough ends.
      let more : 0 < n = omega arith in
      let word = starts tokens s in
      let reads = ih [] (n - 1) out (omega arith) ends in
      read_more tokens n (The Stmt) from out more ∙ simp (word.there, reads))
