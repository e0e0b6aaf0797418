-- Simple statements that are spelled are read, and as the first statement of a head.
use Rattle.std.proofs.Common.{◌≡◌, ℕ, ◌+◌, ◌-◌, ◌<◌, ◌≤◌, List, ◌++◌, length, Bool, true, false, ◌&&◌, Option, Some, refl, sym, ap, ◌∙◌, subst, ⊎_elim, arith, length-append}
use Rattle.std.specs.Prelude.{◌==◌, ◌⊎◌}
use Rattle.std.proofs.Math.Bool.{and-false}
use Rattle.std.proofs.lemmas.Bool.{false≢true}
use Rattle.argot_tree.specs.declared.keyword.Keyword.TheVariants as words
use Rattle.argot_tree.specs.declared.mark.Mark.TheVariants as marks
use Rattle.argot_tree.specs.declared.node_kind.NodeKind.TheVariants as nodes
use Rattle.argot_tree.specs.declared.token.TokenKind.{TokenKind}
use Rattle.argot_tree.specs.declared.token.TokenKind.TheVariants as kinds
use Rattle.argot_tree.specs.declared.token.Token.{Token}
use Rattle.argot_tree.specs.Forests.{Forest, leaf, beside, one}
use Rattle.std.specs.Prelude.{not}
use Rattle.argot_tree.specs.TokensAt.{kind_at, HasAt, HasMark, Passes, is_semicolon, is_op_assign}
use Rattle.argot_tree.specs.Grammar.{Spells, Level, Exprs, Names, Simple, last_expr, expr_stmt, send, increment, decrement, assign, op_assign, define, one_expr, last_name, one_name}
use Rattle.argot_parse_reader.specs.declared.post.Post.{Post}
use Rattle.argot_parse_reader.specs.Posts.{posts}
use Rattle.argot_parse_reader.specs.Rooms.{room}
use Rattle.argot_parse_reader.specs.Reading.{The, is_at, is_mark, is_kind, kind_number}
use Rattle.argot_parse_reader.specs.StatementReader.{defines, guards, is_range, ends_stmt, begins_assign, labels, opening_by}
use Rattle.argot_parse_reader.specs.Reader.{read}
use Rattle.argot_parse_reader.proofs.Steps.{read_more}
use Rattle.argot_parse_reader.proofs.PostLaws.{closed_posts}
use Rattle.argot_parse_reader.proofs.Exact.Nodes.{over, over_two}
use Rattle.argot_parse_reader.proofs.Exact.Ahead.{ahead}
use Rattle.argot_parse_reader.proofs.Exact.Starts.{starts}
use Rattle.argot_parse_reader.proofs.Exact.Tokens.{Not, other, apart, failing, stops, follows, ends_simple, begins_expr, goes_behind, at_mark, by_mark, by_test, within_mark, within_pass}
use Rattle.argot_parse_reader.proofs.Exact.NameRuns.{names_end}
use Rattle.argot_parse_reader.proofs.Exact.Levels.{level_gets, level_after, after, after_stop}
use Rattle.argot_parse_reader.proofs.Exact.Elements.{exprs_whole}
use Rattle.argot_parse_reader.proofs.Exact.Seconds.{defines_not, second_not}
use Rattle.argot_parse_reader.proofs.Exact.Claims.{Gets, After, Defines, OfLevel, OfExprs, OfSimple, Exact}

pub stmt_stops : (o : Option TokenKind) → ends_stmt o ≡ true → stops o ≡ true
stmt_stops (Some kinds.Inserted) h = refl
stmt_stops (Some (kinds.Mark marks.Semicolon)) h = refl
stmt_stops (Some (kinds.Mark marks.CloseBrace)) h = refl
stmt_stops _ h = absurd (false≢true h)

pub simple_follows : (bare : Bool) (o : Option TokenKind) → ends_simple bare o ≡ true → follows bare o ≡ true
simple_follows bare (Some (kinds.Mark marks.OpenBrace)) h = h
simple_follows bare (Some kinds.Inserted) h = refl
simple_follows bare (Some (kinds.Mark marks.Semicolon)) h = refl
simple_follows bare (Some (kinds.Mark marks.CloseBrace)) h = refl
simple_follows bare _ h = absurd (false≢true h)

simple_no_assign : (bare : Bool) (o : Option TokenKind) → ends_simple bare o ≡ true → begins_assign o ≡ false
simple_no_assign bare (Some (kinds.Mark marks.OpenBrace)) h = refl
simple_no_assign bare (Some kinds.Inserted) h = refl
simple_no_assign bare (Some (kinds.Mark marks.Semicolon)) h = refl
simple_no_assign bare (Some (kinds.Mark marks.CloseBrace)) h = refl
simple_no_assign bare _ h = absurd (false≢true h)

pub semicolon_simple : (bare : Bool) (o : Option TokenKind) → is_semicolon o ≡ true → ends_simple bare o ≡ true
semicolon_simple bare (Some kinds.Inserted) h = refl
semicolon_simple bare (Some (kinds.Mark marks.Semicolon)) h = refl
semicolon_simple bare _ h = absurd (false≢true h)

semicolon_no_assign : (o : Option TokenKind) → is_semicolon o ≡ true → begins_assign o ≡ false
semicolon_no_assign (Some kinds.Inserted) h = refl
semicolon_no_assign (Some (kinds.Mark marks.Semicolon)) h = refl
semicolon_no_assign _ h = absurd (false≢true h)

op_begins : (o : Option TokenKind) → is_op_assign o ≡ true → begins_assign o ≡ true
op_begins (Some (kinds.Mark marks.Comma)) h = refl
op_begins (Some (kinds.Mark marks.Assign)) h = refl
op_begins _ h = h

op_stops : (o : Option TokenKind) → is_op_assign o ≡ true → stops o ≡ true
op_stops (Some (kinds.Mark marks.PlusAssign)) h = refl
op_stops (Some (kinds.Mark marks.MinusAssign)) h = refl
op_stops (Some (kinds.Mark marks.StarAssign)) h = refl
op_stops (Some (kinds.Mark marks.SlashAssign)) h = refl
op_stops (Some (kinds.Mark marks.PercentAssign)) h = refl
op_stops (Some (kinds.Mark marks.AndAssign)) h = refl
op_stops (Some (kinds.Mark marks.OrAssign)) h = refl
op_stops (Some (kinds.Mark marks.XorAssign)) h = refl
op_stops (Some (kinds.Mark marks.ShiftLeftAssign)) h = refl
op_stops (Some (kinds.Mark marks.ShiftRightAssign)) h = refl
op_stops (Some (kinds.Mark marks.AndNotAssign)) h = refl
op_stops _ h = absurd (false≢true h)

pub expr_no_range : (o : Option TokenKind) → begins_expr o ≡ true → is_range o ≡ false
expr_no_range (Some (kinds.Word words.Range)) h = absurd (false≢true h)
expr_no_range _ h = refl

-- what stands behind the first expression of a statement
abbrev is_step : Option TokenKind → Bool
is_step (Some (kinds.Mark marks.Arrow)) = true
is_step (Some (kinds.Mark marks.Increment)) = true
is_step (Some (kinds.Mark marks.Decrement)) = true
is_step _ = false

abbrev is_comma : Option TokenKind → Bool
is_comma (Some (kinds.Mark marks.Comma)) = true
is_comma _ = false

module _ (tokens : List Token) where
  -- no definition stands where `:=` isn't behind the expressions
  undefined : {b : Bool} {x : Forest} {from to : ℕ} → Spells tokens (Exprs b) x from to → Not tokens to (kinds.Mark marks.Comma) → Not tokens to (kinds.Mark marks.Define) → defines tokens from ≡ false
  undefined s comma no_define = defines_not tokens s comma (simp no_define.is)

  pub undefined_mark : {b : Bool} {x : Forest} {from to : ℕ} {kind : TokenKind} → Spells tokens (Exprs b) x from to → HasAt tokens to kind → (kind_number kind == kind_number (kinds.Mark marks.Comma)) ≡ false → (kind_number kind == kind_number (kinds.Mark marks.Define)) ≡ false → defines tokens from ≡ false
  undefined_mark s h f g = undefined s (other (kinds.Mark marks.Comma) h f) (other (kinds.Mark marks.Define) h g)

  abbrev Read : Bool → Forest → ℕ → ℕ → Type 0
  Read b x from to = (n : ℕ) (out : List Post) → room tokens from 6 ≤ n → Passes tokens (ends_simple b) to → Gets tokens n (The (Simple b)) from out x to

  abbrev Opens : Forest → ℕ → ℕ → Type 0
  Opens x from to = (n : ℕ) (out : List Post) → room tokens from 6 ≤ n → Passes tokens is_semicolon to → opening_by tokens (read tokens n) from out ≡ Some (to, out ++ posts x)

  abbrev DefinesOne : Forest → ℕ → ℕ → Type 0
  DefinesOne x from to = (n : ℕ) (out : List Post) → HasAt tokens from kinds.Name → HasMark tokens (from + 1) marks.Define → room tokens from 6 ≤ n → Passes tokens is_semicolon to → Defines tokens n out x from to

  -- a statement of either kind
  simply : {b : Bool} {x : Forest} {from to : ℕ} → Read b x from to → (b ≡ false → Opens x from to) → (b ≡ false → DefinesOne x from to) → OfSimple tokens b x from to
  simply r o d = record { gets = r; opens = λ n out bare enough c. o bare n out enough c; defines = λ n out bare h i enough c. d bare n out h i enough c }

  -- one that is no definition
  plainly : {b : Bool} {x : Forest} {from to : ℕ} → Read b x from to → (b ≡ false → Opens x from to) → (Passes tokens is_semicolon to → (is_at tokens from kinds.Name && is_mark tokens (from + 1) marks.Define) ≡ false) → OfSimple tokens b x from to
  plainly {b} {x} {from} {to} r o e = record {
    gets = r;
    opens = λ n out bare enough c. o bare n out enough c;
    defines = λ n out bare h i enough c. absurd (false≢true (sym (e c) ∙ simp (h.there, i.there)));
  }

  ends_simply : {to : ℕ} (b : Bool) → Passes tokens is_semicolon to → Passes tokens (ends_simple b) to
  ends_simply b c = by_test (ends_simple b) (semicolon_simple b) c

  after_simple : {to : ℕ} (b : Bool) → Passes tokens (ends_simple b) to → After tokens b to
  after_simple b ends = after tokens b (by_test (follows b) (simple_follows b) ends)

  after_semicolon : {to : ℕ} (b : Bool) → Passes tokens is_semicolon to → After tokens b to
  after_semicolon b c = after_simple b (ends_simply b c)

  -- what isn't behind expressions, and no comma, isn't behind their first name
  exprs_second : {test : Option TokenKind → Bool} {b : Bool} {x : Forest} {from to : ℕ} (kind : TokenKind) → Spells tokens (Exprs b) x from to → Passes tokens test to → test (Some kind) ≡ false → is_comma (Some kind) ≡ false → goes_behind (Some kind) ≡ false → (is_at tokens from kinds.Name && is_at tokens (from + 1) kind) ≡ false
  exprs_second kind (last_expr s) h f c g = second_not tokens kind s h f g
  exprs_second kind (one_expr s d t) h f c g = second_not tokens {test = is_comma} kind s (by_mark is_comma d refl) c g

  read_expr : {b : Bool} {x : Forest} {from to : ℕ} → Spells tokens (Level 1 b) x from to → OfLevel tokens 1 b x from to → Read b (one nodes.ExprStmt from to x) from to
  read_expr {b} {x} {from} {to} s ih = λ n out enough ends.
      let more : 0 < n = omega arith in
      let none = undefined (last_expr s) (apart (kinds.Mark marks.Comma) ends refl) (apart (kinds.Mark marks.Define) ends refl) in
      let reads = level_after tokens s ih (after_simple b ends) (n - 1) out (omega arith) in
      let arrow = apart (kinds.Mark marks.Arrow) ends refl in
      let up = apart (kinds.Mark marks.Increment) ends refl in
      let down = apart (kinds.Mark marks.Decrement) ends refl in
      let no_assign = failing begins_assign (simple_no_assign b) ends in
      read_more tokens n (The (Simple b)) from out more ∙ simp (none, reads, arrow.is, up.is, down.is, no_assign.there, over nodes.ExprStmt from to out x)

  open_expr : {x : Forest} {from to : ℕ} → Spells tokens (Level 1 false) x from to → OfLevel tokens 1 false x from to → Opens (one nodes.ExprStmt from to x) from to
  open_expr {x} {from} {to} s ih = λ n out enough c.
      let none = undefined (last_expr s) (apart (kinds.Mark marks.Comma) c refl) (apart (kinds.Mark marks.Define) c refl) in
      let reads = level_after tokens s ih (after_semicolon false c) n out (omega arith) in
      let arrow = apart (kinds.Mark marks.Arrow) c refl in
      let up = apart (kinds.Mark marks.Increment) c refl in
      let down = apart (kinds.Mark marks.Decrement) c refl in
      let open_brace = apart (kinds.Mark marks.OpenBrace) c refl in
      let dot = apart (kinds.Mark marks.Dot) c refl in
      let no_define = apart (kinds.Mark marks.Define) c refl in
      let no_assign = failing begins_assign semicolon_no_assign c in
      simp (none, reads, open_brace.is, dot.is, no_assign.there, no_define.is, arrow.is, up.is, down.is, c.there, over nodes.ExprStmt from to out x)

  pub exact_expr_stmt : {b : Bool} {x : Forest} {from to : ℕ} → Spells tokens (Level 1 b) x from to → OfLevel tokens 1 b x from to → OfSimple tokens b (one nodes.ExprStmt from to x) from to
  exact_expr_stmt {b = true} s ih = plainly (read_expr s ih) (λ e. absurd (false≢true (sym e))) (λ c. second_not tokens (kinds.Mark marks.Define) s c refl refl)
  exact_expr_stmt {b = false} s ih = plainly (read_expr s ih) (λ e. open_expr s ih) (λ c. second_not tokens (kinds.Mark marks.Define) s c refl refl)

  read_send : {b : Bool} {x y : Forest} {from mid to : ℕ} → Spells tokens (Level 1 b) x from mid → HasMark tokens mid marks.Arrow → Spells tokens (Level 1 b) y (mid + 1) to → OfLevel tokens 1 b x from mid → OfLevel tokens 1 b y (mid + 1) to → Read b (one nodes.Send from to (beside x y)) from to
  read_send {b} {x} {y} {from} {mid} {to} s h t ihx ihy = λ n out enough ends.
      let within = within_mark h in
      let forward = ahead tokens s in
      let more : 0 < n = omega arith in
      let none = undefined_mark (last_expr s) (at_mark h) refl refl in
      let reads = level_gets tokens s ihx (by_mark (follows b) h refl) (n - 1) out (omega arith) in
      let then = level_after tokens t ihy (after_simple b ends) (n - 1) (out ++ posts x) (omega arith) in
      read_more tokens n (The (Simple b)) from out more ∙ simp (none, reads, h.there, then, over_two nodes.Send from to out x y)

  open_send : {x y : Forest} {from mid to : ℕ} → Spells tokens (Level 1 false) x from mid → HasMark tokens mid marks.Arrow → Spells tokens (Level 1 false) y (mid + 1) to → OfLevel tokens 1 false x from mid → OfLevel tokens 1 false y (mid + 1) to → Opens (one nodes.Send from to (beside x y)) from to
  open_send {x} {y} {from} {mid} {to} s h t ihx ihy = λ n out enough c.
      let within = within_mark h in
      let forward = ahead tokens s in
      let none = undefined_mark (last_expr s) (at_mark h) refl refl in
      let reads = level_gets tokens s ihx (by_mark (follows false) h refl) n out (omega arith) in
      let then = level_after tokens t ihy (after_semicolon false c) n (out ++ posts x) (omega arith) in
      simp (none, reads, h.there, then, c.there, over_two nodes.Send from to out x y)

  pub exact_send : {b : Bool} {x y : Forest} {from mid to : ℕ} → Spells tokens (Level 1 b) x from mid → HasMark tokens mid marks.Arrow → Spells tokens (Level 1 b) y (mid + 1) to → OfLevel tokens 1 b x from mid → OfLevel tokens 1 b y (mid + 1) to → OfSimple tokens b (one nodes.Send from to (beside x y)) from to
  exact_send {b = true} s h t ihx ihy = plainly (read_send s h t ihx ihy) (λ e. absurd (false≢true (sym e))) (λ c. second_not tokens {test = is_step} (kinds.Mark marks.Define) s (by_mark is_step h refl) refl refl)
  exact_send {b = false} s h t ihx ihy = plainly (read_send s h t ihx ihy) (λ e. open_send s h t ihx ihy) (λ c. second_not tokens {test = is_step} (kinds.Mark marks.Define) s (by_mark is_step h refl) refl refl)

  read_increment : {b : Bool} {x : Forest} {from to : ℕ} → Spells tokens (Level 1 b) x from to → HasMark tokens to marks.Increment → OfLevel tokens 1 b x from to → Read b (one nodes.Increment from (to + 1) x) from (to + 1)
  read_increment {b} {x} {from} {to} s h ih = λ n out enough ends.
      let more : 0 < n = omega arith in
      let none = undefined_mark (last_expr s) (at_mark h) refl refl in
      let reads = level_gets tokens s ih (by_mark (follows b) h refl) (n - 1) out (omega arith) in
      read_more tokens n (The (Simple b)) from out more ∙ simp (none, reads, h.there, over nodes.Increment from (to + 1) out x)

  open_increment : {x : Forest} {from to : ℕ} → Spells tokens (Level 1 false) x from to → HasMark tokens to marks.Increment → OfLevel tokens 1 false x from to → Opens (one nodes.Increment from (to + 1) x) from (to + 1)
  open_increment {x} {from} {to} s h ih = λ n out enough c.
      let none = undefined_mark (last_expr s) (at_mark h) refl refl in
      let reads = level_gets tokens s ih (by_mark (follows false) h refl) n out (omega arith) in
      simp (none, reads, h.there, c.there, over nodes.Increment from (to + 1) out x)

  pub exact_increment : {b : Bool} {x : Forest} {from to : ℕ} → Spells tokens (Level 1 b) x from to → HasMark tokens to marks.Increment → OfLevel tokens 1 b x from to → OfSimple tokens b (one nodes.Increment from (to + 1) x) from (to + 1)
  exact_increment {b = true} s h ih = plainly (read_increment s h ih) (λ e. absurd (false≢true (sym e))) (λ c. second_not tokens {test = is_step} (kinds.Mark marks.Define) s (by_mark is_step h refl) refl refl)
  exact_increment {b = false} s h ih = plainly (read_increment s h ih) (λ e. open_increment s h ih) (λ c. second_not tokens {test = is_step} (kinds.Mark marks.Define) s (by_mark is_step h refl) refl refl)

  read_decrement : {b : Bool} {x : Forest} {from to : ℕ} → Spells tokens (Level 1 b) x from to → HasMark tokens to marks.Decrement → OfLevel tokens 1 b x from to → Read b (one nodes.Decrement from (to + 1) x) from (to + 1)
  read_decrement {b} {x} {from} {to} s h ih = λ n out enough ends.
      let more : 0 < n = omega arith in
      let none = undefined_mark (last_expr s) (at_mark h) refl refl in
      let reads = level_gets tokens s ih (by_mark (follows b) h refl) (n - 1) out (omega arith) in
      read_more tokens n (The (Simple b)) from out more ∙ simp (none, reads, h.there, over nodes.Decrement from (to + 1) out x)

  open_decrement : {x : Forest} {from to : ℕ} → Spells tokens (Level 1 false) x from to → HasMark tokens to marks.Decrement → OfLevel tokens 1 false x from to → Opens (one nodes.Decrement from (to + 1) x) from (to + 1)
  open_decrement {x} {from} {to} s h ih = λ n out enough c.
      let none = undefined_mark (last_expr s) (at_mark h) refl refl in
      let reads = level_gets tokens s ih (by_mark (follows false) h refl) n out (omega arith) in
      simp (none, reads, h.there, c.there, over nodes.Decrement from (to + 1) out x)

  pub exact_decrement : {b : Bool} {x : Forest} {from to : ℕ} → Spells tokens (Level 1 b) x from to → HasMark tokens to marks.Decrement → OfLevel tokens 1 b x from to → OfSimple tokens b (one nodes.Decrement from (to + 1) x) from (to + 1)
  exact_decrement {b = true} s h ih = plainly (read_decrement s h ih) (λ e. absurd (false≢true (sym e))) (λ c. second_not tokens {test = is_step} (kinds.Mark marks.Define) s (by_mark is_step h refl) refl refl)
  exact_decrement {b = false} s h ih = plainly (read_decrement s h ih) (λ e. open_decrement s h ih) (λ c. second_not tokens {test = is_step} (kinds.Mark marks.Define) s (by_mark is_step h refl) refl refl)

  -- behind the first of the left sides an assignment goes on
  assigns : {from to : ℕ} → Passes tokens begins_assign to → (from ≡ to) ⊎ HasMark tokens from marks.Comma → Passes tokens begins_assign from
  assigns {from} {to} h then = ⊎_elim (λ e. subst (λ i. Passes tokens begins_assign i) (sym e) h) (λ c. by_mark begins_assign c refl) then

  read_assign : {b : Bool} {x y : Forest} {from mid to : ℕ} → Spells tokens (Exprs b) x from mid → HasMark tokens mid marks.Assign → Spells tokens (Exprs b) y (mid + 1) to → OfExprs tokens b x from mid → OfExprs tokens b y (mid + 1) to → Read b (one nodes.Assign from to (beside (one nodes.Exprs from mid x) (one nodes.Exprs (mid + 1) to y))) from to
  read_assign {b} {x} {y} {from} {mid} {to} s h t ihx ihy = λ n out enough ends.
      let within = within_mark h in
      let forward = ahead tokens s in
      let more : 0 < n = omega arith in
      let none = undefined s (other (kinds.Mark marks.Comma) (at_mark h) refl) (other (kinds.Mark marks.Define) (at_mark h) refl) in
      let r = ihx (n - 1) out (omega arith) (after_stop tokens b (by_mark stops h refl)) (other (kinds.Mark marks.Comma) (at_mark h) refl) in
      let reads = r.reads in
      let goes = r.goes in
      let first = assigns (by_mark begins_assign h refl) r.then in
      let arrow = apart (kinds.Mark marks.Arrow) first refl in
      let up = apart (kinds.Mark marks.Increment) first refl in
      let down = apart (kinds.Mark marks.Decrement) first refl in
      let left = one nodes.Exprs from mid x in
      let right = one nodes.Exprs (mid + 1) to y in
      let then = exprs_whole tokens ihy (after_simple b ends) (apart (kinds.Mark marks.Comma) ends refl) (n - 1) (out ++ posts left) (omega arith) in
      read_more tokens n (The (Simple b)) from out more ∙ simp (none, reads, arrow.is, up.is, down.is, first.there, goes, h.there, over nodes.Exprs from mid out x, then, over nodes.Exprs (mid + 1) to (out ++ posts left) y, over_two nodes.Assign from to out left right)

  open_assign : {x y : Forest} {from mid to : ℕ} → Spells tokens (Exprs false) x from mid → HasMark tokens mid marks.Assign → Spells tokens (Exprs false) y (mid + 1) to → OfExprs tokens false x from mid → OfExprs tokens false y (mid + 1) to → Opens (one nodes.Assign from to (beside (one nodes.Exprs from mid x) (one nodes.Exprs (mid + 1) to y))) from to
  open_assign {x} {y} {from} {mid} {to} s h t ihx ihy = λ n out enough c.
      let within = within_mark h in
      let forward = ahead tokens s in
      let none = undefined s (other (kinds.Mark marks.Comma) (at_mark h) refl) (other (kinds.Mark marks.Define) (at_mark h) refl) in
      let r = ihx n out (omega arith) (after_stop tokens false (by_mark stops h refl)) (other (kinds.Mark marks.Comma) (at_mark h) refl) in
      let reads = r.reads in
      let goes = r.goes in
      let first = assigns (by_mark begins_assign h refl) r.then in
      let open_brace = apart (kinds.Mark marks.OpenBrace) first refl in
      let dot = apart (kinds.Mark marks.Dot) first refl in
      let no_range = failing is_range expr_no_range (starts tokens t) in
      let left = one nodes.Exprs from mid x in
      let right = one nodes.Exprs (mid + 1) to y in
      let then = exprs_whole tokens ihy (after_semicolon false c) (apart (kinds.Mark marks.Comma) c refl) n (out ++ posts left) (omega arith) in
      simp (none, reads, open_brace.is, dot.is, first.there, goes, no_range.there, h.there, over nodes.Exprs from mid out x, then, over nodes.Exprs (mid + 1) to (out ++ posts left) y, over_two nodes.Assign from to out left right, c.there)

  pub exact_assign : {b : Bool} {x y : Forest} {from mid to : ℕ} → Spells tokens (Exprs b) x from mid → HasMark tokens mid marks.Assign → Spells tokens (Exprs b) y (mid + 1) to → OfExprs tokens b x from mid → OfExprs tokens b y (mid + 1) to → OfSimple tokens b (one nodes.Assign from to (beside (one nodes.Exprs from mid x) (one nodes.Exprs (mid + 1) to y))) from to
  exact_assign {b = true} s h t ihx ihy = plainly (read_assign s h t ihx ihy) (λ e. absurd (false≢true (sym e))) (λ c. exprs_second {test = begins_assign} (kinds.Mark marks.Define) s (by_mark begins_assign h refl) refl refl refl)
  exact_assign {b = false} s h t ihx ihy = plainly (read_assign s h t ihx ihy) (λ e. open_assign s h t ihx ihy) (λ c. exprs_second {test = begins_assign} (kinds.Mark marks.Define) s (by_mark begins_assign h refl) refl refl refl)

  read_op_assign : {b : Bool} {x y : Forest} {from mid to : ℕ} → Spells tokens (Exprs b) x from mid → Passes tokens is_op_assign mid → Spells tokens (Exprs b) y (mid + 1) to → OfExprs tokens b x from mid → OfExprs tokens b y (mid + 1) to → Read b (one nodes.OpAssign from to (beside (one nodes.Exprs from mid x) (one nodes.Exprs (mid + 1) to y))) from to
  read_op_assign {b} {x} {y} {from} {mid} {to} s h t ihx ihy = λ n out enough ends.
      let within = within_pass h refl in
      let forward = ahead tokens s in
      let more : 0 < n = omega arith in
      let none = undefined s (apart (kinds.Mark marks.Comma) h refl) (apart (kinds.Mark marks.Define) h refl) in
      let r = ihx (n - 1) out (omega arith) (after_stop tokens b (by_test stops op_stops h)) (apart (kinds.Mark marks.Comma) h refl) in
      let reads = r.reads in
      let goes = r.goes in
      let first = assigns (by_test begins_assign op_begins h) r.then in
      let arrow = apart (kinds.Mark marks.Arrow) first refl in
      let up = apart (kinds.Mark marks.Increment) first refl in
      let down = apart (kinds.Mark marks.Decrement) first refl in
      let no_equals = apart (kinds.Mark marks.Assign) h refl in
      let left = one nodes.Exprs from mid x in
      let right = one nodes.Exprs (mid + 1) to y in
      let then = exprs_whole tokens ihy (after_simple b ends) (apart (kinds.Mark marks.Comma) ends refl) (n - 1) (out ++ posts left) (omega arith) in
      read_more tokens n (The (Simple b)) from out more ∙ simp (none, reads, arrow.is, up.is, down.is, first.there, goes, no_equals.is, h.there, over nodes.Exprs from mid out x, then, over nodes.Exprs (mid + 1) to (out ++ posts left) y, over_two nodes.OpAssign from to out left right)

  open_op_assign : {x y : Forest} {from mid to : ℕ} → Spells tokens (Exprs false) x from mid → Passes tokens is_op_assign mid → Spells tokens (Exprs false) y (mid + 1) to → OfExprs tokens false x from mid → OfExprs tokens false y (mid + 1) to → Opens (one nodes.OpAssign from to (beside (one nodes.Exprs from mid x) (one nodes.Exprs (mid + 1) to y))) from to
  open_op_assign {x} {y} {from} {mid} {to} s h t ihx ihy = λ n out enough c.
      let within = within_pass h refl in
      let forward = ahead tokens s in
      let none = undefined s (apart (kinds.Mark marks.Comma) h refl) (apart (kinds.Mark marks.Define) h refl) in
      let r = ihx n out (omega arith) (after_stop tokens false (by_test stops op_stops h)) (apart (kinds.Mark marks.Comma) h refl) in
      let reads = r.reads in
      let goes = r.goes in
      let first = assigns (by_test begins_assign op_begins h) r.then in
      let open_brace = apart (kinds.Mark marks.OpenBrace) first refl in
      let dot = apart (kinds.Mark marks.Dot) first refl in
      let no_equals = apart (kinds.Mark marks.Assign) h refl in
      let no_define = apart (kinds.Mark marks.Define) h refl in
      let no_range = failing is_range expr_no_range (starts tokens t) in
      let left = one nodes.Exprs from mid x in
      let right = one nodes.Exprs (mid + 1) to y in
      let then = exprs_whole tokens ihy (after_semicolon false c) (apart (kinds.Mark marks.Comma) c refl) n (out ++ posts left) (omega arith) in
      simp (none, reads, open_brace.is, dot.is, first.there, goes, no_range.there, no_define.is, no_equals.is, h.there, over nodes.Exprs from mid out x, then, over nodes.Exprs (mid + 1) to (out ++ posts left) y, over_two nodes.OpAssign from to out left right, c.there)

  pub exact_op_assign : {b : Bool} {x y : Forest} {from mid to : ℕ} → Spells tokens (Exprs b) x from mid → Passes tokens is_op_assign mid → Spells tokens (Exprs b) y (mid + 1) to → OfExprs tokens b x from mid → OfExprs tokens b y (mid + 1) to → OfSimple tokens b (one nodes.OpAssign from to (beside (one nodes.Exprs from mid x) (one nodes.Exprs (mid + 1) to y))) from to
  exact_op_assign {b = true} s h t ihx ihy = plainly (read_op_assign s h t ihx ihy) (λ e. absurd (false≢true (sym e))) (λ c. exprs_second (kinds.Mark marks.Define) s h refl refl refl)
  exact_op_assign {b = false} s h t ihx ihy = plainly (read_op_assign s h t ihx ihy) (λ e. open_op_assign s h t ihx ihy) (λ c. exprs_second (kinds.Mark marks.Define) s h refl refl refl)

  -- names and `:=` stand at the front of a definition
  defined : {b : Bool} {x y : Forest} {from mid to : ℕ} → Spells tokens Names x from mid → HasMark tokens mid marks.Define → Spells tokens (Exprs b) y (mid + 1) to → defines tokens from ≡ true
  defined {b} {x} {y} {from} {mid} {to} s h t =
      let name = starts tokens s in
      let no_range = failing is_range expr_no_range (starts tokens t) in
      ap (λ i. is_at tokens from kinds.Name && (is_mark tokens i marks.Define && not (is_range (kind_at tokens (i + 1))))) (names_end tokens s (other (kinds.Mark marks.Comma) (at_mark h) refl)) ∙ simp (name.there, h.there, no_range.there)

  read_define : {b : Bool} {x y : Forest} {from mid to : ℕ} → Spells tokens Names x from mid → HasMark tokens mid marks.Define → Spells tokens (Exprs b) y (mid + 1) to → Exact tokens Names x from mid → OfExprs tokens b y (mid + 1) to → Read b (one nodes.Define from to (beside (one nodes.Names from mid x) (one nodes.Exprs (mid + 1) to y))) from to
  read_define {b} {x} {y} {from} {mid} {to} s h t ihx ihy = λ n out enough ends.
      let within = within_mark h in
      let forward = ahead tokens s in
      let more : 0 < n = omega arith in
      let reads = ihx (n - 1) out (omega arith) (other (kinds.Mark marks.Comma) (at_mark h) refl) in
      let names = one nodes.Names from mid x in
      let values = one nodes.Exprs (mid + 1) to y in
      let then = exprs_whole tokens ihy (after_simple b ends) (apart (kinds.Mark marks.Comma) ends refl) (n - 1) (out ++ posts names) (omega arith) in
      read_more tokens n (The (Simple b)) from out more ∙ simp (defined s h t) (simp (reads, over nodes.Names from mid out x, h.there, then, over nodes.Exprs (mid + 1) to (out ++ posts names) y, over_two nodes.Define from to out names values))

  open_define : {x y : Forest} {from mid to : ℕ} → Spells tokens Names x from mid → HasMark tokens mid marks.Define → Spells tokens (Exprs false) y (mid + 1) to → Exact tokens Names x from mid → OfExprs tokens false y (mid + 1) to → Opens (one nodes.Define from to (beside (one nodes.Names from mid x) (one nodes.Exprs (mid + 1) to y))) from to
  open_define {x} {y} {from} {mid} {to} s h t ihx ihy = λ n out enough c.
      let reads = read_define s h t ihx ihy n out enough (ends_simply false c) in
      simp (defined s h t) (simp (reads, c.there))

  -- behind one name and `:=`
  unguarded : {at to : ℕ} → Passes tokens is_semicolon to → (at ≡ to) ⊎ HasMark tokens at marks.Comma → guards tokens at ≡ false
  unguarded {at} {to} c then =
      let dot : Not tokens at (kinds.Mark marks.Dot) = ⊎_elim (λ e. subst (λ i. Not tokens i (kinds.Mark marks.Dot)) (sym e) (apart (kinds.Mark marks.Dot) c refl)) (λ d. other (kinds.Mark marks.Dot) (at_mark d) refl) then in
      simp dot.is

  define_last : (from to : ℕ) (y : Forest) → HasMark tokens (from + 1) marks.Define → OfExprs tokens false y (from + 2) to → DefinesOne (one nodes.Define from to (beside (one nodes.Names from (from + 1) (one nodes.DeclName from (from + 1) leaf)) (one nodes.Exprs (from + 2) to y))) from to
  define_last from to y h ihy n out name mark enough c =
      let within = within_mark h in
      let names = one nodes.Names from (from + 1) (one nodes.DeclName from (from + 1) leaf) in
      let values = one nodes.Exprs (from + 2) to y in
      let r = ihy n (out ++ posts names) (omega arith) (after_semicolon false c) (apart (kinds.Mark marks.Comma) c refl) in
      let goes = r.goes in
      let long : length out + 2 ≡ length (out ++ posts names) = omega (arith, length-append out (posts names)) in
      record {
        first = r.first;
        reads = r.reads;
        unguarded = unguarded c r.then;
        goes = simp (goes, closed_posts nodes.Exprs (from + 2) to (length out + 2) (out ++ posts names) ((out ++ posts names) ++ posts y) y refl long, over_two nodes.Define from to out names values);
      }

  define_one : {x y : Forest} {from mid to : ℕ} → Spells tokens Names x from mid → HasMark tokens mid marks.Define → Spells tokens (Exprs false) y (mid + 1) to → OfExprs tokens false y (mid + 1) to → DefinesOne (one nodes.Define from to (beside (one nodes.Names from mid x) (one nodes.Exprs (mid + 1) to y))) from to
  define_one {x} {y} {from} {mid} {to} (last_name i) h t ihy =
      let next : from + 2 ≡ from + 1 + 1 = omega arith in
      let whole : OfExprs tokens false y (from + 1 + 1) to → DefinesOne (one nodes.Define from to (beside (one nodes.Names from (from + 1) (one nodes.DeclName from (from + 1) leaf)) (one nodes.Exprs (from + 1 + 1) to y))) from to =
      subst (λ m. OfExprs tokens false y m to → DefinesOne (one nodes.Define from to (beside (one nodes.Names from (from + 1) (one nodes.DeclName from (from + 1) leaf)) (one nodes.Exprs m to y))) from to) next (define_last from to y h) in
      whole ihy
  define_one {x} {y} {from} {mid} {to} (one_name i d s) h t ihy = λ n out name mark enough c. absurd (false≢true (sym (other (kinds.Mark marks.Define) (at_mark d) refl).is ∙ ap (λ o. is_kind o (kinds.Mark marks.Define)) mark.there))

  pub exact_define : {b : Bool} {x y : Forest} {from mid to : ℕ} → Spells tokens Names x from mid → HasMark tokens mid marks.Define → Spells tokens (Exprs b) y (mid + 1) to → Exact tokens Names x from mid → OfExprs tokens b y (mid + 1) to → OfSimple tokens b (one nodes.Define from to (beside (one nodes.Names from mid x) (one nodes.Exprs (mid + 1) to y))) from to
  exact_define {b = true} s h t ihx ihy = simply (read_define s h t ihx ihy) (λ e. absurd (false≢true (sym e))) (λ e. absurd (false≢true (sym e)))
  exact_define {b = false} s h t ihx ihy = simply (read_define s h t ihx ihy) (λ e. open_define s h t ihx ihy) (λ e. define_one s h t ihy)

  names_unlabelled : {x : Forest} {from to : ℕ} → Spells tokens Names x from to → HasMark tokens to marks.Define → labels tokens from ≡ false
  names_unlabelled (last_name h) d = simp (d.there, and-false)
  names_unlabelled (one_name h c s) d = simp (c.there, and-false)

  -- no label stands before a simple statement
  pub simple_unlabelled : {b : Bool} {x : Forest} {from to : ℕ} → Spells tokens (Simple b) x from to → Passes tokens (ends_simple b) to → labels tokens from ≡ false
  simple_unlabelled (expr_stmt s) ends = second_not tokens (kinds.Mark marks.Colon) s ends refl refl
  simple_unlabelled (send s h t) ends = second_not tokens {test = is_step} (kinds.Mark marks.Colon) s (by_mark is_step h refl) refl refl
  simple_unlabelled (increment s h) ends = second_not tokens {test = is_step} (kinds.Mark marks.Colon) s (by_mark is_step h refl) refl refl
  simple_unlabelled (decrement s h) ends = second_not tokens {test = is_step} (kinds.Mark marks.Colon) s (by_mark is_step h refl) refl refl
  simple_unlabelled (assign s h t) ends = exprs_second {test = begins_assign} (kinds.Mark marks.Colon) s (by_mark begins_assign h refl) refl refl refl
  simple_unlabelled (op_assign s h t) ends = exprs_second (kinds.Mark marks.Colon) s h refl refl refl
  simple_unlabelled (define s h t) ends = names_unlabelled s h
