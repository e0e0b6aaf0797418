-- Expressions of a level and prefixed operands that are spelled are read.
use Rattle.std.proofs.Common.{◌≡◌, ℕ, zero, suc, ◌+◌, ◌-◌, ◌<◌, ◌≤◌, List, ◌++◌, length, Bool, true, false, ◌&&◌, Option, Some, None, refl, sym, ap, ◌∙◌, subst, ⊎_elim, arith}
use Rattle.std.specs.Prelude.{nat_le}
use Rattle.std.proofs.Math.Bool.{and-false}
use Rattle.std.proofs.lemmas.Bool.{cases_Bool, false≢true, and_from, and_left, and_right, le-leb, lt-leb}
use Rattle.argot_tree.specs.declared.mark.Mark.TheVariants as marks
use Rattle.argot_tree.specs.declared.node_kind.NodeKind.{NodeKind}
use Rattle.argot_tree.specs.declared.node_kind.NodeKind.TheVariants as nodes
use Rattle.argot_tree.specs.declared.token.TokenKind.{TokenKind}
use Rattle.argot_tree.specs.declared.token.TokenKind.TheVariants as kinds
use Rattle.argot_tree.specs.declared.token.Token.{Token}
use Rattle.argot_tree.specs.Forests.{Forest, beside, one}
use Rattle.argot_tree.specs.TokensAt.{kind_at, HasMark, HasUnary, Passes, level_of, level_at, unary_of}
use Rattle.argot_tree.specs.Grammar.{Spells, Level, Unary, Primary, Operand, OnlyType, Either, unary}
use Rattle.argot_parse_reader.specs.declared.post.Post.{Post}
use Rattle.argot_parse_reader.specs.Posts.{posts}
use Rattle.argot_parse_reader.specs.Rooms.{room}
use Rattle.argot_parse_reader.specs.Reading.{The, UnaryOr, PrimaryOr, Climb, Suffixes, closed, is_mark}
use Rattle.argot_parse_reader.specs.ExpressionReader.{climbs}
use Rattle.argot_parse_reader.specs.Reader.{read}
use Rattle.argot_parse_reader.proofs.Steps.{read_more}
use Rattle.argot_parse_reader.proofs.TokenTests.{has_mark}
use Rattle.argot_parse_reader.proofs.Exact.Nodes.{over, over_two}
use Rattle.argot_parse_reader.proofs.Roots.{rooted_typed, unary_root, operand_root, only_root}
use Rattle.argot_parse_reader.proofs.Exact.Ahead.{ahead}
use Rattle.argot_parse_reader.proofs.Exact.Starts.{starts}
use Rattle.argot_parse_reader.proofs.Exact.Tokens.{apart, stops, follows, begins_operand, by_test, within_mark, within_pass}
use Rattle.argot_parse_reader.proofs.Exact.Claims.{Gets, NoBrace, Stays, After, OfLevel, OfPrimary, OfOnlyType, Exact}

-- a binary operator
abbrev pub is_operator : Option TokenKind → Bool
is_operator (Some (kinds.Mark marks.Star)) = true
is_operator (Some (kinds.Mark marks.Slash)) = true
is_operator (Some (kinds.Mark marks.Percent)) = true
is_operator (Some (kinds.Mark marks.ShiftLeft)) = true
is_operator (Some (kinds.Mark marks.ShiftRight)) = true
is_operator (Some (kinds.Mark marks.And)) = true
is_operator (Some (kinds.Mark marks.AndNot)) = true
is_operator (Some (kinds.Mark marks.Plus)) = true
is_operator (Some (kinds.Mark marks.Minus)) = true
is_operator (Some (kinds.Mark marks.Or)) = true
is_operator (Some (kinds.Mark marks.Xor)) = true
is_operator (Some (kinds.Mark marks.Equal)) = true
is_operator (Some (kinds.Mark marks.NotEqual)) = true
is_operator (Some (kinds.Mark marks.Less)) = true
is_operator (Some (kinds.Mark marks.LessEqual)) = true
is_operator (Some (kinds.Mark marks.Greater)) = true
is_operator (Some (kinds.Mark marks.GreaterEqual)) = true
is_operator (Some (kinds.Mark marks.LogicalAnd)) = true
is_operator (Some (kinds.Mark marks.LogicalOr)) = true
is_operator _ = false

operates : (o : Option TokenKind) → 1 ≤ level_of o → is_operator o ≡ true
operates (Some (kinds.Mark marks.Star)) h = refl
operates (Some (kinds.Mark marks.Slash)) h = refl
operates (Some (kinds.Mark marks.Percent)) h = refl
operates (Some (kinds.Mark marks.ShiftLeft)) h = refl
operates (Some (kinds.Mark marks.ShiftRight)) h = refl
operates (Some (kinds.Mark marks.And)) h = refl
operates (Some (kinds.Mark marks.AndNot)) h = refl
operates (Some (kinds.Mark marks.Plus)) h = refl
operates (Some (kinds.Mark marks.Minus)) h = refl
operates (Some (kinds.Mark marks.Or)) h = refl
operates (Some (kinds.Mark marks.Xor)) h = refl
operates (Some (kinds.Mark marks.Equal)) h = refl
operates (Some (kinds.Mark marks.NotEqual)) h = refl
operates (Some (kinds.Mark marks.Less)) h = refl
operates (Some (kinds.Mark marks.LessEqual)) h = refl
operates (Some (kinds.Mark marks.Greater)) h = refl
operates (Some (kinds.Mark marks.GreaterEqual)) h = refl
operates (Some (kinds.Mark marks.LogicalAnd)) h = refl
operates (Some (kinds.Mark marks.LogicalOr)) h = refl
operates _ h = absurd (omega arith)

level_low : (o : Option TokenKind) → level_of o ≤ 5
level_low (Some (kinds.Mark marks.Star)) = omega arith
level_low (Some (kinds.Mark marks.Slash)) = omega arith
level_low (Some (kinds.Mark marks.Percent)) = omega arith
level_low (Some (kinds.Mark marks.ShiftLeft)) = omega arith
level_low (Some (kinds.Mark marks.ShiftRight)) = omega arith
level_low (Some (kinds.Mark marks.And)) = omega arith
level_low (Some (kinds.Mark marks.AndNot)) = omega arith
level_low (Some (kinds.Mark marks.Plus)) = omega arith
level_low (Some (kinds.Mark marks.Minus)) = omega arith
level_low (Some (kinds.Mark marks.Or)) = omega arith
level_low (Some (kinds.Mark marks.Xor)) = omega arith
level_low (Some (kinds.Mark marks.Equal)) = omega arith
level_low (Some (kinds.Mark marks.NotEqual)) = omega arith
level_low (Some (kinds.Mark marks.Less)) = omega arith
level_low (Some (kinds.Mark marks.LessEqual)) = omega arith
level_low (Some (kinds.Mark marks.Greater)) = omega arith
level_low (Some (kinds.Mark marks.GreaterEqual)) = omega arith
level_low (Some (kinds.Mark marks.LogicalAnd)) = omega arith
level_low (Some (kinds.Mark marks.LogicalOr)) = omega arith
level_low _ = omega arith

follows_level : (bare : Bool) (o : Option TokenKind) → follows bare o ≡ true → level_of o ≡ 0
follows_level bare (Some (kinds.Mark marks.Star)) h = absurd (false≢true h)
follows_level bare (Some (kinds.Mark marks.Slash)) h = absurd (false≢true h)
follows_level bare (Some (kinds.Mark marks.Percent)) h = absurd (false≢true h)
follows_level bare (Some (kinds.Mark marks.ShiftLeft)) h = absurd (false≢true h)
follows_level bare (Some (kinds.Mark marks.ShiftRight)) h = absurd (false≢true h)
follows_level bare (Some (kinds.Mark marks.And)) h = absurd (false≢true h)
follows_level bare (Some (kinds.Mark marks.AndNot)) h = absurd (false≢true h)
follows_level bare (Some (kinds.Mark marks.Plus)) h = absurd (false≢true h)
follows_level bare (Some (kinds.Mark marks.Minus)) h = absurd (false≢true h)
follows_level bare (Some (kinds.Mark marks.Or)) h = absurd (false≢true h)
follows_level bare (Some (kinds.Mark marks.Xor)) h = absurd (false≢true h)
follows_level bare (Some (kinds.Mark marks.Equal)) h = absurd (false≢true h)
follows_level bare (Some (kinds.Mark marks.NotEqual)) h = absurd (false≢true h)
follows_level bare (Some (kinds.Mark marks.Less)) h = absurd (false≢true h)
follows_level bare (Some (kinds.Mark marks.LessEqual)) h = absurd (false≢true h)
follows_level bare (Some (kinds.Mark marks.Greater)) h = absurd (false≢true h)
follows_level bare (Some (kinds.Mark marks.GreaterEqual)) h = absurd (false≢true h)
follows_level bare (Some (kinds.Mark marks.LogicalAnd)) h = absurd (false≢true h)
follows_level bare (Some (kinds.Mark marks.LogicalOr)) h = absurd (false≢true h)
follows_level bare _ h = refl

pub stops_follows : (bare : Bool) (o : Option TokenKind) → stops o ≡ true → follows bare o ≡ true
stops_follows bare (Some (kinds.Mark marks.OpenBrace)) h = absurd (false≢true h)
stops_follows bare (Some (kinds.Mark marks.Arrow)) h = absurd (false≢true h)
stops_follows bare _ h = h

pub operand_no_unary : (o : Option TokenKind) → begins_operand o ≡ true → unary_of o ≡ None
operand_no_unary (Some (kinds.Mark marks.Plus)) h = absurd (false≢true h)
operand_no_unary (Some (kinds.Mark marks.Minus)) h = absurd (false≢true h)
operand_no_unary (Some (kinds.Mark marks.Not)) h = absurd (false≢true h)
operand_no_unary (Some (kinds.Mark marks.Xor)) h = absurd (false≢true h)
operand_no_unary (Some (kinds.Mark marks.Star)) h = absurd (false≢true h)
operand_no_unary (Some (kinds.Mark marks.And)) h = absurd (false≢true h)
operand_no_unary (Some (kinds.Mark marks.Arrow)) h = absurd (false≢true h)
operand_no_unary _ h = refl

abbrev the_kind : Option NodeKind → NodeKind
the_kind None = nodes.File
the_kind (Some kind) = kind

module _ (tokens : List Token) where
  suffixes_stay : (n from mark at : ℕ) (out : List Post) → is_mark tokens at marks.Dot ≡ false → is_mark tokens at marks.OpenBracket ≡ false → is_mark tokens at marks.OpenParen ≡ false → read tokens n (Suffixes from mark) at out ≡ Some (at, out)
  unfolding read
  suffixes_stay zero from mark at out d b p = refl
  suffixes_stay (suc n) from mark at out d b p = simp (d, b, p)

  -- behind what begins no suffix nothing goes on with an operand
  pub stays_at : {test : Option TokenKind → Bool} {at : ℕ} → Passes tokens test at → test (Some (kinds.Mark marks.Dot)) ≡ false → test (Some (kinds.Mark marks.OpenBracket)) ≡ false → test (Some (kinds.Mark marks.OpenParen)) ≡ false → Stays tokens at
  stays_at {test} {at} h d b p = record {
    stay = λ n from mark out. suffixes_stay n from mark at out (apart (kinds.Mark marks.Dot) h d).is (apart (kinds.Mark marks.OpenBracket) h b).is (apart (kinds.Mark marks.OpenParen) h p).is;
  }

  -- nor with a bare type's name
  pub no_brace_at : {test : Option TokenKind → Bool} {to : ℕ} (bare : Bool) → Passes tokens test to → test (Some (kinds.Mark marks.OpenBrace)) ≡ false → test (Some (kinds.Mark marks.Dot)) ≡ false → NoBrace tokens bare to
  no_brace_at {test} {to} bare h b d = record {
    here = λ _. (apart (kinds.Mark marks.OpenBrace) h b).is;
    dotted = λ at _ e dotted.
        let dot : is_mark tokens to marks.Dot ≡ false = (apart (kinds.Mark marks.Dot) h d).is in
        let dot_there : is_mark tokens (at + 1) marks.Dot ≡ false = subst (λ i. is_mark tokens i marks.Dot ≡ false) e dot in
        absurd (false≢true (sym (simp dot_there) ∙ dotted));
  }

  no_brace_after : {to : ℕ} (bare : Bool) → Passes tokens (follows bare) to → NoBrace tokens bare to
  no_brace_after true h = no_brace_at true h refl refl
  no_brace_after false h = record { here = λ e. absurd (false≢true e); dotted = λ at e. absurd (false≢true e) }

  pub after : {to : ℕ} (bare : Bool) → Passes tokens (follows bare) to → After tokens bare to
  after {to} bare h = record {
    level = follows_level bare (kind_at tokens to) h.there;
    stays = stays_at h refl refl refl;
    brace = no_brace_after bare h;
  }

  pub after_stop : {to : ℕ} (bare : Bool) → Passes tokens stops to → After tokens bare to
  after_stop bare h = after bare (by_test (follows bare) (stops_follows bare) h)

  pub operator_at : {at : ℕ} → 1 ≤ level_at tokens at → Passes tokens is_operator at
  operator_at {at} h = record { there = operates (kind_at tokens at) h }

  -- a loop stays where nothing goes on
  pub climb_stays : (n k limit : ℕ) (bare : Bool) (from mark at : ℕ) (out : List Post) → level_at tokens at < k → read tokens n (Climb k limit bare from mark) at out ≡ Some (at, out)
  unfolding read
  climb_stays zero k limit bare from mark at out h = refl
  climb_stays (suc n) k limit bare from mark at out h =
      let stop : climbs k limit (level_at tokens at) ≡ false = and_right (nat_le 1 (level_at tokens at)) (nat_le k (level_at tokens at) && nat_le (level_at tokens at) limit) (and_left (nat_le k (level_at tokens at)) (nat_le (level_at tokens at) limit) (lt-leb k (level_at tokens at) h)) in
      rw stop refl

  -- one step, where there is room for it
  pub climb_step : (n k limit : ℕ) (bare : Bool) (from mark at to : ℕ) (out new : List Post) → 0 < n → 1 ≤ level_at tokens at → k ≤ level_at tokens at → level_at tokens at ≤ limit → read tokens (n - 1) (The (Level (level_at tokens at + 1) bare)) (at + 1) out ≡ Some (to, new) → read tokens n (Climb k limit bare from mark) at out ≡ read tokens (n - 1) (Climb k (level_at tokens at) bare from mark) to (closed nodes.Binary from to mark new)
  climb_step n k limit bare from mark at to out new more is low high reads =
      let go : climbs k limit (level_at tokens at) ≡ true = and_from _ _ (le-leb 1 (level_at tokens at) is) (and_from _ _ (le-leb k (level_at tokens at) low) (le-leb (level_at tokens at) limit high)) in
      read_more tokens n (Climb k limit bare from mark) at out more ∙ rw go (rw reads refl)

  -- an expression of a level, before what doesn't go on with it
  pub level_whole : {j : ℕ} {bare : Bool} {x : Forest} {from to : ℕ} (n : ℕ) (out : List Post) → Spells tokens (Level j bare) x from to → OfLevel tokens j bare x from to → room tokens from 5 ≤ n → level_at tokens to < j → Stays tokens to → NoBrace tokens bare to → Gets tokens n (The (Level j bare)) from out x to
  level_whole {j} {bare} {x} {from} {to} n out s ih enough low stays brace =
      let more : 0 < n = omega arith in
      let r = ih false j (n - 1) out (omega arith) (omega arith) (omega arith) stays brace in
      read_more tokens n (The (Level j bare)) from out more ∙ rw r.reads (r.comes ∙ climb_stays r.steps j r.limit bare from (length out) to (out ++ posts x) low)

  pub level_after : {bare : Bool} {x : Forest} {from to : ℕ} → Spells tokens (Level 1 bare) x from to → OfLevel tokens 1 bare x from to → After tokens bare to → (n : ℕ) (out : List Post) → room tokens from 5 ≤ n → Gets tokens n (The (Level 1 bare)) from out x to
  level_after {bare} {x} {from} {to} s ih a n out enough =
      let none = a.level in
      level_whole n out s ih enough (omega arith) a.stays a.brace

  pub level_gets : {bare : Bool} {x : Forest} {from to : ℕ} → Spells tokens (Level 1 bare) x from to → OfLevel tokens 1 bare x from to → Passes tokens (follows bare) to → (n : ℕ) (out : List Post) → room tokens from 5 ≤ n → Gets tokens n (The (Level 1 bare)) from out x to
  level_gets {bare} s ih h n out enough = level_after s ih (after bare h) n out enough

  pub exact_unary_level : (k : ℕ) {b : Bool} {x : Forest} {from to : ℕ} → Spells tokens (Unary b) x from to → Exact tokens (Unary b) x from to → OfLevel tokens k b x from to
  exact_unary_level j {b} {x} {from} {to} s ih = λ types k n out le enough level stays brace. record {
    first = (to, out ++ posts x);
    reads = ih types n out enough stays brace;
    untyped = rooted_typed out (unary_root tokens s);
    steps = n;
    limit = 9;
    enough = omega (arith, ahead tokens s);
    high = omega (arith, level_low (kind_at tokens to));
    comes = refl;
  }

  pub exact_binary : {k : ℕ} {b : Bool} {x y : Forest} {from mid to : ℕ} → k ≤ level_at tokens mid → 1 ≤ level_at tokens mid → Spells tokens (Level (level_at tokens mid) b) x from mid → Spells tokens (Level (level_at tokens mid + 1) b) y (mid + 1) to → OfLevel tokens (level_at tokens mid) b x from mid → OfLevel tokens (level_at tokens mid + 1) b y (mid + 1) to → OfLevel tokens k b (one nodes.Binary from to (beside x y)) from to
  exact_binary {k} {b} {x} {y} {from} {mid} {to} tight is left right ihx ihy = λ types low n out le enough level stays brace.
      let operator = operator_at is in
      let within = within_pass operator refl in
      let forward = ahead tokens right in
      let r = ihx types low n out (omega arith) enough (omega arith) (stays_at operator refl refl refl) (no_brace_at b operator refl refl) in
      let steps = r.enough in
      let high = r.high in
      let more : 0 < r.steps = omega arith in
      let then = level_whole (r.steps - 1) (out ++ posts x) right ihy (omega arith) (omega arith) stays brace in
      let step = climb_step r.steps low r.limit b from (length out) mid to (out ++ posts x) ((out ++ posts x) ++ posts y) more is (omega arith) high then in
      record {
        first = r.first;
        reads = r.reads;
        untyped = r.untyped;
        steps = r.steps - 1;
        limit = level_at tokens mid;
        enough = omega arith;
        high = omega arith;
        comes = r.comes ∙ step ∙ ap (read tokens (r.steps - 1) (Climb low (level_at tokens mid) b from (length out)) to) (over_two nodes.Binary from to out x y);
      }

  unary_star : {kind : NodeKind} {b : Bool} {x : Forest} {from to : ℕ} → HasMark tokens from marks.Star → HasUnary tokens from kind → Spells tokens (Unary b) x (from + 1) to → Exact tokens (Unary b) x (from + 1) to → Exact tokens (Unary b) (one kind from to x) from to
  unary_star {kind} {b} {x} {from} {to} star h s ih = λ types n out enough stays brace.
      let within = within_mark star in
      let more : 0 < n = omega arith in
      let same : nodes.Deref ≡ kind = ap (λ o. the_kind o) (sym (ap unary_of star.there) ∙ h.there) in
      let reads = ih types (n - 1) out (omega arith) stays brace in
      read_more tokens n (UnaryOr types b) from out more ∙ simp (star.there, reads, rooted_typed out (unary_root tokens s), and-false, over nodes.Deref from to out x) (ap (λ k. Some (to, out ++ posts (one k from to x))) same)

  unary_arrow : {kind : NodeKind} {b : Bool} {x : Forest} {from to : ℕ} → HasMark tokens from marks.Arrow → HasUnary tokens from kind → Spells tokens (Unary b) x (from + 1) to → Exact tokens (Unary b) x (from + 1) to → Exact tokens (Unary b) (one kind from to x) from to
  unary_arrow {kind} {b} {x} {from} {to} arrow h s ih = λ types n out enough stays brace.
      let within = within_mark arrow in
      let more : 0 < n = omega arith in
      let same : nodes.Receive ≡ kind = ap (λ o. the_kind o) (sym (ap unary_of arrow.there) ∙ h.there) in
      let reads = ih types (n - 1) out (omega arith) stays brace in
      read_more tokens n (UnaryOr types b) from out more ∙ simp (arrow.there, reads, rooted_typed out (unary_root tokens s), and-false, over nodes.Receive from to out x) (ap (λ k. Some (to, out ++ posts (one k from to x))) same)

  unary_other : {kind : NodeKind} {b : Bool} {x : Forest} {from to : ℕ} → is_mark tokens from marks.Star ≡ false → is_mark tokens from marks.Arrow ≡ false → HasUnary tokens from kind → Spells tokens (Unary b) x (from + 1) to → Exact tokens (Unary b) x (from + 1) to → Exact tokens (Unary b) (one kind from to x) from to
  unary_other {kind} {b} {x} {from} {to} star arrow h s ih = λ types n out enough stays brace.
      let start = starts tokens (unary h s) in
      let within = within_pass start refl in
      let more : 0 < n = omega arith in
      let reads = ih false (n - 1) out (omega arith) stays brace in
      read_more tokens n (UnaryOr types b) from out more ∙ simp (star, arrow, h.there, reads, over kind from to out x)

  pub exact_unary : {kind : NodeKind} {b : Bool} {x : Forest} {from to : ℕ} → HasUnary tokens from kind → Spells tokens (Unary b) x (from + 1) to → Exact tokens (Unary b) x (from + 1) to → Exact tokens (Unary b) (one kind from to x) from to
  exact_unary {kind} {b} {x} {from} {to} h s ih =
      ⊎_elim (λ star. unary_star (has_mark from marks.Star star) h s ih)
      (λ no_star. ⊎_elim (λ arrow. unary_arrow (has_mark from marks.Arrow arrow) h s ih) (λ no_arrow. unary_other no_star no_arrow h s ih) (cases_Bool (is_mark tokens from marks.Arrow)))
      (cases_Bool (is_mark tokens from marks.Star))

  pub exact_primary : {b : Bool} {x : Forest} {from to : ℕ} → Spells tokens (Primary b) x from to → OfPrimary tokens b x from to → Exact tokens (Unary b) x from to
  exact_primary {b} {x} {from} {to} s ih = λ types n out enough stays brace.
      let more : 0 < n = omega arith in
      let start = starts tokens s in
      let star = apart (kinds.Mark marks.Star) start refl in
      let arrow = apart (kinds.Mark marks.Arrow) start refl in
      let first : unary_of (kind_at tokens from) ≡ None = operand_no_unary (kind_at tokens from) start.there in
      let r = ih types (n - 1) out (omega arith) brace in
      read_more tokens n (UnaryOr types b) from out more ∙ simp (star.is, arrow.is, first) (r.comes ∙ stays.stay r.steps from (length out) (out ++ posts x))

  pub exact_operand : {b : Bool} {x : Forest} {from to : ℕ} → Spells tokens (Operand b) x from to → Exact tokens (Operand b) x from to → OfPrimary tokens b x from to
  exact_operand {b} {x} {from} {to} s ih = λ types n out enough brace.
      let more : 0 < n = omega arith in
      let reads = ih types (n - 1) out (omega arith) brace in
      record {
        steps = n - 1;
        enough = omega (arith, ahead tokens s);
        comes = read_more tokens n (PrimaryOr types b) from out more ∙ simp (reads, rooted_typed out (operand_root tokens s), and-false);
      }

  pub exact_either_expr : {x : Forest} {from to : ℕ} → Spells tokens (Level 1 true) x from to → OfLevel tokens 1 true x from to → Exact tokens Either x from to
  exact_either_expr {x} {from} {to} s ih = λ n out enough stop.
      let more : 0 < n = omega arith in
      let a = after_stop true stop in
      let none = a.level in
      let r = ih true 1 (n - 1) out (omega arith) (omega arith) (omega arith) a.stays a.brace in
      read_more tokens n (The Either) from out more ∙ rw r.reads (rw r.untyped (r.comes ∙ climb_stays r.steps 1 r.limit true from (length out) to (out ++ posts x) (omega arith)))

  pub exact_either_type : {x : Forest} {from to : ℕ} → Spells tokens OnlyType x from to → OfOnlyType tokens x from to → Exact tokens Either x from to
  exact_either_type {x} {from} {to} s ih = λ n out enough stop.
      let more : 0 < n = omega arith in
      let reads = ih.among (n - 1) out (omega arith) stop in
      read_more tokens n (The Either) from out more ∙ simp (reads, rooted_typed out (only_root tokens s))
