-- Lists of expressions and the elements of composite literals that are spelled are read.
use Rattle.std.proofs.Common.{◌≡◌, ℕ, zero, suc, ◌+◌, ◌-◌, ◌<◌, ◌≤◌, List, ◌++◌, Bool, true, false, Option, Some, refl, ap, ◌∙◌, inl, inr, arith}
use Rattle.std.proofs.lemmas.Bool.{false≢true}
use Rattle.argot_tree.specs.declared.mark.Mark.TheVariants as marks
use Rattle.argot_tree.specs.declared.node_kind.NodeKind.TheVariants as nodes
use Rattle.argot_tree.specs.declared.token.TokenKind.{TokenKind}
use Rattle.argot_tree.specs.declared.token.TokenKind.TheVariants as kinds
use Rattle.argot_tree.specs.declared.token.Token.{Token}
use Rattle.argot_tree.specs.Forests.{Forest, leaf, beside, one}
use Rattle.argot_tree.specs.TokensAt.{HasMark, MaybeComma}
use Rattle.argot_tree.specs.Grammar.{Spells, Level, Exprs, Either, Eithers, Elems, Items, Item, Value}
use Rattle.argot_parse_reader.specs.declared.post.Post.{Post}
use Rattle.argot_parse_reader.specs.Posts.{posts}
use Rattle.argot_parse_reader.specs.Rooms.{room}
use Rattle.argot_parse_reader.specs.Reading.{The, MoreExprs, is_mark}
use Rattle.argot_parse_reader.specs.Reader.{read}
use Rattle.argot_parse_reader.proofs.Steps.{read_more}
use Rattle.argot_parse_reader.proofs.PostLaws.{put_posts}
use Rattle.argot_parse_reader.proofs.Exact.Nodes.{over, over_two, two}
use Rattle.argot_parse_reader.proofs.Exact.Ahead.{ahead}
use Rattle.argot_parse_reader.proofs.Exact.Starts.{starts}
use Rattle.argot_parse_reader.proofs.Exact.Tokens.{Not, apart, stops, follows, by_mark, by_test, within_mark, list_end}
use Rattle.argot_parse_reader.proofs.Exact.Lists.{end_passes, list_stays, list_goes, passed, brace}
use Rattle.argot_parse_reader.proofs.Exact.Levels.{level_gets, level_after, stops_follows}
use Rattle.argot_parse_reader.proofs.Exact.Claims.{Gets, After, OfLevel, OfExprs, ends_item, Exact}

pub item_stops : (o : Option TokenKind) → ends_item o ≡ true → stops o ≡ true
item_stops (Some (kinds.Mark marks.Comma)) h = refl
item_stops (Some (kinds.Mark marks.CloseBrace)) h = refl
item_stops _ h = absurd (false≢true h)

module _ (tokens : List Token) where
  more_stays : (n at : ℕ) (bare : Bool) (out : List Post) → is_mark tokens at marks.Comma ≡ false → read tokens n (MoreExprs bare) at out ≡ Some (at, out)
  unfolding read
  more_stays zero at bare out h = refl
  more_stays (suc n) at bare out h = simp h

  pub exact_last_expr : {b : Bool} {x : Forest} {from to : ℕ} → Spells tokens (Level 1 b) x from to → OfLevel tokens 1 b x from to → OfExprs tokens b x from to
  exact_last_expr {b} {x} {from} {to} s ih = λ n out enough a comma. record {
    first = (to, out ++ posts x);
    reads = level_after tokens s ih a n out enough;
    then = inl refl;
    loops = more_stays n to b (out ++ posts x) comma.is;
    goes = simp comma.is;
  }

  pub exprs_whole : {b : Bool} {x : Forest} {from to : ℕ} → OfExprs tokens b x from to → After tokens b to → Not tokens to (kinds.Mark marks.Comma) → (n : ℕ) (out : List Post) → room tokens from 6 ≤ n → Gets tokens n (The (Exprs b)) from out x to
  exprs_whole {b} {x} {from} {to} ih a comma n out enough =
      let more : 0 < n = omega arith in
      let r = ih (n - 1) out (omega arith) a comma in
      read_more tokens n (The (Exprs b)) from out more ∙ rw r.reads r.loops

  pub exact_one_expr : {b : Bool} {x y : Forest} {from mid to : ℕ} → Spells tokens (Level 1 b) x from mid → HasMark tokens mid marks.Comma → Spells tokens (Exprs b) y (mid + 1) to → OfLevel tokens 1 b x from mid → OfExprs tokens b y (mid + 1) to → OfExprs tokens b (beside x y) from to
  exact_one_expr {b} {x} {y} {from} {mid} {to} s c t ihx ihy = λ n out enough a comma.
      let within = within_mark c in
      let forward = ahead tokens s in
      let more : 0 < n = omega arith in
      let rest = ihy (n - 1) (out ++ posts x) (omega arith) a comma in
      let reads = rest.reads in
      let loops = rest.loops in
      let whole = exprs_whole ihy a comma n (out ++ posts x) (omega arith) in
      record {
        first = (mid, out ++ posts x);
        reads = level_gets tokens s ihx (by_mark (follows b) c refl) n out enough;
        then = inr c;
        loops = read_more tokens n (MoreExprs b) mid (out ++ posts x) more ∙ rw c.there (rw reads (loops ∙ ap (λ l. Some (to, l)) (two out x y)));
        goes = simp (c.there, whole, two out x y);
      }

  pub exact_last_either : {x : Forest} {from to : ℕ} → Spells tokens Either x from to → Exact tokens Either x from to → Exact tokens Eithers x from to
  exact_last_either {x} {from} {to} s ih = λ n out enough stop stays.
      let more : 0 < n = omega arith in
      let reads = ih (n - 1) out (omega arith) stop in
      read_more tokens n (The Eithers) from out more ∙ simp (reads, stays)

  pub exact_one_either : {x y : Forest} {from mid to : ℕ} → Spells tokens Either x from mid → HasMark tokens mid marks.Comma → Spells tokens Eithers y (mid + 1) to → Exact tokens Either x from mid → Exact tokens Eithers y (mid + 1) to → Exact tokens Eithers (beside x y) from to
  exact_one_either {x} {y} {from} {mid} {to} s c t ihx ihy = λ n out enough stop stays.
      let within = within_mark c in
      let forward = ahead tokens s in
      let more : 0 < n = omega arith in
      let closer = apart (kinds.Mark marks.CloseParen) (starts tokens t) refl in
      let reads = ihx (n - 1) out (omega arith) (by_mark stops c refl) in
      let then = ihy (n - 1) (out ++ posts x) (omega arith) stop stays in
      read_more tokens n (The Eithers) from out more ∙ simp (reads, list_goes tokens marks.CloseParen c closer.is, then, two out x y)

  pub exact_no_elems : {from : ℕ} → HasMark tokens from marks.OpenBrace → HasMark tokens (from + 1) marks.CloseBrace → Exact tokens Elems (one nodes.Elems from (from + 2) leaf) from (from + 2)
  exact_no_elems {from} h i = λ n out enough.
      let more : 0 < n = omega arith in
      read_more tokens n (The Elems) from out more ∙ simp (h.there, i.there, put_posts nodes.Elems from (from + 2) out)

  pub exact_elems : {x : Forest} {from mid to : ℕ} → HasMark tokens from marks.OpenBrace → Spells tokens Items x (from + 1) mid → MaybeComma tokens mid to → HasMark tokens to marks.CloseBrace → Exact tokens Items x (from + 1) mid → Exact tokens Elems (one nodes.Elems from (to + 1) x) from (to + 1)
  exact_elems {x} {from} {mid} {to} h s m c ih = λ n out enough.
      let within = within_mark h in
      let more : 0 < n = omega arith in
      let closer = apart (kinds.Mark marks.CloseBrace) (starts tokens s) refl in
      let reads = ih (n - 1) out (omega arith) (list_end m c) in
      read_more tokens n (The Elems) from out more ∙ simp (h.there, closer.is, reads, passed tokens (out ++ posts x) brace m c, over nodes.Elems from (to + 1) out x)

  pub exact_last_item : {x : Forest} {from to : ℕ} → Spells tokens Item x from to → Exact tokens Item x from to → Exact tokens Items x from to
  exact_last_item {x} {from} {to} s ih = λ n out enough ends.
      let more : 0 < n = omega arith in
      let reads = ih (n - 1) out (omega arith) (end_passes tokens ends_item ends refl refl) in
      read_more tokens n (The Items) from out more ∙ simp (reads, list_stays tokens brace ends)

  pub exact_one_item : {x y : Forest} {from mid to : ℕ} → Spells tokens Item x from mid → HasMark tokens mid marks.Comma → Spells tokens Items y (mid + 1) to → Exact tokens Item x from mid → Exact tokens Items y (mid + 1) to → Exact tokens Items (beside x y) from to
  exact_one_item {x} {y} {from} {mid} {to} s c t ihx ihy = λ n out enough ends.
      let within = within_mark c in
      let forward = ahead tokens s in
      let more : 0 < n = omega arith in
      let closer = apart (kinds.Mark marks.CloseBrace) (starts tokens t) refl in
      let reads = ihx (n - 1) out (omega arith) (by_mark ends_item c refl) in
      let then = ihy (n - 1) (out ++ posts x) (omega arith) ends in
      read_more tokens n (The Items) from out more ∙ simp (reads, list_goes tokens marks.CloseBrace c closer.is, then, two out x y)

  pub exact_item : {x : Forest} {from to : ℕ} → Spells tokens Value x from to → Exact tokens Value x from to → Exact tokens Item (one nodes.Item from to x) from to
  exact_item {x} {from} {to} s ih = λ n out enough ends.
      let more : 0 < n = omega arith in
      let colon = apart (kinds.Mark marks.Colon) ends refl in
      let reads = ih (n - 1) out (omega arith) (by_test stops item_stops ends) in
      read_more tokens n (The Item) from out more ∙ simp (reads, colon.is, over nodes.Item from to out x)

  pub exact_keyed_item : {x y : Forest} {from mid to : ℕ} → Spells tokens Value x from mid → HasMark tokens mid marks.Colon → Spells tokens Value y (mid + 1) to → Exact tokens Value x from mid → Exact tokens Value y (mid + 1) to → Exact tokens Item (one nodes.KeyedItem from to (beside x y)) from to
  exact_keyed_item {x} {y} {from} {mid} {to} s c t ihx ihy = λ n out enough ends.
      let within = within_mark c in
      let forward = ahead tokens s in
      let more : 0 < n = omega arith in
      let reads = ihx (n - 1) out (omega arith) (by_mark stops c refl) in
      let then = ihy (n - 1) (out ++ posts x) (omega arith) (by_test stops item_stops ends) in
      read_more tokens n (The Item) from out more ∙ simp (reads, c.there, then, over_two nodes.KeyedItem from to out x y)

  pub exact_value_expr : {x : Forest} {from to : ℕ} → Spells tokens (Level 1 true) x from to → OfLevel tokens 1 true x from to → Exact tokens Value x from to
  exact_value_expr {x} {from} {to} s ih = λ n out enough stop.
      let more : 0 < n = omega arith in
      let open_brace = apart (kinds.Mark marks.OpenBrace) (starts tokens s) refl in
      let reads = level_gets tokens s ih (by_test (follows true) (stops_follows true) stop) (n - 1) out (omega arith) in
      read_more tokens n (The Value) from out more ∙ simp (open_brace.is, reads)

  pub exact_value_elems : {x : Forest} {from to : ℕ} → Spells tokens Elems x from to → Exact tokens Elems x from to → Exact tokens Value x from to
  exact_value_elems {x} {from} {to} s ih = λ n out enough stop.
      let more : 0 < n = omega arith in
      let open_brace = starts tokens s in
      let reads = ih (n - 1) out (omega arith) in
      read_more tokens n (The Value) from out more ∙ simp (open_brace.there, reads)
