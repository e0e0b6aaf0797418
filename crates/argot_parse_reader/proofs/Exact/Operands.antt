-- Operands that are spelled are read: names, literals, parentheses, functions, composite literals and conversions.
use Rattle.std.proofs.Common.{◌≡◌, ℕ, ◌+◌, ◌-◌, ◌<◌, ◌≤◌, List, [], ◌++◌, length, Bool, true, false, Some, None, refl, sym, ap, ◌∙◌, ⊎_elim, arith}
use Rattle.std.proofs.Math.Bool.{and-false}
use Rattle.std.proofs.lemmas.Bool.{cases_Bool, false≢true}
use Rattle.argot_tree.specs.declared.keyword.Keyword.TheVariants as words
use Rattle.argot_tree.specs.declared.mark.Mark.TheVariants as marks
use Rattle.argot_tree.specs.declared.node_kind.NodeKind.{NodeKind}
use Rattle.argot_tree.specs.declared.node_kind.NodeKind.TheVariants as nodes
use Rattle.argot_tree.specs.declared.token.TokenKind.TheVariants as kinds
use Rattle.argot_tree.specs.declared.token.Token.{Token}
use Rattle.argot_tree.specs.Forests.{Forest, leaf, beside, one}
use Rattle.argot_tree.specs.TokensAt.{kind_at, HasAt, HasWord, HasMark, Passes, MaybeComma, is_literal, begins_conversion, begins_composite}
use Rattle.argot_tree.specs.Grammar.{Spells, Level, AnyType, OnlyType, Signature, Embedded, Either, Elems, Block, Operand, type_name, qualified_type, type_parens, pointer_type, formed_type, only_pointer, array_type, slice_type, map_type, chan_type, send_type, receive_type, func_type, struct_type, interface_type, embedded_name, embedded_qualified}
use Rattle.argot_parse_reader.specs.declared.post.Post.{Post}
use Rattle.argot_parse_reader.specs.Posts.{posts}
use Rattle.argot_parse_reader.specs.Rooms.{room}
use Rattle.argot_parse_reader.specs.Reading.{The, OperandOr, Answer, ◌>>=◌, closed, closing, is_word}
use Rattle.argot_parse_reader.specs.TypeReader.{is_dotted}
use Rattle.argot_parse_reader.specs.ExpressionReader.{is_open_array}
use Rattle.argot_parse_reader.specs.Reader.{read}
use Rattle.argot_parse_reader.proofs.Steps.{read_more}
use Rattle.argot_parse_reader.proofs.TokenTests.{has_word}
use Rattle.argot_parse_reader.proofs.PostLaws.{put_posts}
use Rattle.argot_parse_reader.proofs.Exact.Nodes.{over, over_two}
use Rattle.argot_parse_reader.proofs.Exact.Ahead.{ahead}
use Rattle.argot_parse_reader.proofs.Exact.Starts.{starts, composite_conversion}
use Rattle.argot_parse_reader.proofs.Exact.Tokens.{Not, other, apart, stops, follows, at_mark, at_word, by_kind, by_mark, by_test, within_at, within_mark, within_word, within_pass, list_end}
use Rattle.argot_parse_reader.proofs.Exact.Lists.{end_passes, passed, paren}
use Rattle.argot_parse_reader.proofs.Exact.TypeParts.{conversion_literal}
use Rattle.argot_parse_reader.proofs.Exact.Levels.{level_gets}
use Rattle.argot_parse_reader.proofs.Exact.Claims.{Gets, NoBrace, WholeOperand, OfLevel, OfType, OfEmbedded, Exact}

abbrev place_of : Answer → ℕ
place_of None = 0
place_of (Some r) = r.0

abbrev nodes_in : Answer → List Post
nodes_in None = []
nodes_in (Some r) = r.1

abbrev is_found : Answer → Bool
is_found None = false
is_found (Some r) = true

-- what stands below a node that was closed
record Below (a : Answer) (kind : NodeKind) (from to : ℕ) (out new : List Post) : Type 0 where
  inner : List Post
  is : a ≡ Some (to, inner)
  closes : closed kind from to (length out) inner ≡ new

below_found : (r : ℕ × List Post) (kind : NodeKind) (from to : ℕ) (out new : List Post) → closing kind from out r ≡ Some (to, new) → Below (Some r) kind from to out new
below_found r kind from to out new e =
    let place : r.0 ≡ to = ap place_of e in
    record {
      inner = r.1;
      is = ap (λ i. Some (i, r.1)) place;
      closes = ap (λ i. closed kind from i (length out) r.1) (sym place) ∙ ap nodes_in e;
    }

below : (a : Answer) (kind : NodeKind) (from to : ℕ) (out new : List Post) → (a >>= closing kind from out) ≡ Some (to, new) → Below a kind from to out new
below None kind from to out new e = absurd (false≢true (ap is_found e))
below (Some r) kind from to out new e = below_found r kind from to out new e

module _ (tokens : List Token) where
  pub exact_literal : (b : Bool) {from : ℕ} → Passes tokens is_literal from → WholeOperand tokens b (one nodes.Literal from (from + 1) leaf) from (from + 1)
  exact_literal b {from} h = λ types n out enough.
      let more : 0 < n = omega arith in
      let name = apart kinds.Name h refl in
      read_more tokens n (OperandOr types b) from out more ∙ simp (name.is, h.there, put_posts nodes.Literal from (from + 1) out)

  undotted_name : {from : ℕ} → HasAt tokens from kinds.Name → NoBrace tokens true (from + 1) → (types : Bool) (n : ℕ) (out : List Post) → 0 < n → is_dotted tokens from ≡ false → Gets tokens n (OperandOr types true) from out (one nodes.NameUse from (from + 1) leaf) (from + 1)
  undotted_name {from} h brace types n out more dotted =
      let none = brace.here refl in
      read_more tokens n (OperandOr types true) from out more ∙ simp (h.there, dotted, none, put_posts nodes.NameUse from (from + 1) out)

  dotted_name : {from : ℕ} → HasAt tokens from kinds.Name → NoBrace tokens true (from + 1) → (types : Bool) (n : ℕ) (out : List Post) → 0 < n → is_dotted tokens from ≡ true → Gets tokens n (OperandOr types true) from out (one nodes.NameUse from (from + 1) leaf) (from + 1)
  dotted_name {from} h brace types n out more dotted =
      let none = brace.dotted from refl refl dotted in
      read_more tokens n (OperandOr types true) from out more ∙ simp (h.there, dotted, none, put_posts nodes.NameUse from (from + 1) out)

  pub exact_name_use : (b : Bool) {from : ℕ} → HasAt tokens from kinds.Name → Exact tokens (Operand b) (one nodes.NameUse from (from + 1) leaf) from (from + 1)
  exact_name_use false {from} h = λ types n out enough brace.
      let more : 0 < n = omega arith in
      read_more tokens n (OperandOr types false) from out more ∙ simp (h.there, put_posts nodes.NameUse from (from + 1) out)
  exact_name_use true {from} h = λ types n out enough brace.
      let more : 0 < n = omega arith in
      ⊎_elim (λ d. dotted_name h brace types n out more d) (λ d. undotted_name h brace types n out more d) (cases_Bool (is_dotted tokens from))

  pub exact_parens : (b : Bool) {x : Forest} {from to : ℕ} → HasMark tokens from marks.OpenParen → Spells tokens Either x (from + 1) to → HasMark tokens to marks.CloseParen → Exact tokens Either x (from + 1) to → WholeOperand tokens b (one nodes.Parens from (to + 1) x) from (to + 1)
  exact_parens b {x} {from} {to} h s c ih = λ types n out enough.
      let within = within_mark h in
      let more : 0 < n = omega arith in
      let reads = ih (n - 1) out (omega arith) (by_mark stops c refl) in
      read_more tokens n (OperandOr types b) from out more ∙ simp (h.there, reads, c.there, over nodes.Parens from (to + 1) out x)

  pub exact_func_literal : (b : Bool) {x y : Forest} {from mid to : ℕ} → HasWord tokens from words.Func → Spells tokens Signature x (from + 1) mid → Spells tokens Block y mid to → Exact tokens Signature x (from + 1) mid → Exact tokens Block y mid to → WholeOperand tokens b (one nodes.FuncLiteral from to (beside x y)) from to
  exact_func_literal b {x} {y} {from} {mid} {to} h s t ihx ihy = λ types n out enough.
      let within = within_word h in
      let forward = ahead tokens s in
      let more : 0 < n = omega arith in
      let open_brace = starts tokens t in
      let reads = ihx (n - 1) out (omega arith) (other (kinds.Mark marks.Dot) (at_mark open_brace) refl) in
      let then = ihy (n - 1) (out ++ posts x) (omega arith) in
      read_more tokens n (OperandOr types b) from out more ∙ simp (h.there, reads, open_brace.there, then, over_two nodes.FuncLiteral from to out x y)

  -- no type begins as a literal of an open array does
  only_closed : {x : Forest} {from to : ℕ} → Spells tokens OnlyType x from to → is_open_array tokens from ≡ false
  only_closed (only_pointer h s) = simp h.there
  only_closed (array_type h s i t) = let dots = apart (kinds.Mark marks.Ellipsis) (starts tokens s) refl in simp (h.there, dots.is)
  only_closed (slice_type h i s) = simp (h.there, i.there)
  only_closed (map_type h i s j t) = simp h.there
  only_closed (chan_type h i s) = simp h.there
  only_closed (send_type h i s) = simp h.there
  only_closed (receive_type h i s) = simp h.there
  only_closed (func_type h s) = simp h.there
  only_closed (struct_type h i s j) = simp h.there
  only_closed (interface_type h i s j) = simp h.there

  type_closed : {x : Forest} {from to : ℕ} → Spells tokens AnyType x from to → is_open_array tokens from ≡ false
  type_closed (type_name h) = simp h.there
  type_closed (qualified_type h i j) = simp h.there
  type_closed (type_parens h s i) = simp h.there
  type_closed (pointer_type h s) = simp h.there
  type_closed (formed_type f s) = only_closed s

  -- a type that a conversion may begin with is one that is no expression
  only_reads : {x : Forest} {from to : ℕ} (n : ℕ) (out : List Post) → OfType tokens x from to → Passes tokens begins_conversion from → room tokens from 2 ≤ n + 1 → Not tokens to (kinds.Mark marks.Dot) → Gets tokens n (The OnlyType) from out x to
  only_reads {x} {from} {to} n out ih start enough dot =
      let more : 0 < n + 1 = omega arith in
      let same : n ≡ n + 1 - 1 = omega arith in
      let name = apart kinds.Name start refl in
      let open_paren = apart (kinds.Mark marks.OpenParen) start refl in
      let star = apart (kinds.Mark marks.Star) start refl in
      let step : read tokens (n + 1) (The AnyType) from out ≡ read tokens (n + 1 - 1) (The OnlyType) from out = read_more tokens (n + 1) (The AnyType) from out more ∙ simp (name.is, open_paren.is, star.is) in
      ap (λ m. read tokens m (The OnlyType) from out) same ∙ sym step ∙ ih.gets (n + 1) out enough dot

  pub exact_composite : (b : Bool) {x y : Forest} {from mid to : ℕ} → Passes tokens begins_composite from → Spells tokens AnyType x from mid → Spells tokens Elems y mid to → OfType tokens x from mid → Exact tokens Elems y mid to → WholeOperand tokens b (one nodes.Composite from to (beside x y)) from to
  exact_composite b {x} {y} {from} {mid} {to} h s t ihx ihy = λ types n out enough.
      let within = within_pass h refl in
      let forward = ahead tokens s in
      let more : 0 < n = omega arith in
      let start = by_test begins_conversion composite_conversion h in
      let open_brace = starts tokens t in
      let name = apart kinds.Name h refl in
      let literal : is_literal (kind_at tokens from) ≡ false = conversion_literal (kind_at tokens from) start.there in
      let open_paren = apart (kinds.Mark marks.OpenParen) h refl in
      let func = apart (kinds.Word words.Func) h refl in
      let reads = only_reads (n - 1) out ihx start (omega arith) (other (kinds.Mark marks.Dot) (at_mark open_brace) refl) in
      let then = ihy (n - 1) (out ++ posts x) (omega arith) in
      read_more tokens n (OperandOr types b) from out more ∙ simp (name.is, literal, open_paren.is, func.is, type_closed s, start.there, reads, h.there, open_brace.there, then, over_two nodes.Composite from to out x y)

  pub exact_open_composite : (b : Bool) {x y : Forest} {from mid to : ℕ} → HasMark tokens from marks.OpenBracket → HasMark tokens (from + 1) marks.Ellipsis → HasMark tokens (from + 2) marks.CloseBracket → Spells tokens AnyType x (from + 3) mid → Spells tokens Elems y mid to → OfType tokens x (from + 3) mid → Exact tokens Elems y mid to → WholeOperand tokens b (one nodes.Composite from to (beside (one nodes.OpenArrayType from mid x) y)) from to
  exact_open_composite b {x} {y} {from} {mid} {to} h i j s t ihx ihy = λ types n out enough.
      let within = within_mark h in
      let forward = ahead tokens s in
      let more : 0 < n = omega arith in
      let open_brace = starts tokens t in
      let array = one nodes.OpenArrayType from mid x in
      let reads = ihx.gets (n - 1) out (omega arith) (other (kinds.Mark marks.Dot) (at_mark open_brace) refl) in
      let then = ihy (n - 1) (out ++ posts array) (omega arith) in
      read_more tokens n (OperandOr types b) from out more ∙ simp (h.there, i.there, j.there, reads, over nodes.OpenArrayType from mid out x, then, over_two nodes.Composite from to out array y)

  embedded_end : {x : Forest} {from to : ℕ} → Spells tokens Embedded x from to → from < to
  embedded_end (embedded_name h) = omega arith
  embedded_end (embedded_qualified h i j) = omega arith

  pub exact_bare_composite : {x y : Forest} {from mid to : ℕ} → Spells tokens Embedded x from mid → Spells tokens Elems y mid to → OfEmbedded tokens x from mid → Exact tokens Elems y mid to → WholeOperand tokens true (one nodes.Composite from to (beside x y)) from to
  exact_bare_composite {x} {y} {from} {mid} {to} s t ihx ihy = λ types n out enough.
      let more : 0 < n = omega arith in
      let name = ihx.name in
      let within = within_at name in
      let forward = embedded_end s in
      let open_brace = starts tokens t in
      let reads = ihx.gets out (other (kinds.Mark marks.Dot) (at_mark open_brace) refl) in
      let then = ihy (n - 1) (out ++ posts x) (omega arith) in
      read_more tokens n (OperandOr types true) from out more ∙ simp (name.there, reads, open_brace.there, then, over_two nodes.Composite from to out x y)

  func_converts : (b : Bool) {x y : Forest} {from mid mid2 to : ℕ} → HasWord tokens from words.Func → Spells tokens AnyType x from mid → HasMark tokens mid marks.OpenParen → Spells tokens (Level 1 true) y (mid + 1) mid2 → MaybeComma tokens mid2 to → HasMark tokens to marks.CloseParen → OfType tokens x from mid → OfLevel tokens 1 true y (mid + 1) mid2 → WholeOperand tokens b (one nodes.Conversion from (to + 1) (beside x y)) from (to + 1)
  func_converts b {x} {y} {from} {mid} {mid2} {to} h s i t m c ihx ihy = λ types n out enough.
      let within = within_word h in
      let forward = ahead tokens s in
      let more : 0 < n = omega arith in
      let ends = list_end m c in
      let only = only_reads n out ihx (by_kind begins_conversion (at_word h) refl) (omega arith) (other (kinds.Mark marks.Dot) (at_mark i) refl) in
      let step : read tokens n (The OnlyType) from out ≡ (read tokens (n - 1) (The Signature) (from + 1) out >>= closing nodes.FuncType from out) = read_more tokens n (The OnlyType) from out more ∙ simp h.there in
      let inner = below (read tokens (n - 1) (The Signature) (from + 1) out) nodes.FuncType from mid out (out ++ posts x) (sym step ∙ only) in
      let reads = inner.is in
      let closes = inner.closes in
      let then = level_gets tokens t ihy (end_passes tokens (follows true) ends refl refl) (n - 1) (out ++ posts x) (omega arith) in
      read_more tokens n (OperandOr types b) from out more ∙ simp (h.there, reads, i.there, closes, then, passed tokens ((out ++ posts x) ++ posts y) paren m c, over_two nodes.Conversion from (to + 1) out x y)

  only_converts : (b : Bool) {x y : Forest} {from mid mid2 to : ℕ} → is_word tokens from words.Func ≡ false → Passes tokens begins_conversion from → Spells tokens AnyType x from mid → HasMark tokens mid marks.OpenParen → Spells tokens (Level 1 true) y (mid + 1) mid2 → MaybeComma tokens mid2 to → HasMark tokens to marks.CloseParen → OfType tokens x from mid → OfLevel tokens 1 true y (mid + 1) mid2 → WholeOperand tokens b (one nodes.Conversion from (to + 1) (beside x y)) from (to + 1)
  only_converts b {x} {y} {from} {mid} {mid2} {to} func start s i t m c ihx ihy = λ types n out enough.
      let within = within_pass start refl in
      let forward = ahead tokens s in
      let more : 0 < n = omega arith in
      let ends = list_end m c in
      let name = apart kinds.Name start refl in
      let literal : is_literal (kind_at tokens from) ≡ false = conversion_literal (kind_at tokens from) start.there in
      let open_paren = apart (kinds.Mark marks.OpenParen) start refl in
      let reads = only_reads (n - 1) out ihx start (omega arith) (other (kinds.Mark marks.Dot) (at_mark i) refl) in
      let then = level_gets tokens t ihy (end_passes tokens (follows true) ends refl refl) (n - 1) (out ++ posts x) (omega arith) in
      read_more tokens n (OperandOr types b) from out more ∙ simp (name.is, literal, open_paren.is, func, type_closed s, start.there, reads, i.there, and-false, then, passed tokens ((out ++ posts x) ++ posts y) paren m c, over_two nodes.Conversion from (to + 1) out x y)

  pub exact_conversion : (b : Bool) {x y : Forest} {from mid mid2 to : ℕ} → Passes tokens begins_conversion from → Spells tokens AnyType x from mid → HasMark tokens mid marks.OpenParen → Spells tokens (Level 1 true) y (mid + 1) mid2 → MaybeComma tokens mid2 to → HasMark tokens to marks.CloseParen → OfType tokens x from mid → OfLevel tokens 1 true y (mid + 1) mid2 → WholeOperand tokens b (one nodes.Conversion from (to + 1) (beside x y)) from (to + 1)
  exact_conversion b {x} {y} {from} h s i t m c ihx ihy =
      ⊎_elim (λ func. func_converts b (has_word from words.Func func) s i t m c ihx ihy) (λ func. only_converts b func h s i t m c ihx ihy) (cases_Bool (is_word tokens from words.Func))
