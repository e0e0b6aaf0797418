-- Types that are spelled are read.
use Rattle.std.proofs.Common.{◌≡◌, ℕ, ◌+◌, ◌-◌, ◌<◌, List, true, false, ◌&&◌, Option, Some, None, refl, sym, ap, ◌∙◌, arith}
use Rattle.std.proofs.Math.Bool.{and-false}
use Rattle.std.proofs.lemmas.Bool.{false≢true}
use Rattle.argot_tree.specs.declared.keyword.Keyword.TheVariants as words
use Rattle.argot_tree.specs.declared.mark.Mark.TheVariants as marks
use Rattle.argot_tree.specs.declared.node_kind.NodeKind.TheVariants as nodes
use Rattle.argot_tree.specs.declared.token.TokenKind.{TokenKind}
use Rattle.argot_tree.specs.declared.token.TokenKind.TheVariants as kinds
use Rattle.argot_tree.specs.declared.token.Token.{Token}
use Rattle.argot_tree.specs.Forests.{Forest, leaf, one}
use Rattle.argot_tree.specs.TokensAt.{kind_at, HasAt, HasMark, Passes, Fails, is_star, is_literal, begins_conversion, unary_of}
use Rattle.argot_tree.specs.Grammar.{Spells, AnyType, OnlyType}
use Rattle.argot_parse_reader.specs.declared.post.Post.{Post}
use Rattle.argot_parse_reader.specs.Reading.{The, UnaryOr, PrimaryOr, OperandOr, is_kind, is_mark, is_word}
use Rattle.argot_parse_reader.specs.ExpressionReader.{typed}
use Rattle.argot_parse_reader.specs.Reader.{read}
use Rattle.argot_parse_reader.proofs.Steps.{read_more}
use Rattle.argot_parse_reader.proofs.PostLaws.{put_posts}
use Rattle.argot_parse_reader.proofs.Exact.Nodes.{over}
use Rattle.argot_parse_reader.proofs.Exact.Starts.{starts}
use Rattle.argot_parse_reader.proofs.Exact.Tokens.{Not, other, apart, lacking, stops, at_mark, within_mark}
use Rattle.argot_parse_reader.proofs.Exact.Claims.{OfType, OfOnlyType, OfArrow}

conversion_unary : (o : Option TokenKind) → begins_conversion o ≡ true → unary_of o ≡ None
conversion_unary (Some (kinds.Mark marks.OpenBracket)) h = refl
conversion_unary (Some (kinds.Word words.Map)) h = refl
conversion_unary (Some (kinds.Word words.Chan)) h = refl
conversion_unary (Some (kinds.Word words.Func)) h = refl
conversion_unary (Some (kinds.Word words.Struct)) h = refl
conversion_unary (Some (kinds.Word words.Interface)) h = refl
conversion_unary _ h = absurd (false≢true h)

pub conversion_literal : (o : Option TokenKind) → begins_conversion o ≡ true → is_literal o ≡ false
conversion_literal (Some (kinds.Mark marks.OpenBracket)) h = refl
conversion_literal (Some (kinds.Word words.Map)) h = refl
conversion_literal (Some (kinds.Word words.Chan)) h = refl
conversion_literal (Some (kinds.Word words.Func)) h = refl
conversion_literal (Some (kinds.Word words.Struct)) h = refl
conversion_literal (Some (kinds.Word words.Interface)) h = refl
conversion_literal _ h = absurd (false≢true h)

module _ (tokens : List Token) where
  -- no arrow stands there
  pub no_arrow : {x : Forest} {from to : ℕ} → Not tokens from (kinds.Mark marks.Arrow) → OfArrow tokens x from to
  no_arrow {x} {from} {to} h n out a enough dot = absurd (false≢true (sym h.is ∙ ap (λ o. is_kind o (kinds.Mark marks.Arrow)) a.there ∙ refl))

  pub exact_type_name : {from : ℕ} → HasAt tokens from kinds.Name → OfType tokens (one nodes.TypeName from (from + 1) leaf) from (from + 1)
  exact_type_name {from} h = record {
    gets = λ n out enough dot.
        let more : 0 < n = omega arith in
        read_more tokens n (The AnyType) from out more ∙ simp (h.there, dot.is, put_posts nodes.TypeName from (from + 1) out);
    arrow = no_arrow (other (kinds.Mark marks.Arrow) h refl);
  }

  pub exact_qualified_type : {from : ℕ} → HasAt tokens from kinds.Name → HasMark tokens (from + 1) marks.Dot → HasAt tokens (from + 2) kinds.Name → OfType tokens (one nodes.QualifiedType from (from + 3) leaf) from (from + 3)
  exact_qualified_type {from} h d i = record {
    gets = λ n out enough dot.
        let more : 0 < n = omega arith in
        read_more tokens n (The AnyType) from out more ∙ simp (h.there, d.there, i.there, put_posts nodes.QualifiedType from (from + 3) out);
    arrow = no_arrow (other (kinds.Mark marks.Arrow) h refl);
  }

  pub exact_type_parens : {x : Forest} {from to : ℕ} → HasMark tokens from marks.OpenParen → Spells tokens AnyType x (from + 1) to → HasMark tokens to marks.CloseParen → OfType tokens x (from + 1) to → OfType tokens (one nodes.TypeParens from (to + 1) x) from (to + 1)
  exact_type_parens {x} {from} {to} o s c ih = record {
    gets = λ n out enough dot.
        let within = within_mark o in
        let more : 0 < n = omega arith in
        let reads = ih.gets (n - 1) out (omega arith) (other (kinds.Mark marks.Dot) (at_mark c) refl) in
        read_more tokens n (The AnyType) from out more ∙ simp (o.there, reads, c.there, over nodes.TypeParens from (to + 1) out x);
    arrow = no_arrow (other (kinds.Mark marks.Arrow) (at_mark o) refl);
  }

  pub exact_pointer_type : {x : Forest} {from to : ℕ} → HasMark tokens from marks.Star → Spells tokens AnyType x (from + 1) to → OfType tokens x (from + 1) to → OfType tokens (one nodes.PointerType from to x) from to
  exact_pointer_type {x} {from} {to} h s ih = record {
    gets = λ n out enough dot.
        let within = within_mark h in
        let more : 0 < n = omega arith in
        let reads = ih.gets (n - 1) out (omega arith) dot in
        read_more tokens n (The AnyType) from out more ∙ simp (h.there, reads, over nodes.PointerType from to out x);
    arrow = no_arrow (other (kinds.Mark marks.Arrow) (at_mark h) refl);
  }

  pub exact_formed_type : {x : Forest} {from to : ℕ} → Fails tokens is_star from → Spells tokens OnlyType x from to → OfOnlyType tokens x from to → OfType tokens x from to
  exact_formed_type {x} {from} {to} f s ih = record {
    gets = λ n out enough dot.
        let more : 0 < n = omega arith in
        let start = starts tokens s in
        let name = apart kinds.Name start refl in
        let paren = apart (kinds.Mark marks.OpenParen) start refl in
        let star = lacking (kinds.Mark marks.Star) f refl in
        let reads = ih.alone (n - 1) out (omega arith) dot f in
        read_more tokens n (The AnyType) from out more ∙ simp (name.is, paren.is, star.is, reads);
    arrow = ih.arrow;
  }

  -- behind such a type nothing goes on, where it stands among expressions
  pub record Ending (at : ℕ) : Type 0 where
    pub brace : is_mark tokens at marks.OpenBrace ≡ false
    pub paren : is_mark tokens at marks.OpenParen ≡ false

  pub ending : {at : ℕ} → Passes tokens stops at → Ending at
  ending h = record { brace = (apart (kinds.Mark marks.OpenBrace) h refl).is; paren = (apart (kinds.Mark marks.OpenParen) h refl).is }

  pub undotted : {at : ℕ} → Passes tokens stops at → Not tokens at (kinds.Mark marks.Dot)
  undotted h = apart (kinds.Mark marks.Dot) h refl

  -- it is read as an operand
  pub stands_among : (n at to : ℕ) (out new : List Post) → 2 < n → Passes tokens begins_conversion at → is_word tokens at words.Func ≡ false → (is_mark tokens at marks.OpenBracket && (is_mark tokens (at + 1) marks.Ellipsis && is_mark tokens (at + 2) marks.CloseBracket)) ≡ false → Ending to → typed new ≡ true → read tokens (n - 1 - 1 - 1) (The OnlyType) at out ≡ Some (to, new) → read tokens n (UnaryOr true true) at out ≡ Some (to, new)
  stands_among n at to out new more start func array e t reads =
      let one_more : 0 < n = omega arith in
      let two_more : 0 < n - 1 = omega arith in
      let three_more : 0 < n - 1 - 1 = omega arith in
      let star = apart (kinds.Mark marks.Star) start refl in
      let arrow = apart (kinds.Mark marks.Arrow) start refl in
      let name = apart kinds.Name start refl in
      let paren = apart (kinds.Mark marks.OpenParen) start refl in
      let first : unary_of (kind_at tokens at) ≡ None = conversion_unary (kind_at tokens at) start.there in
      let literal : is_literal (kind_at tokens at) ≡ false = conversion_literal (kind_at tokens at) start.there in
      let operand : read tokens (n - 1 - 1) (OperandOr true true) at out ≡ Some (to, new) =
      read_more tokens (n - 1 - 1) (OperandOr true true) at out three_more ∙ simp (name.is, literal, paren.is, func, array, start.there, reads, e.brace, e.paren, and-false) in
      let primary : read tokens (n - 1) (PrimaryOr true true) at out ≡ Some (to, new) =
      read_more tokens (n - 1) (PrimaryOr true true) at out two_more ∙ simp (operand, t) in
      read_more tokens n (UnaryOr true true) at out one_more ∙ simp (star.is, arrow.is, first, primary)
