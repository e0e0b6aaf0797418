-- Fields and the elements of interfaces that are spelled are read.
use Rattle.std.proofs.Common.{◌≡◌, ℕ, ◌+◌, ◌-◌, ◌<◌, List, ◌++◌, Bool, true, false, ◌&&◌, Option, Some, refl, ap, ◌∙◌, arith}
use Rattle.std.proofs.lemmas.List.{append-nil}
use Rattle.std.proofs.Math.Bool.{and-false}
use Rattle.std.proofs.lemmas.Bool.{false≢true}
use Rattle.argot_tree.specs.declared.mark.Mark.TheVariants as marks
use Rattle.argot_tree.specs.declared.node_kind.NodeKind.TheVariants as nodes
use Rattle.argot_tree.specs.declared.token.TokenKind.{TokenKind}
use Rattle.argot_tree.specs.declared.token.TokenKind.TheVariants as kinds
use Rattle.argot_tree.specs.declared.token.Token.{Token}
use Rattle.argot_tree.specs.Forests.{Forest, leaf, beside, one}
use Rattle.argot_tree.specs.TokensAt.{kind_at, HasAt, HasMark, Passes, is_text, is_semicolon, begins_type}
use Rattle.argot_tree.specs.Grammar.{Spells, AnyType, Names, Signature, Embedded, MaybeTag, Fields, Field, Elements, Element, no_tag, a_tag, embedded_name, embedded_qualified, last_name, one_name}
use Rattle.argot_parse_reader.specs.Posts.{posts}
use Rattle.argot_parse_reader.specs.Reading.{The, is_at, names_then}
use Rattle.argot_parse_reader.specs.StatementReader.{ends_stmt}
use Rattle.argot_parse_reader.proofs.Steps.{read_more}
use Rattle.argot_parse_reader.proofs.PostLaws.{put_posts}
use Rattle.argot_parse_reader.proofs.Exact.Nodes.{over, over_two, over_three, two, declared, names_it}
use Rattle.argot_parse_reader.proofs.Exact.Ahead.{ahead}
use Rattle.argot_parse_reader.proofs.Exact.Starts.{starts}
use Rattle.argot_parse_reader.proofs.Exact.Tokens.{Not, other, apart, failing, at_mark, by_mark, by_test, within_at, within_pass}
use Rattle.argot_parse_reader.proofs.Exact.NameRuns.{names_stop, names_end, then_not}
use Rattle.argot_parse_reader.proofs.Exact.Claims.{OfType, OfEmbedded, Exact}

-- what stands behind the type of a field
abbrev ends_embedded : Option TokenKind → Bool
ends_embedded (Some kinds.Chars) = true
ends_embedded (Some kinds.RawChars) = true
ends_embedded kind = ends_stmt kind

text_embedded : (o : Option TokenKind) → is_text o ≡ true → ends_embedded o ≡ true
text_embedded (Some kinds.Chars) h = refl
text_embedded (Some kinds.RawChars) h = refl
text_embedded _ h = absurd (false≢true h)

stmt_embedded : (o : Option TokenKind) → ends_stmt o ≡ true → ends_embedded o ≡ true
stmt_embedded (Some kinds.Chars) h = refl
stmt_embedded (Some kinds.RawChars) h = refl
stmt_embedded _ h = h

embedded_untyped : (o : Option TokenKind) → ends_embedded o ≡ true → begins_type o ≡ false
embedded_untyped (Some kinds.Chars) h = refl
embedded_untyped (Some kinds.RawChars) h = refl
embedded_untyped (Some kinds.Inserted) h = refl
embedded_untyped (Some (kinds.Mark marks.Semicolon)) h = refl
embedded_untyped (Some (kinds.Mark marks.CloseBrace)) h = refl
embedded_untyped _ h = absurd (false≢true h)

stmt_no_text : (o : Option TokenKind) → ends_stmt o ≡ true → is_text o ≡ false
stmt_no_text (Some kinds.Chars) h = absurd (false≢true h)
stmt_no_text (Some kinds.RawChars) h = absurd (false≢true h)
stmt_no_text _ h = refl

pub semicolon_ends : (o : Option TokenKind) → is_semicolon o ≡ true → ends_stmt o ≡ true
semicolon_ends (Some kinds.Inserted) h = refl
semicolon_ends (Some (kinds.Mark marks.Semicolon)) h = refl
semicolon_ends _ h = absurd (false≢true h)

module _ (tokens : List Token) where
  tag_follows : {x : Forest} {from to : ℕ} → Spells tokens MaybeTag x from to → Passes tokens ends_stmt to → Passes tokens ends_embedded from
  tag_follows no_tag ends = by_test ends_embedded stmt_embedded ends
  tag_follows (a_tag h) ends = by_test ends_embedded text_embedded h

  pub exact_no_tag : {from : ℕ} → Exact tokens MaybeTag leaf from from
  exact_no_tag {from} = λ out ends.
      let untagged = failing is_text stmt_no_text ends in
      simp (untagged.there, append-nil out)

  pub exact_a_tag : {from : ℕ} → Passes tokens is_text from → Exact tokens MaybeTag (one nodes.Tag from (from + 1) leaf) from (from + 1)
  exact_a_tag {from} h = λ out ends. simp (h.there, put_posts nodes.Tag from (from + 1) out)

  pub exact_embedded_name : {from : ℕ} → HasAt tokens from kinds.Name → OfEmbedded tokens (one nodes.TypeName from (from + 1) leaf) from (from + 1)
  exact_embedded_name {from} h = record {
    name = h;
    gets = λ out dot. simp (dot.is, put_posts nodes.TypeName from (from + 1) out);
  }

  pub exact_embedded_qualified : {from : ℕ} → HasAt tokens from kinds.Name → HasMark tokens (from + 1) marks.Dot → HasAt tokens (from + 2) kinds.Name → OfEmbedded tokens (one nodes.QualifiedType from (from + 3) leaf) from (from + 3)
  exact_embedded_qualified {from} h d i = record {
    name = h;
    gets = λ out dot. simp (d.there, i.there, put_posts nodes.QualifiedType from (from + 3) out);
  }

  embedded_unnamed : {x : Forest} {from to : ℕ} → Spells tokens Embedded x from to → Passes tokens ends_embedded to → names_then tokens begins_type from ≡ false
  embedded_unnamed {x} {from} {to} (embedded_name h) ends =
      let comma = apart (kinds.Mark marks.Comma) ends refl in
      let untyped = failing begins_type embedded_untyped ends in
      ap (λ j. is_at tokens from kinds.Name && begins_type (kind_at tokens j)) (names_stop tokens from (simp comma.is)) ∙ simp (untyped.there, and-false)
  embedded_unnamed {x} {from} {to} (embedded_qualified h d i) ends = then_not tokens begins_type from (kinds.Mark marks.Dot) (at_mark d) refl refl

  pub names_forward : {x : Forest} {from to : ℕ} → Spells tokens Names x from to → from < to
  names_forward (last_name h) = omega arith
  names_forward (one_name h c s) = omega (arith, ahead tokens s)

  -- behind an embedded type's name stand no parameters
  embedded_alone : {x : Forest} {from to : ℕ} → Spells tokens Embedded x from to → Passes tokens ends_stmt to → Not tokens (from + 1) (kinds.Mark marks.OpenParen)
  embedded_alone (embedded_name h) ends = apart (kinds.Mark marks.OpenParen) ends refl
  embedded_alone (embedded_qualified h d i) ends = other (kinds.Mark marks.OpenParen) (at_mark d) refl

  pub exact_named_field : {x y z : Forest} {from mid mid2 to : ℕ} → Spells tokens Names x from mid → Spells tokens AnyType y mid mid2 → Spells tokens MaybeTag z mid2 to → Exact tokens Names x from mid → OfType tokens y mid mid2 → Exact tokens MaybeTag z mid2 to → Exact tokens Field (one nodes.Field from to (beside (one nodes.Names from mid x) (beside y z))) from to
  exact_named_field {x} {y} {z} {from} {mid} {mid2} {to} s t u ihx ihy ihz = λ n out enough ends.
      let name = starts tokens s in
      let within = within_at name in
      let forward = ahead tokens s in
      let start = starts tokens t in
      let inside = within_pass start refl in
      let more : 0 < n = omega arith in
      let comma = apart (kinds.Mark marks.Comma) start refl in
      let named : names_then tokens begins_type from ≡ true =
      ap (λ j. is_at tokens from kinds.Name && begins_type (kind_at tokens j)) (names_end tokens s comma) ∙ simp (name.there, start.there) in
      let reads = ihx (n - 1) out (omega arith) comma in
      let names = one nodes.Names from mid x in
      let type = ihy.gets (n - 1) (out ++ posts names) (omega (arith, names_forward s)) (apart (kinds.Mark marks.Dot) (tag_follows u ends) refl) in
      let tag = ihz ((out ++ posts names) ++ posts y) ends in
      read_more tokens n (The Field) from out more ∙ simp (named, reads, over nodes.Names from mid out x, type, tag, over_three nodes.Field from to out names y z)

  pub exact_embedded_field : {x y : Forest} {from mid to : ℕ} → Spells tokens Embedded x from mid → Spells tokens MaybeTag y mid to → OfEmbedded tokens x from mid → Exact tokens MaybeTag y mid to → Exact tokens Field (one nodes.EmbeddedField from to (beside x y)) from to
  exact_embedded_field {x} {y} {from} {mid} {to} s t ihx ihy = λ n out enough ends.
      let more : 0 < n = omega arith in
      let follows = tag_follows t ends in
      let name = ihx.name in
      let reads = ihx.gets out (apart (kinds.Mark marks.Dot) follows refl) in
      let tag = ihy (out ++ posts x) ends in
      read_more tokens n (The Field) from out more ∙ simp (embedded_unnamed s follows) (simp (name.there, reads, tag, over_two nodes.EmbeddedField from to out x y))

  pub exact_embedded_pointer : {x y : Forest} {from mid to : ℕ} → HasMark tokens from marks.Star → Spells tokens Embedded x (from + 1) mid → Spells tokens MaybeTag y mid to → OfEmbedded tokens x (from + 1) mid → Exact tokens MaybeTag y mid to → Exact tokens Field (one nodes.EmbeddedPointer from to (beside x y)) from to
  exact_embedded_pointer {x} {y} {from} {mid} {to} h s t ihx ihy = λ n out enough ends.
      let more : 0 < n = omega arith in
      let follows = tag_follows t ends in
      let name = ihx.name in
      let reads = ihx.gets out (apart (kinds.Mark marks.Dot) follows refl) in
      let tag = ihy (out ++ posts x) ends in
      read_more tokens n (The Field) from out more ∙ simp (h.there, name.there, reads, tag, over_two nodes.EmbeddedPointer from to out x y)

  pub exact_no_field : {from : ℕ} → Exact tokens Fields leaf from from
  exact_no_field {from} = λ n out enough c.
      let more : 0 < n = omega arith in
      read_more tokens n (The Fields) from out more ∙ simp (c.there, append-nil out)

  pub exact_last_field : {x : Forest} {from to : ℕ} → Spells tokens Field x from to → HasMark tokens to marks.CloseBrace → Exact tokens Field x from to → Exact tokens Fields x from to
  exact_last_field {x} {from} {to} s c ih = λ n out enough d.
      let more : 0 < n = omega arith in
      let brace = apart (kinds.Mark marks.CloseBrace) (starts tokens s) refl in
      let reads = ih (n - 1) out (omega arith) (by_mark ends_stmt c refl) in
      read_more tokens n (The Fields) from out more ∙ simp (brace.is, reads, c.there)

  pub exact_one_field : {x y : Forest} {from mid to : ℕ} → Spells tokens Field x from mid → Passes tokens is_semicolon mid → Spells tokens Fields y (mid + 1) to → Exact tokens Field x from mid → Exact tokens Fields y (mid + 1) to → Exact tokens Fields (beside x y) from to
  exact_one_field {x} {y} {from} {mid} {to} s c t ihx ihy = λ n out enough d.
      let within = within_pass c refl in
      let forward = ahead tokens s in
      let more : 0 < n = omega arith in
      let brace = apart (kinds.Mark marks.CloseBrace) (starts tokens s) refl in
      let reads = ihx (n - 1) out (omega arith) (by_test ends_stmt semicolon_ends c) in
      let then = ihy (n - 1) (out ++ posts x) (omega arith) d in
      read_more tokens n (The Fields) from out more ∙ simp (brace.is, reads, c.there, then, two out x y)

  pub exact_method : {x : Forest} {from to : ℕ} → HasAt tokens from kinds.Name → Spells tokens Signature x (from + 1) to → Exact tokens Signature x (from + 1) to → Exact tokens Element (one nodes.Method from to (beside (one nodes.DeclName from (from + 1) leaf) x)) from to
  exact_method {x} {from} {to} h s ih = λ n out enough ends.
      let within = within_at h in
      let more : 0 < n = omega arith in
      let open_paren = starts tokens s in
      let reads = ih (n - 1) (out ++ posts (declared from)) (omega arith) (apart (kinds.Mark marks.Dot) ends refl) in
      read_more tokens n (The Element) from out more ∙ simp (h.there, open_paren.there, names_it from out, reads, over_two nodes.Method from to out (declared from) x)

  pub exact_embedded_type : {x : Forest} {from to : ℕ} → Spells tokens Embedded x from to → OfEmbedded tokens x from to → Exact tokens Element (one nodes.EmbeddedType from to x) from to
  exact_embedded_type {x} {from} {to} s ih = λ n out enough ends.
      let more : 0 < n = omega arith in
      let name = ih.name in
      let reads = ih.gets out (apart (kinds.Mark marks.Dot) ends refl) in
      read_more tokens n (The Element) from out more ∙ simp (name.there, (embedded_alone s ends).is, reads, over nodes.EmbeddedType from to out x)

  pub exact_no_element : {from : ℕ} → Exact tokens Elements leaf from from
  exact_no_element {from} = λ n out enough c.
      let more : 0 < n = omega arith in
      read_more tokens n (The Elements) from out more ∙ simp (c.there, append-nil out)

  pub exact_last_element : {x : Forest} {from to : ℕ} → Spells tokens Element x from to → HasMark tokens to marks.CloseBrace → Exact tokens Element x from to → Exact tokens Elements x from to
  exact_last_element {x} {from} {to} s c ih = λ n out enough d.
      let more : 0 < n = omega arith in
      let brace = other (kinds.Mark marks.CloseBrace) (starts tokens s) refl in
      let reads = ih (n - 1) out (omega arith) (by_mark ends_stmt c refl) in
      read_more tokens n (The Elements) from out more ∙ simp (brace.is, reads, c.there)

  pub exact_one_element : {x y : Forest} {from mid to : ℕ} → Spells tokens Element x from mid → Passes tokens is_semicolon mid → Spells tokens Elements y (mid + 1) to → Exact tokens Element x from mid → Exact tokens Elements y (mid + 1) to → Exact tokens Elements (beside x y) from to
  exact_one_element {x} {y} {from} {mid} {to} s c t ihx ihy = λ n out enough d.
      let within = within_pass c refl in
      let forward = ahead tokens s in
      let more : 0 < n = omega arith in
      let brace = other (kinds.Mark marks.CloseBrace) (starts tokens s) refl in
      let reads = ihx (n - 1) out (omega arith) (by_test ends_stmt semicolon_ends c) in
      let then = ihy (n - 1) (out ++ posts x) (omega arith) d in
      read_more tokens n (The Elements) from out more ∙ simp (brace.is, reads, c.there, then, two out x y)
