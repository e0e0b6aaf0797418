-- Switches that are spelled are read: what stands before the semicolon in the head, then a value, a guard or nothing.
use Rattle.std.proofs.Common.{◌≡◌, ℕ, zero, suc, ◌+◌, ◌-◌, ◌<◌, ◌≤◌, List, ◌++◌, length, Bool, true, false, ◌&&◌, Option, Some, None, refl, sym, ap, ◌∙◌, arith, length-append}
use Rattle.std.proofs.lemmas.List.{append-nil}
use Rattle.std.proofs.lemmas.Bool.{false≢true, and_parts}
use Rattle.argot_tree.specs.declared.keyword.Keyword.TheVariants as words
use Rattle.argot_tree.specs.declared.mark.Mark.TheVariants as marks
use Rattle.argot_tree.specs.declared.node_kind.NodeKind.TheVariants as nodes
use Rattle.argot_tree.specs.declared.token.TokenKind.{TokenKind}
use Rattle.argot_tree.specs.declared.token.TokenKind.TheVariants as kinds
use Rattle.argot_tree.specs.declared.token.Token.{Token}
use Rattle.argot_tree.specs.Forests.{Forest, leaf, beside, one}
use Rattle.std.specs.List.{remove}
use Rattle.argot_tree.specs.TokensAt.{level_of, level_at, HasWord, HasMark, Passes, is_semicolon}
use Rattle.argot_tree.specs.Grammar.{Spells, Level, Primary, Cases, Stmt, Simple, MaybeInit, MaybeSwitched, TypeGuard, AnyType, OnlyType, last_expr, unary_level, primary}
use Rattle.argot_parse_reader.specs.declared.post.Post.{Post}
use Rattle.argot_parse_reader.specs.Posts.{posts}
use Rattle.argot_parse_reader.specs.Rooms.{room}
use Rattle.argot_parse_reader.specs.Reading.{The, PrimaryOr, Suffixes, closed, is_at, is_mark}
use Rattle.argot_parse_reader.specs.StatementReader.{switched_by, tag_by, head_by}
use Rattle.argot_parse_reader.specs.Reader.{read}
use Rattle.argot_parse_reader.proofs.Steps.{read_more}
use Rattle.argot_parse_reader.proofs.TokenTests.{has_at, has_mark}
use Rattle.argot_parse_reader.proofs.SoundSwitches.{unnamed}
use Rattle.argot_parse_reader.proofs.PostLaws.{put_posts, closed_posts}
use Rattle.argot_parse_reader.proofs.Exact.Nodes.{over, over_two, over_three, declared, names_it}
use Rattle.argot_parse_reader.proofs.Roots.{rooted_primary, primary_operation}
use Rattle.argot_parse_reader.proofs.Exact.Ahead.{ahead}
use Rattle.argot_parse_reader.proofs.Exact.Starts.{starts, operand_expr}
use Rattle.argot_parse_reader.proofs.Exact.Tokens.{apart, failing, follows, begins_expr, at_mark, at_word, by_mark, by_test, within_at, within_mark, within_word, within_pass}
use Rattle.argot_parse_reader.proofs.Exact.Simples.{undefined_mark}
use Rattle.argot_parse_reader.proofs.Exact.Seconds.{second_not, either_way}
use Rattle.argot_parse_reader.proofs.Exact.Levels.{level_gets, level_whole, exact_unary_level, exact_primary}
use Rattle.argot_parse_reader.proofs.Exact.Heads.{expr_no_semicolon, opens_expr}
use Rattle.argot_parse_reader.proofs.Exact.Statements.{begun_by}
use Rattle.argot_parse_reader.proofs.Exact.Claims.{Gets, OfPrimary, OfSimple, OfStmt, OfInit, no_statement, empty_statement, a_statement, OfMaybe, no_expression, an_expression, OfGuard, guarded, named_guarded, Exact}

-- what stands behind a value in a head, or before a guard's type
abbrev is_brace : Option TokenKind → Bool
is_brace (Some (kinds.Mark marks.OpenBrace)) = true
is_brace (Some (kinds.Mark marks.Dot)) = true
is_brace _ = false

module _ (tokens : List Token) where
  -- the word `type` begins no type
  no_only : (n at : ℕ) (out : List Post) → HasWord tokens at words.TypeWord → read tokens n (The OnlyType) at out ≡ None
  unfolding read
  no_only zero at out h = refl
  no_only (suc n) at out h = simp h.there

  no_type : (n at : ℕ) (out : List Post) → HasWord tokens at words.TypeWord → read tokens n (The AnyType) at out ≡ None
  unfolding read
  no_type zero at out h = refl
  no_type (suc n) at out h = let none = no_only n at out h in simp (h.there, none)

  guard_stays : (n from mark at : ℕ) (out : List Post) → HasMark tokens at marks.Dot → HasMark tokens (at + 1) marks.OpenParen → HasWord tokens (at + 2) words.TypeWord → read tokens n (Suffixes from mark) at out ≡ Some (at, out)
  unfolding read
  guard_stays zero from mark at out d p w = refl
  guard_stays (suc n) from mark at out d p w = let none = no_type n (at + 2) out w in simp (d.there, p.there, none)

  -- what a guard asks of is read before the guard
  guard_reads : {x : Forest} {from to : ℕ} → Spells tokens (Primary false) x from to → OfPrimary tokens false x from to → HasMark tokens to marks.Dot → HasMark tokens (to + 1) marks.OpenParen → HasWord tokens (to + 2) words.TypeWord → (n : ℕ) (out : List Post) → room tokens from 5 ≤ n → Gets tokens n (The (Level 1 false)) from out x to
  guard_reads {x} {from} {to} s ih d p w n out enough =
      let level : level_at tokens to ≡ 0 = ap level_of d.there in
      level_whole tokens n out (unary_level (primary s)) (exact_unary_level tokens 1 (primary s) (exact_primary tokens s ih)) enough (omega (arith, level))
      (record { stay = λ m from mark new. guard_stays m from mark to new d p w })
      (record { here = λ e. absurd (false≢true e); dotted = λ at e. absurd (false≢true e) })

  guard_primary : {x : Forest} {from to : ℕ} → OfPrimary tokens false x from to → HasMark tokens to marks.Dot → HasMark tokens (to + 1) marks.OpenParen → HasWord tokens (to + 2) words.TypeWord → (n : ℕ) (out : List Post) → room tokens from 3 ≤ n → Gets tokens n (PrimaryOr false false) from out x to
  guard_primary {x} {from} {to} ih d p w n out enough =
      let comes = ih false n out enough (record { here = λ e. absurd (false≢true e); dotted = λ at e. absurd (false≢true e) }) in
      comes.comes ∙ guard_stays comes.steps from (length out) to (out ++ posts x) d p w

  -- no name and `:=` stand before a brace, or before a guard
  unnamed_tag : {x : Forest} {from to : ℕ} → Spells tokens (Level 1 false) x from to → Passes tokens is_brace to → (is_at tokens from kinds.Name && is_mark tokens (from + 1) marks.Define) ≡ false
  unnamed_tag s h = second_not tokens (kinds.Mark marks.Define) s h refl refl

  tag_switch : {y : Forest} {at mid : ℕ} → OfMaybe tokens y at mid → HasMark tokens mid marks.OpenBrace → (from mark n : ℕ) (out : List Post) → room tokens at 5 ≤ n → tag_by tokens (read tokens n) from mark at out ≡ switched_by tokens (read tokens n) nodes.Switch from mark (mid, out ++ posts y)
  tag_switch {y} {at} {mid} no_expression b from mark n out enough = simp (b.there, append-nil out)
  tag_switch {y} {at} {mid} (an_expression s ih) b from mark n out enough =
      let no_brace = apart (kinds.Mark marks.OpenBrace) (starts tokens s) refl in
      let reads = level_gets tokens s ih (by_mark (follows false) b refl) n out enough in
      simp (no_brace.is, unnamed_tag s (by_mark is_brace b refl), reads, b.there)

  tag_guard : {y : Forest} {at mid : ℕ} → OfGuard tokens y at mid → (from mark n : ℕ) (out : List Post) → room tokens at 5 ≤ n → tag_by tokens (read tokens n) from mark at out ≡ switched_by tokens (read tokens n) nodes.TypeSwitch from mark (mid, out ++ posts y)
  tag_guard {y} {at} {mid} (guarded {x = x} {to = to} s ih d p w c) from mark n out enough =
      let start = by_test begins_expr operand_expr (starts tokens s) in
      let no_brace = apart (kinds.Mark marks.OpenBrace) start refl in
      let reads = guard_reads s ih d p w n out enough in
      simp (no_brace.is, unnamed_tag (unary_level (primary s)) (by_mark is_brace d refl), reads, d.there, p.there, w.there, c.there, rooted_primary out (primary_operation tokens s), over nodes.Guard at (to + 4) out x)
  tag_guard {y} {at} {mid} (named_guarded {x = x} {to = to} h a s ih d p w c) from mark n out enough =
      let within = within_at h in
      let guard = one nodes.Guard (at + 2) (to + 4) x in
      let reads = guard_primary ih d p w n (out ++ posts (declared at)) (omega arith) in
      let long : length out + 1 ≡ length (out ++ posts (declared at)) = omega (arith, length-append out (posts (declared at))) in
      simp (h.there, a.there, names_it at out, reads, d.there, p.there, w.there, c.there, rooted_primary (out ++ posts (declared at)) (primary_operation tokens s), closed_posts nodes.Guard (at + 2) (to + 4) (length out + 1) (out ++ posts (declared at)) ((out ++ posts (declared at)) ++ posts x) x refl long, over_two nodes.NamedGuard at (to + 4) out (declared at) guard)

  -- a head whose first statement is a definition of one name
  define_head : {z : Forest} {start end : ℕ} → (is_at tokens start kinds.Name && is_mark tokens (start + 1) marks.Define) ≡ true → OfSimple tokens false z start end → Passes tokens is_semicolon end → (from n : ℕ) (out : List Post) → room tokens start 6 ≤ n → head_by tokens (read tokens n) from start out ≡ tag_by tokens (read tokens n) from (length out) (end + 1) (out ++ posts (one nodes.Init start end z))
  define_head {z} {start} {end} named ih c from n out enough =
      let both = and_parts (is_at tokens start kinds.Name) (is_mark tokens (start + 1) marks.Define) named in
      let h = has_at start kinds.Name both.0 in
      let a = has_mark (start + 1) marks.Define both.1 in
      let d = ih.defines n out refl h a enough c in
      let reads = d.reads in
      let unguarded = d.unguarded in
      let goes = d.goes in
      simp (h.there, a.there, names_it start out, over nodes.Names start (start + 1) out (declared start), reads, unguarded, goes, c.there, over nodes.Init start end out z)

  other_head : {z : Forest} {start end : ℕ} → (is_at tokens start kinds.Name && is_mark tokens (start + 1) marks.Define) ≡ false → Spells tokens (Simple false) z start end → OfSimple tokens false z start end → Passes tokens is_semicolon end → (from n : ℕ) (out : List Post) → room tokens start 6 ≤ n → head_by tokens (read tokens n) from start out ≡ tag_by tokens (read tokens n) from (length out) (end + 1) (out ++ posts (one nodes.Init start end z))
  other_head {z} {start} {end} unnamed s ih c from n out enough =
      let first = starts tokens s in
      let no_semicolon = failing is_semicolon expr_no_semicolon first in
      let no_brace = apart (kinds.Mark marks.OpenBrace) first refl in
      let opens = ih.opens n out refl enough c in
      simp (no_semicolon.there, no_brace.is, unnamed) (simp opens (simp (c.there, over nodes.Init start end out z)))

  -- the head up to what is asked for, where a statement stands before it
  statement_head : {z : Forest} {start end : ℕ} → Spells tokens (Simple false) z start end → OfSimple tokens false z start end → Passes tokens is_semicolon end → (from n : ℕ) (out : List Post) → room tokens start 6 ≤ n → head_by tokens (read tokens n) from start out ≡ tag_by tokens (read tokens n) from (length out) (end + 1) (out ++ posts (one nodes.Init start end z))
  statement_head {z} {start} {end} s ih c from n out enough =
      either_way (is_at tokens start kinds.Name && is_mark tokens (start + 1) marks.Define)
      (λ named. define_head named ih c from n out enough)
      (λ unnamed. other_head unnamed s ih c from n out enough)

  value_head : {x y : Forest} {start mid mid2 : ℕ} → OfInit tokens x start mid → OfMaybe tokens y mid mid2 → Spells tokens MaybeInit x start mid → HasMark tokens mid2 marks.OpenBrace → (from n : ℕ) (out : List Post) → room tokens start 6 ≤ n → head_by tokens (read tokens n) from start out ≡ switched_by tokens (read tokens n) nodes.Switch from (length out) (mid2, (out ++ posts x) ++ posts y)
  value_head {x} {y} {start} no_statement no_expression whole b from n out enough =
      simp (b.there, append-nil out)
  value_head {x} {y} {start} {mid} {mid2} no_statement (an_expression s ih) whole b from n out enough =
      let first = starts tokens s in
      let no_semicolon = failing is_semicolon expr_no_semicolon first in
      let no_brace = apart (kinds.Mark marks.OpenBrace) first refl in
      let opens = opens_expr tokens s ih b n out (omega arith) in
      simp (no_semicolon.there, no_brace.is, unnamed_tag s (by_mark is_brace b refl)) (simp opens (simp (b.there, append-nil out)))
  value_head {x} {y} {start} {mid} {mid2} (empty_statement c) t whole b from n out enough =
      let within = within_pass c refl in
      let empty = one nodes.Empty start start leaf in
      let init = one nodes.Init start start empty in
      let tag = tag_switch t b from (length out) n (out ++ posts init) (omega arith) in
      simp (c.there, put_posts nodes.Empty start start out, over nodes.Init start start out empty) tag
  value_head {x} {y} {start} {mid} {mid2} (a_statement {x = z} {to = end} s ih c) t whole b from n out enough =
      let within = within_pass c refl in
      let forward = ahead tokens s in
      let init = one nodes.Init start end z in
      let tag = tag_switch t b from (length out) n (out ++ posts init) (omega arith) in
      statement_head s ih c from n out enough ∙ tag

  guard_head : {x y : Forest} {start mid mid2 : ℕ} → OfInit tokens x start mid → OfGuard tokens y mid mid2 → Spells tokens MaybeInit x start mid → HasMark tokens mid2 marks.OpenBrace → (from n : ℕ) (out : List Post) → room tokens start 6 ≤ n → head_by tokens (read tokens n) from start out ≡ switched_by tokens (read tokens n) nodes.TypeSwitch from (length out) (mid2, (out ++ posts x) ++ posts y)
  guard_head {x} {y} {start} {mid} {mid2} no_statement (guarded {x = z} {to = to} s ih d p w c) whole b from n out enough =
      let first = by_test begins_expr operand_expr (starts tokens s) in
      let level = unary_level (primary s) in
      let no_semicolon = failing is_semicolon expr_no_semicolon first in
      let no_brace = apart (kinds.Mark marks.OpenBrace) first refl in
      let none = undefined_mark tokens (last_expr level) (at_mark d) refl refl in
      let reads = guard_reads s ih d p w n out (omega arith) in
      simp (no_semicolon.there, no_brace.is, unnamed_tag level (by_mark is_brace d refl), none, reads, d.there, p.there, w.there, c.there, rooted_primary out (primary_operation tokens s), over nodes.Guard start (to + 4) out z, append-nil out)
  guard_head {x} {y} {start} {mid} {mid2} no_statement (named_guarded {x = z} {to = to} h a s ih d p w c) whole b from n out enough =
      let within = within_at h in
      let names = one nodes.Names start (start + 1) (declared start) in
      let guard = one nodes.Guard (start + 2) (to + 4) z in
      let reads = guard_reads s ih d p w n (out ++ posts names) (omega arith) in
      let long : length out + 1 ≡ length (out ++ posts (declared start)) = omega (arith, length-append out (posts (declared start))) in
      let alone : remove ((out ++ posts names) ++ posts z) (length out + 1) ≡ (out ++ posts (declared start)) ++ posts z =
      unnamed start out ((out ++ posts names) ++ posts z) z (ap (λ l. l ++ posts z) (sym (ap (closed nodes.Names start (start + 1) (length out)) (names_it start out) ∙ over nodes.Names start (start + 1) out (declared start)))) ∙ ap (λ l. l ++ posts z) (names_it start out) in
      simp (h.there, a.there, names_it start out, over nodes.Names start (start + 1) out (declared start), reads, d.there, p.there, w.there, c.there, alone, rooted_primary (out ++ posts (declared start)) (primary_operation tokens s), closed_posts nodes.Guard (start + 2) (to + 4) (length out + 1) (out ++ posts (declared start)) ((out ++ posts (declared start)) ++ posts z) z refl long, over_two nodes.NamedGuard start (to + 4) out (declared start) guard, append-nil out)
  guard_head {x} {y} {start} {mid} {mid2} (empty_statement c) t whole b from n out enough =
      let within = within_pass c refl in
      let empty = one nodes.Empty start start leaf in
      let init = one nodes.Init start start empty in
      let tag = tag_guard t from (length out) n (out ++ posts init) (omega arith) in
      simp (c.there, put_posts nodes.Empty start start out, over nodes.Init start start out empty) tag
  guard_head {x} {y} {start} {mid} {mid2} (a_statement {x = z} {to = end} s ih c) t whole b from n out enough =
      let within = within_pass c refl in
      let forward = ahead tokens s in
      let init = one nodes.Init start end z in
      let tag = tag_guard t from (length out) n (out ++ posts init) (omega arith) in
      statement_head s ih c from n out enough ∙ tag

  pub exact_switch : {x y z : Forest} {from mid mid2 to : ℕ} → HasWord tokens from words.Switch → Spells tokens MaybeInit x (from + 1) mid → Spells tokens MaybeSwitched y mid mid2 → HasMark tokens mid2 marks.OpenBrace → Spells tokens Cases z (mid2 + 1) to → HasMark tokens to marks.CloseBrace → Spells tokens Stmt (one nodes.Switch from (to + 1) (beside x (beside y z))) from (to + 1) → OfInit tokens x (from + 1) mid → OfMaybe tokens y mid mid2 → Exact tokens Cases z (mid2 + 1) to → OfStmt tokens (one nodes.Switch from (to + 1) (beside x (beside y z))) from (to + 1)
  exact_switch {x} {y} {z} {from} {mid} {mid2} {to} h s t b u c whole ihx ihy ihz = begun_by tokens (at_word h) refl whole
      (λ n out enough ends.
      let within = within_word h in
      let inside = within_mark b in
      let forward = ahead tokens s in
      let onward = ahead tokens t in
      let more : 0 < n = omega arith in
      let head = value_head ihx ihy s b from (n - 1) out (omega arith) in
      let cases = ihz (n - 1) ((out ++ posts x) ++ posts y) (omega arith) c in
      read_more tokens n (The Stmt) from out more ∙ simp h.there (head ∙ simp (b.there, cases, c.there, over_three nodes.Switch from (to + 1) out x y z)))

  pub exact_type_switch : {x y z : Forest} {from mid mid2 to : ℕ} → HasWord tokens from words.Switch → Spells tokens MaybeInit x (from + 1) mid → Spells tokens TypeGuard y mid mid2 → HasMark tokens mid2 marks.OpenBrace → Spells tokens Cases z (mid2 + 1) to → HasMark tokens to marks.CloseBrace → Spells tokens Stmt (one nodes.TypeSwitch from (to + 1) (beside x (beside y z))) from (to + 1) → OfInit tokens x (from + 1) mid → OfGuard tokens y mid mid2 → Exact tokens Cases z (mid2 + 1) to → OfStmt tokens (one nodes.TypeSwitch from (to + 1) (beside x (beside y z))) from (to + 1)
  exact_type_switch {x} {y} {z} {from} {mid} {mid2} {to} h s t b u c whole ihx ihy ihz = begun_by tokens (at_word h) refl whole
      (λ n out enough ends.
      let within = within_word h in
      let inside = within_mark b in
      let forward = ahead tokens s in
      let onward = ahead tokens t in
      let more : 0 < n = omega arith in
      let head = guard_head ihx ihy s b from (n - 1) out (omega arith) in
      let cases = ihz (n - 1) ((out ++ posts x) ++ posts y) (omega arith) c in
      read_more tokens n (The Stmt) from out more ∙ simp h.there (head ∙ simp (b.there, cases, c.there, over_three nodes.TypeSwitch from (to + 1) out x y z)))
