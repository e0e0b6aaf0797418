-- Files that are spelled are read: imports, declarations at the top, receivers.
use Rattle.std.proofs.Common.{◌≡◌, ℕ, ◌+◌, ◌-◌, ◌<◌, List, ◌++◌, Bool, true, false, ◌&&◌, Option, Some, None, refl, ap, ◌∙◌, subst, ⊎_elim, arith}
use Rattle.std.proofs.lemmas.List.{append-nil}
use Rattle.std.proofs.Math.Bool.{and-false}
use Rattle.std.proofs.lemmas.Bool.{false≢true}
use Rattle.argot_tree.specs.declared.keyword.Keyword.TheVariants as words
use Rattle.argot_tree.specs.declared.mark.Mark.TheVariants as marks
use Rattle.argot_tree.specs.declared.node_kind.NodeKind.TheVariants as nodes
use Rattle.argot_tree.specs.declared.token.TokenKind.{TokenKind}
use Rattle.argot_tree.specs.declared.token.TokenKind.TheVariants as kinds
use Rattle.argot_tree.specs.declared.token.Token.{Token}
use Rattle.argot_tree.specs.Forests.{Forest, leaf, beside, one}
use Rattle.argot_tree.specs.TokensAt.{kind_at, HasAt, HasWord, HasMark, Passes, Fails, MaybeComma, is_semicolon, is_text, begins_type}
use Rattle.argot_tree.specs.Grammar.{Spells, File, Imports, Import, Specs, Spec, Tops, Top, Decl, Receiver, MaybeReceiver, TypeParams, MaybeTypeParams, MaybeBody, Signature, AnyType, Block, no_top, one_top, no_body, a_body}
use Rattle.argot_parse_reader.specs.Posts.{posts}
use Rattle.argot_parse_reader.specs.Reading.{The, is_at}
use Rattle.argot_parse_reader.specs.FileReader.{is_end}
use Rattle.argot_parse_reader.proofs.Steps.{read_more}
use Rattle.argot_parse_reader.proofs.TokenTests.{has_at}
use Rattle.argot_parse_reader.proofs.PostLaws.{put_posts}
use Rattle.argot_parse_reader.proofs.Exact.Nodes.{over, over_two, over_three, over_five, two, declared, names_it}
use Rattle.argot_parse_reader.proofs.Exact.Ahead.{ahead}
use Rattle.argot_parse_reader.proofs.Exact.Starts.{starts}
use Rattle.argot_parse_reader.proofs.Exact.Tokens.{Not, other, apart, failing, ends_spec, begins_top, at_mark, by_test, within_at, within_mark, within_word, within_pass, EndsList, list_end}
use Rattle.argot_parse_reader.proofs.Exact.Lists.{end_passes, end_not, passed, paren}
use Rattle.argot_parse_reader.proofs.Exact.NameRuns.{name_type}
use Rattle.argot_parse_reader.proofs.Exact.Declarations.{semicolon_spec}
use Rattle.argot_parse_reader.proofs.Exact.Seconds.{either_way}
use Rattle.argot_parse_reader.proofs.Exact.Claims.{OfType, Exact}

top_goes : (o : Option TokenKind) → begins_top o ≡ true → is_end o ≡ false
top_goes None h = absurd (false≢true h)
top_goes (Some kind) h = refl

-- what stands behind a receiver's type without a name
abbrev ends_receiver : Option TokenKind → Bool
ends_receiver (Some (kinds.Mark marks.CloseParen)) = true
ends_receiver (Some (kinds.Mark marks.Comma)) = true
ends_receiver _ = false

receiver_untyped : (o : Option TokenKind) → ends_receiver o ≡ true → begins_type o ≡ false
receiver_untyped (Some (kinds.Mark marks.CloseParen)) h = refl
receiver_untyped (Some (kinds.Mark marks.Comma)) h = refl
receiver_untyped _ h = absurd (false≢true h)

module _ (tokens : List Token) where
  pub exact_spec : {from : ℕ} → Passes tokens is_text from → Exact tokens Spec (one nodes.Spec from (from + 1) (one nodes.ImportPath from (from + 1) leaf)) from (from + 1)
  exact_spec {from} h = λ n out enough.
      let more : 0 < n = omega arith in
      read_more tokens n (The Spec) from out more ∙ simp (h.there, put_posts nodes.ImportPath from (from + 1) out, over nodes.Spec from (from + 1) out (one nodes.ImportPath from (from + 1) leaf))

  pub exact_dot_spec : {from : ℕ} → HasMark tokens from marks.Dot → Passes tokens is_text (from + 1) → Exact tokens Spec (one nodes.DotSpec from (from + 2) (one nodes.ImportPath (from + 1) (from + 2) leaf)) from (from + 2)
  exact_dot_spec {from} h i = λ n out enough.
      let more : 0 < n = omega arith in
      read_more tokens n (The Spec) from out more ∙ simp (h.there, i.there, put_posts nodes.ImportPath (from + 1) (from + 2) out, over nodes.DotSpec from (from + 2) out (one nodes.ImportPath (from + 1) (from + 2) leaf))

  pub exact_named_spec : {from : ℕ} → HasAt tokens from kinds.Name → Passes tokens is_text (from + 1) → Exact tokens Spec (one nodes.NamedSpec from (from + 2) (beside (one nodes.DeclName from (from + 1) leaf) (one nodes.ImportPath (from + 1) (from + 2) leaf))) from (from + 2)
  exact_named_spec {from} h i = λ n out enough.
      let more : 0 < n = omega arith in
      let path = one nodes.ImportPath (from + 1) (from + 2) leaf in
      read_more tokens n (The Spec) from out more ∙ simp (h.there, i.there, names_it from out, put_posts nodes.ImportPath (from + 1) (from + 2) (out ++ posts (declared from)), over_two nodes.NamedSpec from (from + 2) out (declared from) path)

  pub exact_no_spec : {from : ℕ} → Exact tokens Specs leaf from from
  exact_no_spec {from} = λ n out enough c.
      let more : 0 < n = omega arith in
      read_more tokens n (The Specs) from out more ∙ simp (c.there, append-nil out)

  pub exact_last_spec : {x : Forest} {from to : ℕ} → Spells tokens Spec x from to → HasMark tokens to marks.CloseParen → Exact tokens Spec x from to → Exact tokens Specs x from to
  exact_last_spec {x} {from} {to} s c ih = λ n out enough d.
      let more : 0 < n = omega arith in
      let closer = apart (kinds.Mark marks.CloseParen) (starts tokens s) refl in
      let reads = ih (n - 1) out (omega arith) in
      read_more tokens n (The Specs) from out more ∙ simp (closer.is, reads, c.there)

  pub exact_one_spec : {x y : Forest} {from mid to : ℕ} → Spells tokens Spec x from mid → Passes tokens is_semicolon mid → Spells tokens Specs y (mid + 1) to → Exact tokens Spec x from mid → Exact tokens Specs y (mid + 1) to → Exact tokens Specs (beside x y) from to
  exact_one_spec {x} {y} {from} {mid} {to} s c t ihx ihy = λ n out enough d.
      let within = within_pass c refl in
      let forward = ahead tokens s in
      let more : 0 < n = omega arith in
      let closer = apart (kinds.Mark marks.CloseParen) (starts tokens s) refl in
      let reads = ihx (n - 1) out (omega arith) in
      let then = ihy (n - 1) (out ++ posts x) (omega arith) d in
      read_more tokens n (The Specs) from out more ∙ simp (closer.is, reads, c.there, then, two out x y)

  pub exact_import_one : {x : Forest} {from to : ℕ} → HasWord tokens from words.Import → Spells tokens Spec x (from + 1) to → Exact tokens Spec x (from + 1) to → Exact tokens Import (one nodes.Import from to x) from to
  exact_import_one {x} {from} {to} h s ih = λ n out enough.
      let within = within_word h in
      let more : 0 < n = omega arith in
      let open_paren = apart (kinds.Mark marks.OpenParen) (starts tokens s) refl in
      let reads = ih (n - 1) out (omega arith) in
      read_more tokens n (The Import) from out more ∙ simp (h.there, open_paren.is, reads, over nodes.Import from to out x)

  pub exact_import_group : {x : Forest} {from to : ℕ} → HasWord tokens from words.Import → HasMark tokens (from + 1) marks.OpenParen → Spells tokens Specs x (from + 2) to → HasMark tokens to marks.CloseParen → Exact tokens Specs x (from + 2) to → Exact tokens Import (one nodes.ImportGroup from (to + 1) x) from (to + 1)
  exact_import_group {x} {from} {to} h i s c ih = λ n out enough.
      let within = within_word h in
      let more : 0 < n = omega arith in
      let reads = ih (n - 1) out (omega arith) c in
      read_more tokens n (The Import) from out more ∙ simp (h.there, i.there, reads, c.there, over nodes.ImportGroup from (to + 1) out x)

  pub exact_no_import : {from : ℕ} → Exact tokens Imports leaf from from
  exact_no_import {from} = λ n out enough f.
      let more : 0 < n = omega arith in
      read_more tokens n (The Imports) from out more ∙ simp (f.is, append-nil out)

  pub exact_one_import : {x y : Forest} {from mid to : ℕ} → Spells tokens Import x from mid → Passes tokens is_semicolon mid → Spells tokens Imports y (mid + 1) to → Exact tokens Import x from mid → Exact tokens Imports y (mid + 1) to → Exact tokens Imports (beside x y) from to
  exact_one_import {x} {y} {from} {mid} {to} s c t ihx ihy = λ n out enough f.
      let within = within_pass c refl in
      let forward = ahead tokens s in
      let more : 0 < n = omega arith in
      let word = starts tokens s in
      let reads = ihx (n - 1) out (omega arith) in
      let then = ihy (n - 1) (out ++ posts x) (omega arith) f in
      read_more tokens n (The Imports) from out more ∙ simp (word.there, reads, c.there, then, two out x y)

  pub exact_no_top : {from : ℕ} → Exact tokens Tops leaf from from
  exact_no_top {from} = λ n out enough e.
      let more : 0 < n = omega arith in
      read_more tokens n (The Tops) from out more ∙ simp (e.there, append-nil out)

  pub exact_one_top : {x y : Forest} {from mid to : ℕ} → Spells tokens Top x from mid → Passes tokens is_semicolon mid → Spells tokens Tops y (mid + 1) to → Exact tokens Top x from mid → Exact tokens Tops y (mid + 1) to → Exact tokens Tops (beside x y) from to
  exact_one_top {x} {y} {from} {mid} {to} s c t ihx ihy = λ n out enough e.
      let within = within_pass c refl in
      let forward = ahead tokens s in
      let more : 0 < n = omega arith in
      let goes = failing is_end top_goes (starts tokens s) in
      let reads = ihx (n - 1) out (omega arith) c in
      let then = ihy (n - 1) (out ++ posts x) (omega arith) e in
      read_more tokens n (The Tops) from out more ∙ simp (goes.there, reads, c.there, then, two out x y)

  -- no import stands where declarations do
  tops_word : {x : Forest} {from to : ℕ} → Spells tokens Tops x from to → Passes tokens is_end to → Not tokens from (kinds.Word words.Import)
  tops_word no_top e = apart (kinds.Word words.Import) e refl
  tops_word (one_top s c t) e = apart (kinds.Word words.Import) (starts tokens s) refl

  pub exact_file : {x y : Forest} {from mid to : ℕ} → HasWord tokens from words.Package → HasAt tokens (from + 1) kinds.Name → Passes tokens is_semicolon (from + 2) → Spells tokens Imports x (from + 3) mid → Spells tokens Tops y mid to → Exact tokens Imports x (from + 3) mid → Exact tokens Tops y mid to → Exact tokens File (one nodes.File from to (beside (one nodes.DeclName (from + 1) (from + 2) leaf) (beside x y))) from to
  exact_file {x} {y} {from} {mid} {to} h i c s t ihx ihy = λ n out enough e.
      let within = within_word h in
      let forward = ahead tokens s in
      let more : 0 < n = omega arith in
      let name = one nodes.DeclName (from + 1) (from + 2) leaf in
      let reads = ihx (n - 1) (out ++ posts name) (omega arith) (tops_word t e) in
      let then = ihy (n - 1) ((out ++ posts name) ++ posts x) (omega arith) e in
      read_more tokens n (The File) from out more ∙ simp (h.there, i.there, c.there, put_posts nodes.DeclName (from + 1) (from + 2) out, reads, then, over_three nodes.File from to out name x y)

  pub exact_top_decl : {x : Forest} {from to : ℕ} → Spells tokens Decl x from to → Exact tokens Decl x from to → Exact tokens Top x from to
  exact_top_decl {x} {from} {to} s ih = λ n out enough c.
      let more : 0 < n = omega arith in
      let func = apart (kinds.Word words.Func) (starts tokens s) refl in
      let reads = ih (n - 1) out (omega arith) (by_test ends_spec semicolon_spec c) in
      read_more tokens n (The Top) from out more ∙ simp (func.is, reads)

  body_dot : {x : Forest} {from to : ℕ} → Spells tokens MaybeBody x from to → Passes tokens is_semicolon to → Not tokens from (kinds.Mark marks.Dot)
  body_dot no_body c = apart (kinds.Mark marks.Dot) c refl
  body_dot (a_body s) c = other (kinds.Mark marks.Dot) (at_mark (starts tokens s)) refl

  pub exact_top_func : {x y z w : Forest} {from mid mid2 mid3 to : ℕ} → HasWord tokens from words.Func → Spells tokens MaybeReceiver x (from + 1) mid → HasAt tokens mid kinds.Name → Spells tokens MaybeTypeParams y (mid + 1) mid2 → Spells tokens Signature z mid2 mid3 → Spells tokens MaybeBody w mid3 to → Exact tokens MaybeReceiver x (from + 1) mid → Exact tokens MaybeTypeParams y (mid + 1) mid2 → Exact tokens Signature z mid2 mid3 → Exact tokens MaybeBody w mid3 to → Exact tokens Top (one nodes.FuncDecl from to (beside x (beside (one nodes.DeclName mid (mid + 1) leaf) (beside y (beside z w))))) from to
  exact_top_func {x} {y} {z} {w} {from} {mid} {mid2} {mid3} {to} h s i t u v ihx ihy ihz ihw = λ n out enough c.
      let within = within_word h in
      let inside = within_at i in
      let forward = ahead tokens s in
      let onward = ahead tokens t in
      let behind = ahead tokens u in
      let more : 0 < n = omega arith in
      let reads = ihx (n - 1) out (omega arith) i in
      let params = ihy (n - 1) ((out ++ posts x) ++ posts (declared mid)) (omega arith) (starts tokens u) in
      let signature = ihz (n - 1) (((out ++ posts x) ++ posts (declared mid)) ++ posts y) (omega arith) (body_dot v c) in
      let body = ihw (n - 1) ((((out ++ posts x) ++ posts (declared mid)) ++ posts y) ++ posts z) (omega arith) c in
      read_more tokens n (The Top) from out more ∙ simp (h.there, reads, i.there, names_it mid (out ++ posts x), params, signature, body, over_five nodes.FuncDecl from to out x (declared mid) y z w)

  pub exact_no_receiver : {from : ℕ} → Exact tokens MaybeReceiver leaf from from
  exact_no_receiver {from} = λ n out enough i.
      let more : 0 < n = omega arith in
      read_more tokens n (The MaybeReceiver) from out more ∙ simp (i.there, append-nil out)

  pub exact_a_receiver : {x : Forest} {from to : ℕ} → Spells tokens Receiver x from to → Exact tokens Receiver x from to → Exact tokens MaybeReceiver x from to
  exact_a_receiver {x} {from} {to} s ih = λ n out enough i.
      let more : 0 < n = omega arith in
      let open_paren = starts tokens s in
      let reads = ih (n - 1) out (omega arith) in
      read_more tokens n (The MaybeReceiver) from out more ∙ simp (open_paren.there, reads)

  -- a type before the end of a list is no name with a type behind it
  receiver_unnamed : {x : Forest} {from to : ℕ} → Spells tokens AnyType x from to → EndsList tokens marks.CloseParen to → (is_at tokens from kinds.Name && begins_type (kind_at tokens (from + 1))) ≡ false
  receiver_unnamed {x} {from} {to} s ends =
      either_way (is_at tokens from kinds.Name)
      (λ n. let f : Fails tokens begins_type (from + 1) = ⊎_elim (λ e. subst (λ i. Fails tokens begins_type i) e (failing begins_type receiver_untyped (end_passes tokens ends_receiver ends refl refl))) (λ d. record { there = ap begins_type d.there }) (name_type tokens s (has_at from kinds.Name n)) in
      simp (f.there, and-false))
      (λ n. simp n)

  pub exact_receiver_type : {x : Forest} {from mid to : ℕ} → HasMark tokens from marks.OpenParen → Spells tokens AnyType x (from + 1) mid → MaybeComma tokens mid to → HasMark tokens to marks.CloseParen → OfType tokens x (from + 1) mid → Exact tokens Receiver (one nodes.Params from (to + 1) (one nodes.Param (from + 1) mid x)) from (to + 1)
  exact_receiver_type {x} {from} {mid} {to} h s m c ih = λ n out enough.
      let within = within_mark h in
      let more : 0 < n = omega arith in
      let ends = list_end m c in
      let next : from + 1 + 1 ≡ from + 2 = omega arith in
      let unnamed : (is_at tokens (from + 1) kinds.Name && begins_type (kind_at tokens (from + 2))) ≡ false = simp next at (receiver_unnamed s ends) in
      let param = one nodes.Param (from + 1) mid x in
      let reads = ih.gets (n - 1) out (omega arith) (end_not tokens (kinds.Mark marks.Dot) ends refl refl) in
      read_more tokens n (The Receiver) from out more ∙ simp (h.there, unnamed, reads, over nodes.Param (from + 1) mid out x, passed tokens (out ++ posts param) paren m c, over nodes.Params from (to + 1) out param)

  pub exact_receiver_named : {x : Forest} {from mid to : ℕ} → HasMark tokens from marks.OpenParen → HasAt tokens (from + 1) kinds.Name → Spells tokens AnyType x (from + 2) mid → MaybeComma tokens mid to → HasMark tokens to marks.CloseParen → OfType tokens x (from + 2) mid → Exact tokens Receiver (one nodes.NamedParams from (to + 1) (one nodes.NamedParam (from + 1) mid (beside (one nodes.DeclName (from + 1) (from + 2) leaf) x))) from (to + 1)
  exact_receiver_named {x} {from} {mid} {to} h i s m c ih = λ n out enough.
      let within = within_mark h in
      let more : 0 < n = omega arith in
      let ends = list_end m c in
      let start = starts tokens s in
      let name = one nodes.DeclName (from + 1) (from + 2) leaf in
      let param = one nodes.NamedParam (from + 1) mid (beside name x) in
      let reads = ih.gets (n - 1) (out ++ posts name) (omega arith) (end_not tokens (kinds.Mark marks.Dot) ends refl refl) in
      read_more tokens n (The Receiver) from out more ∙ simp (h.there, i.there, start.there, put_posts nodes.DeclName (from + 1) (from + 2) out, reads, over_two nodes.NamedParam (from + 1) mid out name x, passed tokens (out ++ posts param) paren m c, over nodes.NamedParams from (to + 1) out param)

  pub exact_no_type_params : {from : ℕ} → Exact tokens MaybeTypeParams leaf from from
  exact_no_type_params {from} = λ n out enough o.
      let more : 0 < n = omega arith in
      read_more tokens n (The MaybeTypeParams) from out more ∙ simp (o.there, append-nil out)

  pub exact_some_type_params : {x : Forest} {from to : ℕ} → Spells tokens TypeParams x from to → Exact tokens TypeParams x from to → Exact tokens MaybeTypeParams x from to
  exact_some_type_params {x} {from} {to} s ih = λ n out enough o.
      let more : 0 < n = omega arith in
      let open_bracket = starts tokens s in
      let reads = ih (n - 1) out (omega arith) in
      read_more tokens n (The MaybeTypeParams) from out more ∙ simp (open_bracket.there, reads)

  pub exact_no_body : {from : ℕ} → Exact tokens MaybeBody leaf from from
  exact_no_body {from} = λ n out enough c.
      let more : 0 < n = omega arith in
      let open_brace = apart (kinds.Mark marks.OpenBrace) c refl in
      read_more tokens n (The MaybeBody) from out more ∙ simp (open_brace.is, append-nil out)

  pub exact_a_body : {x : Forest} {from to : ℕ} → Spells tokens Block x from to → Exact tokens Block x from to → Exact tokens MaybeBody x from to
  exact_a_body {x} {from} {to} s ih = λ n out enough c.
      let more : 0 < n = omega arith in
      let open_brace = starts tokens s in
      let reads = ih (n - 1) out (omega arith) in
      read_more tokens n (The MaybeBody) from out more ∙ simp (open_brace.there, reads)
