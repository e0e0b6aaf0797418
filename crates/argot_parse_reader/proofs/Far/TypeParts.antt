-- A type is read at least as far as any that is spelled where it begins.
use Rattle.std.proofs.Common.{◌≡◌, ℕ, ◌+◌, ◌-◌, ◌<◌, ◌≤◌, List, ◌++◌, length, true, false, Some, refl, sym, ap, ◌∙◌, arith}
use Rattle.std.proofs.lemmas.Bool.{false≢true}
use Rattle.argot_tree.specs.declared.keyword.Keyword.TheVariants as words
use Rattle.argot_tree.specs.declared.mark.Mark.TheVariants as marks
use Rattle.argot_tree.specs.declared.node_kind.NodeKind.TheVariants as nodes
use Rattle.argot_tree.specs.declared.token.TokenKind.TheVariants as kinds
use Rattle.argot_tree.specs.declared.token.Token.{Token}
use Rattle.argot_tree.specs.Forests.{Forest}
use Rattle.argot_tree.specs.TokensAt.{HasAt, HasWord, HasMark, Fails, is_star, is_arrow, is_open_paren, begins_type}
use Rattle.argot_tree.specs.Grammar.{Spells, AnyType, OnlyType, Signature, Params, Fields, Elements, Level}
use Rattle.argot_parse_reader.specs.declared.post.Post.{Post}
use Rattle.argot_parse_reader.specs.Posts.{posts}
use Rattle.argot_parse_reader.specs.Rooms.{room}
use Rattle.argot_parse_reader.specs.Reading.{The, Answer, closed, put}
use Rattle.argot_parse_reader.specs.TypeReader.{is_dotted}
use Rattle.argot_parse_reader.specs.Reader.{read}
use Rattle.argot_parse_reader.proofs.Steps.{read_more}
use Rattle.argot_parse_reader.proofs.Exact.Ahead.{ahead}
use Rattle.argot_parse_reader.proofs.Exact.Starts.{starts}
use Rattle.argot_parse_reader.proofs.Exact.Tokens.{other, apart, lacking, at_mark, within_mark, within_word}
use Rattle.argot_parse_reader.proofs.Exact.Signatures.{params_end}
use Rattle.argot_parse_reader.proofs.Exact.Seconds.{either_way}
use Rattle.argot_parse_reader.proofs.Exact.Claims.{Gets, OfType, Exact}
use Rattle.argot_parse_reader.proofs.Far.Goes.{Goes}

-- an answer that is known
pub goes : {at : ℕ} {a : Answer} (r : ℕ × List Post) → a ≡ Some r → at ≤ r.0 → Goes at a
goes r e h = record { found = r; is = e; far = h }

module _ (tokens : List Token) where
  abbrev pub FarType : ℕ → ℕ → Type 0
  FarType from to = (n : ℕ) (out : List Post) → room tokens from 2 ≤ n → Goes to (read tokens n (The AnyType) from out)

  abbrev pub FarOnly : ℕ → ℕ → Type 0
  FarOnly from to = (n : ℕ) (out : List Post) → room tokens from 1 ≤ n → Fails tokens is_star from → Goes to (read tokens n (The OnlyType) from out)

  abbrev pub FarSignature : ℕ → ℕ → Type 0
  FarSignature from to = (n : ℕ) (out : List Post) → room tokens from 2 ≤ n → Goes to (read tokens n (The Signature) from out)

  pub far_type_name : {from : ℕ} → HasAt tokens from kinds.Name → FarType from (from + 1)
  far_type_name {from} h = λ n out enough.
      let more : 0 < n = omega arith in
      either_way (is_dotted tokens from)
      (λ d. goes (from + 3, put nodes.QualifiedType from (from + 3) out) (read_more tokens n (The AnyType) from out more ∙ simp (h.there, d)) (omega arith))
      (λ d. goes (from + 1, put nodes.TypeName from (from + 1) out) (read_more tokens n (The AnyType) from out more ∙ simp (h.there, d)) (omega arith))

  pub far_qualified_type : {from : ℕ} → HasAt tokens from kinds.Name → HasMark tokens (from + 1) marks.Dot → HasAt tokens (from + 2) kinds.Name → FarType from (from + 3)
  far_qualified_type {from} h d i = λ n out enough.
      let more : 0 < n = omega arith in
      goes (from + 3, put nodes.QualifiedType from (from + 3) out) (read_more tokens n (The AnyType) from out more ∙ simp (h.there, d.there, i.there)) (omega arith)

  pub far_type_parens : {x : Forest} {from to : ℕ} → HasMark tokens from marks.OpenParen → Spells tokens AnyType x (from + 1) to → HasMark tokens to marks.CloseParen → OfType tokens x (from + 1) to → FarType from (to + 1)
  far_type_parens {x} {from} {to} o s c ih = λ n out enough.
      let within = within_mark o in
      let more : 0 < n = omega arith in
      let reads = ih.gets (n - 1) out (omega arith) (other (kinds.Mark marks.Dot) (at_mark c) refl) in
      goes (to + 1, closed nodes.TypeParens from (to + 1) (length out) (out ++ posts x)) (read_more tokens n (The AnyType) from out more ∙ simp (o.there, reads, c.there)) (omega arith)

  pub far_pointer_type : {from to : ℕ} → HasMark tokens from marks.Star → FarType (from + 1) to → FarType from to
  far_pointer_type {from} {to} h ih = λ n out enough.
      let within = within_mark h in
      let more : 0 < n = omega arith in
      let g = ih (n - 1) out (omega arith) in
      let reads = g.is in
      goes (g.found.0, closed nodes.PointerType from g.found.0 (length out) g.found.1) (read_more tokens n (The AnyType) from out more ∙ simp (h.there, reads)) g.far

  pub far_formed_type : {x : Forest} {from to : ℕ} → Fails tokens is_star from → Spells tokens OnlyType x from to → FarOnly from to → FarType from to
  far_formed_type {x} {from} {to} f s ih = λ n out enough.
      let more : 0 < n = omega arith in
      let start = starts tokens s in
      let name = apart kinds.Name start refl in
      let open_paren = apart (kinds.Mark marks.OpenParen) start refl in
      let star = lacking (kinds.Mark marks.Star) f refl in
      let g = ih (n - 1) out (omega arith) f in
      let reads = g.is in
      goes g.found (read_more tokens n (The AnyType) from out more ∙ simp (name.is, open_paren.is, star.is, reads)) g.far

  pub far_only_pointer : {from to : ℕ} → HasMark tokens from marks.Star → FarOnly from to
  far_only_pointer h = λ n out enough f. absurd (false≢true (sym f.there ∙ ap is_star h.there))

  pub far_array_type : {x : Forest} {from mid to : ℕ} → HasMark tokens from marks.OpenBracket → Spells tokens (Level 1 true) x (from + 1) mid → HasMark tokens mid marks.CloseBracket → ((n : ℕ) (out : List Post) → room tokens (from + 1) 5 ≤ n → Gets tokens n (The (Level 1 true)) (from + 1) out x mid) → FarType (mid + 1) to → FarOnly from to
  far_array_type {x} {from} {mid} {to} h s c ihx ihy = λ n out enough f.
      let within = within_mark h in
      let inside = within_mark c in
      let forward = ahead tokens s in
      let more : 0 < n = omega arith in
      let bracket = apart (kinds.Mark marks.CloseBracket) (starts tokens s) refl in
      let first = ihx (n - 1) out (omega arith) in
      let g = ihy (n - 1) (out ++ posts x) (omega arith) in
      let reads = g.is in
      goes (g.found.0, closed nodes.ArrayType from g.found.0 (length out) g.found.1) (read_more tokens n (The OnlyType) from out more ∙ simp (h.there, bracket.is, first, c.there, reads)) g.far

  pub far_slice_type : {from to : ℕ} → HasMark tokens from marks.OpenBracket → HasMark tokens (from + 1) marks.CloseBracket → FarType (from + 2) to → FarOnly from to
  far_slice_type {from} {to} h c ih = λ n out enough f.
      let within = within_mark h in
      let more : 0 < n = omega arith in
      let g = ih (n - 1) out (omega arith) in
      let reads = g.is in
      goes (g.found.0, closed nodes.SliceType from g.found.0 (length out) g.found.1) (read_more tokens n (The OnlyType) from out more ∙ simp (h.there, c.there, reads)) g.far

  pub far_map_type : {x : Forest} {from mid to : ℕ} → HasWord tokens from words.Map → HasMark tokens (from + 1) marks.OpenBracket → Spells tokens AnyType x (from + 2) mid → HasMark tokens mid marks.CloseBracket → OfType tokens x (from + 2) mid → FarType (mid + 1) to → FarOnly from to
  far_map_type {x} {from} {mid} {to} h o s c ihx ihy = λ n out enough f.
      let within = within_word h in
      let inside = within_mark c in
      let forward = ahead tokens s in
      let more : 0 < n = omega arith in
      let first = ihx.gets (n - 1) out (omega arith) (other (kinds.Mark marks.Dot) (at_mark c) refl) in
      let g = ihy (n - 1) (out ++ posts x) (omega arith) in
      let reads = g.is in
      goes (g.found.0, closed nodes.MapType from g.found.0 (length out) g.found.1) (read_more tokens n (The OnlyType) from out more ∙ simp (h.there, o.there, first, c.there, reads)) g.far

  pub far_chan_type : {from to : ℕ} → HasWord tokens from words.Chan → Fails tokens is_arrow (from + 1) → FarType (from + 1) to → FarOnly from to
  far_chan_type {from} {to} h a ih = λ n out enough f.
      let within = within_word h in
      let more : 0 < n = omega arith in
      let arrow = lacking (kinds.Mark marks.Arrow) a refl in
      let g = ih (n - 1) out (omega arith) in
      let reads = g.is in
      goes (g.found.0, closed nodes.ChanType from g.found.0 (length out) g.found.1) (read_more tokens n (The OnlyType) from out more ∙ simp (h.there, arrow.is, reads)) g.far

  pub far_send_type : {from to : ℕ} → HasWord tokens from words.Chan → HasMark tokens (from + 1) marks.Arrow → FarType (from + 2) to → FarOnly from to
  far_send_type {from} {to} h a ih = λ n out enough f.
      let within = within_word h in
      let more : 0 < n = omega arith in
      let g = ih (n - 1) out (omega arith) in
      let reads = g.is in
      goes (g.found.0, closed nodes.SendType from g.found.0 (length out) g.found.1) (read_more tokens n (The OnlyType) from out more ∙ simp (h.there, a.there, reads)) g.far

  pub far_receive_type : {from to : ℕ} → HasMark tokens from marks.Arrow → HasWord tokens (from + 1) words.Chan → FarType (from + 2) to → FarOnly from to
  far_receive_type {from} {to} a h ih = λ n out enough f.
      let within = within_mark a in
      let more : 0 < n = omega arith in
      let g = ih (n - 1) out (omega arith) in
      let reads = g.is in
      goes (g.found.0, closed nodes.ReceiveType from g.found.0 (length out) g.found.1) (read_more tokens n (The OnlyType) from out more ∙ simp (a.there, h.there, reads)) g.far

  pub far_func_type : {from to : ℕ} → HasWord tokens from words.Func → FarSignature (from + 1) to → FarOnly from to
  far_func_type {from} {to} h ih = λ n out enough f.
      let within = within_word h in
      let more : 0 < n = omega arith in
      let g = ih (n - 1) out (omega arith) in
      let reads = g.is in
      goes (g.found.0, closed nodes.FuncType from g.found.0 (length out) g.found.1) (read_more tokens n (The OnlyType) from out more ∙ simp (h.there, reads)) g.far

  pub far_struct_type : {x : Forest} {from to : ℕ} → HasWord tokens from words.Struct → HasMark tokens (from + 1) marks.OpenBrace → HasMark tokens to marks.CloseBrace → Spells tokens Fields x (from + 2) to → Exact tokens Fields x (from + 2) to → FarOnly from (to + 1)
  far_struct_type {x} {from} {to} h o c s ih = λ n out enough f.
      let within = within_word h in
      let more : 0 < n = omega arith in
      let reads = ih (n - 1) out (omega arith) c in
      goes (to + 1, closed nodes.StructType from (to + 1) (length out) (out ++ posts x)) (read_more tokens n (The OnlyType) from out more ∙ simp (h.there, o.there, reads, c.there)) (omega arith)

  pub far_interface_type : {x : Forest} {from to : ℕ} → HasWord tokens from words.Interface → HasMark tokens (from + 1) marks.OpenBrace → HasMark tokens to marks.CloseBrace → Spells tokens Elements x (from + 2) to → Exact tokens Elements x (from + 2) to → FarOnly from (to + 1)
  far_interface_type {x} {from} {to} h o c s ih = λ n out enough f.
      let within = within_word h in
      let more : 0 < n = omega arith in
      let reads = ih (n - 1) out (omega arith) c in
      goes (to + 1, closed nodes.InterfaceType from (to + 1) (length out) (out ++ posts x)) (read_more tokens n (The OnlyType) from out more ∙ simp (h.there, o.there, reads, c.there)) (omega arith)

  pub far_no_result : {x : Forest} {from to : ℕ} → Fails tokens begins_type to → Spells tokens (Params true) x from to → Exact tokens (Params true) x from to → FarSignature from to
  far_no_result {x} {from} {to} f s ih = λ n out enough.
      let more : 0 < n = omega arith in
      let reads = ih (n - 1) out (omega arith) in
      let open_paren = lacking (kinds.Mark marks.OpenParen) f refl in
      goes (to, closed nodes.Signature from to (length out) (out ++ posts x)) (read_more tokens n (The Signature) from out more ∙ simp (reads, open_paren.is, f.there)) (omega arith)

  pub far_results : {x y : Forest} {from mid to : ℕ} → Spells tokens (Params true) x from mid → Spells tokens (Params false) y mid to → Exact tokens (Params true) x from mid → Exact tokens (Params false) y mid to → FarSignature from to
  far_results {x} {y} {from} {mid} {to} s t ihx ihy = λ n out enough.
      let open_paren = starts tokens t in
      let within = within_mark open_paren in
      let forward = params_end tokens s in
      let more : 0 < n = omega arith in
      let reads = ihx (n - 1) out (omega arith) in
      let then = ihy (n - 1) (out ++ posts x) (omega arith) in
      goes (to, closed nodes.Signature from to (length out) ((out ++ posts x) ++ posts y)) (read_more tokens n (The Signature) from out more ∙ simp (reads, open_paren.there, then)) (omega arith)

  pub far_result : {x y : Forest} {from mid to : ℕ} → Spells tokens (Params true) x from mid → Fails tokens is_open_paren mid → Spells tokens AnyType y mid to → Exact tokens (Params true) x from mid → FarType mid to → FarSignature from to
  far_result {x} {y} {from} {mid} {to} s f t ihx ihy = λ n out enough.
      let within = within_mark (starts tokens s) in
      let forward = params_end tokens s in
      let more : 0 < n = omega arith in
      let start = starts tokens t in
      let first = ihx (n - 1) out (omega arith) in
      let open_paren = lacking (kinds.Mark marks.OpenParen) f refl in
      let g = ihy (n - 1) (out ++ posts x) (omega arith) in
      let reads = g.is in
      goes (g.found.0, closed nodes.Signature from g.found.0 (length out) g.found.1) (read_more tokens n (The Signature) from out more ∙ simp (first, open_paren.is, start.there, reads)) g.far
