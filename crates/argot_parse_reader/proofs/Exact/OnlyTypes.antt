-- Types that are no expressions, and that are spelled, are read, alone and where an expression may stand too.
use Rattle.std.proofs.Common.{◌≡◌, ℕ, ◌+◌, ◌-◌, ◌<◌, ◌≤◌, List, ◌++◌, length, true, false, ◌&&◌, refl, sym, ap, ◌∙◌, arith}
use Rattle.std.proofs.lemmas.Bool.{false≢true}
use Rattle.argot_tree.specs.declared.keyword.Keyword.TheVariants as words
use Rattle.argot_tree.specs.declared.mark.Mark.TheVariants as marks
use Rattle.argot_tree.specs.declared.node_kind.NodeKind.TheVariants as nodes
use Rattle.argot_tree.specs.declared.token.TokenKind.TheVariants as kinds
use Rattle.argot_tree.specs.declared.token.Token.{Token}
use Rattle.argot_tree.specs.Forests.{Forest, beside, one}
use Rattle.argot_tree.specs.TokensAt.{HasWord, HasMark, Passes, Fails, is_star, is_arrow, begins_conversion}
use Rattle.argot_tree.specs.Grammar.{Spells, AnyType, OnlyType, Signature, Fields, Elements, Level}
use Rattle.argot_parse_reader.specs.declared.post.Post.{Post}
use Rattle.argot_parse_reader.specs.Posts.{posts}
use Rattle.argot_parse_reader.specs.Rooms.{room}
use Rattle.argot_parse_reader.specs.Reading.{The, UnaryOr, PrimaryOr, OperandOr, is_mark, is_word}
use Rattle.argot_parse_reader.proofs.Steps.{read_more}
use Rattle.argot_parse_reader.proofs.Exact.Nodes.{over, over_two}
use Rattle.argot_parse_reader.proofs.Roots.{rooted_typed, only_root}
use Rattle.argot_parse_reader.proofs.Exact.Ahead.{ahead}
use Rattle.argot_parse_reader.proofs.Exact.Starts.{starts}
use Rattle.argot_parse_reader.proofs.Exact.Tokens.{Not, other, apart, lacking, at_mark, at_word, by_mark, by_word, within_mark, within_word}
use Rattle.argot_parse_reader.proofs.Exact.Claims.{Gets, OfType, OfOnlyType, Exact}
use Rattle.argot_parse_reader.proofs.Exact.TypeParts.{no_arrow, ending, undotted, stands_among}

module _ (tokens : List Token) where
  -- what is read alone is read among expressions
  both_ways : {x : Forest} {from to : ℕ} → Spells tokens OnlyType x from to → Passes tokens begins_conversion from → is_word tokens from words.Func ≡ false → (is_mark tokens from marks.OpenBracket && (is_mark tokens (from + 1) marks.Ellipsis && is_mark tokens (from + 2) marks.CloseBracket)) ≡ false → from < length tokens → ((n : ℕ) (out : List Post) → room tokens from 1 ≤ n → Not tokens to (kinds.Mark marks.Dot) → Gets tokens n (The OnlyType) from out x to) → OfOnlyType tokens x from to
  both_ways {x} {from} {to} s start func array within alone = record {
    alone = λ n out enough dot f. alone n out enough dot;
    among = λ n out enough stop.
        stands_among tokens n from to out (out ++ posts x) (omega arith) start func array (ending tokens stop) (rooted_typed out (only_root tokens s)) (alone (n - 1 - 1 - 1) out (omega arith) (undotted tokens stop));
    arrow = no_arrow tokens (apart (kinds.Mark marks.Arrow) start refl);
  }

  pub exact_only_pointer : {x : Forest} {from to : ℕ} → HasMark tokens from marks.Star → Spells tokens OnlyType x (from + 1) to → OfOnlyType tokens x (from + 1) to → OfOnlyType tokens (one nodes.PointerType from to x) from to
  exact_only_pointer {x} {from} {to} h s ih = record {
    alone = λ n out enough dot f. absurd (false≢true (sym f.there ∙ ap is_star h.there));
    among = λ n out enough stop.
        let within = within_mark h in
        let more : 0 < n = omega arith in
        let reads = ih.among (n - 1) out (omega arith) stop in
        read_more tokens n (UnaryOr true true) from out more ∙ simp (h.there, reads, rooted_typed out (only_root tokens s), over nodes.PointerType from to out x);
    arrow = no_arrow tokens (other (kinds.Mark marks.Arrow) (at_mark h) refl);
  }

  pub exact_array_type : {x y : Forest} {from mid to : ℕ} → (h : HasMark tokens from marks.OpenBracket) → (s : Spells tokens (Level 1 true) x (from + 1) mid) → (c : HasMark tokens mid marks.CloseBracket) → (t : Spells tokens AnyType y (mid + 1) to) → Spells tokens OnlyType (one nodes.ArrayType from to (beside x y)) from to → ((n : ℕ) (out : List Post) → room tokens (from + 1) 5 ≤ n → Gets tokens n (The (Level 1 true)) (from + 1) out x mid) → OfType tokens y (mid + 1) to → OfOnlyType tokens (one nodes.ArrayType from to (beside x y)) from to
  exact_array_type {x} {y} {from} {mid} {to} h s c t whole ihx ihy =
      let start = starts tokens s in
      let dots = apart (kinds.Mark marks.Ellipsis) start refl in
      let bracket = apart (kinds.Mark marks.CloseBracket) start refl in
      both_ways whole (by_mark begins_conversion h refl) (simp h.there) (simp (h.there, dots.is)) (within_mark h)
      (λ n out enough dot.
      let within = within_mark h in
      let forward = ahead tokens s in
      let more : 0 < n = omega arith in
      let reads = ihx (n - 1) out (omega arith) in
      let then = ihy.gets (n - 1) (out ++ posts x) (omega arith) dot in
      read_more tokens n (The OnlyType) from out more ∙ simp (h.there, bracket.is, reads, c.there, then, over_two nodes.ArrayType from to out x y))

  pub exact_slice_type : {x : Forest} {from to : ℕ} → HasMark tokens from marks.OpenBracket → HasMark tokens (from + 1) marks.CloseBracket → Spells tokens AnyType x (from + 2) to → Spells tokens OnlyType (one nodes.SliceType from to x) from to → OfType tokens x (from + 2) to → OfOnlyType tokens (one nodes.SliceType from to x) from to
  exact_slice_type {x} {from} {to} h c s whole ih =
      both_ways whole (by_mark begins_conversion h refl) (simp h.there) (simp (h.there, c.there)) (within_mark h)
      (λ n out enough dot.
      let within = within_mark h in
      let more : 0 < n = omega arith in
      let reads = ih.gets (n - 1) out (omega arith) dot in
      read_more tokens n (The OnlyType) from out more ∙ simp (h.there, c.there, reads, over nodes.SliceType from to out x))

  pub exact_map_type : {x y : Forest} {from mid to : ℕ} → HasWord tokens from words.Map → HasMark tokens (from + 1) marks.OpenBracket → Spells tokens AnyType x (from + 2) mid → HasMark tokens mid marks.CloseBracket → Spells tokens AnyType y (mid + 1) to → Spells tokens OnlyType (one nodes.MapType from to (beside x y)) from to → OfType tokens x (from + 2) mid → OfType tokens y (mid + 1) to → OfOnlyType tokens (one nodes.MapType from to (beside x y)) from to
  exact_map_type {x} {y} {from} {mid} {to} h o s c t whole ihx ihy =
      both_ways whole (by_word begins_conversion h refl) (simp h.there) (simp h.there) (within_word h)
      (λ n out enough dot.
      let within = within_word h in
      let forward = ahead tokens s in
      let more : 0 < n = omega arith in
      let reads = ihx.gets (n - 1) out (omega arith) (other (kinds.Mark marks.Dot) (at_mark c) refl) in
      let then = ihy.gets (n - 1) (out ++ posts x) (omega arith) dot in
      read_more tokens n (The OnlyType) from out more ∙ simp (h.there, o.there, reads, c.there, then, over_two nodes.MapType from to out x y))

  pub exact_chan_type : {x : Forest} {from to : ℕ} → HasWord tokens from words.Chan → Fails tokens is_arrow (from + 1) → Spells tokens AnyType x (from + 1) to → Spells tokens OnlyType (one nodes.ChanType from to x) from to → OfType tokens x (from + 1) to → OfOnlyType tokens (one nodes.ChanType from to x) from to
  exact_chan_type {x} {from} {to} h f s whole ih =
      both_ways whole (by_word begins_conversion h refl) (simp h.there) (simp h.there) (within_word h)
      (λ n out enough dot.
      let within = within_word h in
      let more : 0 < n = omega arith in
      let reads = ih.gets (n - 1) out (omega arith) dot in
      let arrow = lacking (kinds.Mark marks.Arrow) f refl in
      read_more tokens n (The OnlyType) from out more ∙ simp (h.there, arrow.is, reads, over nodes.ChanType from to out x))

  pub exact_send_type : {x : Forest} {from to : ℕ} → HasWord tokens from words.Chan → HasMark tokens (from + 1) marks.Arrow → Spells tokens AnyType x (from + 2) to → Spells tokens OnlyType (one nodes.SendType from to x) from to → OfType tokens x (from + 2) to → OfOnlyType tokens (one nodes.SendType from to x) from to
  exact_send_type {x} {from} {to} h a s whole ih =
      both_ways whole (by_word begins_conversion h refl) (simp h.there) (simp h.there) (within_word h)
      (λ n out enough dot.
      let within = within_word h in
      let more : 0 < n = omega arith in
      let reads = ih.gets (n - 1) out (omega arith) dot in
      read_more tokens n (The OnlyType) from out more ∙ simp (h.there, a.there, reads, over nodes.SendType from to out x))

  pub exact_struct_type : {x : Forest} {from to : ℕ} → HasWord tokens from words.Struct → HasMark tokens (from + 1) marks.OpenBrace → Spells tokens Fields x (from + 2) to → HasMark tokens to marks.CloseBrace → Spells tokens OnlyType (one nodes.StructType from (to + 1) x) from (to + 1) → Exact tokens Fields x (from + 2) to → OfOnlyType tokens (one nodes.StructType from (to + 1) x) from (to + 1)
  exact_struct_type {x} {from} {to} h o s c whole ih =
      both_ways whole (by_word begins_conversion h refl) (simp h.there) (simp h.there) (within_word h)
      (λ n out enough dot.
      let within = within_word h in
      let more : 0 < n = omega arith in
      let reads = ih (n - 1) out (omega arith) c in
      read_more tokens n (The OnlyType) from out more ∙ simp (h.there, o.there, reads, c.there, over nodes.StructType from (to + 1) out x))

  pub exact_interface_type : {x : Forest} {from to : ℕ} → HasWord tokens from words.Interface → HasMark tokens (from + 1) marks.OpenBrace → Spells tokens Elements x (from + 2) to → HasMark tokens to marks.CloseBrace → Spells tokens OnlyType (one nodes.InterfaceType from (to + 1) x) from (to + 1) → Exact tokens Elements x (from + 2) to → OfOnlyType tokens (one nodes.InterfaceType from (to + 1) x) from (to + 1)
  exact_interface_type {x} {from} {to} h o s c whole ih =
      both_ways whole (by_word begins_conversion h refl) (simp h.there) (simp h.there) (within_word h)
      (λ n out enough dot.
      let within = within_word h in
      let more : 0 < n = omega arith in
      let reads = ih (n - 1) out (omega arith) c in
      read_more tokens n (The OnlyType) from out more ∙ simp (h.there, o.there, reads, c.there, over nodes.InterfaceType from (to + 1) out x))

  pub exact_func_type : {x : Forest} {from to : ℕ} → HasWord tokens from words.Func → Spells tokens Signature x (from + 1) to → Spells tokens OnlyType (one nodes.FuncType from to x) from to → Exact tokens Signature x (from + 1) to → OfOnlyType tokens (one nodes.FuncType from to x) from to
  exact_func_type {x} {from} {to} h s whole ih = record {
    alone = λ n out enough dot f.
        let within = within_word h in
        let more : 0 < n = omega arith in
        let reads = ih (n - 1) out (omega arith) dot in
        read_more tokens n (The OnlyType) from out more ∙ simp (h.there, reads, over nodes.FuncType from to out x);
    among = λ n out enough stop.
        let within = within_word h in
        let one_more : 0 < n = omega arith in
        let two_more : 0 < n - 1 = omega arith in
        let three_more : 0 < n - 1 - 1 = omega arith in
        let e = ending tokens stop in
        let reads = ih (n - 1 - 1 - 1) out (omega arith) (undotted tokens stop) in
        let operand : Gets tokens (n - 1 - 1) (OperandOr true true) from out (one nodes.FuncType from to x) to =
        read_more tokens (n - 1 - 1) (OperandOr true true) from out three_more ∙ simp (h.there, reads, e.brace, e.paren, over nodes.FuncType from to out x) in
        let primary : Gets tokens (n - 1) (PrimaryOr true true) from out (one nodes.FuncType from to x) to =
        read_more tokens (n - 1) (PrimaryOr true true) from out two_more ∙ simp (operand, rooted_typed out (only_root tokens whole)) in
        read_more tokens n (UnaryOr true true) from out one_more ∙ simp (h.there, primary);
    arrow = no_arrow tokens (other (kinds.Mark marks.Arrow) (at_word h) refl);
  }
