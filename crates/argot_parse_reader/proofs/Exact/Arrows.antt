-- A channel's type with an arrow before it is read, alone and where an expression may stand too: there each arrow is first
-- taken for an operator, and what was read is recast.
use Rattle.std.proofs.Common.{◌≡◌, ℕ, ◌+◌, ◌-◌, ◌<◌, ◌≤◌, List, [], ◌∷◌, ◌++◌, length, true, false, Some, refl, sym, ap, ◌∙◌, ⊎_elim, arith, append_assoc, length-append}
use Rattle.std.specs.Prelude.{reverse}
use Rattle.std.proofs.lemmas.List.{reverse-append, reverse-reverse}
use Rattle.std.proofs.Math.Seq.{drop-append_seam}
use Rattle.std.proofs.lemmas.Bool.{cases_Bool}
use Rattle.argot_tree.specs.declared.keyword.Keyword.TheVariants as words
use Rattle.argot_tree.specs.declared.mark.Mark.TheVariants as marks
use Rattle.argot_tree.specs.declared.node_kind.NodeKind.TheVariants as nodes
use Rattle.argot_tree.specs.declared.token.TokenKind.TheVariants as kinds
use Rattle.argot_tree.specs.declared.token.Token.{Token}
use Rattle.argot_tree.specs.Forests.{Forest, one, size, last_token}
use Rattle.argot_tree.specs.TokensAt.{HasWord, HasMark, begins_conversion}
use Rattle.argot_tree.specs.Grammar.{Spells, AnyType, OnlyType}
use Rattle.argot_parse_reader.specs.declared.post.Post.{Post}
use Rattle.argot_parse_reader.specs.Posts.{posts}
use Rattle.argot_parse_reader.specs.Rooms.{room}
use Rattle.argot_parse_reader.specs.Reading.{The, UnaryOr, is_mark}
use Rattle.argot_parse_reader.specs.ExpressionReader.{is_type_post, typed, recast, received, maybe_more}
use Rattle.argot_parse_reader.specs.Reader.{read}
use Rattle.argot_parse_reader.proofs.Steps.{read_more}
use Rattle.argot_parse_reader.proofs.TokenTests.{has_mark}
use Rattle.argot_parse_reader.proofs.PostLaws.{length-posts}
use Rattle.argot_parse_reader.proofs.Exact.Nodes.{over}
use Rattle.argot_parse_reader.proofs.Recasting.{recast_one}
use Rattle.argot_parse_reader.proofs.Roots.{last_post}
use Rattle.argot_parse_reader.proofs.Exact.Ahead.{ahead}
use Rattle.argot_parse_reader.proofs.Exact.Tokens.{Not, by_word, within_mark, within_word}
use Rattle.argot_parse_reader.proofs.Exact.Claims.{Recasts, OfType, OfOnlyType}
use Rattle.argot_parse_reader.proofs.Exact.TypeParts.{ending, undotted, stands_among}

module _ (tokens : List Token) where
  chan_recast : {x : Forest} {from to : ℕ} → HasWord tokens (from + 1) words.Chan → is_mark tokens (from + 2) marks.Arrow ≡ false → Spells tokens AnyType x (from + 2) to → OfType tokens x (from + 2) to → (n : ℕ) (out : List Post) → room tokens (from + 1) 1 ≤ n → Not tokens to (kinds.Mark marks.Dot) → Recasts tokens n out (one nodes.ReceiveType from to x) from to
  chan_recast {x} {from} {to} h no_arrow s ih n out enough dot =
      let within = within_word h in
      let forward = ahead tokens s in
      let next : from + 1 + 1 ≡ from + 2 = omega arith in
      let more : 0 < n = omega arith in
      let reads = ih.gets (n - 1) out (omega arith) dot in
      let p : Post = record { kind = nodes.ChanType; token = from + 1; last = last_token (from + 1) to; size = length (out ++ posts x) + 1 - length out } in
      let long : length (out ++ posts x) + 1 - length out ≡ size x + 1 = omega (arith, length-append out (posts x), length-posts x) in
      record {
        channel = h;
        new = posts x ++ p ∷ [];
        reads = read_more tokens n (The OnlyType) (from + 1) out more ∙ simp (h.there, next, no_arrow, reads, append_assoc out (posts x));
        is_typed = ap typed (sym (append_assoc out (posts x) (p ∷ []))) ∙ ap is_type_post (last_post (out ++ posts x) p);
        recasts = ap recast (reverse-append (posts x) (p ∷ [])) ∙ ap (λ q. Some (q ∷ reverse (posts x))) (recast_one nodes.ChanType from to (length (out ++ posts x) + 1 - length out) x forward long) ∙ ap Some (sym (reverse-append (posts x) (record { kind = nodes.ReceiveType; token = from; last = last_token from to; size = size x + 1 } ∷ [])));
        long = length-append (posts x) (p ∷ []) ∙ sym (length-append (posts x) (record { kind = nodes.ReceiveType; token = from; last = last_token from to; size = size x + 1 } ∷ []));
      }

  send_recast : {x : Forest} {from to : ℕ} → HasWord tokens (from + 1) words.Chan → HasMark tokens (from + 2) marks.Arrow → Spells tokens AnyType x (from + 2) to → OfType tokens x (from + 2) to → (n : ℕ) (out : List Post) → room tokens (from + 1) 1 ≤ n → Not tokens to (kinds.Mark marks.Dot) → Recasts tokens n out (one nodes.ReceiveType from to x) from to
  send_recast {x} {from} {to} h a s ih n out enough dot =
      let within = within_mark a in
      let forward = ahead tokens s in
      let next : from + 1 + 1 ≡ from + 2 = omega arith in
      let behind : from + 1 + 2 ≡ from + 2 + 1 = omega arith in
      let more : 0 < n = omega arith in
      let two_more : 0 < n - 1 = omega arith in
      let r = ih.arrow (n - 1 - 1) out a (omega arith) dot in
      let channel = r.channel in
      let reads = r.reads in
      let type : read tokens (n - 1) (The AnyType) (from + 2 + 1) out ≡ Some (to, out ++ r.new) =
      read_more tokens (n - 1) (The AnyType) (from + 2 + 1) out two_more ∙ simp (channel.there, reads) in
      let p : Post = record { kind = nodes.SendType; token = from + 1; last = last_token (from + 1) to; size = length (out ++ r.new) + 1 - length out } in
      let long : length (out ++ r.new) + 1 - length out ≡ size x + 1 = omega (arith, length-append out r.new, r.long, length-posts x) in
      record {
        channel = h;
        new = r.new ++ p ∷ [];
        reads = read_more tokens n (The OnlyType) (from + 1) out more ∙ simp (h.there, next, a.there, behind, type, append_assoc out r.new);
        is_typed = ap typed (sym (append_assoc out r.new (p ∷ []))) ∙ ap is_type_post (last_post (out ++ r.new) p);
        recasts = ap recast (reverse-append r.new (p ∷ [])) ∙ ap (maybe_more (received p)) r.recasts ∙ ap (λ q. Some (q ∷ reverse (posts x))) (recast_one nodes.SendType from to (length (out ++ r.new) + 1 - length out) x forward long) ∙ ap Some (sym (reverse-append (posts x) (record { kind = nodes.ReceiveType; token = from; last = last_token from to; size = size x + 1 } ∷ [])));
        long = length-append r.new (p ∷ []) ∙ ap (λ l. l + 1) r.long ∙ sym (length-append (posts x) (record { kind = nodes.ReceiveType; token = from; last = last_token from to; size = size x + 1 } ∷ []));
      }

  receive_recast : {x : Forest} {from to : ℕ} → HasWord tokens (from + 1) words.Chan → Spells tokens AnyType x (from + 2) to → OfType tokens x (from + 2) to → (n : ℕ) (out : List Post) → room tokens (from + 1) 1 ≤ n → Not tokens to (kinds.Mark marks.Dot) → Recasts tokens n out (one nodes.ReceiveType from to x) from to
  receive_recast {x} {from} {to} h s ih n out enough dot =
      ⊎_elim (λ a. send_recast h (has_mark (from + 2) marks.Arrow a) s ih n out enough dot) (λ a. chan_recast h a s ih n out enough dot) (cases_Bool (is_mark tokens (from + 2) marks.Arrow))

  pub exact_receive_type : {x : Forest} {from to : ℕ} → HasMark tokens from marks.Arrow → HasWord tokens (from + 1) words.Chan → Spells tokens AnyType x (from + 2) to → OfType tokens x (from + 2) to → OfOnlyType tokens (one nodes.ReceiveType from to x) from to
  exact_receive_type {x} {from} {to} a h s ih = record {
    alone = λ n out enough dot f.
        let within = within_mark a in
        let more : 0 < n = omega arith in
        let reads = ih.gets (n - 1) out (omega arith) dot in
        read_more tokens n (The OnlyType) from out more ∙ simp (a.there, h.there, reads, over nodes.ReceiveType from to out x);
    among = λ n out enough stop.
        let within = within_mark a in
        let inside = within_word h in
        let more : 0 < n = omega arith in
        let r = receive_recast h s ih (n - 1 - 1 - 1 - 1) out (omega arith) (undotted tokens stop) in
        let reads = stands_among tokens (n - 1) (from + 1) to out (out ++ r.new) (omega arith) (by_word begins_conversion h refl) (simp h.there) (simp h.there) (ending tokens stop) r.is_typed r.reads in
        read_more tokens n (UnaryOr true true) from out more ∙ simp (a.there, reads, r.is_typed, drop-append_seam out r.new, r.recasts, reverse-reverse (posts (one nodes.ReceiveType from to x)));
    arrow = λ n out b enough dot. receive_recast h s ih n out enough dot;
  }
