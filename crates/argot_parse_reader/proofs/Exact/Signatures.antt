-- Signatures, parameters and names that are spelled are read.
use Rattle.std.proofs.Common.{ℕ, ◌+◌, ◌-◌, ◌<◌, List, ◌++◌, Bool, true, false, refl, ◌∙◌, arith}
use Rattle.std.proofs.Math.Bool.{and-false}
use Rattle.argot_tree.specs.declared.mark.Mark.TheVariants as marks
use Rattle.argot_tree.specs.declared.node_kind.NodeKind.TheVariants as nodes
use Rattle.argot_tree.specs.declared.token.TokenKind.TheVariants as kinds
use Rattle.argot_tree.specs.declared.token.Token.{Token}
use Rattle.argot_tree.specs.Forests.{Forest, leaf, beside, one}
use Rattle.argot_tree.specs.TokensAt.{HasAt, HasMark, Fails, MaybeComma, is_open_paren, begins_type}
use Rattle.argot_tree.specs.Grammar.{Spells, AnyType, Names, Signature, Params, Types, NamedList, no_params, params, named_params}
use Rattle.argot_parse_reader.specs.Posts.{posts}
use Rattle.argot_parse_reader.specs.Reading.{The}
use Rattle.argot_parse_reader.proofs.Steps.{read_more}
use Rattle.argot_parse_reader.proofs.PostLaws.{put_posts}
use Rattle.argot_parse_reader.proofs.Exact.Nodes.{over, over_two, two, declared, names_it}
use Rattle.argot_parse_reader.proofs.Exact.Ahead.{ahead, comma_ahead}
use Rattle.argot_parse_reader.proofs.Exact.Starts.{starts}
use Rattle.argot_parse_reader.proofs.Exact.Tokens.{other, apart, lacking, at_mark, within_at, within_mark, list_end}
use Rattle.argot_parse_reader.proofs.Exact.Lists.{end_not, list_stays, list_goes, passed, paren}
use Rattle.argot_parse_reader.proofs.Exact.NameRuns.{types_unnamed, list_named}
use Rattle.argot_parse_reader.proofs.Exact.Claims.{OfType, Exact}

module _ (tokens : List Token) where
  pub params_end : {b : Bool} {x : Forest} {from to : ℕ} → Spells tokens (Params b) x from to → from < to
  params_end (no_params h i) = omega arith
  params_end (params h s c i) = omega (arith, ahead tokens s, comma_ahead tokens c)
  params_end (named_params h s c i) = omega (arith, ahead tokens s, comma_ahead tokens c)

  pub exact_last_name : {from : ℕ} → HasAt tokens from kinds.Name → Exact tokens Names (one nodes.DeclName from (from + 1) leaf) from (from + 1)
  exact_last_name {from} h = λ n out enough stop.
      let more : 0 < n = omega arith in
      read_more tokens n (The Names) from out more ∙ simp (h.there, stop.is, names_it from out)

  pub exact_one_name : {x : Forest} {from to : ℕ} → HasAt tokens from kinds.Name → HasMark tokens (from + 1) marks.Comma → Spells tokens Names x (from + 2) to → Exact tokens Names x (from + 2) to → Exact tokens Names (beside (one nodes.DeclName from (from + 1) leaf) x) from to
  exact_one_name {x} {from} {to} h c s ih = λ n out enough stop.
      let within = within_at h in
      let more : 0 < n = omega arith in
      let name = starts tokens s in
      let reads = ih (n - 1) (out ++ posts (declared from)) (omega arith) stop in
      read_more tokens n (The Names) from out more ∙ simp (h.there, c.there, name.there, names_it from out, reads, two out (declared from) x)

  pub exact_no_params : (b : Bool) {from : ℕ} → HasMark tokens from marks.OpenParen → HasMark tokens (from + 1) marks.CloseParen → Exact tokens (Params b) (one nodes.Params from (from + 2) leaf) from (from + 2)
  exact_no_params b {from} h i = λ n out enough.
      let within = within_mark h in
      let more : 0 < n = omega arith in
      read_more tokens n (The (Params b)) from out more ∙ simp (h.there, i.there, put_posts nodes.Params from (from + 2) out)

  pub exact_params : {b : Bool} {x : Forest} {from mid to : ℕ} → HasMark tokens from marks.OpenParen → Spells tokens (Types b) x (from + 1) mid → MaybeComma tokens mid to → HasMark tokens to marks.CloseParen → Exact tokens (Types b) x (from + 1) mid → Exact tokens (Params b) (one nodes.Params from (to + 1) x) from (to + 1)
  exact_params {b} {x} {from} {mid} {to} h s c i ih = λ n out enough.
      let within = within_mark h in
      let more : 0 < n = omega arith in
      let ends = list_end c i in
      let start = apart (kinds.Mark marks.CloseParen) (starts tokens s) refl in
      let reads = ih (n - 1) out (omega arith) ends in
      read_more tokens n (The (Params b)) from out more ∙ simp (h.there, start.is, types_unnamed tokens s ends, reads, passed tokens (out ++ posts x) paren c i, over nodes.Params from (to + 1) out x)

  pub exact_named_params : {b : Bool} {x : Forest} {from mid to : ℕ} → HasMark tokens from marks.OpenParen → Spells tokens (NamedList b) x (from + 1) mid → MaybeComma tokens mid to → HasMark tokens to marks.CloseParen → Exact tokens (NamedList b) x (from + 1) mid → Exact tokens (Params b) (one nodes.NamedParams from (to + 1) x) from (to + 1)
  exact_named_params {b} {x} {from} {mid} {to} h s c i ih = λ n out enough.
      let within = within_mark h in
      let more : 0 < n = omega arith in
      let ends = list_end c i in
      let start = other (kinds.Mark marks.CloseParen) (starts tokens s) refl in
      let reads = ih (n - 1) out (omega arith) ends in
      read_more tokens n (The (Params b)) from out more ∙ simp (h.there, start.is, list_named tokens s, reads, passed tokens (out ++ posts x) paren c i, over nodes.NamedParams from (to + 1) out x)

  pub exact_last_param : (b : Bool) {x : Forest} {from to : ℕ} → Spells tokens AnyType x from to → OfType tokens x from to → Exact tokens (Types b) (one nodes.Param from to x) from to
  exact_last_param b {x} {from} {to} s ih = λ n out enough ends.
      let more : 0 < n = omega arith in
      let dots = apart (kinds.Mark marks.Ellipsis) (starts tokens s) refl in
      let reads = ih.gets (n - 1) out (omega arith) (end_not tokens (kinds.Mark marks.Dot) ends refl refl) in
      read_more tokens n (The (Types b)) from out more ∙ simp (dots.is, and-false, reads, over nodes.Param from to out x, list_stays tokens paren ends)

  pub exact_one_param : {b : Bool} {x y : Forest} {from mid to : ℕ} → Spells tokens AnyType x from mid → HasMark tokens mid marks.Comma → Spells tokens (Types b) y (mid + 1) to → OfType tokens x from mid → Exact tokens (Types b) y (mid + 1) to → Exact tokens (Types b) (beside (one nodes.Param from mid x) y) from to
  exact_one_param {b} {x} {y} {from} {mid} {to} s c t ihx ihy = λ n out enough ends.
      let within = within_mark c in
      let forward = ahead tokens s in
      let more : 0 < n = omega arith in
      let dots = apart (kinds.Mark marks.Ellipsis) (starts tokens s) refl in
      let closer = apart (kinds.Mark marks.CloseParen) (starts tokens t) refl in
      let reads = ihx.gets (n - 1) out (omega arith) (other (kinds.Mark marks.Dot) (at_mark c) refl) in
      let then = ihy (n - 1) (out ++ posts (one nodes.Param from mid x)) (omega arith) ends in
      read_more tokens n (The (Types b)) from out more ∙ simp (dots.is, and-false, reads, over nodes.Param from mid out x, list_goes tokens marks.CloseParen c closer.is, then, two out (one nodes.Param from mid x) y)

  pub exact_variadic_param : {x : Forest} {from to : ℕ} → HasMark tokens from marks.Ellipsis → Spells tokens AnyType x (from + 1) to → OfType tokens x (from + 1) to → Exact tokens (Types true) (one nodes.VariadicParam from to x) from to
  exact_variadic_param {x} {from} {to} h s ih = λ n out enough ends.
      let within = within_mark h in
      let more : 0 < n = omega arith in
      let reads = ih.gets (n - 1) out (omega arith) (end_not tokens (kinds.Mark marks.Dot) ends refl refl) in
      read_more tokens n (The (Types true)) from out more ∙ simp (h.there, reads, over nodes.VariadicParam from to out x)

  pub exact_last_named : (b : Bool) {x : Forest} {from to : ℕ} → HasAt tokens from kinds.Name → Spells tokens AnyType x (from + 1) to → OfType tokens x (from + 1) to → Exact tokens (NamedList b) (one nodes.NamedParam from to (beside (one nodes.DeclName from (from + 1) leaf) x)) from to
  exact_last_named b {x} {from} {to} h s ih = λ n out enough ends.
      let within = within_at h in
      let more : 0 < n = omega arith in
      let comma = apart (kinds.Mark marks.Comma) (starts tokens s) refl in
      let dots = apart (kinds.Mark marks.Ellipsis) (starts tokens s) refl in
      let reads = ih.gets (n - 1) (out ++ posts (declared from)) (omega arith) (end_not tokens (kinds.Mark marks.Dot) ends refl refl) in
      read_more tokens n (The (NamedList b)) from out more ∙ simp (h.there, names_it from out, comma.is, dots.is, and-false, reads, over_two nodes.NamedParam from to out (declared from) x, list_stays tokens paren ends)

  pub exact_one_named : {b : Bool} {x y : Forest} {from mid to : ℕ} → HasAt tokens from kinds.Name → Spells tokens AnyType x (from + 1) mid → HasMark tokens mid marks.Comma → Spells tokens (NamedList b) y (mid + 1) to → OfType tokens x (from + 1) mid → Exact tokens (NamedList b) y (mid + 1) to → Exact tokens (NamedList b) (beside (one nodes.NamedParam from mid (beside (one nodes.DeclName from (from + 1) leaf) x)) y) from to
  exact_one_named {b} {x} {y} {from} {mid} {to} h s c t ihx ihy = λ n out enough ends.
      let within = within_at h in
      let inside = within_mark c in
      let forward = ahead tokens s in
      let more : 0 < n = omega arith in
      let comma = apart (kinds.Mark marks.Comma) (starts tokens s) refl in
      let dots = apart (kinds.Mark marks.Ellipsis) (starts tokens s) refl in
      let closer = other (kinds.Mark marks.CloseParen) (starts tokens t) refl in
      let reads = ihx.gets (n - 1) (out ++ posts (declared from)) (omega arith) (other (kinds.Mark marks.Dot) (at_mark c) refl) in
      let entry = one nodes.NamedParam from mid (beside (declared from) x) in
      let then = ihy (n - 1) (out ++ posts entry) (omega arith) ends in
      read_more tokens n (The (NamedList b)) from out more ∙ simp (h.there, names_it from out, comma.is, dots.is, and-false, reads, over_two nodes.NamedParam from mid out (declared from) x, list_goes tokens marks.CloseParen c closer.is, then, two out entry y)

  pub exact_lone_named : {b : Bool} {x : Forest} {from to : ℕ} → HasAt tokens from kinds.Name → HasMark tokens (from + 1) marks.Comma → Spells tokens (NamedList b) x (from + 2) to → Exact tokens (NamedList b) x (from + 2) to → Exact tokens (NamedList b) (beside (one nodes.LoneParam from (from + 1) (one nodes.DeclName from (from + 1) leaf)) x) from to
  exact_lone_named {b} {x} {from} {to} h c s ih = λ n out enough ends.
      let within = within_at h in
      let more : 0 < n = omega arith in
      let entry = one nodes.LoneParam from (from + 1) (declared from) in
      let reads = ih (n - 1) (out ++ posts entry) (omega arith) ends in
      read_more tokens n (The (NamedList b)) from out more ∙ simp (h.there, names_it from out, c.there, over nodes.LoneParam from (from + 1) out (declared from), reads, two out entry x)

  pub exact_variadic_named : {x : Forest} {from to : ℕ} → HasAt tokens from kinds.Name → HasMark tokens (from + 1) marks.Ellipsis → Spells tokens AnyType x (from + 2) to → OfType tokens x (from + 2) to → Exact tokens (NamedList true) (one nodes.NamedVariadic from to (beside (one nodes.DeclName from (from + 1) leaf) x)) from to
  exact_variadic_named {x} {from} {to} h i s ih = λ n out enough ends.
      let within = within_at h in
      let more : 0 < n = omega arith in
      let reads = ih.gets (n - 1) (out ++ posts (declared from)) (omega arith) (end_not tokens (kinds.Mark marks.Dot) ends refl refl) in
      read_more tokens n (The (NamedList true)) from out more ∙ simp (h.there, names_it from out, i.there, reads, over_two nodes.NamedVariadic from to out (declared from) x)

  pub exact_no_result : {x : Forest} {from to : ℕ} → Spells tokens (Params true) x from to → Fails tokens begins_type to → Exact tokens (Params true) x from to → Exact tokens Signature (one nodes.Signature from to x) from to
  exact_no_result {x} {from} {to} s f ih = λ n out enough dot.
      let more : 0 < n = omega arith in
      let reads = ih (n - 1) out (omega arith) in
      let paren = lacking (kinds.Mark marks.OpenParen) f refl in
      read_more tokens n (The Signature) from out more ∙ simp (reads, paren.is, f.there, over nodes.Signature from to out x)

  pub exact_results : {x y : Forest} {from mid to : ℕ} → Spells tokens (Params true) x from mid → Spells tokens (Params false) y mid to → Exact tokens (Params true) x from mid → Exact tokens (Params false) y mid to → Exact tokens Signature (one nodes.Signature from to (beside x y)) from to
  exact_results {x} {y} {from} {mid} {to} s t ihx ihy = λ n out enough dot.
      let within = within_mark (starts tokens t) in
      let forward = params_end s in
      let more : 0 < n = omega arith in
      let reads = ihx (n - 1) out (omega arith) in
      let then = ihy (n - 1) (out ++ posts x) (omega arith) in
      let open_paren = starts tokens t in
      read_more tokens n (The Signature) from out more ∙ simp (reads, open_paren.there, then, over_two nodes.Signature from to out x y)

  pub exact_result : {x y : Forest} {from mid to : ℕ} → Spells tokens (Params true) x from mid → Fails tokens is_open_paren mid → Spells tokens AnyType y mid to → Exact tokens (Params true) x from mid → OfType tokens y mid to → Exact tokens Signature (one nodes.Signature from to (beside x y)) from to
  exact_result {x} {y} {from} {mid} {to} s f t ihx ihy = λ n out enough dot.
      let within = within_mark (starts tokens s) in
      let forward = params_end s in
      let more : 0 < n = omega arith in
      let reads = ihx (n - 1) out (omega arith) in
      let then = ihy.gets (n - 1) (out ++ posts x) (omega arith) dot in
      let paren = lacking (kinds.Mark marks.OpenParen) f refl in
      let start = starts tokens t in
      read_more tokens n (The Signature) from out more ∙ simp (reads, paren.is, start.there, then, over_two nodes.Signature from to out x y)
