-- What goes on behind an operand is read: selectors, indexes, slices, assertions and calls.
use Rattle.std.proofs.Common.{◌≡◌, ℕ, ◌+◌, ◌-◌, ◌<◌, ◌≤◌, List, ◌++◌, length, Bool, true, false, Option, Some, refl, sym, ◌∙◌, subst, arith}
use Rattle.std.proofs.lemmas.Bool.{false≢true}
use Rattle.argot_tree.specs.declared.mark.Mark.TheVariants as marks
use Rattle.argot_tree.specs.declared.node_kind.NodeKind.TheVariants as nodes
use Rattle.argot_tree.specs.declared.token.TokenKind.{TokenKind}
use Rattle.argot_tree.specs.declared.token.TokenKind.TheVariants as kinds
use Rattle.argot_tree.specs.declared.token.Token.{Token}
use Rattle.argot_tree.specs.Forests.{Forest, leaf, beside, one}
use Rattle.argot_tree.specs.TokensAt.{HasAt, HasMark, MaybeComma}
use Rattle.argot_tree.specs.Grammar.{Spells, Level, Primary, AnyType, Eithers}
use Rattle.argot_parse_reader.specs.declared.post.Post.{Post}
use Rattle.argot_parse_reader.specs.Posts.{posts}
use Rattle.argot_parse_reader.specs.Rooms.{room}
use Rattle.argot_parse_reader.specs.Reading.{Suffixes, is_mark}
use Rattle.argot_parse_reader.specs.TypeReader.{is_dotted}
use Rattle.argot_parse_reader.specs.ExpressionReader.{suffix_by}
use Rattle.argot_parse_reader.specs.Reader.{read}
use Rattle.argot_parse_reader.proofs.Steps.{read_more}
use Rattle.argot_parse_reader.proofs.PostLaws.{put_posts}
use Rattle.argot_parse_reader.proofs.Exact.Nodes.{over, over_two, over_three, over_four}
use Rattle.argot_parse_reader.proofs.Exact.Ahead.{ahead, comma_ahead}
use Rattle.argot_parse_reader.proofs.Exact.Starts.{starts}
use Rattle.argot_parse_reader.proofs.Exact.Tokens.{other, apart, stops, follows, at_mark, by_mark, within_mark, list_end}
use Rattle.argot_parse_reader.proofs.Exact.Lists.{end_passes, end_not, list_stays, passed, paren}
use Rattle.argot_parse_reader.proofs.Exact.Levels.{no_brace_at, level_gets}
use Rattle.argot_parse_reader.proofs.Exact.Claims.{NoBrace, OfLevel, Comes, OfPrimary, WholePrimary, OfType, Exact}

-- the marks that begin what goes on behind an operand, and open a bracket
abbrev opens : Option TokenKind → Bool
opens (Some (kinds.Mark marks.OpenParen)) = true
opens (Some (kinds.Mark marks.OpenBracket)) = true
opens _ = false

module _ (tokens : List Token) where
  suffix_step : (n from mark at to : ℕ) (out new : List Post) → 0 < n → suffix_by tokens (read tokens (n - 1)) from mark at out ≡ Some (to, new) → read tokens n (Suffixes from mark) at out ≡ read tokens (n - 1) (Suffixes from mark) to new
  suffix_step n from mark at to out new more h = read_more tokens n (Suffixes from mark) at out more ∙ rw h refl

  -- what was come to, and a suffix behind it
  pub further : (types bare : Bool) (n : ℕ) (out : List Post) (x z : Forest) (from mid to : ℕ) → mid < length tokens → mid < to → (r : Comes tokens types bare n out x from mid) → suffix_by tokens (read tokens (r.steps - 1)) from (length out) mid (out ++ posts x) ≡ Some (to, out ++ posts z) → Comes tokens types bare n out z from to
  further types bare n out x z from mid to within forward r h =
      let steps = r.enough in
      record {
        steps = r.steps - 1;
        enough = omega arith;
        comes = r.comes ∙ suffix_step r.steps from (length out) mid to (out ++ posts x) (out ++ posts z) (omega arith) h;
      }

  at_bracket : {at : ℕ} (b : Bool) → HasMark tokens at marks.OpenBracket → NoBrace tokens b at
  at_bracket b h = no_brace_at tokens {test = opens} b (by_mark opens h refl) refl refl

  at_paren : {at : ℕ} (b : Bool) → HasMark tokens at marks.OpenParen → NoBrace tokens b at
  at_paren b h = no_brace_at tokens {test = opens} b (by_mark opens h refl) refl refl

  -- at a point braces don't stand, and behind the name after it only where they do behind the selector
  at_dot : {at : ℕ} (b : Bool) → HasMark tokens at marks.Dot → ((other : ℕ) → b ≡ true → at ≡ other + 1 → is_dotted tokens other ≡ true → is_mark tokens (other + 3) marks.OpenBrace ≡ false) → NoBrace tokens b at
  at_dot b h f = record { here = λ _. (other (kinds.Mark marks.OpenBrace) (at_mark h) refl).is; dotted = f }

  pub exact_selector : {b : Bool} {x : Forest} {from to : ℕ} → Spells tokens (Primary b) x from to → HasMark tokens to marks.Dot → HasAt tokens (to + 1) kinds.Name → OfPrimary tokens b x from to → (types : Bool) (n : ℕ) (out : List Post) → room tokens from 3 ≤ n → (b ≡ true → is_mark tokens (to + 2) marks.OpenBrace ≡ false) → Comes tokens types b n out (one nodes.Selector from (to + 2) (beside x (one nodes.SelectedName (to + 1) (to + 2) leaf))) from (to + 2)
  exact_selector {b} {x} {from} {to} s d h ih types n out enough no_brace =
      let name = one nodes.SelectedName (to + 1) (to + 2) leaf in
      let before = at_dot b d (λ i bare e dotted. subst (λ j. is_mark tokens j marks.OpenBrace ≡ false) (next i e) (no_brace bare)) in
      let r = ih types n out enough before in
      further types b n out x (one nodes.Selector from (to + 2) (beside x name)) from to (to + 2) (within_mark d) (omega arith) r
      (simp (d.there, h.there, put_posts nodes.SelectedName (to + 1) (to + 2) (out ++ posts x), over_two nodes.Selector from (to + 2) out x name))
    where
      next : (i : ℕ) → to ≡ i + 1 → to + 2 ≡ i + 3
      next i e = omega (arith, e)

  pub exact_index : {b : Bool} {x y : Forest} {from mid to : ℕ} → Spells tokens (Primary b) x from mid → HasMark tokens mid marks.OpenBracket → Spells tokens (Level 1 true) y (mid + 1) to → HasMark tokens to marks.CloseBracket → OfPrimary tokens b x from mid → OfLevel tokens 1 true y (mid + 1) to → WholePrimary tokens b (one nodes.Index from (to + 1) (beside x y)) from (to + 1)
  exact_index {b} {x} {y} {from} {mid} {to} s h t c ihx ihy = λ types n out enough.
      let within = within_mark h in
      let forward = ahead tokens t in
      let colon = apart (kinds.Mark marks.Colon) (starts tokens t) refl in
      let r = ihx types n out enough (at_bracket b h) in
      let steps = r.enough in
      let reads = level_gets tokens t ihy (by_mark (follows true) c refl) (r.steps - 1) (out ++ posts x) (omega arith) in
      further types b n out x (one nodes.Index from (to + 1) (beside x y)) from mid (to + 1) within (omega arith) r
      (simp (h.there, colon.is, reads, c.there, over_two nodes.Index from (to + 1) out x y))

  pub exact_slice_all : {b : Bool} {x : Forest} {from to : ℕ} → Spells tokens (Primary b) x from to → HasMark tokens to marks.OpenBracket → HasMark tokens (to + 1) marks.Colon → HasMark tokens (to + 2) marks.CloseBracket → OfPrimary tokens b x from to → WholePrimary tokens b (one nodes.SliceAll from (to + 3) x) from (to + 3)
  exact_slice_all {b} {x} {from} {to} s h i c ih = λ types n out enough.
      let r = ih types n out enough (at_bracket b h) in
      further types b n out x (one nodes.SliceAll from (to + 3) x) from to (to + 3) (within_mark h) (omega arith) r
      (simp (h.there, i.there, c.there, over nodes.SliceAll from (to + 3) out x))

  pub exact_slice_from : {b : Bool} {x y : Forest} {from mid to : ℕ} → Spells tokens (Primary b) x from mid → HasMark tokens mid marks.OpenBracket → Spells tokens (Level 1 true) y (mid + 1) to → HasMark tokens to marks.Colon → HasMark tokens (to + 1) marks.CloseBracket → OfPrimary tokens b x from mid → OfLevel tokens 1 true y (mid + 1) to → WholePrimary tokens b (one nodes.SliceFrom from (to + 2) (beside x y)) from (to + 2)
  exact_slice_from {b} {x} {y} {from} {mid} {to} s h t i c ihx ihy = λ types n out enough.
      let within = within_mark h in
      let forward = ahead tokens t in
      let colon = apart (kinds.Mark marks.Colon) (starts tokens t) refl in
      let r = ihx types n out enough (at_bracket b h) in
      let steps = r.enough in
      let reads = level_gets tokens t ihy (by_mark (follows true) i refl) (r.steps - 1) (out ++ posts x) (omega arith) in
      further types b n out x (one nodes.SliceFrom from (to + 2) (beside x y)) from mid (to + 2) within (omega arith) r
      (simp (h.there, colon.is, reads, i.there, c.there, over_two nodes.SliceFrom from (to + 2) out x y))

  pub exact_slice_to : {b : Bool} {x y : Forest} {from mid to : ℕ} → Spells tokens (Primary b) x from mid → HasMark tokens mid marks.OpenBracket → HasMark tokens (mid + 1) marks.Colon → Spells tokens (Level 1 true) y (mid + 2) to → HasMark tokens to marks.CloseBracket → OfPrimary tokens b x from mid → OfLevel tokens 1 true y (mid + 2) to → WholePrimary tokens b (one nodes.SliceTo from (to + 1) (beside x y)) from (to + 1)
  exact_slice_to {b} {x} {y} {from} {mid} {to} s h i t c ihx ihy = λ types n out enough.
      let within = within_mark h in
      let forward = ahead tokens t in
      let bracket = apart (kinds.Mark marks.CloseBracket) (starts tokens t) refl in
      let r = ihx types n out enough (at_bracket b h) in
      let steps = r.enough in
      let reads = level_gets tokens t ihy (by_mark (follows true) c refl) (r.steps - 1) (out ++ posts x) (omega arith) in
      further types b n out x (one nodes.SliceTo from (to + 1) (beside x y)) from mid (to + 1) within (omega arith) r
      (simp (h.there, i.there, bracket.is, reads, c.there, over_two nodes.SliceTo from (to + 1) out x y))

  pub exact_slice_between : {b : Bool} {x y z : Forest} {from mid mid2 to : ℕ} → Spells tokens (Primary b) x from mid → HasMark tokens mid marks.OpenBracket → Spells tokens (Level 1 true) y (mid + 1) mid2 → HasMark tokens mid2 marks.Colon → Spells tokens (Level 1 true) z (mid2 + 1) to → HasMark tokens to marks.CloseBracket → OfPrimary tokens b x from mid → OfLevel tokens 1 true y (mid + 1) mid2 → OfLevel tokens 1 true z (mid2 + 1) to → WholePrimary tokens b (one nodes.SliceBetween from (to + 1) (beside x (beside y z))) from (to + 1)
  exact_slice_between {b} {x} {y} {z} {from} {mid} {mid2} {to} s h t i u c ihx ihy ihz = λ types n out enough.
      let within = within_mark h in
      let inside = within_mark i in
      let forward = ahead tokens t in
      let onward = ahead tokens u in
      let colon = apart (kinds.Mark marks.Colon) (starts tokens t) refl in
      let bracket = apart (kinds.Mark marks.CloseBracket) (starts tokens u) refl in
      let r = ihx types n out enough (at_bracket b h) in
      let steps = r.enough in
      let reads = level_gets tokens t ihy (by_mark (follows true) i refl) (r.steps - 1) (out ++ posts x) (omega arith) in
      let then = level_gets tokens u ihz (by_mark (follows true) c refl) (r.steps - 1) ((out ++ posts x) ++ posts y) (omega arith) in
      further types b n out x (one nodes.SliceBetween from (to + 1) (beside x (beside y z))) from mid (to + 1) within (omega arith) r
      (simp (h.there, colon.is, reads, i.there, bracket.is, then, c.there, over_three nodes.SliceBetween from (to + 1) out x y z))

  pub exact_slice_to_max : {b : Bool} {x y z : Forest} {from mid mid2 to : ℕ} → Spells tokens (Primary b) x from mid → HasMark tokens mid marks.OpenBracket → HasMark tokens (mid + 1) marks.Colon → Spells tokens (Level 1 true) y (mid + 2) mid2 → HasMark tokens mid2 marks.Colon → Spells tokens (Level 1 true) z (mid2 + 1) to → HasMark tokens to marks.CloseBracket → OfPrimary tokens b x from mid → OfLevel tokens 1 true y (mid + 2) mid2 → OfLevel tokens 1 true z (mid2 + 1) to → WholePrimary tokens b (one nodes.SliceToMax from (to + 1) (beside x (beside y z))) from (to + 1)
  exact_slice_to_max {b} {x} {y} {z} {from} {mid} {mid2} {to} s h j t i u c ihx ihy ihz = λ types n out enough.
      let within = within_mark h in
      let inside = within_mark i in
      let forward = ahead tokens t in
      let onward = ahead tokens u in
      let bracket = apart (kinds.Mark marks.CloseBracket) (starts tokens t) refl in
      let r = ihx types n out enough (at_bracket b h) in
      let steps = r.enough in
      let reads = level_gets tokens t ihy (by_mark (follows true) i refl) (r.steps - 1) (out ++ posts x) (omega arith) in
      let then = level_gets tokens u ihz (by_mark (follows true) c refl) (r.steps - 1) ((out ++ posts x) ++ posts y) (omega arith) in
      further types b n out x (one nodes.SliceToMax from (to + 1) (beside x (beside y z))) from mid (to + 1) within (omega arith) r
      (simp (h.there, j.there, bracket.is, reads, i.there, then, c.there, over_three nodes.SliceToMax from (to + 1) out x y z))

  pub exact_slice_between_max : {b : Bool} {x y z w : Forest} {from mid mid2 mid3 to : ℕ} → Spells tokens (Primary b) x from mid → HasMark tokens mid marks.OpenBracket → Spells tokens (Level 1 true) y (mid + 1) mid2 → HasMark tokens mid2 marks.Colon → Spells tokens (Level 1 true) z (mid2 + 1) mid3 → HasMark tokens mid3 marks.Colon → Spells tokens (Level 1 true) w (mid3 + 1) to → HasMark tokens to marks.CloseBracket → OfPrimary tokens b x from mid → OfLevel tokens 1 true y (mid + 1) mid2 → OfLevel tokens 1 true z (mid2 + 1) mid3 → OfLevel tokens 1 true w (mid3 + 1) to → WholePrimary tokens b (one nodes.SliceBetweenMax from (to + 1) (beside x (beside y (beside z w)))) from (to + 1)
  exact_slice_between_max {b} {x} {y} {z} {w} {from} {mid} {mid2} {mid3} {to} s h t i u j v c ihx ihy ihz ihw = λ types n out enough.
      let within = within_mark h in
      let inside = within_mark i in
      let deep = within_mark j in
      let forward = ahead tokens t in
      let onward = ahead tokens u in
      let last = ahead tokens v in
      let colon = apart (kinds.Mark marks.Colon) (starts tokens t) refl in
      let bracket = apart (kinds.Mark marks.CloseBracket) (starts tokens u) refl in
      let r = ihx types n out enough (at_bracket b h) in
      let steps = r.enough in
      let reads = level_gets tokens t ihy (by_mark (follows true) i refl) (r.steps - 1) (out ++ posts x) (omega arith) in
      let then = level_gets tokens u ihz (by_mark (follows true) j refl) (r.steps - 1) ((out ++ posts x) ++ posts y) (omega arith) in
      let third = level_gets tokens v ihw (by_mark (follows true) c refl) (r.steps - 1) (((out ++ posts x) ++ posts y) ++ posts z) (omega arith) in
      further types b n out x (one nodes.SliceBetweenMax from (to + 1) (beside x (beside y (beside z w)))) from mid (to + 1) within (omega arith) r
      (simp (h.there, colon.is, reads, i.there, bracket.is, then, j.there, third, c.there, over_four nodes.SliceBetweenMax from (to + 1) out x y z w))

  pub exact_assertion : {b : Bool} {x y : Forest} {from mid to : ℕ} → Spells tokens (Primary b) x from mid → HasMark tokens mid marks.Dot → HasMark tokens (mid + 1) marks.OpenParen → Spells tokens AnyType y (mid + 2) to → HasMark tokens to marks.CloseParen → OfPrimary tokens b x from mid → OfType tokens y (mid + 2) to → WholePrimary tokens b (one nodes.TypeAssertion from (to + 1) (beside x y)) from (to + 1)
  exact_assertion {b} {x} {y} {from} {mid} {to} s d h t c ihx ihy = λ types n out enough.
      let within = within_mark h in
      let forward = ahead tokens t in
      let r = ihx types n out enough (at_dot b d (λ i bare e dotted. absurd (false≢true (sym (name_not i e) ∙ dotted)))) in
      let steps = r.enough in
      let reads = ihy.gets (r.steps - 1) (out ++ posts x) (omega arith) (other (kinds.Mark marks.Dot) (at_mark c) refl) in
      further types b n out x (one nodes.TypeAssertion from (to + 1) (beside x y)) from mid (to + 1) (within_mark d) (omega arith) r
      (simp (d.there, h.there, reads, c.there, over_two nodes.TypeAssertion from (to + 1) out x y))
    where
      name_not : (i : ℕ) → mid ≡ i + 1 → is_dotted tokens i ≡ false
      name_not i e =
          let next : mid + 1 ≡ i + 2 = omega (arith, e) in
          let there : HasMark tokens (i + 2) marks.OpenParen = subst (λ j. HasMark tokens j marks.OpenParen) next h in
          let dot : HasMark tokens (i + 1) marks.Dot = subst (λ j. HasMark tokens j marks.Dot) e d in
          simp (dot.there, there.there)

  pub exact_call_none : {b : Bool} {x : Forest} {from to : ℕ} → Spells tokens (Primary b) x from to → HasMark tokens to marks.OpenParen → HasMark tokens (to + 1) marks.CloseParen → OfPrimary tokens b x from to → WholePrimary tokens b (one nodes.Call from (to + 2) x) from (to + 2)
  exact_call_none {b} {x} {from} {to} s h c ih = λ types n out enough.
      let r = ih types n out enough (at_paren b h) in
      further types b n out x (one nodes.Call from (to + 2) x) from to (to + 2) (within_mark h) (omega arith) r
      (simp (h.there, c.there, over nodes.Call from (to + 2) out x))

  pub exact_call : {b : Bool} {x y : Forest} {from mid mid2 to : ℕ} → Spells tokens (Primary b) x from mid → HasMark tokens mid marks.OpenParen → Spells tokens Eithers y (mid + 1) mid2 → MaybeComma tokens mid2 to → HasMark tokens to marks.CloseParen → OfPrimary tokens b x from mid → Exact tokens Eithers y (mid + 1) mid2 → WholePrimary tokens b (one nodes.Call from (to + 1) (beside x y)) from (to + 1)
  exact_call {b} {x} {y} {from} {mid} {mid2} {to} s h t m c ihx ihy = λ types n out enough.
      let within = within_mark h in
      let forward = ahead tokens t in
      let onward = comma_ahead tokens m in
      let ends = list_end m c in
      let closer = apart (kinds.Mark marks.CloseParen) (starts tokens t) refl in
      let dots = end_not tokens (kinds.Mark marks.Ellipsis) ends refl refl in
      let r = ihx types n out enough (at_paren b h) in
      let steps = r.enough in
      let reads = ihy (r.steps - 1) (out ++ posts x) (omega arith) (end_passes tokens stops ends refl refl) (list_stays tokens paren ends) in
      further types b n out x (one nodes.Call from (to + 1) (beside x y)) from mid (to + 1) within (omega arith) r
      (simp (h.there, closer.is, reads, dots.is, passed tokens ((out ++ posts x) ++ posts y) paren m c, over_two nodes.Call from (to + 1) out x y))

  pub exact_spread_call : {b : Bool} {x y : Forest} {from mid mid2 to : ℕ} → Spells tokens (Primary b) x from mid → HasMark tokens mid marks.OpenParen → Spells tokens Eithers y (mid + 1) mid2 → HasMark tokens mid2 marks.Ellipsis → MaybeComma tokens (mid2 + 1) to → HasMark tokens to marks.CloseParen → OfPrimary tokens b x from mid → Exact tokens Eithers y (mid + 1) mid2 → WholePrimary tokens b (one nodes.SpreadCall from (to + 1) (beside x y)) from (to + 1)
  exact_spread_call {b} {x} {y} {from} {mid} {mid2} {to} s h t i m c ihx ihy = λ types n out enough.
      let within = within_mark h in
      let forward = ahead tokens t in
      let onward = comma_ahead tokens m in
      let closer = apart (kinds.Mark marks.CloseParen) (starts tokens t) refl in
      let r = ihx types n out enough (at_paren b h) in
      let steps = r.enough in
      let reads = ihy (r.steps - 1) (out ++ posts x) (omega arith) (by_mark stops i refl) (simp i.there) in
      further types b n out x (one nodes.SpreadCall from (to + 1) (beside x y)) from mid (to + 1) within (omega arith) r
      (simp (h.there, closer.is, reads, i.there, passed tokens ((out ++ posts x) ++ posts y) paren m c, over_two nodes.SpreadCall from (to + 1) out x y))
