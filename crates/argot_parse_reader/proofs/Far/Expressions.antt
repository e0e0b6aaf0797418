-- An expression is read at least as far as any that is spelled where it begins.
use Rattle.std.proofs.Common.{◌≡◌, ℕ, ◌+◌, ◌-◌, ◌<◌, ◌≤◌, List, ◌++◌, length, Bool, true, false, Some, None, refl, ap, ◌∙◌, subst, inl, inr, ⊎_elim, arith}
use Rattle.std.specs.Prelude.{◌⊎◌}
use Rattle.std.proofs.Math.Bool.{and-false}
use Rattle.argot_tree.specs.declared.mark.Mark.TheVariants as marks
use Rattle.argot_tree.specs.declared.node_kind.NodeKind.{NodeKind}
use Rattle.argot_tree.specs.declared.node_kind.NodeKind.TheVariants as nodes
use Rattle.argot_tree.specs.declared.token.TokenKind.TheVariants as kinds
use Rattle.argot_tree.specs.declared.token.Token.{Token}
use Rattle.argot_tree.specs.Forests.{Forest, leaf, beside, one}
use Rattle.argot_tree.specs.TokensAt.{kind_at, HasAt, HasMark, HasUnary, level_at, unary_of}
use Rattle.argot_tree.specs.Grammar.{Spells, Level, Unary, Primary, Operand, Exprs, Elems, operand, literal, name_use, parens, func_literal, composite, open_composite, bare_composite, conversion, selector, index, slice_all, slice_from, slice_to, slice_between, slice_to_max, slice_between_max, assertion, call_none, call, spread_call}
use Rattle.argot_parse_reader.specs.declared.post.Post.{Post}
use Rattle.argot_parse_reader.specs.Posts.{posts}
use Rattle.argot_parse_reader.specs.Rooms.{room}
use Rattle.argot_parse_reader.specs.Reading.{The, UnaryOr, PrimaryOr, OperandOr, Climb, Suffixes, MoreExprs, Answer, try_on, closed, put, closing, is_mark}
use Rattle.argot_parse_reader.specs.TypeReader.{is_dotted}
use Rattle.argot_parse_reader.specs.Reader.{read}
use Rattle.argot_parse_reader.proofs.Steps.{read_more}
use Rattle.argot_parse_reader.proofs.TokenTests.{has_mark}
use Rattle.argot_parse_reader.proofs.PostLaws.{put_posts}
use Rattle.argot_parse_reader.proofs.Exact.Nodes.{over_two}
use Rattle.argot_parse_reader.proofs.Roots.{rooted_typed, operand_root}
use Rattle.argot_parse_reader.proofs.Exact.Ahead.{ahead}
use Rattle.argot_parse_reader.proofs.Exact.Starts.{starts}
use Rattle.argot_parse_reader.proofs.Exact.Tokens.{other, apart, follows, at_mark, by_mark, within_at, within_mark, within_pass}
use Rattle.argot_parse_reader.proofs.Exact.Seconds.{either_way}
use Rattle.argot_parse_reader.proofs.Exact.Levels.{operator_at, stays_at, no_brace_at, climb_step, level_gets, operand_no_unary}
use Rattle.argot_parse_reader.proofs.Exact.Suffixes.{further, exact_selector, exact_index, exact_slice_all, exact_slice_from, exact_slice_to, exact_slice_between, exact_slice_to_max, exact_slice_between_max, exact_assertion, exact_call_none, exact_call, exact_spread_call}
use Rattle.argot_parse_reader.proofs.Exact.Operands.{exact_literal, exact_parens, exact_func_literal, exact_composite, exact_open_composite, exact_bare_composite, exact_conversion}
use Rattle.argot_parse_reader.proofs.Exact.Claims.{Gets, OfLevel, Comes, WholeOperand, WholePrimary}
use Rattle.argot_parse_reader.proofs.Exact.Whole.{exact}
use Rattle.argot_parse_reader.proofs.Far.Goes.{Goes, goes_some, goes_by, goes_from, goes_try, ahead_of, forward, suffixes_go, climb_goes, more_goes}
use Rattle.argot_parse_reader.proofs.Far.TypeParts.{goes}

module _ (tokens : List Token) where
  -- reading comes to the loop behind an expression, at least as far
  pub record ClimbsFar (bare : Bool) (k n : ℕ) (out : List Post) (from to : ℕ) : Type 0 where
    pub steps : ℕ
    pub limit : ℕ
    pub place : ℕ × List Post
    pub far : to ≤ place.0
    pub comes : read tokens n (The (Level k bare)) from out ≡ read tokens steps (Climb k limit bare from (length out)) place.0 place.1

  abbrev pub FarLevel : ℕ → Bool → ℕ → ℕ → Type 0
  FarLevel j bare from to = (k n : ℕ) (out : List Post) → k ≤ j → room tokens from 5 ≤ n → ClimbsFar bare k n out from to

  abbrev pub FarUnary : Bool → ℕ → ℕ → Type 0
  FarUnary bare from to = (n : ℕ) (out : List Post) → room tokens from 4 ≤ n → Goes to (read tokens n (UnaryOr false bare) from out)

  -- to the loop behind an operand
  pub record ComesFar (bare : Bool) (n : ℕ) (out : List Post) (from to : ℕ) : Type 0 where
    pub steps : ℕ
    pub place : ℕ × List Post
    pub far : to ≤ place.0
    pub comes : read tokens n (PrimaryOr false bare) from out ≡ read tokens steps (Suffixes from (length out)) place.0 place.1

  abbrev pub FarPrimary : Bool → ℕ → ℕ → Type 0
  FarPrimary bare from to = (n : ℕ) (out : List Post) → room tokens from 3 ≤ n → ComesFar bare n out from to

  abbrev pub FarOperand : Bool → ℕ → ℕ → Type 0
  FarOperand bare from to = (n : ℕ) (out : List Post) → room tokens from 2 ≤ n → Goes to (read tokens n (OperandOr false bare) from out)

  -- expressions: the first of them, and as many behind it
  pub record ListsFar (bare : Bool) (n : ℕ) (out : List Post) (from to : ℕ) : Type 0 where
    pub first : ℕ × List Post
    pub reads : read tokens n (The (Level 1 bare)) from out ≡ Some first
    pub rest : Goes to (read tokens n (MoreExprs bare) first.0 first.1)

  abbrev pub FarExprs : Bool → ℕ → ℕ → Type 0
  FarExprs bare from to = (n : ℕ) (out : List Post) → room tokens from 5 ≤ n → ListsFar bare n out from to

  pub far_unary_level : (k : ℕ) {b : Bool} {from to : ℕ} → FarUnary b from to → FarLevel k b from to
  far_unary_level j {b} {from} {to} ih = λ k n out le enough.
      let more : 0 < n = omega arith in
      let g = ih (n - 1) out (omega arith) in
      record {
        steps = n - 1;
        limit = 9;
        place = g.found;
        far = g.far;
        comes = read_more tokens n (The (Level k b)) from out more ∙ rw g.is refl;
      }

  pub far_binary : {k : ℕ} {b : Bool} {x y : Forest} {from mid to : ℕ} → k ≤ level_at tokens mid → 1 ≤ level_at tokens mid → Spells tokens (Level (level_at tokens mid) b) x from mid → Spells tokens (Level (level_at tokens mid + 1) b) y (mid + 1) to → OfLevel tokens (level_at tokens mid) b x from mid → FarLevel (level_at tokens mid + 1) b (mid + 1) to → FarLevel k b from to
  far_binary {k} {b} {x} {y} {from} {mid} {to} tight is left right ihx ihy = λ low n out le enough.
      let operator = operator_at tokens is in
      let within = within_pass operator refl in
      let more : 0 < n = omega arith in
      let r = ihx false low (n - 1) out (omega arith) (omega arith) (omega arith) (stays_at tokens operator refl refl refl) (no_brace_at tokens b operator refl refl) in
      let steps = r.enough in
      let high = r.high in
      let some : 0 < r.steps = omega arith in
      let g = ihy (level_at tokens mid + 1) (r.steps - 1) (out ++ posts x) (omega arith) (omega arith) in
      let on = climb_goes tokens g.steps (level_at tokens mid + 1) g.limit b (mid + 1) (length (out ++ posts x)) g.place.0 g.place.1 in
      let reached = g.far in
      let further = on.far in
      let step = climb_step tokens r.steps low r.limit b from (length out) mid on.found.0 (out ++ posts x) on.found.1 some is (omega arith) high (g.comes ∙ on.is) in
      record {
        steps = r.steps - 1;
        limit = level_at tokens mid;
        place = (on.found.0, closed nodes.Binary from on.found.0 (length out) on.found.1);
        far = omega arith;
        comes = read_more tokens n (The (Level low b)) from out more ∙ rw r.reads (r.comes ∙ step);
      }

  unary_goes : {kind : NodeKind} (b : Bool) {from to : ℕ} → HasUnary tokens from kind → from < length tokens → FarUnary b (from + 1) to → FarUnary b from to
  unary_goes {kind} b {from} {to} h within ih = λ n out enough.
      let more : 0 < n = omega arith in
      let g = ih (n - 1) out (omega arith) in
      let reads = g.is in
      either_way (is_mark tokens from marks.Star)
      (λ star. let there = has_mark from marks.Star star in goes (g.found.0, closed nodes.Deref from g.found.0 (length out) g.found.1) (read_more tokens n (UnaryOr false b) from out more ∙ simp (there.there, reads)) g.far)
      (λ no_star. either_way (is_mark tokens from marks.Arrow)
      (λ arrow. let there = has_mark from marks.Arrow arrow in goes (g.found.0, closed nodes.Receive from g.found.0 (length out) g.found.1) (read_more tokens n (UnaryOr false b) from out more ∙ simp (there.there, reads)) g.far)
      (λ no_arrow. goes (g.found.0, closed kind from g.found.0 (length out) g.found.1) (read_more tokens n (UnaryOr false b) from out more ∙ simp (no_star, no_arrow, h.there, reads)) g.far))

  pub far_unary : {kind : NodeKind} {b : Bool} {x : Forest} {from to : ℕ} → HasUnary tokens from kind → Spells tokens (Unary b) (one kind from to x) from to → FarUnary b (from + 1) to → FarUnary b from to
  far_unary {b = b} h whole ih = unary_goes b h (within_pass (starts tokens whole) refl) ih

  pub far_primary : {b : Bool} {x : Forest} {from to : ℕ} → Spells tokens (Primary b) x from to → FarPrimary b from to → FarUnary b from to
  far_primary {b} {x} {from} {to} s ih = λ n out enough.
      let more : 0 < n = omega arith in
      let start = starts tokens s in
      let star = apart (kinds.Mark marks.Star) start refl in
      let arrow = apart (kinds.Mark marks.Arrow) start refl in
      let first : unary_of (kind_at tokens from) ≡ None = operand_no_unary (kind_at tokens from) start.there in
      let g = ih (n - 1) out (omega arith) in
      let on = suffixes_go tokens g.steps from (length out) g.place.0 g.place.1 in
      let reached = g.far in
      let further = on.far in
      goes on.found (read_more tokens n (UnaryOr false b) from out more ∙ simp (star.is, arrow.is, first) (g.comes ∙ on.is)) (omega arith)

  pub far_operand : {b : Bool} {from to : ℕ} → FarOperand b from to → FarPrimary b from to
  far_operand {b} {from} {to} ih = λ n out enough.
      let more : 0 < n = omega arith in
      let g = ih (n - 1) out (omega arith) in
      record {
        steps = n - 1;
        place = g.found;
        far = g.far;
        comes = read_more tokens n (PrimaryOr false b) from out more ∙ rw g.is refl;
      }

  pub far_whole_operand : {b : Bool} {x : Forest} {from to : ℕ} → Spells tokens (Operand b) x from to → WholeOperand tokens b x from to → FarOperand b from to
  far_whole_operand {b} {x} {from} {to} s ih = λ n out enough. goes (to, out ++ posts x) (ih false n out enough) (omega arith)

  comes_far : {b : Bool} {n : ℕ} {out : List Post} {x : Forest} {from to : ℕ} → Comes tokens false b n out x from to → ComesFar b n out from to
  comes_far {b} {n} {out} {x} {from} {to} r = record { steps = r.steps; place = (to, out ++ posts x); far = omega arith; comes = r.comes }

  pub far_whole_primary : {b : Bool} {x : Forest} {from to : ℕ} → Spells tokens (Primary b) x from to → WholePrimary tokens b x from to → FarPrimary b from to
  far_whole_primary {b} {x} {from} {to} s ih = λ n out enough. comes_far (ih false n out enough)

  -- elements behind a bare name, or the name alone
  braced_goes : (from n at : ℕ) (out new : List Post) → from + 1 ≤ at → Goes (from + 1) (try_on (read tokens n (The Elems) at new) (closing nodes.Composite from out) (Some (from + 1, put nodes.NameUse from (from + 1) out)))
  braced_goes from n at out new h =
      goes_try (read tokens n (The Elems) at new)
      (λ r e. let further : at ≤ r.0 = ahead_of (read tokens n (The Elems) at new) (forward tokens n Elems at new) r e in goes_some (r.0, closed nodes.Composite from r.0 (length out) r.1) (omega arith))
      (goes_some (from + 1, put nodes.NameUse from (from + 1) out) (omega arith))

  pub far_name_use : (b : Bool) {from : ℕ} → HasAt tokens from kinds.Name → FarOperand b from (from + 1)
  far_name_use false {from} h = λ n out enough.
      let more : 0 < n = omega arith in
      goes (from + 1, put nodes.NameUse from (from + 1) out) (read_more tokens n (OperandOr false false) from out more ∙ simp h.there) (omega arith)
  far_name_use true {from} h = λ n out enough.
      let more : 0 < n = omega arith in
      either_way (is_dotted tokens from)
      (λ d. either_way (is_mark tokens (from + 3) marks.OpenBrace)
      (λ b. let reads : read tokens n (OperandOr false true) from out ≡ try_on (read tokens (n - 1) (The Elems) (from + 3) (put nodes.QualifiedType from (from + 3) out)) (closing nodes.Composite from out) (Some (from + 1, put nodes.NameUse from (from + 1) out)) = read_more tokens n (OperandOr false true) from out more ∙ simp (h.there, d, b) in
      goes_by reads (braced_goes from (n - 1) (from + 3) out (put nodes.QualifiedType from (from + 3) out) (omega arith)))
      (λ b. goes (from + 1, put nodes.NameUse from (from + 1) out) (read_more tokens n (OperandOr false true) from out more ∙ simp (h.there, d, b)) (omega arith)))
      (λ d. either_way (is_mark tokens (from + 1) marks.OpenBrace)
      (λ b. let reads : read tokens n (OperandOr false true) from out ≡ try_on (read tokens (n - 1) (The Elems) (from + 1) (put nodes.TypeName from (from + 1) out)) (closing nodes.Composite from out) (Some (from + 1, put nodes.NameUse from (from + 1) out)) = read_more tokens n (OperandOr false true) from out more ∙ simp (h.there, d, b) in
      goes_by reads (braced_goes from (n - 1) (from + 1) out (put nodes.TypeName from (from + 1) out) (omega arith)))
      (λ b. goes (from + 1, put nodes.NameUse from (from + 1) out) (read_more tokens n (OperandOr false true) from out more ∙ simp (h.there, d, b)) (omega arith)))

  -- a name alone
  data IsName : Forest → ℕ → ℕ → Type 0 where
    is_name : {from : ℕ} → HasAt tokens from kinds.Name → IsName (one nodes.NameUse from (from + 1) leaf) from (from + 1)

  -- what is no name alone ends where it ends, but for a brace behind it
  abbrev Ending : Bool → Forest → ℕ → ℕ → Type 0
  Ending bare x from to = (n : ℕ) (out : List Post) → room tokens from 3 ≤ n → (bare ≡ true → is_mark tokens to marks.OpenBrace ≡ false) → Comes tokens false bare n out x from to

  whole_ends : {b : Bool} {x : Forest} {from to : ℕ} → WholePrimary tokens b x from to → Spells tokens (Primary b) x from to → Ending b x from to ⊎ IsName x from to
  whole_ends w s = inl (λ n out enough e. w false n out enough)

  operand_whole : {b : Bool} {x : Forest} {from to : ℕ} → Spells tokens (Operand b) x from to → WholeOperand tokens b x from to → WholePrimary tokens b x from to
  operand_whole {b} {x} {from} {to} s w = λ types n out enough.
      let more : 0 < n = omega arith in
      let reads = w types (n - 1) out (omega arith) in
      record {
        steps = n - 1;
        enough = omega (arith, ahead tokens s);
        comes = read_more tokens n (PrimaryOr types b) from out more ∙ simp (reads, rooted_typed out (operand_root tokens s), and-false);
      }

  primary_ends : {b : Bool} {x : Forest} {from to : ℕ} → Spells tokens (Primary b) x from to → Ending b x from to ⊎ IsName x from to
  primary_ends (operand (literal {b = b} h)) = whole_ends (operand_whole (literal h) (exact_literal tokens b h)) (operand (literal h))
  primary_ends (operand (parens {b = b} h s i)) = whole_ends (operand_whole (parens h s i) (exact_parens tokens b h s i (exact tokens s))) (operand (parens h s i))
  primary_ends (operand (func_literal {b = b} h s t)) = whole_ends (operand_whole (func_literal h s t) (exact_func_literal tokens b h s t (exact tokens s) (exact tokens t))) (operand (func_literal h s t))
  primary_ends (operand (composite {b = b} h s t)) = whole_ends (operand_whole (composite h s t) (exact_composite tokens b h s t (exact tokens s) (exact tokens t))) (operand (composite h s t))
  primary_ends (operand (open_composite {b = b} h i j s t)) = whole_ends (operand_whole (open_composite h i j s t) (exact_open_composite tokens b h i j s t (exact tokens s) (exact tokens t))) (operand (open_composite h i j s t))
  primary_ends (operand (bare_composite s t)) = whole_ends (operand_whole (bare_composite s t) (exact_bare_composite tokens s t (exact tokens s) (exact tokens t))) (operand (bare_composite s t))
  primary_ends (operand (conversion {b = b} h s i t c j)) = whole_ends (operand_whole (conversion h s i t c j) (exact_conversion tokens b h s i t c j (exact tokens s) (exact tokens t))) (operand (conversion h s i t c j))
  primary_ends (operand (name_use h)) = inr (is_name h)
  primary_ends (selector s h i) = inl (λ n out enough e. exact_selector tokens s h i (exact tokens s) false n out enough e)
  primary_ends (index s h t i) = whole_ends (exact_index tokens s h t i (exact tokens s) (exact tokens t)) (index s h t i)
  primary_ends (slice_all s h i j) = whole_ends (exact_slice_all tokens s h i j (exact tokens s)) (slice_all s h i j)
  primary_ends (slice_from s h t i j) = whole_ends (exact_slice_from tokens s h t i j (exact tokens s) (exact tokens t)) (slice_from s h t i j)
  primary_ends (slice_to s h i t j) = whole_ends (exact_slice_to tokens s h i t j (exact tokens s) (exact tokens t)) (slice_to s h i t j)
  primary_ends (slice_between s h t i u j) = whole_ends (exact_slice_between tokens s h t i u j (exact tokens s) (exact tokens t) (exact tokens u)) (slice_between s h t i u j)
  primary_ends (slice_to_max s h i t j u k) = whole_ends (exact_slice_to_max tokens s h i t j u k (exact tokens s) (exact tokens t) (exact tokens u)) (slice_to_max s h i t j u k)
  primary_ends (slice_between_max s h t i u j v k) = whole_ends (exact_slice_between_max tokens s h t i u j v k (exact tokens s) (exact tokens t) (exact tokens u) (exact tokens v)) (slice_between_max s h t i u j v k)
  primary_ends (assertion s h i t j) = whole_ends (exact_assertion tokens s h i t j (exact tokens s) (exact tokens t)) (assertion s h i t j)
  primary_ends (call_none s h i) = whole_ends (exact_call_none tokens s h i (exact tokens s)) (call_none s h i)
  primary_ends (call s h t c i) = whole_ends (exact_call tokens s h t c i (exact tokens s) (exact tokens t)) (call s h t c i)
  primary_ends (spread_call s h t i c j) = whole_ends (exact_spread_call tokens s h t i c j (exact tokens s) (exact tokens t)) (spread_call s h t i c j)

  forward_elems : (n at : ℕ) (out : List Post) (r : ℕ × List Post) → read tokens n (The Elems) at out ≡ Some r → at ≤ r.0
  forward_elems n at out r e = ahead_of (read tokens n (The Elems) at out) (forward tokens n Elems at out) r e

  by_elems : {from : ℕ} (n : ℕ) (out : List Post) (a : Answer) → ((r : ℕ × List Post) → a ≡ Some r → from + 3 ≤ r.0) → 0 < n → room tokens (from + 1) 0 ≤ n - 1 → read tokens (n - 1) (OperandOr false true) from out ≡ try_on a (closing nodes.Composite from out) (Some (from + 1, put nodes.NameUse from (from + 1) out)) → Comes tokens false true n out (one nodes.NameUse from (from + 1) leaf) from (from + 1) ⊎ ComesFar true n out from (from + 3)
  by_elems {from} n out None far more enough e =
      let reads : Gets tokens (n - 1) (OperandOr false true) from out (one nodes.NameUse from (from + 1) leaf) (from + 1) = e ∙ ap (λ l. Some (from + 1, l)) (put_posts nodes.NameUse from (from + 1) out) in
      inl (record { steps = n - 1; enough = enough; comes = read_more tokens n (PrimaryOr false true) from out more ∙ rw reads refl })
  by_elems {from} n out (Some r) far more enough e =
      inr (record { steps = n - 1; place = (r.0, closed nodes.Composite from r.0 (length out) r.1); far = far r refl; comes = read_more tokens n (PrimaryOr false true) from out more ∙ rw e refl })

  -- before a point and a name reading comes to the point, or past the name
  name_before : {from : ℕ} (b : Bool) → HasAt tokens from kinds.Name → HasMark tokens (from + 1) marks.Dot → HasAt tokens (from + 2) kinds.Name → (n : ℕ) (out : List Post) → room tokens from 3 ≤ n → Comes tokens false b n out (one nodes.NameUse from (from + 1) leaf) from (from + 1) ⊎ ComesFar b n out from (from + 3)
  name_before {from} false h d i n out enough =
      let more : 0 < n = omega arith in
      let two_more : 0 < n - 1 = omega (arith, within_at h) in
      let reads : Gets tokens (n - 1) (OperandOr false false) from out (one nodes.NameUse from (from + 1) leaf) (from + 1) = read_more tokens (n - 1) (OperandOr false false) from out two_more ∙ simp (h.there, put_posts nodes.NameUse from (from + 1) out) in
      inl (record { steps = n - 1; enough = omega (arith, within_at h); comes = read_more tokens n (PrimaryOr false false) from out more ∙ rw reads refl })
  name_before {from} true h d i n out enough =
      let within = within_at h in
      let more : 0 < n = omega arith in
      let two_more : 0 < n - 1 = omega arith in
      let name = one nodes.NameUse from (from + 1) leaf in
      let dotted : is_dotted tokens from ≡ true = simp (d.there, i.there) in
      either_way (is_mark tokens (from + 3) marks.OpenBrace)
      (λ b. let type = put nodes.QualifiedType from (from + 3) out in
      let operand_reads : read tokens (n - 1) (OperandOr false true) from out ≡ try_on (read tokens (n - 1 - 1) (The Elems) (from + 3) type) (closing nodes.Composite from out) (Some (from + 1, put nodes.NameUse from (from + 1) out)) = read_more tokens (n - 1) (OperandOr false true) from out two_more ∙ simp (h.there, dotted, b) in
      by_elems n out (read tokens (n - 1 - 1) (The Elems) (from + 3) type) (forward_elems (n - 1 - 1) (from + 3) type) more (omega arith) operand_reads)
      (λ b. let reads : Gets tokens (n - 1) (OperandOr false true) from out name (from + 1) = read_more tokens (n - 1) (OperandOr false true) from out two_more ∙ simp (h.there, dotted, b, put_posts nodes.NameUse from (from + 1) out) in
      inl (record { steps = n - 1; enough = omega arith; comes = read_more tokens n (PrimaryOr false true) from out more ∙ rw reads refl }))

  named_before : {b : Bool} {x : Forest} {from to : ℕ} → IsName x from to → HasMark tokens to marks.Dot → HasAt tokens (to + 1) kinds.Name → (n : ℕ) (out : List Post) → room tokens from 3 ≤ n → Comes tokens false b n out x from to ⊎ ComesFar b n out from (to + 2)
  named_before {b} (is_name {from = from} h) d i n out enough =
      let next : from + 1 + 1 ≡ from + 2 = omega arith in
      let after : from + 3 ≡ from + 1 + 2 = omega arith in
      ⊎_elim (λ r. inl r) (λ r. inr (subst (λ j. ComesFar b n out from j) after r)) (name_before b h d (subst (λ j. HasAt tokens j kinds.Name) next i) n out enough)

  pub far_selector : {b : Bool} {x : Forest} {from to : ℕ} → Spells tokens (Primary b) x from to → HasMark tokens to marks.Dot → HasAt tokens (to + 1) kinds.Name → FarPrimary b from (to + 2)
  far_selector {b} {x} {from} {to} s d h = λ n out enough.
      let name = one nodes.SelectedName (to + 1) (to + 2) leaf in
      let no_brace = other (kinds.Mark marks.OpenBrace) (at_mark d) refl in
      let goes_on : Comes tokens false b n out x from to → ComesFar b n out from (to + 2) = λ r.
      comes_far (further tokens false b n out x (one nodes.Selector from (to + 2) (beside x name)) from to (to + 2) (within_mark d) (omega arith) r
      (simp (d.there, h.there, put_posts nodes.SelectedName (to + 1) (to + 2) (out ++ posts x), over_two nodes.Selector from (to + 2) out x name))) in
      ⊎_elim
      (λ e. goes_on (e n out enough (λ _. no_brace.is)))
      (λ i. ⊎_elim goes_on (λ g. g) (named_before i d h n out enough))
      (primary_ends s)

  pub far_last_expr : {b : Bool} {from to : ℕ} → FarLevel 1 b from to → FarExprs b from to
  far_last_expr {b} {from} {to} ih = λ n out enough.
      let g = ih 1 n out (omega arith) enough in
      let on = climb_goes tokens g.steps 1 g.limit b from (length out) g.place.0 g.place.1 in
      let reached = g.far in
      let further = on.far in
      record {
        first = on.found;
        reads = g.comes ∙ on.is;
        rest = goes_from on.found.0 (omega arith) (more_goes tokens n b on.found.0 on.found.1);
      }

  pub far_one_expr : {b : Bool} {x : Forest} {from mid to : ℕ} → Spells tokens (Level 1 b) x from mid → HasMark tokens mid marks.Comma → OfLevel tokens 1 b x from mid → FarExprs b (mid + 1) to → FarExprs b from to
  far_one_expr {b} {x} {from} {mid} {to} s c ihx ihy = λ n out enough.
      let within = within_mark c in
      let forward = ahead tokens s in
      let more : 0 < n = omega arith in
      let g = ihy (n - 1) (out ++ posts x) (omega arith) in
      let reads = g.reads in
      let rest = g.rest in
      record {
        first = (mid, out ++ posts x);
        reads = level_gets tokens s ihx (by_mark (follows b) c refl) n out enough;
        rest = goes rest.found (read_more tokens n (MoreExprs b) mid (out ++ posts x) more ∙ rw c.there (rw reads rest.is)) rest.far;
      }

  pub exprs_go : {b : Bool} {from to : ℕ} → FarExprs b from to → (n : ℕ) (out : List Post) → room tokens from 6 ≤ n → Goes to (read tokens n (The (Exprs b)) from out)
  exprs_go {b} {from} {to} ih n out enough =
      let more : 0 < n = omega arith in
      let g = ih (n - 1) out (omega arith) in
      let rest = g.rest in
      goes rest.found (read_more tokens n (The (Exprs b)) from out more ∙ rw g.reads rest.is) rest.far

  pub level_goes : {j : ℕ} {b : Bool} {from to : ℕ} → FarLevel j b from to → (n : ℕ) (out : List Post) → room tokens from 5 ≤ n → Goes to (read tokens n (The (Level j b)) from out)
  level_goes {j} {b} {from} {to} ih n out enough =
      let g = ih j n out (omega arith) enough in
      let on = climb_goes tokens g.steps j g.limit b from (length out) g.place.0 g.place.1 in
      let reached = g.far in
      let further = on.far in
      goes on.found (g.comes ∙ on.is) (omega arith)
