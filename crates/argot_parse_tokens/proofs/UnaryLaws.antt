-- Reading behind a row of operators is reading what they stand before.
use Rattle.std.proofs.Common.{◌≡◌, ℕ, zero, suc, ◌+◌, ◌-◌, ◌≤◌, ◌<◌, ◌==◌, List, Bool, true, false, not, ◌||◌, ◌&&◌, Option, Some, None, refl, sym, ap, ◌∙◌, arith}
use Rattle.std.proofs.lemmas.Bool.{false≢true}
use Rattle.argot_tree.specs.declared.mark.Mark.TheVariants as marks
use Rattle.argot_tree.specs.declared.node_kind.NodeKind.{NodeKind}
use Rattle.argot_tree.specs.declared.token.Token.{Token}
use Rattle.argot_tree.specs.TokensAt.{kind_at, unary_of}
use Rattle.argot_parse_reader.specs.declared.post.Post.{Post}
use Rattle.argot_parse_reader.specs.Reading.{Task, UnaryOr, PrimaryOr, Answer, ◌>>=◌, is_mark}
use Rattle.argot_parse_reader.specs.ExpressionReader.{unary_by}
use Rattle.argot_parse_reader.specs.Reader.{read}
use Rattle.argot_parse_reader.proofs.Steps.{read_more, read_none}
use Rattle.argot_parse_tokens.specs.Operators.{is_kind_there, operates, operators, stays, operated, all_operated}
use Rattle.argot_parse_tokens.proofs.OperatorLaws.{operators_suc, operators_end, operators_over, operated_none}

same_bind : (x : Answer) (f g : ℕ × List Post → Answer) → ((r : ℕ × List Post) → f r ≡ g r) → (x >>= f) ≡ (x >>= g)
same_bind None f g h = refl
same_bind (Some r) f g h = h r

or_left : (a b : Bool) → (a || b) ≡ false → a ≡ false
or_left true b e = e
or_left false b e = refl

or_right : (a b : Bool) → (a || b) ≡ false → b ≡ false
or_right true b e = absurd (false≢true (sym e))
or_right false b e = e

none_there : (kind : Option NodeKind) → is_kind_there kind ≡ false → kind ≡ None
none_there None e = refl
none_there (Some kind) e = absurd (false≢true (sym e))

module _ (tokens : List Token) (bare : Bool) (out : List Post) where
  same_read : (task : Task) (n m a b : ℕ) → n ≡ m → a ≡ b → read tokens n task a out ≡ read tokens m task b out
  same_read task n m a b e f = ap (λ k. read tokens k task a out) e ∙ ap (λ k. read tokens m task k out) f

  module _ (at : ℕ) where
    -- one operator
    one_in : (types star arrow : Bool) (kind : Option NodeKind) (n : ℕ) → is_mark tokens at marks.Star ≡ star → is_mark tokens at marks.Arrow ≡ arrow → unary_of (kind_at tokens at) ≡ kind → (star || (arrow || (not types && is_kind_there kind))) ≡ true → unary_by tokens (read tokens n) types bare at out ≡ (read tokens n (UnaryOr types bare) (at + 1) out >>= operated tokens types out at)
    one_in types true arrow kind n s a k e = rw s (same_bind (read tokens n (UnaryOr types bare) (at + 1) out) _ _ (λ r. rw s refl))
    one_in types false true kind n s a k e = rw s (rw a (same_bind (read tokens n (UnaryOr types bare) (at + 1) out) _ _ (λ r. rw s (rw a refl))))
    one_in false false false (Some kind) n s a k e = rw s (rw a (rw k (same_bind (read tokens n (UnaryOr false bare) (at + 1) out) _ _ (λ r. rw s (rw a (rw k refl))))))
    one_in false false false None n s a k e = absurd (false≢true e)
    one_in true false false kind n s a k e = absurd (false≢true e)

    one : (types : Bool) (n : ℕ) → 0 < n → operates tokens types at ≡ true → read tokens n (UnaryOr types bare) at out ≡ (read tokens (n - 1) (UnaryOr types bare) (at + 1) out >>= operated tokens types out at)
    one types n h e = read_more tokens n (UnaryOr types bare) at out h ∙ one_in types (is_mark tokens at marks.Star) (is_mark tokens at marks.Arrow) (unary_of (kind_at tokens at)) (n - 1) refl refl refl e

    -- none, and no type can follow an operator
    stop_in : (types star arrow : Bool) (kind : Option NodeKind) (n : ℕ) → is_mark tokens at marks.Star ≡ star → is_mark tokens at marks.Arrow ≡ arrow → unary_of (kind_at tokens at) ≡ kind → (star || (arrow || is_kind_there kind)) ≡ false → unary_by tokens (read tokens n) types bare at out ≡ read tokens n (PrimaryOr types bare) at out
    stop_in types true arrow kind n s a k e = absurd (false≢true (sym e))
    stop_in types false true kind n s a k e = absurd (false≢true (sym e))
    stop_in types false false (Some kind) n s a k e = absurd (false≢true (sym e))
    stop_in types false false None n s a k e = rw s (rw a (rw k refl))

    stop : (types : Bool) (n : ℕ) → 0 < n → operates tokens false at ≡ false → read tokens n (UnaryOr types bare) at out ≡ read tokens (n - 1) (PrimaryOr types bare) at out
    stop types n h e = read_more tokens n (UnaryOr types bare) at out h ∙ stop_in types (is_mark tokens at marks.Star) (is_mark tokens at marks.Arrow) (unary_of (kind_at tokens at)) (n - 1) refl refl refl e

    -- an operator behind which no type stands
    plain_in : (star arrow : Bool) (kind : Option NodeKind) (n : ℕ) → is_mark tokens at marks.Star ≡ star → is_mark tokens at marks.Arrow ≡ arrow → unary_of (kind_at tokens at) ≡ kind → (star || (arrow || false)) ≡ false → (star || (arrow || is_kind_there kind)) ≡ true → unary_by tokens (read tokens n) true bare at out ≡ unary_by tokens (read tokens n) false bare at out
    plain_in true arrow kind n s a k e f = absurd (false≢true (sym e))
    plain_in false true kind n s a k e f = absurd (false≢true (sym e))
    plain_in false false None n s a k e f = absurd (false≢true f)
    plain_in false false (Some kind) n s a k e f = rw s (rw a (rw k refl))

    plain : (n : ℕ) → 0 < n → operates tokens true at ≡ false → operates tokens false at ≡ true → read tokens n (UnaryOr true bare) at out ≡ read tokens n (UnaryOr false bare) at out
    plain n h e f = read_more tokens n (UnaryOr true bare) at out h ∙ (plain_in (is_mark tokens at marks.Star) (is_mark tokens at marks.Arrow) (unary_of (kind_at tokens at)) (n - 1) refl refl refl e f ∙ sym (read_more tokens n (UnaryOr false bare) at out h))

    switched : (types : Bool) (n : ℕ) → 0 < n → operates tokens types at ≡ false → operates tokens false at ≡ true → read tokens n (UnaryOr types bare) at out ≡ read tokens n (UnaryOr false bare) at out
    switched true n h e f = plain n h e f
    switched false n h e f = refl

  -- what a row of so many operators stands before, and what they make of it
  abbrev Behind : Bool → ℕ → ℕ → ℕ → Answer
  Behind types n at count = all_operated tokens types out at count (read tokens (n - count) (UnaryOr types bare) (at + count) out)

  module _ (types : Bool) where
    row_in : (n at : ℕ) (b : Bool) → operates tokens types at ≡ b → read tokens n (UnaryOr types bare) (at + 1) out ≡ Behind types n (at + 1) (operators tokens types n (at + 1)) → read tokens (suc n) (UnaryOr types bare) at out ≡ Behind types (suc n) at (operators tokens types (suc n) at)
    row_in n at true e h =
        let c = operators tokens types n (at + 1) in
        let count : suc c ≡ operators tokens types (suc n) at = (let plus : suc c ≡ c + 1 = omega arith in plus) ∙ sym (operators_suc tokens types n at e) in
        let first = one at types (suc n) (omega arith) e ∙ ap (λ k. read tokens k (UnaryOr types bare) (at + 1) out >>= operated tokens types out at) (let less : suc n - 1 ≡ n = omega arith in less) in
        let rest = h ∙ ap (all_operated tokens types out (at + 1) c) (same_read (UnaryOr types bare) (n - c) (suc n - suc c) (at + 1 + c) (at + suc c) (omega arith) (omega arith)) in
        first ∙ (ap (λ a. a >>= operated tokens types out at) rest ∙ ap (Behind types (suc n) at) count)
    row_in n at false e h =
        let count : 0 ≡ operators tokens types (suc n) at = sym (operators_end tokens types (suc n) at e) in
        same_read (UnaryOr types bare) (suc n) (suc n - 0) at (at + 0) (omega arith) (omega arith) ∙ ap (Behind types (suc n) at) count

    row : (n at : ℕ) → read tokens n (UnaryOr types bare) at out ≡ Behind types n at (operators tokens types n at)
    row zero at = same_read (UnaryOr types bare) 0 (0 - 0) at (at + 0) (omega arith) (omega arith)
    row (suc n) at = row_in n at (operates tokens types at) refl (row n (at + 1))

-- a row of operators that leaves room for a type, and behind it one that leaves none
module _ (tokens : List Token) (types bare : Bool) (n at : ℕ) (out : List Post) (outer inner : ℕ) (outer_is : operators tokens types n at ≡ outer) (inner_is : operators tokens false (n - outer) (at + outer) ≡ inner) where
  -- what both make of an operand
  abbrev pub by_both : Answer → Answer
  by_both answer = all_operated tokens types out at outer (all_operated tokens false out (at + outer) inner answer)

  first : read tokens n (UnaryOr types bare) at out ≡ all_operated tokens types out at outer (read tokens (n - outer) (UnaryOr types bare) (at + outer) out)
  first = row tokens bare out types n at ∙ ap (Behind tokens bare out types n at) outer_is

  there : (b : Bool) → 0 < inner → operates tokens false (at + outer) ≡ b → operates tokens false (at + outer) ≡ true
  there true h e = e
  there false h e = let none : inner ≡ 0 = sym inner_is ∙ operators_end tokens false (n - outer) (at + outer) e in grind arith

  -- where an operator stands behind the first row, no type does
  second : 0 < inner → outer < n → operates tokens types (at + outer) ≡ false → read tokens (n - outer) (UnaryOr types bare) (at + outer) out ≡ all_operated tokens false out (at + outer) inner (read tokens (n - outer - inner) (UnaryOr false bare) (at + outer + inner) out)
  second h more e = switched tokens bare out (at + outer) types (n - outer) (omega arith) e (there (operates tokens false (at + outer)) h refl) ∙ (row tokens bare out false (n - outer) (at + outer) ∙ ap (Behind tokens bare out false (n - outer) (at + outer)) inner_is)

  reads_in : (i : ℕ) → inner ≡ i → outer + inner < n → operates tokens types (at + outer) ≡ false → operates tokens false (at + outer + inner) ≡ false → read tokens n (UnaryOr types bare) at out ≡ by_both (read tokens (n - outer - inner - 1) (PrimaryOr (stays types inner) bare) (at + outer + inner) out)
  reads_in zero e more f g =
      let here : operates tokens false (at + outer) ≡ false = ap (operates tokens false) (let same : at + outer ≡ at + outer + inner = omega (arith, e) in same) ∙ g in
      let operand = stop tokens bare out (at + outer) types (n - outer) (omega (arith, more)) here ∙ same_read tokens bare out (PrimaryOr types bare) (n - outer - 1) (n - outer - 0 - 1) (at + outer) (at + outer + 0) (omega arith) (omega arith) in
      first ∙ (ap (all_operated tokens types out at outer) operand ∙ ap (λ k. all_operated tokens types out at outer (all_operated tokens false out (at + outer) k (read tokens (n - outer - k - 1) (PrimaryOr (stays types k) bare) (at + outer + k) out))) (sym e))
  reads_in (suc i) e more f g =
      let operand = stop tokens bare out (at + outer + inner) false (n - outer - inner) (omega (arith, more)) g in
      let behind = second (omega (arith, e)) (omega (arith, more)) f ∙ ap (all_operated tokens false out (at + outer) inner) operand in
      let left : stays types inner ≡ false = ap (stays types) e in
      first ∙ (ap (all_operated tokens types out at outer) behind ∙ ap (λ b. by_both (read tokens (n - outer - inner - 1) (PrimaryOr b bare) (at + outer + inner) out)) (sym left))

  -- operators are read with what they stand before
  pub unary_reads : outer + inner < n → operates tokens types (at + outer) ≡ false → operates tokens false (at + outer + inner) ≡ false → (answer : Answer) → read tokens (n - outer - inner - 1) (PrimaryOr (stays types inner) bare) (at + outer + inner) out ≡ answer → read tokens n (UnaryOr types bare) at out ≡ by_both answer
  unary_reads more f g answer e = reads_in inner refl more f g ∙ ap by_both e

  pub none_behind : by_both None ≡ None
  none_behind = ap (all_operated tokens types out at outer) (operated_none tokens false out inner (at + outer)) ∙ operated_none tokens types out outer at

  over_in : (i : ℕ) → inner ≡ i → outer + inner ≡ n → (outer < n → operates tokens types (at + outer) ≡ false) → read tokens n (UnaryOr types bare) at out ≡ None
  over_in zero e all f = first ∙ (ap (all_operated tokens types out at outer) (read_none tokens (n - outer) (UnaryOr types bare) (at + outer) out (omega (arith, all, e))) ∙ operated_none tokens types out outer at)
  over_in (suc i) e all f =
      let nothing = read_none tokens (n - outer - inner) (UnaryOr false bare) (at + outer + inner) out (omega (arith, all)) in
      let behind = second (omega (arith, e)) (omega (arith, all, e)) (f (omega (arith, all, e))) ∙ (ap (all_operated tokens false out (at + outer) inner) nothing ∙ operated_none tokens false out inner (at + outer)) in
      first ∙ (ap (all_operated tokens types out at outer) behind ∙ operated_none tokens types out outer at)

  -- where the steps run out among the operators, nothing is read
  pub unary_over : outer + inner ≡ n → (outer < n → operates tokens types (at + outer) ≡ false) → read tokens n (UnaryOr types bare) at out ≡ None
  unary_over all f = over_in inner refl all f
