-- What stands behind a name with which an expression begins.
use Rattle.std.proofs.Common.{◌≡◌, ℕ, ◌+◌, List, Bool, true, false, ◌&&◌, Option, Some, None, refl, sym, ap, ◌∙◌, subst, inl, inr, ⊎_elim, arith}
use Rattle.std.specs.Prelude.{◌⊎◌, not}
use Rattle.std.proofs.Math.Bool.{and-false}
use Rattle.std.proofs.lemmas.Bool.{cases_Bool, false≢true}
use Rattle.argot_tree.specs.declared.mark.Mark.TheVariants as marks
use Rattle.argot_tree.specs.declared.node_kind.NodeKind.{NodeKind}
use Rattle.argot_tree.specs.declared.token.TokenKind.{TokenKind}
use Rattle.argot_tree.specs.declared.token.TokenKind.TheVariants as kinds
use Rattle.argot_tree.specs.declared.token.Token.{Token}
use Rattle.argot_tree.specs.Forests.{Forest}
use Rattle.argot_tree.specs.TokensAt.{kind_at, HasAt, HasMark, Passes, Fails, unary_of, follows_parameter}
use Rattle.argot_tree.specs.Grammar.{Spells, Level, Unary, Primary, Operand, Exprs, AnyType, OnlyType, unary_level, binary, unary, primary, operand, literal, name_use, parens, func_literal, composite, open_composite, bare_composite, conversion, selector, index, slice_all, slice_from, slice_to, slice_between, slice_to_max, slice_between_max, assertion, call_none, call, spread_call, last_expr, one_expr, embedded_name, embedded_qualified, type_name, qualified_type, type_parens, pointer_type, formed_type, only_pointer, array_type, slice_type, map_type, chan_type, send_type, receive_type, func_type, struct_type, interface_type}
use Rattle.argot_parse_reader.specs.Reading.{is_at, is_mark, is_kind, behind_names}
use Rattle.argot_parse_reader.specs.StatementReader.{defines, is_range}
use Rattle.argot_parse_reader.proofs.TokenTests.{has_at, has_mark}
use Rattle.argot_parse_reader.proofs.Exact.Starts.{starts}
use Rattle.argot_parse_reader.proofs.Exact.Tokens.{Not, other, apart, failing, goes_behind, at_mark, at_word, by_mark, by_test}
use Rattle.argot_parse_reader.proofs.Exact.NameRuns.{names_stop, names_go}
use Rattle.argot_parse_reader.proofs.Exact.Levels.{is_operator, operator_at}

operator_goes : (o : Option TokenKind) → is_operator o ≡ true → goes_behind o ≡ true
operator_goes (Some (kinds.Mark marks.Star)) h = refl
operator_goes (Some (kinds.Mark marks.Slash)) h = refl
operator_goes (Some (kinds.Mark marks.Percent)) h = refl
operator_goes (Some (kinds.Mark marks.ShiftLeft)) h = refl
operator_goes (Some (kinds.Mark marks.ShiftRight)) h = refl
operator_goes (Some (kinds.Mark marks.And)) h = refl
operator_goes (Some (kinds.Mark marks.AndNot)) h = refl
operator_goes (Some (kinds.Mark marks.Plus)) h = refl
operator_goes (Some (kinds.Mark marks.Minus)) h = refl
operator_goes (Some (kinds.Mark marks.Or)) h = refl
operator_goes (Some (kinds.Mark marks.Xor)) h = refl
operator_goes (Some (kinds.Mark marks.Equal)) h = refl
operator_goes (Some (kinds.Mark marks.NotEqual)) h = refl
operator_goes (Some (kinds.Mark marks.Less)) h = refl
operator_goes (Some (kinds.Mark marks.LessEqual)) h = refl
operator_goes (Some (kinds.Mark marks.Greater)) h = refl
operator_goes (Some (kinds.Mark marks.GreaterEqual)) h = refl
operator_goes (Some (kinds.Mark marks.LogicalAnd)) h = refl
operator_goes (Some (kinds.Mark marks.LogicalOr)) h = refl
operator_goes _ h = absurd (false≢true h)

no_parameter : (o : Option TokenKind) → goes_behind o ≡ true → follows_parameter o ≡ false
no_parameter (Some kinds.Name) h = absurd (false≢true h)
no_parameter (Some (kinds.Word word)) h = absurd (false≢true h)
no_parameter (Some (kinds.Mark marks.Tilde)) h = absurd (false≢true h)
no_parameter (Some (kinds.Mark marks.Comma)) h = absurd (false≢true h)
no_parameter _ h = refl

abbrev is_found : Option NodeKind → Bool
is_found None = false
is_found (Some kind) = true

-- either way of a test
pub either_way : {answer : Type 0} (test : Bool) → (test ≡ true → answer) → (test ≡ false → answer) → answer
either_way test f g = ⊎_elim f g (cases_Bool test)

module _ (tokens : List Token) where
  -- the part is the name alone, or a token that goes on with it stands behind the name
  pub record Second (from to : ℕ) : Type 0 where
    pub second : HasAt tokens from kinds.Name → (to ≡ from + 1) ⊎ Passes tokens goes_behind (from + 1)

  no_name : {from to : ℕ} → Not tokens from kinds.Name → Second from to
  no_name h = record { second = λ n. absurd (false≢true (sym h.is ∙ ap (λ o. is_kind o kinds.Name) n.there)) }

  goes_on_with : {from mid to : ℕ} → Passes tokens goes_behind mid → Second from mid → Second from to
  goes_on_with h s = record { second = λ n. inr (⊎_elim (λ e. subst (λ i. Passes tokens goes_behind i) e h) (λ p. p) (s.second n)) }

  operand_second : {b : Bool} {x : Forest} {from to : ℕ} → Spells tokens (Operand b) x from to → Second from to
  operand_second (literal h) = no_name (apart kinds.Name h refl)
  operand_second (name_use h) = record { second = λ n. inl refl }
  operand_second (parens h s i) = no_name (other kinds.Name (at_mark h) refl)
  operand_second (func_literal h s t) = no_name (other kinds.Name (at_word h) refl)
  operand_second (composite h s t) = no_name (apart kinds.Name h refl)
  operand_second (open_composite h i j s t) = no_name (other kinds.Name (at_mark h) refl)
  operand_second (bare_composite (embedded_name h) t) = record { second = λ n. inr (by_mark goes_behind (starts tokens t) refl) }
  operand_second (bare_composite (embedded_qualified h d i) t) = record { second = λ n. inr (by_mark goes_behind d refl) }
  operand_second (conversion h s i t c j) = no_name (apart kinds.Name h refl)

  primary_second : {b : Bool} {x : Forest} {from to : ℕ} → Spells tokens (Primary b) x from to → Second from to
  primary_second (operand s) = operand_second s
  primary_second (selector s h i) = goes_on_with (by_mark goes_behind h refl) (primary_second s)
  primary_second (index s h t i) = goes_on_with (by_mark goes_behind h refl) (primary_second s)
  primary_second (slice_all s h i j) = goes_on_with (by_mark goes_behind h refl) (primary_second s)
  primary_second (slice_from s h t i j) = goes_on_with (by_mark goes_behind h refl) (primary_second s)
  primary_second (slice_to s h i t j) = goes_on_with (by_mark goes_behind h refl) (primary_second s)
  primary_second (slice_between s h t i u j) = goes_on_with (by_mark goes_behind h refl) (primary_second s)
  primary_second (slice_to_max s h i t j u k) = goes_on_with (by_mark goes_behind h refl) (primary_second s)
  primary_second (slice_between_max s h t i u j v k) = goes_on_with (by_mark goes_behind h refl) (primary_second s)
  primary_second (assertion s h i t j) = goes_on_with (by_mark goes_behind h refl) (primary_second s)
  primary_second (call_none s h i) = goes_on_with (by_mark goes_behind h refl) (primary_second s)
  primary_second (call s h t c i) = goes_on_with (by_mark goes_behind h refl) (primary_second s)
  primary_second (spread_call s h t i c j) = goes_on_with (by_mark goes_behind h refl) (primary_second s)

  unary_second : {b : Bool} {x : Forest} {from to : ℕ} → Spells tokens (Unary b) x from to → Second from to
  unary_second (unary h s) = record { second = λ n. absurd (false≢true (ap is_found (sym (ap unary_of n.there) ∙ h.there))) }
  unary_second (primary s) = primary_second s

  pub level_second : {k : ℕ} {b : Bool} {x : Forest} {from to : ℕ} → Spells tokens (Level k b) x from to → Second from to
  level_second (unary_level s) = unary_second s
  level_second (binary tight is left right) = goes_on_with (by_test goes_behind operator_goes (operator_at tokens is)) (level_second left)

  -- what isn't behind the expression isn't behind its first name
  pub second_not : {test : Option TokenKind → Bool} {k : ℕ} {b : Bool} {x : Forest} {from to : ℕ} (kind : TokenKind) → Spells tokens (Level k b) x from to → Passes tokens test to → test (Some kind) ≡ false → goes_behind (Some kind) ≡ false → (is_at tokens from kinds.Name && is_at tokens (from + 1) kind) ≡ false
  second_not {test} {k} {b} {x} {from} {to} kind s h f g =
      either_way (is_at tokens from kinds.Name)
      (λ n. let not_there : Not tokens (from + 1) kind = ⊎_elim (λ e. subst (λ i. Not tokens i kind) e (apart kind h f)) (λ p. apart kind p g) ((level_second s).second (has_at from kinds.Name n)) in
      simp (not_there.is, and-false))
      (λ n. simp n)

  gone_behind : (from to : ℕ) → Passes tokens goes_behind (from + 1) → HasMark tokens (behind_names tokens from) marks.Define → behind_names tokens from ≡ to
  gone_behind from to p d =
      let comma = apart (kinds.Mark marks.Comma) p refl in
      let run = names_stop tokens from (simp comma.is) in
      let here : HasMark tokens (from + 1) marks.Define = subst (λ i. HasMark tokens i marks.Define) run d in
      absurd (false≢true (sym (apart (kinds.Mark marks.Define) p refl).is ∙ ap (λ o. is_kind o (kinds.Mark marks.Define)) here.there))

  behind_comma : (from mid to : ℕ) → mid ≡ from + 1 → HasMark tokens mid marks.Comma → HasMark tokens (behind_names tokens from) marks.Define → (HasAt tokens (mid + 1) kinds.Name → HasMark tokens (behind_names tokens (mid + 1)) marks.Define → behind_names tokens (mid + 1) ≡ to) → behind_names tokens from ≡ to
  behind_comma from mid to e c d rest =
      let next : mid + 1 ≡ from + 2 = omega (arith, e) in
      let comma : HasMark tokens (from + 1) marks.Comma = subst (λ i. HasMark tokens i marks.Comma) e c in
      either_way (is_at tokens (from + 2) kinds.Name)
      (λ n. let name : HasAt tokens (from + 2) kinds.Name = has_at (from + 2) kinds.Name n in
      let run = names_go tokens from comma name in
      let there : HasMark tokens (behind_names tokens (from + 2)) marks.Define = subst (λ i. HasMark tokens i marks.Define) run d in
      run ∙ ap (λ i. behind_names tokens i) (sym next) ∙ rest (subst (λ i. HasAt tokens i kinds.Name) (sym next) name) (subst (λ i. HasMark tokens (behind_names tokens i) marks.Define) (sym next) there))
      (λ n. let run = names_stop tokens from (simp (n, and-false)) in
      let here : HasMark tokens (from + 1) marks.Define = subst (λ i. HasMark tokens i marks.Define) run d in
      absurd (false≢true (sym (other (kinds.Mark marks.Define) (at_mark comma) refl).is ∙ ap (λ o. is_kind o (kinds.Mark marks.Define)) here.there)))

  -- names and `:=` stand at the front of an expression list only where it is those names
  pub names_alone : {b : Bool} {x : Forest} {from to : ℕ} → Spells tokens (Exprs b) x from to → Not tokens to (kinds.Mark marks.Comma) → HasAt tokens from kinds.Name → HasMark tokens (behind_names tokens from) marks.Define → behind_names tokens from ≡ to
  names_alone {b} {x} {from} {to} (last_expr s) stop n d =
      ⊎_elim
      (λ (e : to ≡ from + 1). let comma : Not tokens (from + 1) (kinds.Mark marks.Comma) = subst (λ i. Not tokens i (kinds.Mark marks.Comma)) e stop in names_stop tokens from (simp comma.is) ∙ sym e)
      (λ p. gone_behind from to p d)
      ((level_second s).second n)
  names_alone {b} {x} {from} {to} (one_expr {mid = mid} s c t) stop n d =
      ⊎_elim (λ e. behind_comma from mid to e c d (names_alone t stop)) (λ p. gone_behind from to p d) ((level_second s).second n)

  -- so no definition begins where expressions with another token behind them do
  pub defines_not : {b : Bool} {x : Forest} {from to : ℕ} → Spells tokens (Exprs b) x from to → Not tokens to (kinds.Mark marks.Comma) → (is_mark tokens to marks.Define && not (is_range (kind_at tokens (to + 1)))) ≡ false → defines tokens from ≡ false
  defines_not {b} {x} {from} {to} s stop h =
      either_way (is_at tokens from kinds.Name)
      (λ n. either_way (is_mark tokens (behind_names tokens from) marks.Define)
      (λ d. let place = names_alone s stop (has_at from kinds.Name n) (has_mark (behind_names tokens from) marks.Define d) in
      ap (λ i. is_at tokens from kinds.Name && (is_mark tokens i marks.Define && not (is_range (kind_at tokens (i + 1))))) place ∙ ap (λ v. is_at tokens from kinds.Name && v) h ∙ and-false (is_at tokens from kinds.Name))
      (λ d. simp (d, and-false)))
      (λ n. simp n)

  only_ungeneric : {x : Forest} {at to : ℕ} → Spells tokens OnlyType x at to → (is_mark tokens at marks.OpenBracket && (is_at tokens (at + 1) kinds.Name && follows_parameter (kind_at tokens (at + 2)))) ≡ false
  only_ungeneric (only_pointer h s) = simp h.there
  only_ungeneric {x} {at} {to} (array_type {mid = mid} h s c t) =
      either_way (is_at tokens (at + 1) kinds.Name)
      (λ n. let f : Fails tokens follows_parameter (at + 1 + 1) = ⊎_elim (λ e. subst (λ i. Fails tokens follows_parameter i) e (record { there = ap follows_parameter c.there })) (λ p. failing follows_parameter no_parameter p) ((level_second s).second (has_at (at + 1) kinds.Name n)) in
      let next : at + 2 ≡ at + 1 + 1 = omega arith in
      ap (λ i. is_mark tokens at marks.OpenBracket && (is_at tokens (at + 1) kinds.Name && follows_parameter (kind_at tokens i))) next ∙ simp (f.there, and-false))
      (λ n. simp (n, and-false))
  only_ungeneric (slice_type h i s) = simp (h.there, i.there)
  only_ungeneric (map_type h i s j t) = simp h.there
  only_ungeneric (chan_type h i s) = simp h.there
  only_ungeneric (send_type h i s) = simp h.there
  only_ungeneric (receive_type h i s) = simp h.there
  only_ungeneric (func_type h s) = simp h.there
  only_ungeneric (struct_type h i s j) = simp h.there
  only_ungeneric (interface_type h i s j) = simp h.there

  -- no type begins as type parameters do
  pub ungeneric : {x : Forest} {at to : ℕ} → Spells tokens AnyType x at to → (is_mark tokens at marks.OpenBracket && (is_at tokens (at + 1) kinds.Name && follows_parameter (kind_at tokens (at + 2)))) ≡ false
  ungeneric (type_name h) = simp h.there
  ungeneric (qualified_type h i j) = simp h.there
  ungeneric (type_parens h s i) = simp h.there
  ungeneric (pointer_type h s) = simp h.there
  ungeneric (formed_type f s) = only_ungeneric s
