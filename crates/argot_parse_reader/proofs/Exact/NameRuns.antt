-- The run of names at the front, and what stands behind it.
use Rattle.std.proofs.Common.{◌≡◌, ℕ, zero, suc, ◌+◌, List, [], ◌∷◌, Bool, true, false, ◌&&◌, Option, Some, None, refl, sym, ap, ◌∙◌, subst, inl, inr, ⊎_elim, arith}
use Rattle.std.specs.Prelude.{◌⊎◌, drop}
use Rattle.std.proofs.Math.Bool.{and-false}
use Rattle.std.proofs.lemmas.Bool.{cases_Bool, false≢true}
use Rattle.argot_tree.specs.declared.mark.Mark.TheVariants as marks
use Rattle.argot_tree.specs.declared.token.TokenKind.{TokenKind}
use Rattle.argot_tree.specs.declared.token.TokenKind.TheVariants as kinds
use Rattle.argot_tree.specs.declared.token.Token.{Token}
use Rattle.argot_tree.specs.Forests.{Forest}
use Rattle.argot_tree.specs.TokensAt.{kind_at, HasAt, HasMark, Passes, begins_type}
use Rattle.argot_tree.specs.Grammar.{Spells, AnyType, Names, Types, NamedList, type_name, qualified_type, type_parens, pointer_type, formed_type, last_name, one_name, last_param, one_param, variadic_param, last_named, one_named, lone_named, variadic_named}
use Rattle.argot_parse_reader.specs.Reading.{is_kind, is_at, is_mark, more_names, behind_names, names_then}
use Rattle.argot_parse_reader.specs.TypeReader.{begins_parameter}
use Rattle.argot_parse_reader.proofs.TokenTests.{has_at}
use Rattle.argot_parse_reader.proofs.Exact.Starts.{starts}
use Rattle.argot_parse_reader.proofs.Exact.Tokens.{Not, other, apart, at_mark, EndsList, closed_here, comma_before}

no_token : (tokens : List Token) (at : ℕ) → (kind_at [] at) ≡ None
no_token tokens zero = refl
no_token tokens (suc at) = refl

run_ends : (tokens : List Token) (at : ℕ) → (is_mark tokens at marks.Comma && is_at tokens (at + 1) kinds.Name) ≡ false → more_names (drop at tokens) ≡ 0
run_ends [] zero h = refl
run_ends [] (suc at) h = refl
run_ends (a ∷ []) zero h = refl
run_ends (a ∷ b ∷ rest) zero h = simp h
run_ends (a ∷ rest) (suc at) h =
    let next : suc at + 1 ≡ suc (at + 1) = omega arith in
    run_ends rest at (simp next at h)

run_goes : (tokens : List Token) (at : ℕ) → HasMark tokens at marks.Comma → HasAt tokens (at + 1) kinds.Name → more_names (drop at tokens) ≡ 2 + more_names (drop (at + 2) tokens)
run_goes [] zero h i = absurd (false≢true (ap (λ o. is_kind o (kinds.Mark marks.Comma)) h.there))
run_goes [] (suc at) h i = absurd (false≢true (ap (λ o. is_kind o (kinds.Mark marks.Comma)) h.there))
run_goes (a ∷ []) zero h i = absurd (false≢true (ap (λ o. is_kind o kinds.Name) i.there))
run_goes (a ∷ b ∷ rest) zero h i =
    let comma : is_kind (Some a.kind) (kinds.Mark marks.Comma) ≡ true = ap (λ o. is_kind o (kinds.Mark marks.Comma)) h.there in
    let name : is_kind (Some b.kind) kinds.Name ≡ true = ap (λ o. is_kind o kinds.Name) i.there in
    simp (comma, name)
run_goes (a ∷ rest) (suc at) h i =
    let next : suc at + 1 ≡ suc (at + 1) = omega arith in
    let after : suc at + 2 ≡ suc (at + 2) = omega arith in
    run_goes rest at (record { there = h.there }) (record { there = ap (λ j. kind_at (a ∷ rest) j) (sym next) ∙ i.there }) ∙ ap (λ j. 2 + more_names (drop j (a ∷ rest))) (sym after)

module _ (tokens : List Token) where
  pub names_stop : (at : ℕ) → (is_mark tokens (at + 1) marks.Comma && is_at tokens (at + 2) kinds.Name) ≡ false → behind_names tokens at ≡ at + 1
  names_stop at h =
      let next : at + 1 + 1 ≡ at + 2 = omega arith in
      omega (arith, run_ends tokens (at + 1) (ap (λ j. is_mark tokens (at + 1) marks.Comma && is_at tokens j kinds.Name) next ∙ h))

  pub names_go : (at : ℕ) → HasMark tokens (at + 1) marks.Comma → HasAt tokens (at + 2) kinds.Name → behind_names tokens at ≡ behind_names tokens (at + 2)
  names_go at h i =
      let next : at + 1 + 1 ≡ at + 2 = omega arith in
      let after : at + 1 + 2 ≡ at + 2 + 1 = omega arith in
      let run = run_goes tokens (at + 1) h (record { there = ap (λ j. kind_at tokens j) next ∙ i.there }) in
      omega (arith, run, ap (λ j. more_names (drop j tokens)) after)

  -- behind names that no more of them follow stands what is behind the run
  pub names_end : {x : Forest} {from to : ℕ} → Spells tokens Names x from to → Not tokens to (kinds.Mark marks.Comma) → behind_names tokens from ≡ to
  names_end {x} {from} {to} (last_name h) stop = names_stop from (simp stop.is)
  names_end {x} {from} {to} (one_name h i s) stop = names_go from i (starts tokens s) ∙ names_end s stop

  -- where a test fails on the token behind a name that begins no run, no names with such a token stand there
  pub then_not : (test : Option TokenKind → Bool) (at : ℕ) (kind : TokenKind) → HasAt tokens (at + 1) kind → (is_kind (Some kind) (kinds.Mark marks.Comma)) ≡ false → test (Some kind) ≡ false → names_then tokens test at ≡ false
  then_not test at kind h no_comma e =
      let run = names_stop at (simp (h.there, no_comma)) in
      ap (λ j. is_at tokens at kinds.Name && test (kind_at tokens j)) run ∙ simp (h.there, e, and-false)

  then_comma : (test : Option TokenKind → Bool) (at : ℕ) → HasMark tokens (at + 1) marks.Comma → is_at tokens (at + 2) kinds.Name ≡ false → test (Some (kinds.Mark marks.Comma)) ≡ false → names_then tokens test at ≡ false
  then_comma test at h no_name e =
      let run = names_stop at (simp (h.there, no_name)) in
      ap (λ j. is_at tokens at kinds.Name && test (kind_at tokens j)) run ∙ simp (h.there, e, and-false)

  -- a type that begins with a name
  pub name_type : {x : Forest} {from to : ℕ} → Spells tokens AnyType x from to → HasAt tokens from kinds.Name → (to ≡ from + 1) ⊎ HasMark tokens (from + 1) marks.Dot
  name_type (type_name h) n = inl refl
  name_type (qualified_type h i j) n = inr i
  name_type (type_parens h s i) n = absurd (false≢true (sym (other kinds.Name (at_mark h) refl).is ∙ ap (λ o. is_kind o kinds.Name) n.there))
  name_type (pointer_type h s) n = absurd (false≢true (sym (other kinds.Name (at_mark h) refl).is ∙ ap (λ o. is_kind o kinds.Name) n.there))
  name_type (formed_type f s) n = absurd (false≢true (sym (apart kinds.Name (starts tokens s) refl).is ∙ ap (λ o. is_kind o kinds.Name) n.there))

  no_names : (test : Option TokenKind → Bool) (at : ℕ) → is_at tokens at kinds.Name ≡ false → names_then tokens test at ≡ false
  no_names test at h = simp h

  pub begun : (at : ℕ) → HasAt tokens at kinds.Name → Passes tokens begins_type (at + 1) → names_then tokens begins_parameter at ≡ true
  begun at h t =
      let comma = apart (kinds.Mark marks.Comma) t refl in
      let run = names_stop at (simp comma.is) in
      ap (λ j. is_at tokens at kinds.Name && begins_parameter (kind_at tokens j)) run ∙ simp (h.there, t.there)

  by_name : {answer : Type 0} (at : ℕ) → (HasAt tokens at kinds.Name → answer) → (is_at tokens at kinds.Name ≡ false → answer) → answer
  by_name at f g = ⊎_elim (λ n. f (has_at at kinds.Name n)) g (cases_Bool (is_at tokens at kinds.Name))

  last_alone : (from to : ℕ) → to ≡ from + 1 → EndsList tokens marks.CloseParen to → names_then tokens begins_parameter from ≡ false
  last_alone from to e (closed_here h) = then_not begins_parameter from (kinds.Mark marks.CloseParen) (subst (λ i. HasAt tokens i (kinds.Mark marks.CloseParen)) e (at_mark h)) refl refl
  last_alone from to e (comma_before h i) =
      let next : to + 1 ≡ from + 2 = omega (arith, e) in
      then_comma begins_parameter from (subst (λ i. HasMark tokens i marks.Comma) e h) (other kinds.Name (subst (λ i. HasAt tokens i (kinds.Mark marks.CloseParen)) next (at_mark i)) refl).is refl

  one_alone : (from mid : ℕ) → HasMark tokens mid marks.Comma → names_then tokens begins_parameter (mid + 1) ≡ false → mid ≡ from + 1 → names_then tokens begins_parameter from ≡ false
  one_alone from mid c rest e =
      let next : mid + 1 ≡ from + 2 = omega (arith, e) in
      let comma : HasMark tokens (from + 1) marks.Comma = subst (λ i. HasMark tokens i marks.Comma) e c in
      let behind : names_then tokens begins_parameter (from + 2) ≡ false = subst (λ i. names_then tokens begins_parameter i ≡ false) next rest in
      by_name (from + 2)
      (λ n. let run = names_go from comma n in
      let tested : begins_parameter (kind_at tokens (behind_names tokens (from + 2))) ≡ false = simp n.there at behind in
      ap (λ j. is_at tokens from kinds.Name && begins_parameter (kind_at tokens j)) run ∙ ap (λ v. is_at tokens from kinds.Name && v) tested ∙ and-false (is_at tokens from kinds.Name))
      (λ n. then_comma begins_parameter from comma n refl)

  -- parameters without names
  pub types_unnamed : {b : Bool} {x : Forest} {from to : ℕ} → Spells tokens (Types b) x from to → EndsList tokens marks.CloseParen to → names_then tokens begins_parameter from ≡ false
  types_unnamed {b} {x} {from} {to} (last_param s) ends =
      by_name from
      (λ n. ⊎_elim (λ e. last_alone from to e ends) (λ d. then_not begins_parameter from (kinds.Mark marks.Dot) (at_mark d) refl refl) (name_type s n))
      (λ n. no_names begins_parameter from n)
  types_unnamed {b} {x} {from} {to} (one_param {mid = mid} s c t) ends =
      let rest = types_unnamed t ends in
      by_name from
      (λ n. ⊎_elim (λ e. one_alone from mid c rest e) (λ d. then_not begins_parameter from (kinds.Mark marks.Dot) (at_mark d) refl refl) (name_type s n))
      (λ n. no_names begins_parameter from n)
  types_unnamed {b} {x} {from} {to} (variadic_param h s) ends = no_names begins_parameter from (other kinds.Name (at_mark h) refl).is

  -- and with them
  pub list_named : {b : Bool} {x : Forest} {from to : ℕ} → Spells tokens (NamedList b) x from to → names_then tokens begins_parameter from ≡ true
  list_named {b} {x} {from} {to} (last_named h s) = begun from h (starts tokens s)
  list_named {b} {x} {from} {to} (one_named h s c t) = begun from h (starts tokens s)
  list_named {b} {x} {from} {to} (lone_named h c t) =
      let rest = list_named t in
      let run = names_go from c (starts tokens t) in
      let name = starts tokens t in
      ap (λ j. is_at tokens from kinds.Name && begins_parameter (kind_at tokens j)) run ∙ simp (h.there, (simp name.there at rest))
  list_named {b} {x} {from} {to} (variadic_named h i s) =
      let run = names_stop from (simp i.there) in
      ap (λ j. is_at tokens from kinds.Name && begins_parameter (kind_at tokens j)) run ∙ simp (h.there, i.there)
