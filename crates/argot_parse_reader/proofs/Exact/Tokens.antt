-- What a token tells of the tests on it.
use Rattle.std.proofs.Common.{◌≡◌, ℕ, ◌+◌, ◌<◌, List, length, Bool, true, false, Option, Some, None, sym, ap, ◌∙◌, ⊎_elim}
use Rattle.std.specs.Prelude.{◌==◌, not}
use Rattle.std.proofs.lemmas.Bool.{cases_Bool, cases_lt, false≢true}
use Rattle.std.proofs.lemmas.Option.{slice_get_past}
use Rattle.argot_tree.specs.declared.keyword.Keyword.{Keyword}
use Rattle.argot_tree.specs.declared.keyword.Keyword.TheVariants as words
use Rattle.argot_tree.specs.declared.mark.Mark.{Mark}
use Rattle.argot_tree.specs.declared.mark.Mark.TheVariants as marks
use Rattle.argot_tree.specs.declared.token.TokenKind.{TokenKind}
use Rattle.argot_tree.specs.declared.token.TokenKind.TheVariants as kinds
use Rattle.argot_tree.specs.declared.token.Token.{Token}
use Rattle.argot_tree.specs.TokensAt.{kind_of, kind_at, HasAt, HasWord, HasMark, Passes, Fails, MaybeComma, left_out, comma, begins_type, begins_conversion}
use Rattle.argot_parse_reader.specs.Reading.{kind_number, is_kind, is_at}
use Rattle.argot_parse_reader.specs.StatementReader.{ends_stmt}
use Rattle.argot_parse_reader.proofs.TokenTests.{kind_is}

-- what an operand begins with, and what an expression begins with
abbrev pub begins_operand : Option TokenKind → Bool
begins_operand (Some kinds.Name) = true
begins_operand (Some kinds.Whole) = true
begins_operand (Some kinds.Float) = true
begins_operand (Some kinds.Imaginary) = true
begins_operand (Some kinds.Rune) = true
begins_operand (Some kinds.Chars) = true
begins_operand (Some kinds.RawChars) = true
begins_operand (Some (kinds.Mark marks.OpenParen)) = true
begins_operand (Some (kinds.Mark marks.OpenBracket)) = true
begins_operand (Some (kinds.Word words.Map)) = true
begins_operand (Some (kinds.Word words.Chan)) = true
begins_operand (Some (kinds.Word words.Func)) = true
begins_operand (Some (kinds.Word words.Struct)) = true
begins_operand (Some (kinds.Word words.Interface)) = true
begins_operand _ = false

abbrev pub begins_expr : Option TokenKind → Bool
begins_expr (Some (kinds.Mark marks.Plus)) = true
begins_expr (Some (kinds.Mark marks.Minus)) = true
begins_expr (Some (kinds.Mark marks.Not)) = true
begins_expr (Some (kinds.Mark marks.Xor)) = true
begins_expr (Some (kinds.Mark marks.Star)) = true
begins_expr (Some (kinds.Mark marks.And)) = true
begins_expr (Some (kinds.Mark marks.Arrow)) = true
begins_expr kind = begins_operand kind

-- a type that is no expression
abbrev pub begins_only : Option TokenKind → Bool
begins_only (Some (kinds.Mark marks.Star)) = true
begins_only (Some (kinds.Mark marks.Arrow)) = true
begins_only kind = begins_conversion kind

-- a value in a composite literal
abbrev pub begins_value : Option TokenKind → Bool
begins_value (Some (kinds.Mark marks.OpenBrace)) = true
begins_value kind = begins_expr kind

-- parameters
abbrev pub begins_entry : Option TokenKind → Bool
begins_entry (Some (kinds.Mark marks.Ellipsis)) = true
begins_entry kind = begins_type kind

abbrev pub begins_field : Option TokenKind → Bool
begins_field (Some kinds.Name) = true
begins_field (Some (kinds.Mark marks.Star)) = true
begins_field _ = false

abbrev pub begins_stmt : Option TokenKind → Bool
begins_stmt (Some (kinds.Word words.Const)) = true
begins_stmt (Some (kinds.Word words.Var)) = true
begins_stmt (Some (kinds.Word words.TypeWord)) = true
begins_stmt (Some (kinds.Word words.Go)) = true
begins_stmt (Some (kinds.Word words.Defer)) = true
begins_stmt (Some (kinds.Word words.Return)) = true
begins_stmt (Some (kinds.Word words.Break)) = true
begins_stmt (Some (kinds.Word words.Continue)) = true
begins_stmt (Some (kinds.Word words.Goto)) = true
begins_stmt (Some (kinds.Word words.Fallthrough)) = true
begins_stmt (Some (kinds.Word words.If)) = true
begins_stmt (Some (kinds.Word words.Switch)) = true
begins_stmt (Some (kinds.Word words.Select)) = true
begins_stmt (Some (kinds.Word words.For)) = true
begins_stmt (Some (kinds.Mark marks.OpenBrace)) = true
begins_stmt kind = begins_expr kind

abbrev pub begins_decl : Option TokenKind → Bool
begins_decl (Some (kinds.Word words.Const)) = true
begins_decl (Some (kinds.Word words.Var)) = true
begins_decl (Some (kinds.Word words.TypeWord)) = true
begins_decl _ = false

abbrev pub begins_top : Option TokenKind → Bool
begins_top (Some (kinds.Word words.Func)) = true
begins_top kind = begins_decl kind

abbrev pub begins_spec : Option TokenKind → Bool
begins_spec (Some kinds.Name) = true
begins_spec (Some kinds.Chars) = true
begins_spec (Some kinds.RawChars) = true
begins_spec (Some (kinds.Mark marks.Dot)) = true
begins_spec _ = false

-- what goes on with no expression and with no type
abbrev pub stops : Option TokenKind → Bool
stops None = true
stops (Some kinds.Inserted) = true
stops (Some (kinds.Mark marks.Semicolon)) = true
stops (Some (kinds.Mark marks.CloseParen)) = true
stops (Some (kinds.Mark marks.CloseBracket)) = true
stops (Some (kinds.Mark marks.CloseBrace)) = true
stops (Some (kinds.Mark marks.Comma)) = true
stops (Some (kinds.Mark marks.Colon)) = true
stops (Some (kinds.Mark marks.Assign)) = true
stops (Some (kinds.Mark marks.Define)) = true
stops (Some (kinds.Mark marks.Ellipsis)) = true
stops (Some (kinds.Mark marks.Increment)) = true
stops (Some (kinds.Mark marks.Decrement)) = true
stops (Some (kinds.Mark marks.PlusAssign)) = true
stops (Some (kinds.Mark marks.MinusAssign)) = true
stops (Some (kinds.Mark marks.StarAssign)) = true
stops (Some (kinds.Mark marks.SlashAssign)) = true
stops (Some (kinds.Mark marks.PercentAssign)) = true
stops (Some (kinds.Mark marks.AndAssign)) = true
stops (Some (kinds.Mark marks.OrAssign)) = true
stops (Some (kinds.Mark marks.XorAssign)) = true
stops (Some (kinds.Mark marks.ShiftLeftAssign)) = true
stops (Some (kinds.Mark marks.ShiftRightAssign)) = true
stops (Some (kinds.Mark marks.AndNotAssign)) = true
stops _ = false

-- or with no expression behind which no braces stand, where none may
abbrev pub follows : Bool → Option TokenKind → Bool
follows bare (Some (kinds.Mark marks.OpenBrace)) = not bare
follows bare (Some (kinds.Mark marks.Arrow)) = true
follows bare kind = stops kind

-- what ends a simple statement
abbrev pub ends_simple : Bool → Option TokenKind → Bool
ends_simple bare (Some (kinds.Mark marks.OpenBrace)) = not bare
ends_simple bare kind = ends_stmt kind

-- what ends a specification in a declaration
abbrev pub ends_spec : Option TokenKind → Bool
ends_spec None = true
ends_spec (Some (kinds.Mark marks.CloseParen)) = true
ends_spec kind = ends_stmt kind

-- what goes on behind a name in an expression
abbrev pub goes_behind : Option TokenKind → Bool
goes_behind (Some (kinds.Mark marks.Dot)) = true
goes_behind (Some (kinds.Mark marks.OpenBracket)) = true
goes_behind (Some (kinds.Mark marks.OpenParen)) = true
goes_behind (Some (kinds.Mark marks.OpenBrace)) = true
goes_behind (Some (kinds.Mark marks.Star)) = true
goes_behind (Some (kinds.Mark marks.Slash)) = true
goes_behind (Some (kinds.Mark marks.Percent)) = true
goes_behind (Some (kinds.Mark marks.ShiftLeft)) = true
goes_behind (Some (kinds.Mark marks.ShiftRight)) = true
goes_behind (Some (kinds.Mark marks.And)) = true
goes_behind (Some (kinds.Mark marks.AndNot)) = true
goes_behind (Some (kinds.Mark marks.Plus)) = true
goes_behind (Some (kinds.Mark marks.Minus)) = true
goes_behind (Some (kinds.Mark marks.Or)) = true
goes_behind (Some (kinds.Mark marks.Xor)) = true
goes_behind (Some (kinds.Mark marks.Equal)) = true
goes_behind (Some (kinds.Mark marks.NotEqual)) = true
goes_behind (Some (kinds.Mark marks.Less)) = true
goes_behind (Some (kinds.Mark marks.LessEqual)) = true
goes_behind (Some (kinds.Mark marks.Greater)) = true
goes_behind (Some (kinds.Mark marks.GreaterEqual)) = true
goes_behind (Some (kinds.Mark marks.LogicalAnd)) = true
goes_behind (Some (kinds.Mark marks.LogicalOr)) = true
goes_behind _ = false

-- no token of this kind stands there
pub record Not (tokens : List Token) (at : ℕ) (kind : TokenKind) : Type 0 where
  pub is : is_at tokens at kind ≡ false

abbrev is_some : Option TokenKind → Bool
is_some None = false
is_some (Some kind) = true

kind_apart : (test : Option TokenKind → Bool) (o : Option TokenKind) (kind : TokenKind) → test o ≡ true → test (Some kind) ≡ false → is_kind o kind ≡ false
kind_apart test o kind p f =
    ⊎_elim (λ h. absurd (false≢true (sym f ∙ ap test (sym (kind_is o kind h)) ∙ p))) (λ h. h) (cases_Bool (is_kind o kind))

module _ {tokens : List Token} where
  -- a token that passes is none that doesn't
  pub apart : {test : Option TokenKind → Bool} {at : ℕ} (kind : TokenKind) → Passes tokens test at → test (Some kind) ≡ false → Not tokens at kind
  apart {test} {at} kind h f = record { is = kind_apart test (kind_at tokens at) kind h.there f }

  -- nor one that the test of a failure passes
  pub lacking : {test : Option TokenKind → Bool} {at : ℕ} (kind : TokenKind) → Fails tokens test at → test (Some kind) ≡ true → Not tokens at kind
  lacking {test} {at} kind h f =
      record { is = ⊎_elim (λ e. absurd (false≢true (sym h.there ∙ ap test (kind_is (kind_at tokens at) kind e) ∙ f))) (λ e. e) (cases_Bool (is_kind (kind_at tokens at) kind)) }

  pub at_mark : {at : ℕ} {mark : Mark} → HasMark tokens at mark → HasAt tokens at (kinds.Mark mark)
  at_mark h = record { there = h.there }

  pub at_word : {at : ℕ} {word : Keyword} → HasWord tokens at word → HasAt tokens at (kinds.Word word)
  at_word h = record { there = h.there }

  pub other : {at : ℕ} {found : TokenKind} (kind : TokenKind) → HasAt tokens at found → (kind_number found == kind_number kind) ≡ false → Not tokens at kind
  other kind h e = record { is = ap (λ o. is_kind o kind) h.there ∙ e }

  pub by_kind : {at : ℕ} {kind : TokenKind} (test : Option TokenKind → Bool) → HasAt tokens at kind → test (Some kind) ≡ true → Passes tokens test at
  by_kind test h e = record { there = ap test h.there ∙ e }

  pub by_mark : {at : ℕ} {mark : Mark} (test : Option TokenKind → Bool) → HasMark tokens at mark → test (Some (kinds.Mark mark)) ≡ true → Passes tokens test at
  by_mark test h e = record { there = ap test h.there ∙ e }

  pub by_word : {at : ℕ} {word : Keyword} (test : Option TokenKind → Bool) → HasWord tokens at word → test (Some (kinds.Word word)) ≡ true → Passes tokens test at
  by_word test h e = record { there = ap test h.there ∙ e }

  pub by_test : {at : ℕ} {test : Option TokenKind → Bool} (wanted : Option TokenKind → Bool) → ((o : Option TokenKind) → test o ≡ true → wanted o ≡ true) → Passes tokens test at → Passes tokens wanted at
  by_test {at} wanted f h = record { there = f (kind_at tokens at) h.there }

  pub failing : {at : ℕ} {test : Option TokenKind → Bool} (other : Option TokenKind → Bool) → ((o : Option TokenKind) → test o ≡ true → other o ≡ false) → Passes tokens test at → Fails tokens other at
  failing {at} other f h = record { there = f (kind_at tokens at) h.there }

  pub fails_mark : {at : ℕ} {mark : Mark} (test : Option TokenKind → Bool) → HasMark tokens at mark → test (Some (kinds.Mark mark)) ≡ false → Fails tokens test at
  fails_mark test h e = record { there = ap test h.there ∙ e }

  pub within_at : {at : ℕ} {kind : TokenKind} → HasAt tokens at kind → at < length tokens
  within_at {at} {kind} h =
      ⊎_elim (λ lt. lt) (λ ge. absurd (false≢true (ap is_some (sym (ap kind_of (slice_get_past tokens at ge)) ∙ h.there)))) (cases_lt at (length tokens))

  pub within_mark : {at : ℕ} {mark : Mark} → HasMark tokens at mark → at < length tokens
  within_mark h = within_at (at_mark h)

  pub within_word : {at : ℕ} {word : Keyword} → HasWord tokens at word → at < length tokens
  within_word h = within_at (at_word h)

  pub within_pass : {at : ℕ} {test : Option TokenKind → Bool} → Passes tokens test at → test None ≡ false → at < length tokens
  within_pass {at} {test} h e =
      ⊎_elim (λ lt. lt) (λ ge. absurd (false≢true (sym e ∙ ap (λ o. test (kind_of o)) (sym (slice_get_past tokens at ge)) ∙ h.there))) (cases_lt at (length tokens))

-- a list ends there: at its closer, or at a comma before it
pub data EndsList (tokens : List Token) (closer : Mark) : ℕ → Type 0 where
  closed_here : {at : ℕ} → HasMark tokens at closer → EndsList tokens closer at
  comma_before : {at : ℕ} → HasMark tokens at marks.Comma → HasMark tokens (at + 1) closer → EndsList tokens closer at

pub list_end : {tokens : List Token} {closer : Mark} {from to : ℕ} → MaybeComma tokens from to → HasMark tokens to closer → EndsList tokens closer from
list_end left_out h = closed_here h
list_end (comma c) h = comma_before c h
