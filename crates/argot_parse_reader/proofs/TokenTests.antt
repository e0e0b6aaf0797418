-- A test on a token tells the token.
use Rattle.std.proofs.Common.{◌≡◌, ℕ, List, Bool, true, false, cond, Option, Some, None, refl, sym, ap, ◌∙◌}
use Rattle.std.specs.Prelude.{◌==◌, ◌-◌, nat_le}
use Rattle.std.proofs.lemmas.Bool.{eqb-true, false≢true}
use Rattle.argot_tree.specs.declared.keyword.Keyword.{Keyword}
use Rattle.argot_tree.specs.declared.keyword.Keyword.TheVariants as words
use Rattle.argot_tree.specs.declared.mark.Mark.{Mark}
use Rattle.argot_tree.specs.declared.mark.Mark.TheVariants as marks
use Rattle.argot_tree.specs.declared.token.TokenKind.{TokenKind}
use Rattle.argot_tree.specs.declared.token.TokenKind.TheVariants as kinds
use Rattle.argot_tree.specs.declared.token.Token.{Token}
use Rattle.argot_tree.specs.TokensAt.{kind_at, HasAt, HasWord, HasMark, Passes, Fails}
use Rattle.argot_parse_reader.specs.Reading.{kind_number, is_kind, is_at, is_word, is_mark}

-- a kind's number tells the kind
abbrev word_of : ℕ → Keyword
word_of n =
    cond (n == 0) words.Break (
    cond (n == 1) words.Case (
    cond (n == 2) words.Chan (
    cond (n == 3) words.Const (
    cond (n == 4) words.Continue (
    cond (n == 5) words.Default (
    cond (n == 6) words.Defer (
    cond (n == 7) words.Else (
    cond (n == 8) words.Fallthrough (
    cond (n == 9) words.For (
    cond (n == 10) words.Func (
    cond (n == 11) words.Go (
    cond (n == 12) words.Goto (
    cond (n == 13) words.If (
    cond (n == 14) words.Import (
    cond (n == 15) words.Interface (
    cond (n == 16) words.Map (
    cond (n == 17) words.Package (
    cond (n == 18) words.Range (
    cond (n == 19) words.Return (
    cond (n == 20) words.Select (
    cond (n == 21) words.Struct (
    cond (n == 22) words.Switch (
    cond (n == 23) words.TypeWord (
    words.Var))))))))))))))))))))))))

abbrev mark_of : ℕ → Mark
mark_of n =
    cond (n == 0) marks.Plus (
    cond (n == 1) marks.Minus (
    cond (n == 2) marks.Star (
    cond (n == 3) marks.Slash (
    cond (n == 4) marks.Percent (
    cond (n == 5) marks.And (
    cond (n == 6) marks.Or (
    cond (n == 7) marks.Xor (
    cond (n == 8) marks.ShiftLeft (
    cond (n == 9) marks.ShiftRight (
    cond (n == 10) marks.AndNot (
    cond (n == 11) marks.PlusAssign (
    cond (n == 12) marks.MinusAssign (
    cond (n == 13) marks.StarAssign (
    cond (n == 14) marks.SlashAssign (
    cond (n == 15) marks.PercentAssign (
    cond (n == 16) marks.AndAssign (
    cond (n == 17) marks.OrAssign (
    cond (n == 18) marks.XorAssign (
    cond (n == 19) marks.ShiftLeftAssign (
    cond (n == 20) marks.ShiftRightAssign (
    cond (n == 21) marks.AndNotAssign (
    cond (n == 22) marks.LogicalAnd (
    cond (n == 23) marks.LogicalOr (
    cond (n == 24) marks.Arrow (
    cond (n == 25) marks.Increment (
    cond (n == 26) marks.Decrement (
    cond (n == 27) marks.Equal (
    cond (n == 28) marks.Less (
    cond (n == 29) marks.Greater (
    cond (n == 30) marks.Assign (
    cond (n == 31) marks.Not (
    cond (n == 32) marks.Tilde (
    cond (n == 33) marks.NotEqual (
    cond (n == 34) marks.LessEqual (
    cond (n == 35) marks.GreaterEqual (
    cond (n == 36) marks.Define (
    cond (n == 37) marks.Ellipsis (
    cond (n == 38) marks.OpenParen (
    cond (n == 39) marks.CloseParen (
    cond (n == 40) marks.OpenBracket (
    cond (n == 41) marks.CloseBracket (
    cond (n == 42) marks.OpenBrace (
    cond (n == 43) marks.CloseBrace (
    cond (n == 44) marks.Comma (
    cond (n == 45) marks.Semicolon (
    cond (n == 46) marks.Dot (
    marks.Colon)))))))))))))))))))))))))))))))))))))))))))))))

abbrev kind_of_number : ℕ → TokenKind
kind_of_number n =
    cond (n == 0) kinds.Name (
    cond (n == 1) kinds.Whole (
    cond (n == 2) kinds.Float (
    cond (n == 3) kinds.Imaginary (
    cond (n == 4) kinds.Rune (
    cond (n == 5) kinds.Chars (
    cond (n == 6) kinds.RawChars (
    cond (n == 7) kinds.Inserted (
    cond (nat_le n 34) (kinds.Word (word_of (n - 10))) (kinds.Mark (mark_of (n - 40)))))))))))

back : (kind : TokenKind) → kind_of_number (kind_number kind) ≡ kind
back kinds.Name = refl
back kinds.Whole = refl
back kinds.Float = refl
back kinds.Imaginary = refl
back kinds.Rune = refl
back kinds.Chars = refl
back kinds.RawChars = refl
back kinds.Inserted = refl
back (kinds.Word words.Break) = refl
back (kinds.Word words.Case) = refl
back (kinds.Word words.Chan) = refl
back (kinds.Word words.Const) = refl
back (kinds.Word words.Continue) = refl
back (kinds.Word words.Default) = refl
back (kinds.Word words.Defer) = refl
back (kinds.Word words.Else) = refl
back (kinds.Word words.Fallthrough) = refl
back (kinds.Word words.For) = refl
back (kinds.Word words.Func) = refl
back (kinds.Word words.Go) = refl
back (kinds.Word words.Goto) = refl
back (kinds.Word words.If) = refl
back (kinds.Word words.Import) = refl
back (kinds.Word words.Interface) = refl
back (kinds.Word words.Map) = refl
back (kinds.Word words.Package) = refl
back (kinds.Word words.Range) = refl
back (kinds.Word words.Return) = refl
back (kinds.Word words.Select) = refl
back (kinds.Word words.Struct) = refl
back (kinds.Word words.Switch) = refl
back (kinds.Word words.TypeWord) = refl
back (kinds.Word words.Var) = refl
back (kinds.Mark marks.Plus) = refl
back (kinds.Mark marks.Minus) = refl
back (kinds.Mark marks.Star) = refl
back (kinds.Mark marks.Slash) = refl
back (kinds.Mark marks.Percent) = refl
back (kinds.Mark marks.And) = refl
back (kinds.Mark marks.Or) = refl
back (kinds.Mark marks.Xor) = refl
back (kinds.Mark marks.ShiftLeft) = refl
back (kinds.Mark marks.ShiftRight) = refl
back (kinds.Mark marks.AndNot) = refl
back (kinds.Mark marks.PlusAssign) = refl
back (kinds.Mark marks.MinusAssign) = refl
back (kinds.Mark marks.StarAssign) = refl
back (kinds.Mark marks.SlashAssign) = refl
back (kinds.Mark marks.PercentAssign) = refl
back (kinds.Mark marks.AndAssign) = refl
back (kinds.Mark marks.OrAssign) = refl
back (kinds.Mark marks.XorAssign) = refl
back (kinds.Mark marks.ShiftLeftAssign) = refl
back (kinds.Mark marks.ShiftRightAssign) = refl
back (kinds.Mark marks.AndNotAssign) = refl
back (kinds.Mark marks.LogicalAnd) = refl
back (kinds.Mark marks.LogicalOr) = refl
back (kinds.Mark marks.Arrow) = refl
back (kinds.Mark marks.Increment) = refl
back (kinds.Mark marks.Decrement) = refl
back (kinds.Mark marks.Equal) = refl
back (kinds.Mark marks.Less) = refl
back (kinds.Mark marks.Greater) = refl
back (kinds.Mark marks.Assign) = refl
back (kinds.Mark marks.Not) = refl
back (kinds.Mark marks.Tilde) = refl
back (kinds.Mark marks.NotEqual) = refl
back (kinds.Mark marks.LessEqual) = refl
back (kinds.Mark marks.GreaterEqual) = refl
back (kinds.Mark marks.Define) = refl
back (kinds.Mark marks.Ellipsis) = refl
back (kinds.Mark marks.OpenParen) = refl
back (kinds.Mark marks.CloseParen) = refl
back (kinds.Mark marks.OpenBracket) = refl
back (kinds.Mark marks.CloseBracket) = refl
back (kinds.Mark marks.OpenBrace) = refl
back (kinds.Mark marks.CloseBrace) = refl
back (kinds.Mark marks.Comma) = refl
back (kinds.Mark marks.Semicolon) = refl
back (kinds.Mark marks.Dot) = refl
back (kinds.Mark marks.Colon) = refl

pub kind_is : (found : Option TokenKind) (kind : TokenKind) → is_kind found kind ≡ true → found ≡ Some kind
kind_is None kind h = absurd (false≢true h)
kind_is (Some found) kind h =
    ap Some (sym (back found) ∙ ap kind_of_number (eqb-true (kind_number found) (kind_number kind) h) ∙ back kind)

pub has_at : {tokens : List Token} (at : ℕ) (kind : TokenKind) → is_at tokens at kind ≡ true → HasAt tokens at kind
has_at {tokens} at kind h = record { there = kind_is (kind_at tokens at) kind h }

pub has_word : {tokens : List Token} (at : ℕ) (word : Keyword) → is_word tokens at word ≡ true → HasWord tokens at word
has_word {tokens} at word h = record { there = kind_is (kind_at tokens at) (kinds.Word word) h }

pub has_mark : {tokens : List Token} (at : ℕ) (mark : Mark) → is_mark tokens at mark ≡ true → HasMark tokens at mark
has_mark {tokens} at mark h = record { there = kind_is (kind_at tokens at) (kinds.Mark mark) h }

pub passes : {tokens : List Token} {test : Option TokenKind → Bool} {at : ℕ} → test (kind_at tokens at) ≡ true → Passes tokens test at
passes h = record { there = h }

pub fails : {tokens : List Token} {test : Option TokenKind → Bool} {at : ℕ} → test (kind_at tokens at) ≡ false → Fails tokens test at
fails h = record { there = h }
