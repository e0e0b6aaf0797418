-- How deeply a token is nested.
use Rattle.std.specs.Prelude.{ℕ, ◌+◌, ◌-◌, ◌<◌, ◌≤◌, Bool, true, false, List, [], ◌∷◌, length, take, if◌then◌else◌}
use Rattle.argot_tree.specs.declared.keyword.Keyword.TheVariants as words
use Rattle.argot_tree.specs.declared.mark.Mark.TheVariants as marks
use Rattle.argot_tree.specs.declared.token.TokenKind.{TokenKind}
use Rattle.argot_tree.specs.declared.token.TokenKind.TheVariants as kinds
use Rattle.argot_tree.specs.declared.token.Token.{Token}

abbrev pub opens : TokenKind → Bool
opens (kinds.Mark marks.OpenParen) = true
opens (kinds.Mark marks.OpenBracket) = true
opens (kinds.Mark marks.OpenBrace) = true
opens _ = false

abbrev pub closes : TokenKind → Bool
closes (kinds.Mark marks.CloseParen) = true
closes (kinds.Mark marks.CloseBracket) = true
closes (kinds.Mark marks.CloseBrace) = true
closes _ = false

-- behind `;`, `,`, `{` or `(` the count of the other tokens begins anew; an inserted semicolon is one
abbrev pub resets : TokenKind → Bool
resets (kinds.Mark marks.Semicolon) = true
resets kinds.Inserted = true
resets (kinds.Mark marks.Comma) = true
resets (kinds.Mark marks.OpenBrace) = true
resets (kinds.Mark marks.OpenParen) = true
resets _ = false

-- `! + - ^ * & <- ] chan func map`
abbrev pub counts : TokenKind → Bool
counts (kinds.Mark marks.Not) = true
counts (kinds.Mark marks.Plus) = true
counts (kinds.Mark marks.Minus) = true
counts (kinds.Mark marks.Xor) = true
counts (kinds.Mark marks.Star) = true
counts (kinds.Mark marks.And) = true
counts (kinds.Mark marks.Arrow) = true
counts (kinds.Mark marks.CloseBracket) = true
counts (kinds.Word words.Chan) = true
counts (kinds.Word words.Func) = true
counts (kinds.Word words.Map) = true
counts _ = false

-- brackets that are open behind the tokens, where `open_` were before; never below 0, and of whatever sort
abbrev pub open_behind : ℕ → List Token → ℕ
open_behind open_ [] = open_
open_behind open_ (token ∷ tokens) =
    open_behind (if opens token.kind then open_ + 1 else (if closes token.kind then open_ - 1 else open_)) tokens

-- tokens that count since the last that begins the count anew
abbrev pub counted_behind : ℕ → List Token → ℕ
counted_behind count [] = count
counted_behind count (token ∷ tokens) =
    counted_behind (if resets token.kind then 0 else (if counts token.kind then count + 1 else count)) tokens

-- the nesting of the token at a place
abbrev pub nesting : List Token → ℕ → ℕ
nesting tokens at = open_behind 0 (take at tokens) + counted_behind 0 (take at tokens)

-- the first token that is nested deeper than 200
pub record IsTooDeep (tokens : List Token) (at : ℕ) : Type 0 where
  pub there : at < length tokens
  pub deep : 200 < nesting tokens at
  pub first : (before : ℕ) → before < at → nesting tokens before ≤ 200

-- no token is
abbrev pub IsShallow : List Token → Type 0
IsShallow tokens = (at : ℕ) → at < length tokens → nesting tokens at ≤ 200
