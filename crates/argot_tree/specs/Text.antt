-- What a whole file is: pieces end to end, each the longest at its place, and the tokens and directives among them.
use Rattle.std.specs.Prelude.{◌≡◌, ℕ, ◌+◌, ◌<◌, Bool, true, false, List, [], ◌∷◌, ◌++◌, length, drop, Option, Some, None, if◌then◌else◌}
use Rattle.argot_tree.specs.declared.keyword.Keyword.{Keyword}
use Rattle.argot_tree.specs.declared.keyword.Keyword.TheVariants.{Break, Continue, Fallthrough, Return}
use Rattle.argot_tree.specs.declared.mark.Mark.{Mark}
use Rattle.argot_tree.specs.declared.mark.Mark.TheVariants.{Increment, Decrement, CloseParen, CloseBracket, CloseBrace}
use Rattle.argot_tree.specs.declared.token.TokenKind.{TokenKind}
use Rattle.argot_tree.specs.declared.token.TokenKind.TheVariants as kinds
use Rattle.argot_tree.specs.declared.token.Token.{Token}
use Rattle.argot_tree.specs.declared.piece.Piece.{Piece}
use Rattle.argot_tree.specs.declared.piece.Piece.TheVariants as pieces
use Rattle.argot_tree.specs.declared.lexed.Lexed.{Lexed}
use Rattle.argot_tree.specs.Comments.{begins_with}
use Rattle.argot_tree.specs.Pieces.{IsLongest, BeginsNone}

-- a piece and its length
abbrev pub Cut : Type 0
Cut = Piece × ℕ

-- the text is these pieces and then the rest, and each is the longest at its place
abbrev pub IsCut : List Cut → List ℕ → List ℕ → Type 0
IsCut [] text rest = text ≡ rest
IsCut (cut ∷ cuts) text rest = IsLongest cut.0 cut.1 text × IsCut cuts (drop cut.1 text) rest

-- a line that ends behind this word, or this mark, ends a statement
abbrev pub word_ends : Keyword → Bool
word_ends Break = true
word_ends Continue = true
word_ends Fallthrough = true
word_ends Return = true
word_ends _ = false

abbrev pub mark_ends : Mark → Bool
mark_ends Increment = true
mark_ends Decrement = true
mark_ends CloseParen = true
mark_ends CloseBracket = true
mark_ends CloseBrace = true
mark_ends _ = false

abbrev pub token_ends : TokenKind → Bool
token_ends (kinds.Word word) = word_ends word
token_ends (kinds.Mark mark) = mark_ends mark
token_ends kinds.Inserted = false
token_ends _ = true

-- the end of the last token, where a line that ends behind it has a semicolon
abbrev pub pending_after : TokenKind → ℕ → Option ℕ
pending_after kind end = if token_ends kind then Some end else None

-- the semicolon that the end of a line puts in
abbrev pub inserted : Option ℕ → List Token
inserted None = []
inserted (Some at) = record { kind = kinds.Inserted; start = at; end = at } ∷ []

-- the tokens that a piece from start to end gives
abbrev pub given : Piece → ℕ → ℕ → Option ℕ → List Token
given pieces.Space start end pending = []
given pieces.Newline start end pending = inserted pending
given pieces.LineComment start end pending = inserted pending
given pieces.Directive start end pending = inserted pending
given pieces.Comment start end pending = []
given pieces.LongComment start end pending = inserted pending
given (pieces.Token kind) start end pending = record { kind = kind; start = start; end = end } ∷ []

-- what is pending behind it
abbrev pub pending_behind : Piece → ℕ → Option ℕ → Option ℕ
pending_behind pieces.Space end pending = pending
pending_behind pieces.Newline end pending = None
pending_behind pieces.LineComment end pending = None
pending_behind pieces.Directive end pending = None
pending_behind pieces.Comment end pending = pending
pending_behind pieces.LongComment end pending = None
pending_behind (pieces.Token kind) end pending = pending_after kind end

-- the tokens of these pieces, from an offset on
abbrev pub tokens_of : ℕ → Option ℕ → List Cut → List Token
tokens_of at pending [] = inserted pending
tokens_of at pending (cut ∷ cuts) =
    given cut.0 at (at + cut.1) pending ++ tokens_of (at + cut.1) (pending_behind cut.0 (at + cut.1) pending) cuts

-- the directive that a piece is
abbrev pub directed : Piece → ℕ → List ℕ
directed pieces.Directive at = at ∷ []
directed _ at = []

-- the offsets of the directives among these pieces
abbrev pub directives_of : ℕ → List Cut → List ℕ
directives_of at [] = []
directives_of at (cut ∷ cuts) = directed cut.0 at ++ directives_of (at + cut.1) cuts

-- how long the byte order mark at the start is
abbrev pub order_mark : List ℕ → ℕ
order_mark text = if begins_with (239 ∷ 187 ∷ 191 ∷ []) text then 3 else 0

-- these tokens and directives spell the text
pub record SpellsText (lexed : Lexed) (text : List ℕ) : Type 0 where
  pub cuts : List Cut
  pub is_cut : IsCut cuts (drop (order_mark text) text) []
  pub tokens_are : lexed.tokens ≡ tokens_of (order_mark text) None cuts
  pub directives_are : lexed.directives ≡ directives_of (order_mark text) cuts

-- the first offset at which no piece begins
pub record IsFirstBad (text : List ℕ) (offset : ℕ) : Type 0 where
  pub before : offset < length text
  pub none : BeginsNone (drop offset text)
  pub cuts : List Cut
  pub is_cut : IsCut cuts (drop (order_mark text) text) (drop offset text)
