-- Which bytes are a piece of which kind, and which piece stands at a place of a file.
use Rattle.std.specs.Prelude.{◌≡◌, ℕ, ◌≤◌, List, [], ◌∷◌, length, take, drop, Bool, true, false, codes}
use Rattle.argot_tree.specs.declared.token.TokenKind.{TokenKind}
use Rattle.argot_tree.specs.declared.token.TokenKind.TheVariants as kinds
use Rattle.argot_tree.specs.declared.piece.Piece.{Piece}
use Rattle.argot_tree.specs.declared.piece.Piece.TheVariants as pieces
use Rattle.argot_tree.specs.Forms.{Matches, has}
use Rattle.argot_tree.specs.Numbers.{whole, floating, imaginary}
use Rattle.argot_tree.specs.Names.{IsName, keyword_text}
use Rattle.argot_tree.specs.Literals.{IsRune, IsChars, IsRawChars}
use Rattle.argot_tree.specs.Marks.{mark_text}
use Rattle.argot_tree.specs.Comments.{IsLineComment, EndsLine, is_directive, IsGeneralComment, opens_comment}

-- a token's bytes
abbrev pub IsToken : TokenKind → List ℕ → Type 0
IsToken kinds.Name bytes = IsName bytes
IsToken kinds.Whole bytes = Matches whole bytes
IsToken kinds.Float bytes = Matches floating bytes
IsToken kinds.Imaginary bytes = Matches imaginary bytes
IsToken kinds.Rune bytes = IsRune bytes
IsToken kinds.Chars bytes = IsChars bytes
IsToken kinds.RawChars bytes = IsRawChars bytes
IsToken (kinds.Word word) bytes = bytes ≡ keyword_text word
IsToken (kinds.Mark mark) bytes = bytes ≡ mark_text mark
IsToken kinds.Inserted bytes = ⊥

-- blank, tab and carriage return
abbrev pub is_blank : ℕ → Bool
is_blank b = has (codes " \t\r") b

-- a piece's bytes
abbrev pub IsPiece : Piece → List ℕ → Type 0
IsPiece pieces.Space bytes = (b : ℕ) × (bytes ≡ b ∷ []) × (is_blank b ≡ true)
IsPiece pieces.Newline bytes = bytes ≡ 10 ∷ []
IsPiece pieces.LineComment bytes = IsLineComment bytes × (is_directive bytes ≡ false)
IsPiece pieces.Directive bytes = IsLineComment bytes × (is_directive bytes ≡ true)
IsPiece pieces.Comment bytes = IsGeneralComment false bytes
IsPiece pieces.LongComment bytes = IsGeneralComment true bytes
IsPiece (pieces.Token kind) bytes = IsToken kind bytes

-- where a comment begins no token may stand
abbrev pub StandsThere : Piece → List ℕ → Type 0
StandsThere (pieces.Token kind) text = opens_comment text ≡ false
StandsThere _ text = Unit {0}

-- a line comment goes on to the end of its line
abbrev pub EndsThere : Piece → List ℕ → Type 0
EndsThere pieces.LineComment behind = EndsLine behind
EndsThere pieces.Directive behind = EndsLine behind
EndsThere _ behind = Unit {0}

-- a piece of n bytes stands at the front of the text
pub record IsFront (piece : Piece) (n : ℕ) (text : List ℕ) : Type 0 where
  pub within : n ≤ length text
  pub is_piece : IsPiece piece (take n text)
  pub stands : StandsThere piece text
  pub ends : EndsThere piece (drop n text)

-- and no longer one does
pub record IsLongest (piece : Piece) (n : ℕ) (text : List ℕ) : Type 0 where
  pub front : IsFront piece n text
  pub longest : (other : Piece) (m : ℕ) → IsFront other m text → m ≤ n

-- no piece begins the text
abbrev pub BeginsNone : List ℕ → Type 0
BeginsNone text = (piece : Piece) (m : ℕ) → IsFront piece m text → ⊥
