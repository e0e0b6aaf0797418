-- The piece at the front of a text, computed.
use Rattle.std.specs.Prelude.{ℕ, ◌==◌, List, [], ◌∷◌, drop, Option, Some, None, if◌then◌else◌}
use Rattle.std.specs.Char.{is_ascii_digit}
use Rattle.argot_tree.specs.declared.mark.Mark.{Mark}
use Rattle.argot_tree.specs.declared.mark.Mark.TheVariants as marks
use Rattle.argot_tree.specs.declared.token.TokenKind.{TokenKind}
use Rattle.argot_tree.specs.declared.token.TokenKind.TheVariants as kinds
use Rattle.argot_tree.specs.declared.piece.Piece.{Piece}
use Rattle.argot_tree.specs.declared.piece.Piece.TheVariants as pieces
use Rattle.argot_tree.specs.Pieces.{is_blank}
use Rattle.argot_tree.specs.Comments.{begins_with}
use Rattle.argot_lex.specs.Characters.{first_letter}
use Rattle.argot_lex.specs.Names.{name_front}
use Rattle.argot_lex.specs.Numbers.{number_front}
use Rattle.argot_lex.specs.Literals.{rune_front, raw_front, text_front, begins}
use Rattle.argot_lex.specs.Comments.{line_front, general_front}
use Rattle.argot_lex.specs.Marks.{mark_front}

-- a token of a kind, and its length
abbrev pub as_token : TokenKind × ℕ → Piece × ℕ
as_token r = (pieces.Token r.0, r.1)

abbrev pub token_of : Option (TokenKind × ℕ) → Option (Piece × ℕ)
token_of None = None
token_of (Some r) = Some (as_token r)

abbrev pub sized : TokenKind → Option ℕ → Option (Piece × ℕ)
sized kind None = None
sized kind (Some n) = Some (pieces.Token kind, n)

abbrev pub mark_of : Option (Mark × ℕ) → Option (Piece × ℕ)
mark_of None = None
mark_of (Some r) = Some (pieces.Token (kinds.Mark r.0), r.1)

-- a number, or `...`, or a point
abbrev pub dot_by : Option (TokenKind × ℕ) → List ℕ → Option (Piece × ℕ)
dot_by (Some r) text = Some (as_token r)
dot_by None text =
    if begins_with (46 ∷ 46 ∷ 46 ∷ []) text then Some (pieces.Token (kinds.Mark marks.Ellipsis), 3)
    else Some (pieces.Token (kinds.Mark marks.Dot), 1)

-- a comment or a mark
abbrev pub slash_front : List ℕ → Option (Piece × ℕ)
slash_front text =
    if begins 47 (drop 1 text) then line_front text
    else (if begins 42 (drop 1 text) then general_front text
    else mark_of (mark_front text))

abbrev pub quoted_front : ℕ → List ℕ → Option (Piece × ℕ)
quoted_front b text =
    if b == 34 then sized kinds.Chars (text_front text)
    else (if b == 39 then sized kinds.Rune (rune_front text)
    else (if b == 96 then sized kinds.RawChars (raw_front text)
    else (if b == 47 then slash_front text
    else mark_of (mark_front text))))

abbrev pub other_front : ℕ → List ℕ → Option (Piece × ℕ)
other_front b text =
    if is_blank b then Some (pieces.Space, 1)
    else (if b == 10 then Some (pieces.Newline, 1)
    else (if is_ascii_digit b then token_of (number_front text)
    else (if b == 46 then dot_by (number_front text) text
    else quoted_front b text)))

unfoldable pub front : List ℕ → Option (Piece × ℕ)
front [] = None
front (b ∷ bs) = if first_letter (b ∷ bs) then Some (as_token (name_front (b ∷ bs))) else other_front b (b ∷ bs)
