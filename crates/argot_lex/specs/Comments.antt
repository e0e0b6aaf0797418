-- The comment at the front of a text, computed.
use Rattle.std.specs.Prelude.{ℕ, zero, suc, ◌+◌, Bool, true, false, ◌==◌, ◌||◌, ◌&&◌, List, [], ◌∷◌, drop, take, Option, Some, None, if◌then◌else◌}
use Rattle.argot_tree.specs.declared.piece.Piece.{Piece}
use Rattle.argot_tree.specs.declared.piece.Piece.TheVariants as pieces
use Rattle.argot_tree.specs.Characters.{is_other_than}
use Rattle.argot_tree.specs.Comments.{is_directive}
use Rattle.argot_lex.specs.Characters.{char_at, run_from}

-- the line ends here
abbrev pub ends_line : List ℕ → Bool
ends_line [] = true
ends_line (b ∷ bs) = b == 10

abbrev pub line_kind : Bool → Piece
line_kind directive = if directive then pieces.Directive else pieces.LineComment

abbrev pub line_by : List ℕ → ℕ → Option (Piece × ℕ)
line_by text n = if ends_line (drop n text) then Some (line_kind (is_directive (take n text)), n) else None

-- the line comment; `//` is known to stand there
abbrev pub line_front : List ℕ → Option (Piece × ℕ)
line_front text = line_by text (2 + run_from (is_other_than 10) 0 (drop 2 text))

abbrev pub general_kind : Bool → Piece
general_kind breaks = if breaks then pieces.LongComment else pieces.Comment

-- a slash behind a star
abbrev pub closes : Bool → List ℕ → Bool
closes star [] = false
closes star (b ∷ bs) = star && (b == 47)

abbrev pub but_zero : Option (ℕ × ℕ) → Option (ℕ × ℕ)
but_zero None = None
but_zero (Some r) = if r.0 == 0 then None else Some r

-- the character at the front, U+0000 never
abbrev pub some_char_at : List ℕ → Option (ℕ × ℕ)
some_char_at bytes = but_zero (char_at bytes)

abbrev pub past_by : ℕ → ℕ → (ℕ → ℕ → Option (Bool × ℕ)) → Option (Bool × ℕ)
past_by c zero go = None
past_by c (suc k) go = go c k

abbrev pub past_char : Option (ℕ × ℕ) → (ℕ → ℕ → Option (Bool × ℕ)) → Option (Bool × ℕ)
past_char None go = None
past_char (Some r) go = past_by r.0 r.1 go

-- whether a newline stands in the comment, and where the comment ends, read up to an offset: the last character was a
-- star or not, a newline came or not, and the next so many bytes belong to a character that has been read
abbrev pub general_from : ℕ → Bool → Bool → ℕ → List ℕ → Option (Bool × ℕ)
general_from skip star breaks at [] = None
general_from zero star breaks at (b ∷ bs) =
    if closes star (b ∷ bs) then Some (breaks, at + 1)
    else past_char (some_char_at (b ∷ bs)) (λ c k. general_from k (c == 42) (breaks || (c == 10)) (at + 1) bs)
general_from (suc k) star breaks at (b ∷ bs) = general_from k star breaks (at + 1) bs

abbrev pub general_by : Option (Bool × ℕ) → Option (Piece × ℕ)
general_by None = None
general_by (Some r) = Some (general_kind r.0, r.1)

-- the general comment; `/*` is known to stand there
abbrev pub general_front : List ℕ → Option (Piece × ℕ)
general_front text = general_by (general_from 0 false false 2 (drop 2 text))
