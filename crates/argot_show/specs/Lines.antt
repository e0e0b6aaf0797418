-- What is printed of tokens and directives, put behind what stands there already.
use Rattle.std.specs.Prelude.{ℕ, ◌+◌, ◌-◌, min, Bool, true, false, List, [], ◌∷◌, ◌++◌, length, take, drop, codes, if◌then◌else◌}
use Rattle.std.specs.Fmt.{decimal}
use Rattle.argot_tree.specs.declared.token.TokenKind.{TokenKind}
use Rattle.argot_tree.specs.declared.token.TokenKind.TheVariants as kinds
use Rattle.argot_tree.specs.declared.token.Token.{Token}
use Rattle.argot_tree.specs.declared.lexed.Lexed.{Lexed}

abbrev pub kind_name : TokenKind → List ℕ
kind_name kinds.Name = codes "Name"
kind_name kinds.Whole = codes "Whole"
kind_name kinds.Float = codes "Float"
kind_name kinds.Imaginary = codes "Imaginary"
kind_name kinds.Rune = codes "Rune"
kind_name kinds.Chars = codes "Chars"
kind_name kinds.RawChars = codes "RawChars"
kind_name (kinds.Word word) = codes "Word"
kind_name (kinds.Mark mark) = codes "Mark"
kind_name kinds.Inserted = codes "Inserted"

-- so many bytes of the file from an offset on, as far as there are
abbrev pub part_of : List ℕ → ℕ → ℕ → List ℕ
part_of bytes start count = let behind = drop (min start (length bytes)) bytes in take (min count (length behind)) behind

-- the text of a token; an inserted semicolon is one
abbrev pub token_text : List ℕ → Token → List ℕ
token_text bytes token = text_by token.kind
  where
    text_by : TokenKind → List ℕ
    text_by kinds.Inserted = codes ";"
    text_by _ = part_of bytes token.start (token.end - token.start)

-- a line with number, kind, start, end and text
abbrev pub line_onto : List ℕ → List ℕ → ℕ → Token → List ℕ
line_onto before bytes n token =
    before ++ codes "  " ++ decimal n ++ codes " " ++ kind_name token.kind ++ codes " " ++ decimal token.start ++ codes " " ++ decimal token.end ++ codes " " ++ token_text bytes token ++ codes "\n"

abbrev pub lines_onto : List ℕ → List ℕ → ℕ → List Token → List ℕ
lines_onto before bytes n [] = before
lines_onto before bytes n (token ∷ tokens) = lines_onto (line_onto before bytes n token) bytes (n + 1) tokens

-- numbers with commas between
abbrev pub numbers_onto : List ℕ → Bool → List ℕ → List ℕ
numbers_onto before first [] = before
numbers_onto before first (n ∷ ns) = numbers_onto ((if first then before else before ++ codes ", ") ++ decimal n) false ns

abbrev pub directives_line : List ℕ → List ℕ
directives_line offsets = numbers_onto (codes "  directives [") true offsets ++ codes "]\n"

-- all that is printed of a file
abbrev pub shown : List ℕ → Lexed → List ℕ
shown bytes lexed = lines_onto [] bytes 0 lexed.tokens ++ directives_line lexed.directives

abbrev pub counted : Lexed → List ℕ
counted lexed = decimal (length lexed.tokens) ++ codes "\n"
