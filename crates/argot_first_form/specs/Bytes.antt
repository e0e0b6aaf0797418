-- The bytes of names and of texts in quotes, and the words that are no names.
use Rattle.std.specs.Prelude.{ℕ, Bool, false, ◌&&◌, ◌||◌, not, ◌==◌, List, [], ◌∷◌, codes}
use Rattle.std.specs.List.{list_all, list_any}
use Rattle.std.specs.Str.{bytes_eq}
use Rattle.std.specs.Char.{is_ascii_alphabetic, is_ascii_alphanumeric}

-- an ASCII letter, digit or space
abbrev pub is_quotable : ℕ → Bool
is_quotable b = is_ascii_alphanumeric b || (b == 32)

abbrev pub begins_with_letter : List ℕ → Bool
begins_with_letter [] = false
begins_with_letter (b ∷ bs) = is_ascii_alphabetic b

-- an ASCII letter followed by ASCII letters and digits
abbrev pub is_word : List ℕ → Bool
is_word n = begins_with_letter n && list_all is_ascii_alphanumeric n

-- the keywords, the predeclared names, `main` and `init`
abbrev pub reserved_words : List (List ℕ)
reserved_words =
    codes "break" ∷ codes "case" ∷ codes "chan" ∷ codes "const" ∷ codes "continue" ∷ codes "default" ∷ codes "defer" ∷ codes "else" ∷ codes "fallthrough" ∷ codes "for" ∷ codes "func" ∷ codes "go" ∷ codes "goto" ∷ codes "if" ∷ codes "import" ∷ codes "interface" ∷ codes "map" ∷ codes "package" ∷ codes "range" ∷ codes "return" ∷ codes "select" ∷ codes "struct" ∷ codes "switch" ∷ codes "type" ∷ codes "var" ∷ codes "bool" ∷ codes "string" ∷ codes "int" ∷ codes "int8" ∷ codes "int16" ∷ codes "int32" ∷ codes "int64" ∷ codes "uint" ∷ codes "uint8" ∷ codes "uint16" ∷ codes "uint32" ∷ codes "uint64" ∷ codes "byte" ∷ codes "rune" ∷ codes "error" ∷ codes "any" ∷ codes "true" ∷ codes "false" ∷ codes "iota" ∷ codes "nil" ∷ codes "append" ∷ codes "cap" ∷ codes "clear" ∷ codes "close" ∷ codes "copy" ∷ codes "delete" ∷ codes "len" ∷ codes "make" ∷ codes "max" ∷ codes "min" ∷ codes "new" ∷ codes "panic" ∷ codes "print" ∷ codes "println" ∷ codes "recover" ∷ codes "float32" ∷ codes "float64" ∷ codes "complex64" ∷ codes "complex128" ∷ codes "uintptr" ∷ codes "comparable" ∷ codes "complex" ∷ codes "real" ∷ codes "imag" ∷ codes "main" ∷ codes "init" ∷ []

unfoldable pub is_reserved : List ℕ → Bool
is_reserved n = list_any (λ w. bytes_eq w n) reserved_words

unfoldable pub is_name : List ℕ → Bool
is_name n = is_word n && not (is_reserved n)
