-- The name or keyword at the front of a text, computed.
use Rattle.std.specs.Prelude.{ℕ, ◌==◌, List, [], ◌∷◌, length, take, Option, Some, None, if◌then◌else◌}
use Rattle.std.specs.Str.{bytes_eq}
use Rattle.argot_tree.specs.declared.keyword.Keyword.{Keyword}
use Rattle.argot_tree.specs.declared.keyword.Keyword.TheVariants.{Break, Case, Chan, Const, Continue, Default, Defer, Else, Fallthrough, For, Func, Go, Goto, If, Import, Interface, Map, Package, Range, Return, Select, Struct, Switch, TypeWord, Var}
use Rattle.argot_tree.specs.declared.token.TokenKind.{TokenKind}
use Rattle.argot_tree.specs.declared.token.TokenKind.TheVariants as kinds
use Rattle.argot_tree.specs.Names.{keyword_text, is_letter_or_digit}
use Rattle.argot_lex.specs.Characters.{run_from}

-- the one keyword that may be written by bytes which begin so, of so many
unfoldable pub candidate : ℕ → ℕ → ℕ → Option Keyword
candidate len a b =
    if a == 98 then Some Break
    else (if a == 99 then (if b == 97 then Some Case else (if b == 104 then Some Chan else (if len == 5 then Some Const else Some Continue)))
    else (if a == 100 then (if len == 7 then Some Default else Some Defer)
    else (if a == 101 then Some Else
    else (if a == 102 then (if b == 97 then Some Fallthrough else (if b == 111 then Some For else Some Func))
    else (if a == 103 then (if len == 2 then Some Go else Some Goto)
    else (if a == 105 then (if b == 102 then Some If else (if b == 109 then Some Import else Some Interface))
    else (if a == 109 then Some Map
    else (if a == 112 then Some Package
    else (if a == 114 then (if b == 97 then Some Range else Some Return)
    else (if a == 115 then (if b == 101 then Some Select else (if b == 116 then Some Struct else Some Switch))
    else (if a == 116 then Some TypeWord
    else (if a == 118 then Some Var
    else None))))))))))))

-- that keyword, where the bytes are its text
abbrev pub confirmed : List ℕ → Option Keyword → Option Keyword
confirmed bytes None = None
confirmed bytes (Some word) = if bytes_eq bytes (keyword_text word) then Some word else None

unfoldable pub keyword_of : List ℕ → Option Keyword
keyword_of [] = None
keyword_of (a ∷ []) = None
keyword_of (a ∷ b ∷ cs) = confirmed (a ∷ b ∷ cs) (candidate (length (a ∷ b ∷ cs)) a b)

abbrev pub kind_of : Option Keyword → TokenKind
kind_of None = kinds.Name
kind_of (Some word) = kinds.Word word

abbrev pub name_front : List ℕ → TokenKind × ℕ
name_front text = let n = run_from is_letter_or_digit 0 text in (kind_of (keyword_of (take n text)), n)
