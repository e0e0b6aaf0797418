-- The mark at the front of a text, computed.
use Rattle.std.specs.Prelude.{ℕ, ◌+◌, ◌==◌, List, [], ◌∷◌, Option, Some, None, if◌then◌else◌}
use Rattle.argot_tree.specs.declared.mark.Mark.{Mark}
use Rattle.argot_tree.specs.declared.mark.Mark.TheVariants as marks

-- the mark of one byte
unfoldable pub single : ℕ → Option Mark
single b =
    if b == 43 then Some marks.Plus
    else (if b == 45 then Some marks.Minus
    else (if b == 42 then Some marks.Star
    else (if b == 47 then Some marks.Slash
    else (if b == 37 then Some marks.Percent
    else (if b == 38 then Some marks.And
    else (if b == 124 then Some marks.Or
    else (if b == 94 then Some marks.Xor
    else (if b == 60 then Some marks.Less
    else (if b == 62 then Some marks.Greater
    else (if b == 61 then Some marks.Assign
    else (if b == 33 then Some marks.Not
    else (if b == 126 then Some marks.Tilde
    else (if b == 40 then Some marks.OpenParen
    else (if b == 41 then Some marks.CloseParen
    else (if b == 91 then Some marks.OpenBracket
    else (if b == 93 then Some marks.CloseBracket
    else (if b == 123 then Some marks.OpenBrace
    else (if b == 125 then Some marks.CloseBrace
    else (if b == 44 then Some marks.Comma
    else (if b == 59 then Some marks.Semicolon
    else (if b == 46 then Some marks.Dot
    else (if b == 58 then Some marks.Colon
    else None))))))))))))))))))))))

-- the mark that `=` makes of a mark
abbrev pub before_equals : Mark → Option Mark
before_equals marks.Plus = Some marks.PlusAssign
before_equals marks.Minus = Some marks.MinusAssign
before_equals marks.Star = Some marks.StarAssign
before_equals marks.Slash = Some marks.SlashAssign
before_equals marks.Percent = Some marks.PercentAssign
before_equals marks.And = Some marks.AndAssign
before_equals marks.Or = Some marks.OrAssign
before_equals marks.Xor = Some marks.XorAssign
before_equals marks.ShiftLeft = Some marks.ShiftLeftAssign
before_equals marks.ShiftRight = Some marks.ShiftRightAssign
before_equals marks.AndNot = Some marks.AndNotAssign
before_equals marks.Assign = Some marks.Equal
before_equals marks.Not = Some marks.NotEqual
before_equals marks.Less = Some marks.LessEqual
before_equals marks.Greater = Some marks.GreaterEqual
before_equals marks.Colon = Some marks.Define
before_equals _ = None

-- the mark that another byte makes of a mark
abbrev pub before_other : Mark → ℕ → Option Mark
before_other marks.Plus b = if b == 43 then Some marks.Increment else None
before_other marks.Minus b = if b == 45 then Some marks.Decrement else None
before_other marks.And b = if b == 38 then Some marks.LogicalAnd else (if b == 94 then Some marks.AndNot else None)
before_other marks.Or b = if b == 124 then Some marks.LogicalOr else None
before_other marks.Less b = if b == 60 then Some marks.ShiftLeft else (if b == 45 then Some marks.Arrow else None)
before_other marks.Greater b = if b == 62 then Some marks.ShiftRight else None
before_other _ b = None

unfoldable pub extend : Mark → ℕ → Option Mark
extend mark b = if b == 61 then before_equals mark else before_other mark b

-- goes on with a longer mark, or stays
abbrev pub grow_by : Option Mark → Mark × ℕ → (Mark → Mark × ℕ) → Mark × ℕ
grow_by None stay go = stay
grow_by (Some longer) stay go = go longer

-- the mark so far, of n bytes, made longer while the text allows it
abbrev pub grow : Mark → ℕ → List ℕ → Mark × ℕ
grow mark n [] = (mark, n)
grow mark n (b ∷ bs) = grow_by (extend mark b) (mark, n) (λ longer. grow longer (n + 1) bs)

abbrev pub mark_by : Option Mark → List ℕ → Option (Mark × ℕ)
mark_by None bs = None
mark_by (Some mark) bs = Some (grow mark 1 bs)

abbrev pub mark_front : List ℕ → Option (Mark × ℕ)
mark_front [] = None
mark_front (b ∷ bs) = mark_by (single b) bs
