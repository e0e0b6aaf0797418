-- What reading from left to right is made of: where a part ends, and the nodes with those of the part behind them.
use Rattle.std.specs.Prelude.{◌≡◌, ℕ, ◌+◌, ◌-◌, ◌==◌, List, [], ◌∷◌, ◌++◌, length, take, drop, Bool, true, false, ◌&&◌, Option, Some, None, if◌then◌else◌}
use Rattle.argot_tree.specs.declared.keyword.Keyword.{Keyword}
use Rattle.argot_tree.specs.declared.keyword.Keyword.TheVariants as words
use Rattle.argot_tree.specs.declared.mark.Mark.{Mark}
use Rattle.argot_tree.specs.declared.mark.Mark.TheVariants as marks
use Rattle.argot_tree.specs.declared.node_kind.NodeKind.{NodeKind}
use Rattle.argot_tree.specs.declared.token.TokenKind.{TokenKind}
use Rattle.argot_tree.specs.declared.token.TokenKind.TheVariants as kinds
use Rattle.argot_tree.specs.declared.token.Token.{Token}
use Rattle.argot_tree.specs.Forests.{last_token}
use Rattle.argot_tree.specs.TokensAt.{kind_at}
use Rattle.argot_tree.specs.Grammar.{Part}
use Rattle.argot_parse_reader.specs.declared.post.Post.{Post}

-- a number for each word, for each mark and for each kind of token
abbrev pub word_number : Keyword → ℕ
word_number words.Break = 0
word_number words.Case = 1
word_number words.Chan = 2
word_number words.Const = 3
word_number words.Continue = 4
word_number words.Default = 5
word_number words.Defer = 6
word_number words.Else = 7
word_number words.Fallthrough = 8
word_number words.For = 9
word_number words.Func = 10
word_number words.Go = 11
word_number words.Goto = 12
word_number words.If = 13
word_number words.Import = 14
word_number words.Interface = 15
word_number words.Map = 16
word_number words.Package = 17
word_number words.Range = 18
word_number words.Return = 19
word_number words.Select = 20
word_number words.Struct = 21
word_number words.Switch = 22
word_number words.TypeWord = 23
word_number words.Var = 24

abbrev pub mark_number : Mark → ℕ
mark_number marks.Plus = 0
mark_number marks.Minus = 1
mark_number marks.Star = 2
mark_number marks.Slash = 3
mark_number marks.Percent = 4
mark_number marks.And = 5
mark_number marks.Or = 6
mark_number marks.Xor = 7
mark_number marks.ShiftLeft = 8
mark_number marks.ShiftRight = 9
mark_number marks.AndNot = 10
mark_number marks.PlusAssign = 11
mark_number marks.MinusAssign = 12
mark_number marks.StarAssign = 13
mark_number marks.SlashAssign = 14
mark_number marks.PercentAssign = 15
mark_number marks.AndAssign = 16
mark_number marks.OrAssign = 17
mark_number marks.XorAssign = 18
mark_number marks.ShiftLeftAssign = 19
mark_number marks.ShiftRightAssign = 20
mark_number marks.AndNotAssign = 21
mark_number marks.LogicalAnd = 22
mark_number marks.LogicalOr = 23
mark_number marks.Arrow = 24
mark_number marks.Increment = 25
mark_number marks.Decrement = 26
mark_number marks.Equal = 27
mark_number marks.Less = 28
mark_number marks.Greater = 29
mark_number marks.Assign = 30
mark_number marks.Not = 31
mark_number marks.Tilde = 32
mark_number marks.NotEqual = 33
mark_number marks.LessEqual = 34
mark_number marks.GreaterEqual = 35
mark_number marks.Define = 36
mark_number marks.Ellipsis = 37
mark_number marks.OpenParen = 38
mark_number marks.CloseParen = 39
mark_number marks.OpenBracket = 40
mark_number marks.CloseBracket = 41
mark_number marks.OpenBrace = 42
mark_number marks.CloseBrace = 43
mark_number marks.Comma = 44
mark_number marks.Semicolon = 45
mark_number marks.Dot = 46
mark_number marks.Colon = 47

abbrev pub kind_number : TokenKind → ℕ
kind_number kinds.Name = 0
kind_number kinds.Whole = 1
kind_number kinds.Float = 2
kind_number kinds.Imaginary = 3
kind_number kinds.Rune = 4
kind_number kinds.Chars = 5
kind_number kinds.RawChars = 6
kind_number kinds.Inserted = 7
kind_number (kinds.Word word) = 10 + word_number word
kind_number (kinds.Mark mark) = 40 + mark_number mark

abbrev pub is_kind : Option TokenKind → TokenKind → Bool
is_kind None kind = false
is_kind (Some found) kind = kind_number found == kind_number kind

-- a part; an expression with its prefixes, an operand with what goes on behind it, or an operand alone, or a type where the
-- first Bool says so; or what goes on behind something that begins at a token and whose nodes begin at a mark
pub data Task : Type 0 where
  The : Part → Task
  -- the second Bool says whether braces may stand behind a bare type name
  UnaryOr : Bool → Bool → Task
  PrimaryOr : Bool → Bool → Task
  OperandOr : Bool → Bool → Task
  -- binary operators from a level up to a limit
  Climb : ℕ → ℕ → Bool → ℕ → ℕ → Task
  Suffixes : ℕ → ℕ → Task
  -- commas and expressions
  MoreExprs : Bool → Task
  -- an `if`, or a statement with its labels, in those that were begun before it, each with its token and its mark, the
  -- innermost first
  Ifs : List (ℕ × ℕ) → Task
  Labels : List (ℕ × ℕ) → Task

abbrev pub Answer : Type 0
Answer = Option (ℕ × List Post)

abbrev pub Reader : Type 0
Reader = Task → ℕ → List Post → Answer

infixl 10 ◌>>=◌
abbrev pub ◌>>=◌ : Answer → (ℕ × List Post → Answer) → Answer
None >>= f = None
(Some r) >>= f = f r

-- goes on where it can, and else stays
abbrev pub try_on : Answer → (ℕ × List Post → Answer) → Answer → Answer
try_on None f stay = stay
try_on (Some r) f stay = f r

-- the nodes since a mark become the children of a new one
abbrev pub closed : NodeKind → ℕ → ℕ → ℕ → List Post → List Post
closed kind from to mark out =
    out ++ record { kind = kind; token = from; last = last_token from to; size = length out + 1 - mark } ∷ []

-- a node without children
abbrev pub put : NodeKind → ℕ → ℕ → List Post → List Post
put kind from to out = closed kind from to (length out) out

-- a node over what was read since a place
abbrev pub closing : NodeKind → ℕ → List Post → ℕ × List Post → Answer
closing kind from out r = Some (r.0, closed kind from r.0 (length out) r.1)

-- the same since a mark
abbrev pub ending : NodeKind → ℕ → ℕ → ℕ × List Post → Answer
ending kind from mark r = Some (r.0, closed kind from r.0 mark r.1)

-- a node over each of these, the first the innermost
abbrev pub closed_all : NodeKind → List (ℕ × ℕ) → ℕ → List Post → List Post
closed_all kind [] to out = out
closed_all kind (begun ∷ rest) to out = closed_all kind rest to (closed kind begun.0 to begun.1 out)

module _ (tokens : List Token) where
  abbrev pub is_at : ℕ → TokenKind → Bool
  is_at at kind = is_kind (kind_at tokens at) kind

  abbrev pub is_word : ℕ → Keyword → Bool
  is_word at word = is_at at (kinds.Word word)

  abbrev pub is_mark : ℕ → Mark → Bool
  is_mark at mark = is_at at (kinds.Mark mark)

  -- a token that must stand there
  abbrev pub past : Mark → ℕ × List Post → Answer
  past mark r = if is_mark r.0 mark then Some (r.0 + 1, r.1) else None

  -- behind a comma, where one stands there
  abbrev pub behind_comma : ℕ → ℕ
  behind_comma at = if is_mark at marks.Comma then at + 1 else at

  -- what closes a list, with a comma before it or without
  abbrev pub past_list : Mark → ℕ × List Post → Answer
  past_list mark r = past mark (behind_comma r.0, r.1)

  -- a comma stands there, and not the closer behind it
  abbrev pub goes_on : Mark → ℕ → Bool
  goes_on closer at = is_mark at marks.Comma && (if is_mark (at + 1) closer then false else true)

-- how many tokens a comma and a name are, again and again, at the front
abbrev pub more_names : List Token → ℕ
more_names (a ∷ b ∷ rest) =
    if is_kind (Some a.kind) (kinds.Mark marks.Comma) && is_kind (Some b.kind) kinds.Name then 2 + more_names rest else 0
more_names _ = 0

-- behind the longest row of names with commas between that begins at a name
abbrev pub behind_names : List Token → ℕ → ℕ
behind_names tokens at = at + 1 + more_names (drop (at + 1) tokens)

-- names stand there, and behind them a token that passes
abbrev pub names_then : List Token → (Option TokenKind → Bool) → ℕ → Bool
names_then tokens test at = is_at tokens at kinds.Name && test (kind_at tokens (behind_names tokens at))

-- what a call that appends gives: nothing changes where nothing is read
abbrev pub Gives : List Post → Option ℕ → List Post → Answer → Type 0
Gives old None new answer = (answer ≡ None) × (new ≡ old)
Gives old (Some to) new answer = answer ≡ Some (to, new)

-- what a call gives that is made behind a mark: where nothing is read, what was written since the mark is given up
abbrev pub Settles : ℕ → List Post → Option ℕ → List Post → Answer → Type 0
Settles mark old None new answer = (answer ≡ None) × (new ≡ take mark old)
Settles mark old (Some to) new answer = answer ≡ Some (to, new)
