-- The tokens at a place of a list.
use Rattle.std.specs.Prelude.{◌≡◌, ℕ, ◌+◌, Bool, true, false, List, Option, Some, None, slice_get}
use Rattle.argot_tree.specs.declared.keyword.Keyword.{Keyword}
use Rattle.argot_tree.specs.declared.keyword.Keyword.TheVariants as words
use Rattle.argot_tree.specs.declared.mark.Mark.{Mark}
use Rattle.argot_tree.specs.declared.mark.Mark.TheVariants as marks
use Rattle.argot_tree.specs.declared.node_kind.NodeKind.{NodeKind}
use Rattle.argot_tree.specs.declared.node_kind.NodeKind.TheVariants as nodes
use Rattle.argot_tree.specs.declared.token.TokenKind.{TokenKind}
use Rattle.argot_tree.specs.declared.token.TokenKind.TheVariants as kinds
use Rattle.argot_tree.specs.declared.token.Token.{Token}

abbrev pub kind_of : Option Token → Option TokenKind
kind_of None = None
kind_of (Some token) = Some token.kind

abbrev pub kind_at : List Token → ℕ → Option TokenKind
kind_at tokens at = kind_of (slice_get tokens at)

-- a token of this kind stands there
pub record HasAt (tokens : List Token) (at : ℕ) (kind : TokenKind) : Type 0 where
  pub there : kind_at tokens at ≡ Some kind

pub record HasWord (tokens : List Token) (at : ℕ) (word : Keyword) : Type 0 where
  pub there : kind_at tokens at ≡ Some (kinds.Word word)

pub record HasMark (tokens : List Token) (at : ℕ) (mark : Mark) : Type 0 where
  pub there : kind_at tokens at ≡ Some (kinds.Mark mark)

-- a token whose kind passes stands there
pub record Passes (tokens : List Token) (test : Option TokenKind → Bool) (at : ℕ) : Type 0 where
  pub there : test (kind_at tokens at) ≡ true

pub record Fails (tokens : List Token) (test : Option TokenKind → Bool) (at : ℕ) : Type 0 where
  pub there : test (kind_at tokens at) ≡ false

-- a semicolon, written or inserted
abbrev pub is_semicolon : Option TokenKind → Bool
is_semicolon (Some (kinds.Mark marks.Semicolon)) = true
is_semicolon (Some kinds.Inserted) = true
is_semicolon _ = false

abbrev pub is_literal : Option TokenKind → Bool
is_literal (Some kinds.Whole) = true
is_literal (Some kinds.Float) = true
is_literal (Some kinds.Imaginary) = true
is_literal (Some kinds.Rune) = true
is_literal (Some kinds.Chars) = true
is_literal (Some kinds.RawChars) = true
is_literal _ = false

-- a text literal
abbrev pub is_text : Option TokenKind → Bool
is_text (Some kinds.Chars) = true
is_text (Some kinds.RawChars) = true
is_text _ = false

-- a type may begin here
abbrev pub begins_type : Option TokenKind → Bool
begins_type (Some kinds.Name) = true
begins_type (Some (kinds.Mark marks.OpenParen)) = true
begins_type (Some (kinds.Mark marks.Star)) = true
begins_type (Some (kinds.Mark marks.OpenBracket)) = true
begins_type (Some (kinds.Mark marks.Arrow)) = true
begins_type (Some (kinds.Word words.Map)) = true
begins_type (Some (kinds.Word words.Chan)) = true
begins_type (Some (kinds.Word words.Func)) = true
begins_type (Some (kinds.Word words.Struct)) = true
begins_type (Some (kinds.Word words.Interface)) = true
begins_type _ = false

-- a conversion's type begins here
abbrev pub begins_conversion : Option TokenKind → Bool
begins_conversion (Some (kinds.Mark marks.OpenBracket)) = true
begins_conversion (Some (kinds.Word words.Map)) = true
begins_conversion (Some (kinds.Word words.Chan)) = true
begins_conversion (Some (kinds.Word words.Func)) = true
begins_conversion (Some (kinds.Word words.Struct)) = true
begins_conversion (Some (kinds.Word words.Interface)) = true
begins_conversion _ = false

-- a composite literal's type begins here, unless it is a name
abbrev pub begins_composite : Option TokenKind → Bool
begins_composite (Some (kinds.Mark marks.OpenBracket)) = true
begins_composite (Some (kinds.Word words.Map)) = true
begins_composite (Some (kinds.Word words.Struct)) = true
begins_composite _ = false

-- what follows the first name of type parameters in a type declaration
abbrev pub follows_parameter : Option TokenKind → Bool
follows_parameter (Some kinds.Name) = true
follows_parameter (Some (kinds.Word word)) = true
follows_parameter (Some (kinds.Mark marks.Tilde)) = true
follows_parameter (Some (kinds.Mark marks.Comma)) = true
follows_parameter _ = false

abbrev pub is_arrow : Option TokenKind → Bool
is_arrow (Some (kinds.Mark marks.Arrow)) = true
is_arrow _ = false

abbrev pub is_star : Option TokenKind → Bool
is_star (Some (kinds.Mark marks.Star)) = true
is_star _ = false

abbrev pub is_open_paren : Option TokenKind → Bool
is_open_paren (Some (kinds.Mark marks.OpenParen)) = true
is_open_paren _ = false

-- any token but a bracket
abbrev pub is_no_bracket : Option TokenKind → Bool
is_no_bracket None = false
is_no_bracket (Some (kinds.Mark marks.OpenParen)) = false
is_no_bracket (Some (kinds.Mark marks.CloseParen)) = false
is_no_bracket (Some (kinds.Mark marks.OpenBracket)) = false
is_no_bracket (Some (kinds.Mark marks.CloseBracket)) = false
is_no_bracket (Some (kinds.Mark marks.OpenBrace)) = false
is_no_bracket (Some (kinds.Mark marks.CloseBrace)) = false
is_no_bracket (Some _) = true

-- an operator and `=`
abbrev pub is_op_assign : Option TokenKind → Bool
is_op_assign (Some (kinds.Mark marks.PlusAssign)) = true
is_op_assign (Some (kinds.Mark marks.MinusAssign)) = true
is_op_assign (Some (kinds.Mark marks.StarAssign)) = true
is_op_assign (Some (kinds.Mark marks.SlashAssign)) = true
is_op_assign (Some (kinds.Mark marks.PercentAssign)) = true
is_op_assign (Some (kinds.Mark marks.AndAssign)) = true
is_op_assign (Some (kinds.Mark marks.OrAssign)) = true
is_op_assign (Some (kinds.Mark marks.XorAssign)) = true
is_op_assign (Some (kinds.Mark marks.ShiftLeftAssign)) = true
is_op_assign (Some (kinds.Mark marks.ShiftRightAssign)) = true
is_op_assign (Some (kinds.Mark marks.AndNotAssign)) = true
is_op_assign _ = false

-- how tightly a binary operator binds, from 1 to 5; 0 for any other token
abbrev pub mark_level : Mark → ℕ
mark_level marks.Star = 5
mark_level marks.Slash = 5
mark_level marks.Percent = 5
mark_level marks.ShiftLeft = 5
mark_level marks.ShiftRight = 5
mark_level marks.And = 5
mark_level marks.AndNot = 5
mark_level marks.Plus = 4
mark_level marks.Minus = 4
mark_level marks.Or = 4
mark_level marks.Xor = 4
mark_level marks.Equal = 3
mark_level marks.NotEqual = 3
mark_level marks.Less = 3
mark_level marks.LessEqual = 3
mark_level marks.Greater = 3
mark_level marks.GreaterEqual = 3
mark_level marks.LogicalAnd = 2
mark_level marks.LogicalOr = 1
mark_level _ = 0

abbrev pub level_of : Option TokenKind → ℕ
level_of (Some (kinds.Mark mark)) = mark_level mark
level_of _ = 0

abbrev pub level_at : List Token → ℕ → ℕ
level_at tokens at = level_of (kind_at tokens at)

-- the node of an operator before its operand
abbrev pub unary_of : Option TokenKind → Option NodeKind
unary_of (Some (kinds.Mark marks.Plus)) = Some nodes.Positive
unary_of (Some (kinds.Mark marks.Minus)) = Some nodes.Negative
unary_of (Some (kinds.Mark marks.Not)) = Some nodes.LogicalNot
unary_of (Some (kinds.Mark marks.Xor)) = Some nodes.Complement
unary_of (Some (kinds.Mark marks.Star)) = Some nodes.Deref
unary_of (Some (kinds.Mark marks.And)) = Some nodes.AddressOf
unary_of (Some (kinds.Mark marks.Arrow)) = Some nodes.Receive
unary_of _ = None

pub record HasUnary (tokens : List Token) (at : ℕ) (node : NodeKind) : Type 0 where
  pub there : unary_of (kind_at tokens at) ≡ Some node

-- a comma, which may be left out
pub data MaybeComma (tokens : List Token) : ℕ → ℕ → Type 0 where
  left_out : {at : ℕ} → MaybeComma tokens at at
  comma : {at : ℕ} → HasMark tokens at marks.Comma → MaybeComma tokens at (at + 1)
