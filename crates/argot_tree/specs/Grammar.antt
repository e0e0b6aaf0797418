-- The grammar: which trees spell the tokens from one place up to another.
--
-- To be read beside the Go specification (1.19). Above each group of cases stand the section of the Go specification and
-- its productions, in its own notation; a case is a way to take a production, one premise a line, and its last line has
-- the tree. `x y z w` are trees, `from` is the first token of the part and `to` the one behind it. What differs from the
-- production is said behind it. Type arguments and constraints are not read: no generic declaration is analysed.
pub mod Parts
pub use Parts.{Sort, Constant, Variable, TypeSort}
pub use Parts.{Part, File, Imports, Import, Specs, Spec, Tops, Top, Receiver, MaybeReceiver, MaybeTypeParams, MaybeBody}
pub use Parts.{Decl, Declared, DeclaredList, MaybeTyped, MaybeValues, TypeParams, Balanced, Names, Signature, Params}
pub use Parts.{Types, NamedList, AnyType, OnlyType, Fields, Field, Embedded, MaybeTag, Elements, Element, Level, Unary}
pub use Parts.{Primary, Operand, Exprs, Either, Eithers, Elems, Items, Item, Value, Block, Stmts, Stmt, Simple}
pub use Parts.{MaybeLabel, MaybeInit, If, MaybeElse, MaybeSwitched, TypeGuard, Cases, Case, Comms, Comm, MaybeCondition}
pub use Parts.{MaybePost}
use Rattle.std.specs.Prelude.{ℕ, ◌+◌, ◌≤◌, List, Bool, true, false}
use Rattle.argot_tree.specs.declared.keyword.Keyword.TheVariants as words
use Rattle.argot_tree.specs.declared.mark.Mark.TheVariants as marks
use Rattle.argot_tree.specs.declared.node_kind.NodeKind.{NodeKind}
use Rattle.argot_tree.specs.declared.node_kind.NodeKind.TheVariants as nodes
use Rattle.argot_tree.specs.declared.token.TokenKind.TheVariants as kinds
use Rattle.argot_tree.specs.declared.token.Token.{Token}
use Rattle.argot_tree.specs.Forests.{Forest, leaf, beside, one}
use Rattle.argot_tree.specs.TokensAt.{HasAt, HasWord, HasMark, HasUnary, Passes, Fails, MaybeComma, level_at}
use Rattle.argot_tree.specs.TokensAt.{is_semicolon, is_literal, is_text, is_arrow, is_star, is_open_paren, is_no_bracket}
use Rattle.argot_tree.specs.TokensAt.{is_op_assign, begins_type, begins_conversion, begins_composite, follows_parameter}

-- the trees spell the tokens from one place up to another
pub data Spells (tokens : List Token) : Part → Forest → ℕ → ℕ → Type 0 where
  -- == TYPES ==
  --
  -- Types:
  -- Type = TypeName | TypeLit | "(" Type ")" .
  -- TypeName = identifier | QualifiedIdent .
  -- QualifiedIdent = PackageName "." identifier .
  type_name : {from : ℕ} →
      HasAt tokens from kinds.Name →
      Spells tokens AnyType (one nodes.TypeName from (from + 1) leaf) from (from + 1)
  qualified_type : {from : ℕ} →
      HasAt tokens from kinds.Name →
      HasMark tokens (from + 1) marks.Dot →
      HasAt tokens (from + 2) kinds.Name →
      Spells tokens AnyType (one nodes.QualifiedType from (from + 3) leaf) from (from + 3)
  type_parens : {x : Forest} {from to : ℕ} →
      HasMark tokens from marks.OpenParen →
      Spells tokens AnyType x (from + 1) to →
      HasMark tokens to marks.CloseParen →
      Spells tokens AnyType (one nodes.TypeParens from (to + 1) x) from (to + 1)
  --
  -- Pointer types:
  -- PointerType = "*" BaseType .
  -- BaseType = Type .
  pointer_type : {x : Forest} {from to : ℕ} →
      HasMark tokens from marks.Star →
      Spells tokens AnyType x (from + 1) to →
      Spells tokens AnyType (one nodes.PointerType from to x) from to
  -- and where it is a type that is no expression
  only_pointer : {x : Forest} {from to : ℕ} →
      HasMark tokens from marks.Star →
      Spells tokens OnlyType x (from + 1) to →
      Spells tokens OnlyType (one nodes.PointerType from to x) from to
  --
  -- Types:
  -- TypeLit = ArrayType | StructType | PointerType | FunctionType | InterfaceType | SliceType | MapType | ChannelType .
  -- Each but the pointer, which has its own case above, is a type that is no expression.
  formed_type : {x : Forest} {from to : ℕ} →
      Fails tokens is_star from →
      Spells tokens OnlyType x from to →
      Spells tokens AnyType x from to
  --
  -- Array types:
  -- ArrayType = "[" ArrayLength "]" ElementType .
  -- ArrayLength = Expression .
  array_type : {x y : Forest} {from mid to : ℕ} →
      HasMark tokens from marks.OpenBracket →
      Spells tokens (Level 1 true) x (from + 1) mid →
      HasMark tokens mid marks.CloseBracket →
      Spells tokens AnyType y (mid + 1) to →
      Spells tokens OnlyType (one nodes.ArrayType from to (beside x y)) from to
  --
  -- Slice types:
  -- SliceType = "[" "]" ElementType .
  slice_type : {x : Forest} {from to : ℕ} →
      HasMark tokens from marks.OpenBracket →
      HasMark tokens (from + 1) marks.CloseBracket →
      Spells tokens AnyType x (from + 2) to →
      Spells tokens OnlyType (one nodes.SliceType from to x) from to
  --
  -- Map types:
  -- MapType = "map" "[" KeyType "]" ElementType .
  map_type : {x y : Forest} {from mid to : ℕ} →
      HasWord tokens from words.Map →
      HasMark tokens (from + 1) marks.OpenBracket →
      Spells tokens AnyType x (from + 2) mid →
      HasMark tokens mid marks.CloseBracket →
      Spells tokens AnyType y (mid + 1) to →
      Spells tokens OnlyType (one nodes.MapType from to (beside x y)) from to
  --
  -- Channel types:
  -- ChannelType = ( "chan" | "chan" "<-" | "<-" "chan" ) ElementType .
  -- An arrow behind `chan` belongs to that `chan`.
  chan_type : {x : Forest} {from to : ℕ} →
      HasWord tokens from words.Chan →
      Fails tokens is_arrow (from + 1) →
      Spells tokens AnyType x (from + 1) to →
      Spells tokens OnlyType (one nodes.ChanType from to x) from to
  send_type : {x : Forest} {from to : ℕ} →
      HasWord tokens from words.Chan →
      HasMark tokens (from + 1) marks.Arrow →
      Spells tokens AnyType x (from + 2) to →
      Spells tokens OnlyType (one nodes.SendType from to x) from to
  receive_type : {x : Forest} {from to : ℕ} →
      HasMark tokens from marks.Arrow →
      HasWord tokens (from + 1) words.Chan →
      Spells tokens AnyType x (from + 2) to →
      Spells tokens OnlyType (one nodes.ReceiveType from to x) from to
  --
  -- Function types:
  -- FunctionType = "func" Signature .
  func_type : {x : Forest} {from to : ℕ} →
      HasWord tokens from words.Func →
      Spells tokens Signature x (from + 1) to →
      Spells tokens OnlyType (one nodes.FuncType from to x) from to
  --
  -- Function types:
  -- Signature = Parameters [ Result ] .
  -- Result = Parameters | Type .
  -- A result stands wherever the next token can begin one, and is parameters where it is in parentheses.
  no_result : {x : Forest} {from to : ℕ} →
      Spells tokens (Params true) x from to →
      Fails tokens begins_type to →
      Spells tokens Signature (one nodes.Signature from to x) from to
  results : {x y : Forest} {from mid to : ℕ} →
      Spells tokens (Params true) x from mid →
      Spells tokens (Params false) y mid to →
      Spells tokens Signature (one nodes.Signature from to (beside x y)) from to
  result : {x y : Forest} {from mid to : ℕ} →
      Spells tokens (Params true) x from mid →
      Fails tokens is_open_paren mid →
      Spells tokens AnyType y mid to →
      Spells tokens Signature (one nodes.Signature from to (beside x y)) from to
  --
  -- Function types:
  -- Parameters = "(" [ ParameterList [ "," ] ] ")" .
  -- ParameterList = ParameterDecl { "," ParameterDecl } .
  -- ParameterDecl = [ IdentifierList ] [ "..." ] Type .
  -- Either each entry has a name or none has; `...` stands before the last type alone, and in no result.
  no_params : {b : Bool} {from : ℕ} →
      HasMark tokens from marks.OpenParen →
      HasMark tokens (from + 1) marks.CloseParen →
      Spells tokens (Params b) (one nodes.Params from (from + 2) leaf) from (from + 2)
  params : {b : Bool} {x : Forest} {from mid to : ℕ} →
      HasMark tokens from marks.OpenParen →
      Spells tokens (Types b) x (from + 1) mid →
      MaybeComma tokens mid to →
      HasMark tokens to marks.CloseParen →
      Spells tokens (Params b) (one nodes.Params from (to + 1) x) from (to + 1)
  named_params : {b : Bool} {x : Forest} {from mid to : ℕ} →
      HasMark tokens from marks.OpenParen →
      Spells tokens (NamedList b) x (from + 1) mid →
      MaybeComma tokens mid to →
      HasMark tokens to marks.CloseParen →
      Spells tokens (Params b) (one nodes.NamedParams from (to + 1) x) from (to + 1)
  -- entries without names
  last_param : {b : Bool} {x : Forest} {from to : ℕ} →
      Spells tokens AnyType x from to →
      Spells tokens (Types b) (one nodes.Param from to x) from to
  one_param : {b : Bool} {x y : Forest} {from mid to : ℕ} →
      Spells tokens AnyType x from mid →
      HasMark tokens mid marks.Comma →
      Spells tokens (Types b) y (mid + 1) to →
      Spells tokens (Types b) (beside (one nodes.Param from mid x) y) from to
  variadic_param : {x : Forest} {from to : ℕ} →
      HasMark tokens from marks.Ellipsis →
      Spells tokens AnyType x (from + 1) to →
      Spells tokens (Types true) (one nodes.VariadicParam from to x) from to
  -- entries with names; of `a, b int` the first is alone
  last_named : {b : Bool} {x : Forest} {from to : ℕ} →
      HasAt tokens from kinds.Name →
      Spells tokens AnyType x (from + 1) to →
      Spells tokens (NamedList b)
      (one nodes.NamedParam from to (beside (one nodes.DeclName from (from + 1) leaf) x)) from to
  one_named : {b : Bool} {x y : Forest} {from mid to : ℕ} →
      HasAt tokens from kinds.Name →
      Spells tokens AnyType x (from + 1) mid →
      HasMark tokens mid marks.Comma →
      Spells tokens (NamedList b) y (mid + 1) to →
      Spells tokens (NamedList b)
      (beside (one nodes.NamedParam from mid (beside (one nodes.DeclName from (from + 1) leaf) x)) y) from to
  lone_named : {b : Bool} {x : Forest} {from to : ℕ} →
      HasAt tokens from kinds.Name →
      HasMark tokens (from + 1) marks.Comma →
      Spells tokens (NamedList b) x (from + 2) to →
      Spells tokens (NamedList b)
      (beside (one nodes.LoneParam from (from + 1) (one nodes.DeclName from (from + 1) leaf)) x) from to
  variadic_named : {x : Forest} {from to : ℕ} →
      HasAt tokens from kinds.Name →
      HasMark tokens (from + 1) marks.Ellipsis →
      Spells tokens AnyType x (from + 2) to →
      Spells tokens (NamedList true)
      (one nodes.NamedVariadic from to (beside (one nodes.DeclName from (from + 1) leaf) x)) from to
  --
  -- Struct types:
  -- StructType = "struct" "{" { FieldDecl ";" } "}" .
  -- The last semicolon may be left out (Semicolons).
  struct_type : {x : Forest} {from to : ℕ} →
      HasWord tokens from words.Struct →
      HasMark tokens (from + 1) marks.OpenBrace →
      Spells tokens Fields x (from + 2) to →
      HasMark tokens to marks.CloseBrace →
      Spells tokens OnlyType (one nodes.StructType from (to + 1) x) from (to + 1)
  no_field : {from : ℕ} → Spells tokens Fields leaf from from
  last_field : {x : Forest} {from to : ℕ} →
      Spells tokens Field x from to →
      HasMark tokens to marks.CloseBrace →
      Spells tokens Fields x from to
  one_field : {x y : Forest} {from mid to : ℕ} →
      Spells tokens Field x from mid →
      Passes tokens is_semicolon mid →
      Spells tokens Fields y (mid + 1) to →
      Spells tokens Fields (beside x y) from to
  --
  -- Struct types:
  -- FieldDecl = ( IdentifierList Type | EmbeddedField ) [ Tag ] .
  -- EmbeddedField = [ "*" ] TypeName .
  -- Tag = string_lit .
  named_field : {x y z : Forest} {from mid mid2 to : ℕ} →
      Spells tokens Names x from mid →
      Spells tokens AnyType y mid mid2 →
      Spells tokens MaybeTag z mid2 to →
      Spells tokens Field (one nodes.Field from to (beside (one nodes.Names from mid x) (beside y z))) from to
  embedded_field : {x y : Forest} {from mid to : ℕ} →
      Spells tokens Embedded x from mid →
      Spells tokens MaybeTag y mid to →
      Spells tokens Field (one nodes.EmbeddedField from to (beside x y)) from to
  embedded_pointer : {x y : Forest} {from mid to : ℕ} →
      HasMark tokens from marks.Star →
      Spells tokens Embedded x (from + 1) mid →
      Spells tokens MaybeTag y mid to →
      Spells tokens Field (one nodes.EmbeddedPointer from to (beside x y)) from to
  embedded_name : {from : ℕ} →
      HasAt tokens from kinds.Name →
      Spells tokens Embedded (one nodes.TypeName from (from + 1) leaf) from (from + 1)
  embedded_qualified : {from : ℕ} →
      HasAt tokens from kinds.Name →
      HasMark tokens (from + 1) marks.Dot →
      HasAt tokens (from + 2) kinds.Name →
      Spells tokens Embedded (one nodes.QualifiedType from (from + 3) leaf) from (from + 3)
  no_tag : {from : ℕ} → Spells tokens MaybeTag leaf from from
  a_tag : {from : ℕ} →
      Passes tokens is_text from →
      Spells tokens MaybeTag (one nodes.Tag from (from + 1) leaf) from (from + 1)
  --
  -- Interface types:
  -- InterfaceType = "interface" "{" { InterfaceElem ";" } "}" .
  -- InterfaceElem = MethodElem | TypeName .
  -- MethodElem = MethodName Signature .
  interface_type : {x : Forest} {from to : ℕ} →
      HasWord tokens from words.Interface →
      HasMark tokens (from + 1) marks.OpenBrace →
      Spells tokens Elements x (from + 2) to →
      HasMark tokens to marks.CloseBrace →
      Spells tokens OnlyType (one nodes.InterfaceType from (to + 1) x) from (to + 1)
  no_element : {from : ℕ} → Spells tokens Elements leaf from from
  last_element : {x : Forest} {from to : ℕ} →
      Spells tokens Element x from to →
      HasMark tokens to marks.CloseBrace →
      Spells tokens Elements x from to
  one_element : {x y : Forest} {from mid to : ℕ} →
      Spells tokens Element x from mid →
      Passes tokens is_semicolon mid →
      Spells tokens Elements y (mid + 1) to →
      Spells tokens Elements (beside x y) from to
  method : {x : Forest} {from to : ℕ} →
      HasAt tokens from kinds.Name →
      Spells tokens Signature x (from + 1) to →
      Spells tokens Element (one nodes.Method from to (beside (one nodes.DeclName from (from + 1) leaf) x)) from to
  embedded_type : {x : Forest} {from to : ℕ} →
      Spells tokens Embedded x from to →
      Spells tokens Element (one nodes.EmbeddedType from to x) from to
  --
  -- == EXPRESSIONS ==
  --
  -- Operators:
  -- Expression = UnaryExpr | Expression binary_op Expression .
  -- An operator binds tighter than what stands around it, and from the left (Operator precedence).
  unary_level : {k : ℕ} {b : Bool} {x : Forest} {from to : ℕ} →
      Spells tokens (Unary b) x from to →
      Spells tokens (Level k b) x from to
  binary : {k : ℕ} {b : Bool} {x y : Forest} {from mid to : ℕ} →
      k ≤ level_at tokens mid →
      1 ≤ level_at tokens mid →
      Spells tokens (Level (level_at tokens mid) b) x from mid →
      Spells tokens (Level (level_at tokens mid + 1) b) y (mid + 1) to →
      Spells tokens (Level k b) (one nodes.Binary from to (beside x y)) from to
  --
  -- Operators:
  -- UnaryExpr = PrimaryExpr | unary_op UnaryExpr .
  primary : {b : Bool} {x : Forest} {from to : ℕ} →
      Spells tokens (Primary b) x from to →
      Spells tokens (Unary b) x from to
  unary : {kind : NodeKind} {b : Bool} {x : Forest} {from to : ℕ} →
      HasUnary tokens from kind →
      Spells tokens (Unary b) x (from + 1) to →
      Spells tokens (Unary b) (one kind from to x) from to
  --
  -- Primary expressions:
  -- PrimaryExpr = Operand | Conversion | PrimaryExpr Selector | PrimaryExpr Index | PrimaryExpr Slice
  --             | PrimaryExpr TypeAssertion | PrimaryExpr Arguments .
  operand : {b : Bool} {x : Forest} {from to : ℕ} →
      Spells tokens (Operand b) x from to →
      Spells tokens (Primary b) x from to
  --
  -- Operands:
  -- Operand = Literal | OperandName | "(" Expression ")" .
  -- Literal = BasicLit | CompositeLit | FunctionLit .
  -- BasicLit = int_lit | float_lit | imaginary_lit | rune_lit | string_lit .
  -- In parentheses an expression or a type may stand.
  literal : {b : Bool} {from : ℕ} →
      Passes tokens is_literal from →
      Spells tokens (Operand b) (one nodes.Literal from (from + 1) leaf) from (from + 1)
  name_use : {b : Bool} {from : ℕ} →
      HasAt tokens from kinds.Name →
      Spells tokens (Operand b) (one nodes.NameUse from (from + 1) leaf) from (from + 1)
  parens : {b : Bool} {x : Forest} {from to : ℕ} →
      HasMark tokens from marks.OpenParen →
      Spells tokens Either x (from + 1) to →
      HasMark tokens to marks.CloseParen →
      Spells tokens (Operand b) (one nodes.Parens from (to + 1) x) from (to + 1)
  --
  -- Function literals:
  -- FunctionLit = "func" Signature FunctionBody .
  func_literal : {b : Bool} {x y : Forest} {from mid to : ℕ} →
      HasWord tokens from words.Func →
      Spells tokens Signature x (from + 1) mid →
      Spells tokens Block y mid to →
      Spells tokens (Operand b) (one nodes.FuncLiteral from to (beside x y)) from to
  --
  -- Composite literals:
  -- CompositeLit = LiteralType LiteralValue .
  -- LiteralType = StructType | ArrayType | "[" "..." "]" ElementType | SliceType | MapType | TypeName .
  -- Behind a bare TypeName braces stand only where they may: not in the head of a statement, outside parentheses.
  composite : {b : Bool} {x y : Forest} {from mid to : ℕ} →
      Passes tokens begins_composite from →
      Spells tokens AnyType x from mid →
      Spells tokens Elems y mid to →
      Spells tokens (Operand b) (one nodes.Composite from to (beside x y)) from to
  open_composite : {b : Bool} {x y : Forest} {from mid to : ℕ} →
      HasMark tokens from marks.OpenBracket →
      HasMark tokens (from + 1) marks.Ellipsis →
      HasMark tokens (from + 2) marks.CloseBracket →
      Spells tokens AnyType x (from + 3) mid →
      Spells tokens Elems y mid to →
      Spells tokens (Operand b) (one nodes.Composite from to (beside (one nodes.OpenArrayType from mid x) y)) from to
  bare_composite : {x y : Forest} {from mid to : ℕ} →
      Spells tokens Embedded x from mid →
      Spells tokens Elems y mid to →
      Spells tokens (Operand true) (one nodes.Composite from to (beside x y)) from to
  --
  -- Composite literals:
  -- LiteralValue = "{" [ ElementList [ "," ] ] "}" .
  -- ElementList = KeyedElement { "," KeyedElement } .
  -- KeyedElement = [ Key ":" ] Element .
  -- Key = FieldName | Expression | LiteralValue .
  -- Element = Expression | LiteralValue .
  no_elems : {from : ℕ} →
      HasMark tokens from marks.OpenBrace →
      HasMark tokens (from + 1) marks.CloseBrace →
      Spells tokens Elems (one nodes.Elems from (from + 2) leaf) from (from + 2)
  elems : {x : Forest} {from mid to : ℕ} →
      HasMark tokens from marks.OpenBrace →
      Spells tokens Items x (from + 1) mid →
      MaybeComma tokens mid to →
      HasMark tokens to marks.CloseBrace →
      Spells tokens Elems (one nodes.Elems from (to + 1) x) from (to + 1)
  last_item : {x : Forest} {from to : ℕ} →
      Spells tokens Item x from to →
      Spells tokens Items x from to
  one_item : {x y : Forest} {from mid to : ℕ} →
      Spells tokens Item x from mid →
      HasMark tokens mid marks.Comma →
      Spells tokens Items y (mid + 1) to →
      Spells tokens Items (beside x y) from to
  item : {x : Forest} {from to : ℕ} →
      Spells tokens Value x from to →
      Spells tokens Item (one nodes.Item from to x) from to
  keyed_item : {x y : Forest} {from mid to : ℕ} →
      Spells tokens Value x from mid →
      HasMark tokens mid marks.Colon →
      Spells tokens Value y (mid + 1) to →
      Spells tokens Item (one nodes.KeyedItem from to (beside x y)) from to
  value_expr : {x : Forest} {from to : ℕ} →
      Spells tokens (Level 1 true) x from to →
      Spells tokens Value x from to
  value_elems : {x : Forest} {from to : ℕ} →
      Spells tokens Elems x from to →
      Spells tokens Value x from to
  --
  -- Conversions:
  -- Conversion = Type "(" Expression [ "," ] ")" .
  -- Where the type is a name, a pointer or in parentheses, it is read as a call.
  conversion : {b : Bool} {x y : Forest} {from mid mid2 to : ℕ} →
      Passes tokens begins_conversion from →
      Spells tokens AnyType x from mid →
      HasMark tokens mid marks.OpenParen →
      Spells tokens (Level 1 true) y (mid + 1) mid2 →
      MaybeComma tokens mid2 to →
      HasMark tokens to marks.CloseParen →
      Spells tokens (Operand b) (one nodes.Conversion from (to + 1) (beside x y)) from (to + 1)
  --
  -- Selectors:
  -- Selector = "." identifier .
  selector : {b : Bool} {x : Forest} {from to : ℕ} →
      Spells tokens (Primary b) x from to →
      HasMark tokens to marks.Dot →
      HasAt tokens (to + 1) kinds.Name →
      Spells tokens (Primary b)
      (one nodes.Selector from (to + 2) (beside x (one nodes.SelectedName (to + 1) (to + 2) leaf))) from (to + 2)
  --
  -- Index expressions:
  -- Index = "[" Expression "]" .
  index : {b : Bool} {x y : Forest} {from mid to : ℕ} →
      Spells tokens (Primary b) x from mid →
      HasMark tokens mid marks.OpenBracket →
      Spells tokens (Level 1 true) y (mid + 1) to →
      HasMark tokens to marks.CloseBracket →
      Spells tokens (Primary b) (one nodes.Index from (to + 1) (beside x y)) from (to + 1)
  --
  -- Slice expressions:
  -- Slice = "[" [ Expression ] ":" [ Expression ] "]" | "[" [ Expression ] ":" Expression ":" Expression "]" .
  slice_all : {b : Bool} {x : Forest} {from to : ℕ} →
      Spells tokens (Primary b) x from to →
      HasMark tokens to marks.OpenBracket →
      HasMark tokens (to + 1) marks.Colon →
      HasMark tokens (to + 2) marks.CloseBracket →
      Spells tokens (Primary b) (one nodes.SliceAll from (to + 3) x) from (to + 3)
  slice_from : {b : Bool} {x y : Forest} {from mid to : ℕ} →
      Spells tokens (Primary b) x from mid →
      HasMark tokens mid marks.OpenBracket →
      Spells tokens (Level 1 true) y (mid + 1) to →
      HasMark tokens to marks.Colon →
      HasMark tokens (to + 1) marks.CloseBracket →
      Spells tokens (Primary b) (one nodes.SliceFrom from (to + 2) (beside x y)) from (to + 2)
  slice_to : {b : Bool} {x y : Forest} {from mid to : ℕ} →
      Spells tokens (Primary b) x from mid →
      HasMark tokens mid marks.OpenBracket →
      HasMark tokens (mid + 1) marks.Colon →
      Spells tokens (Level 1 true) y (mid + 2) to →
      HasMark tokens to marks.CloseBracket →
      Spells tokens (Primary b) (one nodes.SliceTo from (to + 1) (beside x y)) from (to + 1)
  slice_between : {b : Bool} {x y z : Forest} {from mid mid2 to : ℕ} →
      Spells tokens (Primary b) x from mid →
      HasMark tokens mid marks.OpenBracket →
      Spells tokens (Level 1 true) y (mid + 1) mid2 →
      HasMark tokens mid2 marks.Colon →
      Spells tokens (Level 1 true) z (mid2 + 1) to →
      HasMark tokens to marks.CloseBracket →
      Spells tokens (Primary b) (one nodes.SliceBetween from (to + 1) (beside x (beside y z))) from (to + 1)
  slice_to_max : {b : Bool} {x y z : Forest} {from mid mid2 to : ℕ} →
      Spells tokens (Primary b) x from mid →
      HasMark tokens mid marks.OpenBracket →
      HasMark tokens (mid + 1) marks.Colon →
      Spells tokens (Level 1 true) y (mid + 2) mid2 →
      HasMark tokens mid2 marks.Colon →
      Spells tokens (Level 1 true) z (mid2 + 1) to →
      HasMark tokens to marks.CloseBracket →
      Spells tokens (Primary b) (one nodes.SliceToMax from (to + 1) (beside x (beside y z))) from (to + 1)
  slice_between_max : {b : Bool} {x y z w : Forest} {from mid mid2 mid3 to : ℕ} →
      Spells tokens (Primary b) x from mid →
      HasMark tokens mid marks.OpenBracket →
      Spells tokens (Level 1 true) y (mid + 1) mid2 →
      HasMark tokens mid2 marks.Colon →
      Spells tokens (Level 1 true) z (mid2 + 1) mid3 →
      HasMark tokens mid3 marks.Colon →
      Spells tokens (Level 1 true) w (mid3 + 1) to →
      HasMark tokens to marks.CloseBracket →
      Spells tokens (Primary b) (one nodes.SliceBetweenMax from (to + 1) (beside x (beside y (beside z w)))) from
      (to + 1)
  --
  -- Type assertions:
  -- TypeAssertion = "." "(" Type ")" .
  assertion : {b : Bool} {x y : Forest} {from mid to : ℕ} →
      Spells tokens (Primary b) x from mid →
      HasMark tokens mid marks.Dot →
      HasMark tokens (mid + 1) marks.OpenParen →
      Spells tokens AnyType y (mid + 2) to →
      HasMark tokens to marks.CloseParen →
      Spells tokens (Primary b) (one nodes.TypeAssertion from (to + 1) (beside x y)) from (to + 1)
  --
  -- Calls:
  -- Arguments = "(" [ ( ExpressionList | Type [ "," ExpressionList ] ) [ "..." ] [ "," ] ] ")" .
  -- At each place an expression or a type may stand.
  call_none : {b : Bool} {x : Forest} {from to : ℕ} →
      Spells tokens (Primary b) x from to →
      HasMark tokens to marks.OpenParen →
      HasMark tokens (to + 1) marks.CloseParen →
      Spells tokens (Primary b) (one nodes.Call from (to + 2) x) from (to + 2)
  call : {b : Bool} {x y : Forest} {from mid mid2 to : ℕ} →
      Spells tokens (Primary b) x from mid →
      HasMark tokens mid marks.OpenParen →
      Spells tokens Eithers y (mid + 1) mid2 →
      MaybeComma tokens mid2 to →
      HasMark tokens to marks.CloseParen →
      Spells tokens (Primary b) (one nodes.Call from (to + 1) (beside x y)) from (to + 1)
  spread_call : {b : Bool} {x y : Forest} {from mid mid2 to : ℕ} →
      Spells tokens (Primary b) x from mid →
      HasMark tokens mid marks.OpenParen →
      Spells tokens Eithers y (mid + 1) mid2 →
      HasMark tokens mid2 marks.Ellipsis →
      MaybeComma tokens (mid2 + 1) to →
      HasMark tokens to marks.CloseParen →
      Spells tokens (Primary b) (one nodes.SpreadCall from (to + 1) (beside x y)) from (to + 1)
  --
  -- Constant declarations:
  -- ExpressionList = Expression { "," Expression } .
  last_expr : {b : Bool} {x : Forest} {from to : ℕ} →
      Spells tokens (Level 1 b) x from to →
      Spells tokens (Exprs b) x from to
  one_expr : {b : Bool} {x y : Forest} {from mid to : ℕ} →
      Spells tokens (Level 1 b) x from mid →
      HasMark tokens mid marks.Comma →
      Spells tokens (Exprs b) y (mid + 1) to →
      Spells tokens (Exprs b) (beside x y) from to
  -- an expression or a type; where both can be, the tree is the expression's
  either_expr : {x : Forest} {from to : ℕ} →
      Spells tokens (Level 1 true) x from to →
      Spells tokens Either x from to
  either_type : {x : Forest} {from to : ℕ} →
      Spells tokens OnlyType x from to →
      Spells tokens Either x from to
  last_either : {x : Forest} {from to : ℕ} →
      Spells tokens Either x from to →
      Spells tokens Eithers x from to
  one_either : {x y : Forest} {from mid to : ℕ} →
      Spells tokens Either x from mid →
      HasMark tokens mid marks.Comma →
      Spells tokens Eithers y (mid + 1) to →
      Spells tokens Eithers (beside x y) from to
  --
  -- == STATEMENTS ==
  --
  -- Blocks:
  -- Block = "{" StatementList "}" .
  -- StatementList = { Statement ";" } .
  -- The last semicolon may be left out. An empty statement has its semicolon, or is that of a
  -- label, or the last in the head of a `for`.
  block : {x : Forest} {from to : ℕ} →
      HasMark tokens from marks.OpenBrace →
      Spells tokens Stmts x (from + 1) to →
      HasMark tokens to marks.CloseBrace →
      Spells tokens Block (one nodes.Block from (to + 1) x) from (to + 1)
  no_stmt : {from : ℕ} → Spells tokens Stmts leaf from from
  last_stmt : {x : Forest} {from to : ℕ} →
      Spells tokens Stmt x from to →
      HasMark tokens to marks.CloseBrace →
      Spells tokens Stmts x from to
  one_stmt : {x y : Forest} {from mid to : ℕ} →
      Spells tokens Stmt x from mid →
      Passes tokens is_semicolon mid →
      Spells tokens Stmts y (mid + 1) to →
      Spells tokens Stmts (beside x y) from to
  empty_stmt : {x : Forest} {from to : ℕ} →
      Passes tokens is_semicolon from →
      Spells tokens Stmts x (from + 1) to →
      Spells tokens Stmts (beside (one nodes.Empty from from leaf) x) from to
  --
  -- Statements:
  -- Statement = Declaration | LabeledStmt | SimpleStmt | GoStmt | ReturnStmt | BreakStmt | ContinueStmt | GotoStmt
  --           | FallthroughStmt | Block | IfStmt | SwitchStmt | SelectStmt | ForStmt | DeferStmt .
  decl_stmt : {x : Forest} {from to : ℕ} →
      Spells tokens Decl x from to →
      Spells tokens Stmt (one nodes.DeclStmt from to x) from to
  simple_stmt : {x : Forest} {from to : ℕ} →
      Spells tokens (Simple true) x from to →
      Spells tokens Stmt x from to
  block_stmt : {x : Forest} {from to : ℕ} →
      Spells tokens Block x from to →
      Spells tokens Stmt x from to
  if_stmt : {x : Forest} {from to : ℕ} →
      Spells tokens If x from to →
      Spells tokens Stmt x from to
  --
  -- Labeled statements:
  -- LabeledStmt = Label ":" Statement .
  labeled : {x : Forest} {from to : ℕ} →
      HasAt tokens from kinds.Name →
      HasMark tokens (from + 1) marks.Colon →
      Spells tokens Stmt x (from + 2) to →
      Spells tokens Stmt (one nodes.Labeled from to (beside (one nodes.DeclName from (from + 1) leaf) x)) from to
  labeled_empty : {from : ℕ} →
      HasAt tokens from kinds.Name →
      HasMark tokens (from + 1) marks.Colon →
      Spells tokens Stmt
      (one nodes.Labeled from (from + 2)
      (beside (one nodes.DeclName from (from + 1) leaf) (one nodes.Empty (from + 2) (from + 2) leaf))) from (from + 2)
  --
  -- Go statements, Defer statements:
  -- GoStmt = "go" Expression .
  -- DeferStmt = "defer" Expression .
  go_stmt : {x : Forest} {from to : ℕ} →
      HasWord tokens from words.Go →
      Spells tokens (Level 1 true) x (from + 1) to →
      Spells tokens Stmt (one nodes.Go from to x) from to
  defer_stmt : {x : Forest} {from to : ℕ} →
      HasWord tokens from words.Defer →
      Spells tokens (Level 1 true) x (from + 1) to →
      Spells tokens Stmt (one nodes.Defer from to x) from to
  --
  -- Return statements:
  -- ReturnStmt = "return" [ ExpressionList ] .
  return_none : {from : ℕ} →
      HasWord tokens from words.Return →
      Spells tokens Stmt (one nodes.Return from (from + 1) leaf) from (from + 1)
  return_values : {x : Forest} {from to : ℕ} →
      HasWord tokens from words.Return →
      Spells tokens (Exprs true) x (from + 1) to →
      Spells tokens Stmt (one nodes.Return from to x) from to
  --
  -- Break, continue, goto and fallthrough statements:
  -- BreakStmt = "break" [ Label ] .
  -- ContinueStmt = "continue" [ Label ] .
  -- GotoStmt = "goto" Label .
  -- FallthroughStmt = "fallthrough" .
  break_stmt : {x : Forest} {from to : ℕ} →
      HasWord tokens from words.Break →
      Spells tokens MaybeLabel x (from + 1) to →
      Spells tokens Stmt (one nodes.Break from to x) from to
  continue_stmt : {x : Forest} {from to : ℕ} →
      HasWord tokens from words.Continue →
      Spells tokens MaybeLabel x (from + 1) to →
      Spells tokens Stmt (one nodes.Continue from to x) from to
  goto_stmt : {from : ℕ} →
      HasWord tokens from words.Goto →
      HasAt tokens (from + 1) kinds.Name →
      Spells tokens Stmt (one nodes.Goto from (from + 2) (one nodes.LabelUse (from + 1) (from + 2) leaf)) from
      (from + 2)
  fallthrough_stmt : {from : ℕ} →
      HasWord tokens from words.Fallthrough →
      Spells tokens Stmt (one nodes.Fallthrough from (from + 1) leaf) from (from + 1)
  no_label : {from : ℕ} → Spells tokens MaybeLabel leaf from from
  a_label : {from : ℕ} →
      HasAt tokens from kinds.Name →
      Spells tokens MaybeLabel (one nodes.LabelUse from (from + 1) leaf) from (from + 1)
  --
  -- Expression statements, Send statements, IncDec statements:
  -- SimpleStmt = EmptyStmt | ExpressionStmt | SendStmt | IncDecStmt | Assignment | ShortVarDecl .
  -- ExpressionStmt = Expression .
  -- SendStmt = Channel "<-" Expression .
  -- IncDecStmt = Expression ( "++" | "--" ) .
  expr_stmt : {b : Bool} {x : Forest} {from to : ℕ} →
      Spells tokens (Level 1 b) x from to →
      Spells tokens (Simple b) (one nodes.ExprStmt from to x) from to
  send : {b : Bool} {x y : Forest} {from mid to : ℕ} →
      Spells tokens (Level 1 b) x from mid →
      HasMark tokens mid marks.Arrow →
      Spells tokens (Level 1 b) y (mid + 1) to →
      Spells tokens (Simple b) (one nodes.Send from to (beside x y)) from to
  increment : {b : Bool} {x : Forest} {from to : ℕ} →
      Spells tokens (Level 1 b) x from to →
      HasMark tokens to marks.Increment →
      Spells tokens (Simple b) (one nodes.Increment from (to + 1) x) from (to + 1)
  decrement : {b : Bool} {x : Forest} {from to : ℕ} →
      Spells tokens (Level 1 b) x from to →
      HasMark tokens to marks.Decrement →
      Spells tokens (Simple b) (one nodes.Decrement from (to + 1) x) from (to + 1)
  --
  -- Assignments, Short variable declarations:
  -- Assignment = ExpressionList assign_op ExpressionList .
  -- assign_op = [ add_op | mul_op ] "=" .
  -- ShortVarDecl = IdentifierList ":=" ExpressionList .
  assign : {b : Bool} {x y : Forest} {from mid to : ℕ} →
      Spells tokens (Exprs b) x from mid →
      HasMark tokens mid marks.Assign →
      Spells tokens (Exprs b) y (mid + 1) to →
      Spells tokens (Simple b)
      (one nodes.Assign from to (beside (one nodes.Exprs from mid x) (one nodes.Exprs (mid + 1) to y))) from to
  op_assign : {b : Bool} {x y : Forest} {from mid to : ℕ} →
      Spells tokens (Exprs b) x from mid →
      Passes tokens is_op_assign mid →
      Spells tokens (Exprs b) y (mid + 1) to →
      Spells tokens (Simple b)
      (one nodes.OpAssign from to (beside (one nodes.Exprs from mid x) (one nodes.Exprs (mid + 1) to y))) from to
  define : {b : Bool} {x y : Forest} {from mid to : ℕ} →
      Spells tokens Names x from mid →
      HasMark tokens mid marks.Define →
      Spells tokens (Exprs b) y (mid + 1) to →
      Spells tokens (Simple b)
      (one nodes.Define from to (beside (one nodes.Names from mid x) (one nodes.Exprs (mid + 1) to y))) from to
  --
  -- If statements:
  -- IfStmt = "if" [ SimpleStmt ";" ] Expression Block [ "else" ( IfStmt | Block ) ] .
  if_ : {x y z w : Forest} {from mid mid2 mid3 to : ℕ} →
      HasWord tokens from words.If →
      Spells tokens MaybeInit x (from + 1) mid →
      Spells tokens (Level 1 false) y mid mid2 →
      Spells tokens Block z mid2 mid3 →
      Spells tokens MaybeElse w mid3 to →
      Spells tokens If (one nodes.If from to (beside x (beside y (beside z w)))) from to
  no_init : {from : ℕ} → Spells tokens MaybeInit leaf from from
  empty_init : {from : ℕ} →
      Passes tokens is_semicolon from →
      Spells tokens MaybeInit (one nodes.Init from from (one nodes.Empty from from leaf)) from (from + 1)
  an_init : {x : Forest} {from to : ℕ} →
      Spells tokens (Simple false) x from to →
      Passes tokens is_semicolon to →
      Spells tokens MaybeInit (one nodes.Init from to x) from (to + 1)
  no_else : {from : ℕ} → Spells tokens MaybeElse leaf from from
  else_if : {x : Forest} {from to : ℕ} →
      HasWord tokens from words.Else →
      Spells tokens If x (from + 1) to →
      Spells tokens MaybeElse x from to
  else_block : {x : Forest} {from to : ℕ} →
      HasWord tokens from words.Else →
      Spells tokens Block x (from + 1) to →
      Spells tokens MaybeElse x from to
  --
  -- Switch statements:
  -- ExprSwitchStmt = "switch" [ SimpleStmt ";" ] [ Expression ] "{" { ExprCaseClause } "}" .
  -- TypeSwitchStmt = "switch" [ SimpleStmt ";" ] TypeSwitchGuard "{" { TypeCaseClause } "}" .
  -- TypeSwitchGuard = [ identifier ":=" ] PrimaryExpr "." "(" "type" ")" .
  switch : {x y z : Forest} {from mid mid2 to : ℕ} →
      HasWord tokens from words.Switch →
      Spells tokens MaybeInit x (from + 1) mid →
      Spells tokens MaybeSwitched y mid mid2 →
      HasMark tokens mid2 marks.OpenBrace →
      Spells tokens Cases z (mid2 + 1) to →
      HasMark tokens to marks.CloseBrace →
      Spells tokens Stmt (one nodes.Switch from (to + 1) (beside x (beside y z))) from (to + 1)
  no_tag_expr : {from : ℕ} → Spells tokens MaybeSwitched leaf from from
  tag_expr : {x : Forest} {from to : ℕ} →
      Spells tokens (Level 1 false) x from to →
      Spells tokens MaybeSwitched x from to
  type_switch : {x y z : Forest} {from mid mid2 to : ℕ} →
      HasWord tokens from words.Switch →
      Spells tokens MaybeInit x (from + 1) mid →
      Spells tokens TypeGuard y mid mid2 →
      HasMark tokens mid2 marks.OpenBrace →
      Spells tokens Cases z (mid2 + 1) to →
      HasMark tokens to marks.CloseBrace →
      Spells tokens Stmt (one nodes.TypeSwitch from (to + 1) (beside x (beside y z))) from (to + 1)
  guard : {x : Forest} {from to : ℕ} →
      Spells tokens (Primary false) x from to →
      HasMark tokens to marks.Dot →
      HasMark tokens (to + 1) marks.OpenParen →
      HasWord tokens (to + 2) words.TypeWord →
      HasMark tokens (to + 3) marks.CloseParen →
      Spells tokens TypeGuard (one nodes.Guard from (to + 4) x) from (to + 4)
  named_guard : {x : Forest} {from to : ℕ} →
      HasAt tokens from kinds.Name →
      HasMark tokens (from + 1) marks.Define →
      Spells tokens (Primary false) x (from + 2) to →
      HasMark tokens to marks.Dot →
      HasMark tokens (to + 1) marks.OpenParen →
      HasWord tokens (to + 2) words.TypeWord →
      HasMark tokens (to + 3) marks.CloseParen →
      Spells tokens TypeGuard
      (one nodes.NamedGuard from (to + 4)
      (beside (one nodes.DeclName from (from + 1) leaf) (one nodes.Guard (from + 2) (to + 4) x))) from (to + 4)
  --
  -- Switch statements:
  -- ExprCaseClause = ExprSwitchCase ":" StatementList .
  -- ExprSwitchCase = "case" ExpressionList | "default" .
  -- TypeCaseClause = TypeSwitchCase ":" StatementList .
  -- TypeSwitchCase = "case" TypeList | "default" .
  -- In both an expression or a type may stand.
  no_case : {from : ℕ} → Spells tokens Cases leaf from from
  one_case : {x y : Forest} {from mid to : ℕ} →
      Spells tokens Case x from mid →
      Spells tokens Cases y mid to →
      Spells tokens Cases (beside x y) from to
  case : {x y : Forest} {from mid to : ℕ} →
      HasWord tokens from words.Case →
      Spells tokens Eithers x (from + 1) mid →
      HasMark tokens mid marks.Colon →
      Spells tokens Stmts y (mid + 1) to →
      Spells tokens Case (one nodes.Case from to (beside (one nodes.Values (from + 1) mid x) y)) from to
  default_case : {x : Forest} {from to : ℕ} →
      HasWord tokens from words.Default →
      HasMark tokens (from + 1) marks.Colon →
      Spells tokens Stmts x (from + 2) to →
      Spells tokens Case (one nodes.Default from to x) from to
  --
  -- Select statements:
  -- SelectStmt = "select" "{" { CommClause } "}" .
  -- CommClause = CommCase ":" StatementList .
  -- CommCase = "case" ( SendStmt | RecvStmt ) | "default" .
  -- RecvStmt = [ ExpressionList "=" | IdentifierList ":=" ] RecvExpr .
  -- RecvExpr = Expression .
  -- On the left of `:=` any expressions may stand; a rule of typing asks for names.
  select : {x : Forest} {from to : ℕ} →
      HasWord tokens from words.Select →
      HasMark tokens (from + 1) marks.OpenBrace →
      Spells tokens Comms x (from + 2) to →
      HasMark tokens to marks.CloseBrace →
      Spells tokens Stmt (one nodes.Select from (to + 1) x) from (to + 1)
  no_comm : {from : ℕ} → Spells tokens Comms leaf from from
  one_comm : {x y : Forest} {from mid to : ℕ} →
      Spells tokens Comm x from mid →
      Spells tokens Comms y mid to →
      Spells tokens Comms (beside x y) from to
  send_comm : {x y z : Forest} {from mid mid2 to : ℕ} →
      HasWord tokens from words.Case →
      Spells tokens (Level 1 true) x (from + 1) mid →
      HasMark tokens mid marks.Arrow →
      Spells tokens (Level 1 true) y (mid + 1) mid2 →
      HasMark tokens mid2 marks.Colon →
      Spells tokens Stmts z (mid2 + 1) to →
      Spells tokens Comm (one nodes.SendCase from to (beside x (beside y z))) from to
  assign_comm : {x y z : Forest} {from mid mid2 to : ℕ} →
      HasWord tokens from words.Case →
      Spells tokens (Exprs true) x (from + 1) mid →
      HasMark tokens mid marks.Assign →
      Spells tokens (Level 1 true) y (mid + 1) mid2 →
      HasMark tokens mid2 marks.Colon →
      Spells tokens Stmts z (mid2 + 1) to →
      Spells tokens Comm (one nodes.AssignCase from to (beside (one nodes.Exprs (from + 1) mid x) (beside y z))) from to
  define_comm : {x y z : Forest} {from mid mid2 to : ℕ} →
      HasWord tokens from words.Case →
      Spells tokens (Exprs true) x (from + 1) mid →
      HasMark tokens mid marks.Define →
      Spells tokens (Level 1 true) y (mid + 1) mid2 →
      HasMark tokens mid2 marks.Colon →
      Spells tokens Stmts z (mid2 + 1) to →
      Spells tokens Comm (one nodes.DefineCase from to (beside (one nodes.Exprs (from + 1) mid x) (beside y z))) from to
  receive_comm : {x y : Forest} {from mid to : ℕ} →
      HasWord tokens from words.Case →
      Spells tokens (Level 1 true) x (from + 1) mid →
      HasMark tokens mid marks.Colon →
      Spells tokens Stmts y (mid + 1) to →
      Spells tokens Comm (one nodes.ReceiveCase from to (beside x y)) from to
  default_comm : {x : Forest} {from to : ℕ} →
      HasWord tokens from words.Default →
      HasMark tokens (from + 1) marks.Colon →
      Spells tokens Stmts x (from + 2) to →
      Spells tokens Comm (one nodes.Default from to x) from to
  --
  -- For statements:
  -- ForStmt = "for" [ Condition | ForClause | RangeClause ] Block .
  -- Condition = Expression .
  while_loop : {x y : Forest} {from mid to : ℕ} →
      HasWord tokens from words.For →
      Spells tokens MaybeCondition x (from + 1) mid →
      Spells tokens Block y mid to →
      Spells tokens Stmt (one nodes.While from to (beside x y)) from to
  no_condition : {from : ℕ} → Spells tokens MaybeCondition leaf from from
  a_condition : {x : Forest} {from to : ℕ} →
      Spells tokens (Level 1 false) x from to →
      Spells tokens MaybeCondition x from to
  --
  -- For statements:
  -- ForClause = [ InitStmt ] ";" [ Condition ] ";" [ PostStmt ] .
  for_loop : {x y z w : Forest} {from mid mid2 mid3 to : ℕ} →
      HasWord tokens from words.For →
      Spells tokens (Simple false) x (from + 1) mid →
      Passes tokens is_semicolon mid →
      Spells tokens MaybeCondition y (mid + 1) mid2 →
      Passes tokens is_semicolon mid2 →
      Spells tokens MaybePost z (mid2 + 1) mid3 →
      Spells tokens Block w mid3 to →
      Spells tokens Stmt
      (one nodes.For from to (beside (one nodes.Init (from + 1) mid x) (beside y (beside z w)))) from to
  for_empty : {x y z : Forest} {from mid mid2 to : ℕ} →
      HasWord tokens from words.For →
      Passes tokens is_semicolon (from + 1) →
      Spells tokens MaybeCondition x (from + 2) mid →
      Passes tokens is_semicolon mid →
      Spells tokens MaybePost y (mid + 1) mid2 →
      Spells tokens Block z mid2 to →
      Spells tokens Stmt
      (one nodes.For from to
      (beside (one nodes.Init (from + 1) (from + 1) (one nodes.Empty (from + 1) (from + 1) leaf))
      (beside x (beside y z)))) from to
  empty_post : {from : ℕ} →
      Spells tokens MaybePost (one nodes.Post from from (one nodes.Empty from from leaf)) from from
  a_post : {x : Forest} {from to : ℕ} →
      Spells tokens (Simple false) x from to →
      Spells tokens MaybePost (one nodes.Post from to x) from to
  --
  -- For statements:
  -- RangeClause = [ ExpressionList "=" | IdentifierList ":=" ] "range" Expression .
  -- On the left of `:=` any expressions may stand; a rule of typing asks for names.
  range_loop : {x y : Forest} {from mid to : ℕ} →
      HasWord tokens from words.For →
      HasWord tokens (from + 1) words.Range →
      Spells tokens (Level 1 false) x (from + 2) mid →
      Spells tokens Block y mid to →
      Spells tokens Stmt (one nodes.Range from to (beside x y)) from to
  assign_range : {x y z : Forest} {from mid mid2 to : ℕ} →
      HasWord tokens from words.For →
      Spells tokens (Exprs false) x (from + 1) mid →
      HasMark tokens mid marks.Assign →
      HasWord tokens (mid + 1) words.Range →
      Spells tokens (Level 1 false) y (mid + 2) mid2 →
      Spells tokens Block z mid2 to →
      Spells tokens Stmt
      (one nodes.AssignRange from to (beside (one nodes.Exprs (from + 1) mid x) (beside y z))) from to
  define_range : {x y z : Forest} {from mid mid2 to : ℕ} →
      HasWord tokens from words.For →
      Spells tokens (Exprs false) x (from + 1) mid →
      HasMark tokens mid marks.Define →
      HasWord tokens (mid + 1) words.Range →
      Spells tokens (Level 1 false) y (mid + 2) mid2 →
      Spells tokens Block z mid2 to →
      Spells tokens Stmt
      (one nodes.DefineRange from to (beside (one nodes.Exprs (from + 1) mid x) (beside y z))) from to
  --
  -- == DECLARATIONS ==
  --
  -- Declarations and scope:
  -- Declaration = ConstDecl | TypeDecl | VarDecl .
  -- ConstDecl = "const" ( ConstSpec | "(" { ConstSpec ";" } ")" ) .
  -- VarDecl = "var" ( VarSpec | "(" { VarSpec ";" } ")" ) .
  -- TypeDecl = "type" ( TypeSpec | "(" { TypeSpec ";" } ")" ) .
  decl_const : {x : Forest} {from to : ℕ} →
      HasWord tokens from words.Const →
      Spells tokens (Declared Constant) x (from + 1) to →
      Spells tokens Decl (one nodes.ConstDecl from to x) from to
  group_const : {x : Forest} {from to : ℕ} →
      HasWord tokens from words.Const →
      HasMark tokens (from + 1) marks.OpenParen →
      Spells tokens (DeclaredList Constant) x (from + 2) to →
      HasMark tokens to marks.CloseParen →
      Spells tokens Decl (one nodes.ConstGroup from (to + 1) x) from (to + 1)
  decl_var : {x : Forest} {from to : ℕ} →
      HasWord tokens from words.Var →
      Spells tokens (Declared Variable) x (from + 1) to →
      Spells tokens Decl (one nodes.VarDecl from to x) from to
  group_var : {x : Forest} {from to : ℕ} →
      HasWord tokens from words.Var →
      HasMark tokens (from + 1) marks.OpenParen →
      Spells tokens (DeclaredList Variable) x (from + 2) to →
      HasMark tokens to marks.CloseParen →
      Spells tokens Decl (one nodes.VarGroup from (to + 1) x) from (to + 1)
  decl_type : {x : Forest} {from to : ℕ} →
      HasWord tokens from words.TypeWord →
      Spells tokens (Declared TypeSort) x (from + 1) to →
      Spells tokens Decl (one nodes.TypeDecl from to x) from to
  group_type : {x : Forest} {from to : ℕ} →
      HasWord tokens from words.TypeWord →
      HasMark tokens (from + 1) marks.OpenParen →
      Spells tokens (DeclaredList TypeSort) x (from + 2) to →
      HasMark tokens to marks.CloseParen →
      Spells tokens Decl (one nodes.TypeGroup from (to + 1) x) from (to + 1)
  no_declared : {s : Sort} {from : ℕ} → Spells tokens (DeclaredList s) leaf from from
  last_declared : {s : Sort} {x : Forest} {from to : ℕ} →
      Spells tokens (Declared s) x from to →
      HasMark tokens to marks.CloseParen →
      Spells tokens (DeclaredList s) x from to
  one_declared : {s : Sort} {x y : Forest} {from mid to : ℕ} →
      Spells tokens (Declared s) x from mid →
      Passes tokens is_semicolon mid →
      Spells tokens (DeclaredList s) y (mid + 1) to →
      Spells tokens (DeclaredList s) (beside x y) from to
  --
  -- Constant declarations:
  -- ConstSpec = IdentifierList [ [ Type ] "=" ExpressionList ] .
  constants : {x : Forest} {from mid : ℕ} →
      Spells tokens Names x from mid →
      Spells tokens (Declared Constant) (one nodes.ConstSpec from mid (one nodes.Names from mid x)) from mid
  constants_are : {x y z : Forest} {from mid mid2 to : ℕ} →
      Spells tokens Names x from mid →
      Spells tokens MaybeTyped y mid mid2 →
      HasMark tokens mid2 marks.Assign →
      Spells tokens (Exprs true) z (mid2 + 1) to →
      Spells tokens (Declared Constant)
      (one nodes.ConstSpec from to
      (beside (one nodes.Names from mid x) (beside y (one nodes.Exprs (mid2 + 1) to z)))) from to
  untyped : {from : ℕ} → Spells tokens MaybeTyped leaf from from
  typed : {x : Forest} {from to : ℕ} →
      Spells tokens AnyType x from to →
      Spells tokens MaybeTyped x from to
  --
  -- Variable declarations:
  -- VarSpec = IdentifierList ( Type [ "=" ExpressionList ] | "=" ExpressionList ) .
  variables_typed : {x y z : Forest} {from mid mid2 to : ℕ} →
      Spells tokens Names x from mid →
      Spells tokens AnyType y mid mid2 →
      Spells tokens MaybeValues z mid2 to →
      Spells tokens (Declared Variable)
      (one nodes.VarSpec from to (beside (one nodes.Names from mid x) (beside y z))) from to
  variables_are : {x y : Forest} {from mid to : ℕ} →
      Spells tokens Names x from mid →
      HasMark tokens mid marks.Assign →
      Spells tokens (Exprs true) y (mid + 1) to →
      Spells tokens (Declared Variable)
      (one nodes.VarSpec from to (beside (one nodes.Names from mid x) (one nodes.Exprs (mid + 1) to y))) from to
  no_values : {from : ℕ} → Spells tokens MaybeValues leaf from from
  some_values : {x : Forest} {from to : ℕ} →
      HasMark tokens from marks.Assign →
      Spells tokens (Exprs true) x (from + 1) to →
      Spells tokens MaybeValues (one nodes.Exprs (from + 1) to x) from to
  --
  -- Type declarations:
  -- TypeSpec = AliasDecl | TypeDef .
  -- AliasDecl = identifier "=" Type .
  -- TypeDef = identifier [ TypeParameters ] Type .
  -- Type parameters are read only where a name, a word, `~` or `,` follows their first name.
  type_spec : {x : Forest} {from to : ℕ} →
      HasAt tokens from kinds.Name →
      Spells tokens AnyType x (from + 1) to →
      Spells tokens (Declared TypeSort)
      (one nodes.TypeSpec from to (beside (one nodes.DeclName from (from + 1) leaf) x)) from to
  alias_spec : {x : Forest} {from to : ℕ} →
      HasAt tokens from kinds.Name →
      HasMark tokens (from + 1) marks.Assign →
      Spells tokens AnyType x (from + 2) to →
      Spells tokens (Declared TypeSort)
      (one nodes.AliasSpec from to (beside (one nodes.DeclName from (from + 1) leaf) x)) from to
  generic_spec : {x y : Forest} {from mid to : ℕ} →
      HasAt tokens from kinds.Name →
      Passes tokens follows_parameter (from + 3) →
      Spells tokens TypeParams x (from + 1) mid →
      Spells tokens AnyType y mid to →
      Spells tokens (Declared TypeSort)
      (one nodes.TypeSpec from to (beside (one nodes.DeclName from (from + 1) leaf) (beside x y))) from to
  generic_alias : {x y : Forest} {from mid to : ℕ} →
      HasAt tokens from kinds.Name →
      Passes tokens follows_parameter (from + 3) →
      Spells tokens TypeParams x (from + 1) mid →
      HasMark tokens mid marks.Assign →
      Spells tokens AnyType y (mid + 1) to →
      Spells tokens (Declared TypeSort)
      (one nodes.AliasSpec from to (beside (one nodes.DeclName from (from + 1) leaf) (beside x y))) from to
  --
  -- Type parameter declarations:
  -- TypeParameters = "[" TypeParamList [ "," ] "]" .
  -- Read as a name and any tokens with balanced brackets, since no generic declaration is analysed.
  type_params : {from to : ℕ} →
      HasMark tokens from marks.OpenBracket →
      HasAt tokens (from + 1) kinds.Name →
      Spells tokens Balanced leaf (from + 2) to →
      HasMark tokens to marks.CloseBracket →
      Spells tokens TypeParams (one nodes.TypeParams from (to + 1) leaf) from (to + 1)
  balanced_none : {from : ℕ} → Spells tokens Balanced leaf from from
  balanced_token : {from to : ℕ} →
      Passes tokens is_no_bracket from →
      Spells tokens Balanced leaf (from + 1) to →
      Spells tokens Balanced leaf from to
  balanced_parens : {from mid to : ℕ} →
      HasMark tokens from marks.OpenParen →
      Spells tokens Balanced leaf (from + 1) mid →
      HasMark tokens mid marks.CloseParen →
      Spells tokens Balanced leaf (mid + 1) to →
      Spells tokens Balanced leaf from to
  balanced_brackets : {from mid to : ℕ} →
      HasMark tokens from marks.OpenBracket →
      Spells tokens Balanced leaf (from + 1) mid →
      HasMark tokens mid marks.CloseBracket →
      Spells tokens Balanced leaf (mid + 1) to →
      Spells tokens Balanced leaf from to
  balanced_braces : {from mid to : ℕ} →
      HasMark tokens from marks.OpenBrace →
      Spells tokens Balanced leaf (from + 1) mid →
      HasMark tokens mid marks.CloseBrace →
      Spells tokens Balanced leaf (mid + 1) to →
      Spells tokens Balanced leaf from to
  --
  -- Constant declarations:
  -- IdentifierList = identifier { "," identifier } .
  last_name : {from : ℕ} →
      HasAt tokens from kinds.Name →
      Spells tokens Names (one nodes.DeclName from (from + 1) leaf) from (from + 1)
  one_name : {x : Forest} {from to : ℕ} →
      HasAt tokens from kinds.Name →
      HasMark tokens (from + 1) marks.Comma →
      Spells tokens Names x (from + 2) to →
      Spells tokens Names (beside (one nodes.DeclName from (from + 1) leaf) x) from to
  --
  -- == FILES ==
  --
  -- Source file organization:
  -- SourceFile = PackageClause ";" { ImportDecl ";" } { TopLevelDecl ";" } .
  -- PackageClause = "package" PackageName .
  file : {x y : Forest} {from mid to : ℕ} →
      HasWord tokens from words.Package →
      HasAt tokens (from + 1) kinds.Name →
      Passes tokens is_semicolon (from + 2) →
      Spells tokens Imports x (from + 3) mid →
      Spells tokens Tops y mid to →
      Spells tokens File
      (one nodes.File from to (beside (one nodes.DeclName (from + 1) (from + 2) leaf) (beside x y))) from to
  no_import : {from : ℕ} → Spells tokens Imports leaf from from
  one_import : {x y : Forest} {from mid to : ℕ} →
      Spells tokens Import x from mid →
      Passes tokens is_semicolon mid →
      Spells tokens Imports y (mid + 1) to →
      Spells tokens Imports (beside x y) from to
  no_top : {from : ℕ} → Spells tokens Tops leaf from from
  one_top : {x y : Forest} {from mid to : ℕ} →
      Spells tokens Top x from mid →
      Passes tokens is_semicolon mid →
      Spells tokens Tops y (mid + 1) to →
      Spells tokens Tops (beside x y) from to
  --
  -- Import declarations:
  -- ImportDecl = "import" ( ImportSpec | "(" { ImportSpec ";" } ")" ) .
  import_one : {x : Forest} {from to : ℕ} →
      HasWord tokens from words.Import →
      Spells tokens Spec x (from + 1) to →
      Spells tokens Import (one nodes.Import from to x) from to
  import_group : {x : Forest} {from to : ℕ} →
      HasWord tokens from words.Import →
      HasMark tokens (from + 1) marks.OpenParen →
      Spells tokens Specs x (from + 2) to →
      HasMark tokens to marks.CloseParen →
      Spells tokens Import (one nodes.ImportGroup from (to + 1) x) from (to + 1)
  no_spec : {from : ℕ} → Spells tokens Specs leaf from from
  last_spec : {x : Forest} {from to : ℕ} →
      Spells tokens Spec x from to →
      HasMark tokens to marks.CloseParen →
      Spells tokens Specs x from to
  one_spec : {x y : Forest} {from mid to : ℕ} →
      Spells tokens Spec x from mid →
      Passes tokens is_semicolon mid →
      Spells tokens Specs y (mid + 1) to →
      Spells tokens Specs (beside x y) from to
  --
  -- Import declarations:
  -- ImportSpec = [ "." | PackageName ] ImportPath .
  -- ImportPath = string_lit .
  spec : {from : ℕ} →
      Passes tokens is_text from →
      Spells tokens Spec (one nodes.Spec from (from + 1) (one nodes.ImportPath from (from + 1) leaf)) from (from + 1)
  dot_spec : {from : ℕ} →
      HasMark tokens from marks.Dot →
      Passes tokens is_text (from + 1) →
      Spells tokens Spec (one nodes.DotSpec from (from + 2) (one nodes.ImportPath (from + 1) (from + 2) leaf)) from
      (from + 2)
  named_spec : {from : ℕ} →
      HasAt tokens from kinds.Name →
      Passes tokens is_text (from + 1) →
      Spells tokens Spec
      (one nodes.NamedSpec from (from + 2)
      (beside (one nodes.DeclName from (from + 1) leaf) (one nodes.ImportPath (from + 1) (from + 2) leaf))) from
      (from + 2)
  --
  -- Function declarations, Method declarations:
  -- TopLevelDecl = Declaration | FunctionDecl | MethodDecl .
  -- FunctionDecl = "func" FunctionName [ TypeParameters ] Signature [ FunctionBody ] .
  -- MethodDecl = "func" Receiver MethodName Signature [ FunctionBody ] .
  -- FunctionBody = Block .
  top_decl : {x : Forest} {from to : ℕ} →
      Spells tokens Decl x from to →
      Spells tokens Top x from to
  top_func : {x y z w : Forest} {from mid mid2 mid3 to : ℕ} →
      HasWord tokens from words.Func →
      Spells tokens MaybeReceiver x (from + 1) mid →
      HasAt tokens mid kinds.Name →
      Spells tokens MaybeTypeParams y (mid + 1) mid2 →
      Spells tokens Signature z mid2 mid3 →
      Spells tokens MaybeBody w mid3 to →
      Spells tokens Top
      (one nodes.FuncDecl from to
      (beside x (beside (one nodes.DeclName mid (mid + 1) leaf) (beside y (beside z w))))) from to
  no_receiver : {from : ℕ} → Spells tokens MaybeReceiver leaf from from
  a_receiver : {x : Forest} {from to : ℕ} →
      Spells tokens Receiver x from to →
      Spells tokens MaybeReceiver x from to
  no_type_params : {from : ℕ} → Spells tokens MaybeTypeParams leaf from from
  some_type_params : {x : Forest} {from to : ℕ} →
      Spells tokens TypeParams x from to →
      Spells tokens MaybeTypeParams x from to
  no_body : {from : ℕ} → Spells tokens MaybeBody leaf from from
  a_body : {x : Forest} {from to : ℕ} →
      Spells tokens Block x from to →
      Spells tokens MaybeBody x from to
  --
  -- Method declarations:
  -- Receiver = Parameters .
  -- One parameter, with a name or without.
  receiver_type : {x : Forest} {from mid to : ℕ} →
      HasMark tokens from marks.OpenParen →
      Spells tokens AnyType x (from + 1) mid →
      MaybeComma tokens mid to →
      HasMark tokens to marks.CloseParen →
      Spells tokens Receiver (one nodes.Params from (to + 1) (one nodes.Param (from + 1) mid x)) from (to + 1)
  receiver_named : {x : Forest} {from mid to : ℕ} →
      HasMark tokens from marks.OpenParen →
      HasAt tokens (from + 1) kinds.Name →
      Spells tokens AnyType x (from + 2) mid →
      MaybeComma tokens mid to →
      HasMark tokens to marks.CloseParen →
      Spells tokens Receiver
      (one nodes.NamedParams from (to + 1)
      (one nodes.NamedParam (from + 1) mid (beside (one nodes.DeclName (from + 1) (from + 2) leaf) x))) from (to + 1)
