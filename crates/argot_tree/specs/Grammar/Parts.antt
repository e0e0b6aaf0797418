-- The parts of the grammar: what a tree, or trees side by side, can be the spelling of.
--
-- Each has the name of its production in the Go specification, or says which it is. A name with `Maybe` is a part in
-- square brackets there; a plural is a part in braces, or in a list with commas between.
use Rattle.std.specs.Prelude.{ℕ, Bool}

-- what a declaration specifies
pub data Sort : Type 0 where
  Constant : Sort
  Variable : Sort
  TypeSort : Sort

pub data Part : Type 0 where
  -- files: SourceFile, ImportDecl, ImportSpec, TopLevelDecl
  File : Part
  Imports : Part
  Import : Part
  Specs : Part
  Spec : Part
  Tops : Part
  Top : Part
  Receiver : Part
  MaybeReceiver : Part
  MaybeTypeParams : Part
  MaybeBody : Part
  -- declarations: Declaration; ConstSpec, VarSpec or TypeSpec, by its sort
  Decl : Part
  Declared : Sort → Part
  DeclaredList : Sort → Part
  -- a type, and `=` with values, which may be left out
  MaybeTyped : Part
  MaybeValues : Part
  TypeParams : Part
  -- tokens with balanced brackets
  Balanced : Part
  -- IdentifierList
  Names : Part
  -- types: Signature; Parameters, and their entries without names or with them; the Bool says whether `...` may stand there
  Signature : Part
  Params : Bool → Part
  Types : Bool → Part
  NamedList : Bool → Part
  -- Type
  AnyType : Part
  -- a type that is no expression
  OnlyType : Part
  -- FieldDecl, and a TypeName
  Fields : Part
  Field : Part
  Embedded : Part
  MaybeTag : Part
  -- InterfaceElem
  Elements : Part
  Element : Part
  -- expressions: an Expression whose outermost operator binds at this level or tighter, UnaryExpr, PrimaryExpr, Operand and
  -- ExpressionList; the Bool says whether braces may stand behind a bare type name
  Level : ℕ → Bool → Part
  Unary : Bool → Part
  Primary : Bool → Part
  Operand : Bool → Part
  Exprs : Bool → Part
  -- an expression or a type
  Either : Part
  Eithers : Part
  -- LiteralValue, KeyedElement, and Element or Key
  Elems : Part
  Items : Part
  Item : Part
  Value : Part
  -- statements: Block, StatementList, Statement; SimpleStmt, with the Bool of its expressions
  Block : Part
  Stmts : Part
  Stmt : Part
  Simple : Bool → Part
  MaybeLabel : Part
  MaybeInit : Part
  If : Part
  MaybeElse : Part
  MaybeSwitched : Part
  TypeGuard : Part
  -- a clause of a `switch`, and CommClause
  Cases : Part
  Case : Part
  Comms : Part
  Comm : Part
  MaybeCondition : Part
  MaybePost : Part
