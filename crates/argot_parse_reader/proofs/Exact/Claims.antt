-- What is claimed of each part that is spelled: reading gives it whole where nothing behind it goes on with it, or comes to
-- the loop behind it.
use Rattle.std.proofs.Common.{◌≡◌, ℕ, ◌+◌, ◌≤◌, List, ◌++◌, length, Bool, true, false, Option, Some}
use Rattle.std.specs.Prelude.{reverse, ◌⊎◌}
use Rattle.argot_tree.specs.declared.keyword.Keyword.TheVariants as words
use Rattle.argot_tree.specs.declared.mark.Mark.TheVariants as marks
use Rattle.argot_tree.specs.declared.node_kind.NodeKind.TheVariants as nodes
use Rattle.argot_tree.specs.declared.token.TokenKind.{TokenKind}
use Rattle.argot_tree.specs.declared.token.TokenKind.TheVariants as kinds
use Rattle.argot_tree.specs.declared.token.Token.{Token}
use Rattle.argot_tree.specs.Forests.{Forest, leaf, beside, one}
use Rattle.argot_tree.specs.TokensAt.{level_at, HasAt, HasWord, HasMark, Passes, Fails, is_semicolon, is_star}
use Rattle.argot_tree.specs.Grammar.{Part, Spells, File, Imports, Import, Specs, Spec, Tops, Top, Receiver, MaybeReceiver, MaybeTypeParams, MaybeBody, Decl, Declared, DeclaredList, MaybeTyped, MaybeValues, TypeParams, Balanced, Names, Signature, Params, Types, NamedList, AnyType, OnlyType, Fields, Field, Embedded, MaybeTag, Elements, Element, Level, Unary, Primary, Operand, Exprs, Either, Eithers, Elems, Items, Item, Value, Block, Stmts, Stmt, Simple, MaybeLabel, MaybeInit, If, MaybeElse, MaybeSwitched, TypeGuard, Cases, Case, Comms, Comm, MaybeCondition, MaybePost}
use Rattle.argot_parse_reader.specs.declared.post.Post.{Post}
use Rattle.argot_parse_reader.specs.Posts.{posts}
use Rattle.argot_parse_reader.specs.Rooms.{room}
use Rattle.argot_parse_reader.specs.Reading.{Task, The, UnaryOr, PrimaryOr, OperandOr, Climb, Suffixes, MoreExprs, Ifs, Labels, ◌>>=◌, ending, closed_all, is_mark, goes_on}
use Rattle.argot_parse_reader.specs.TypeReader.{is_dotted, named_type_by, tag_by}
use Rattle.argot_parse_reader.specs.ExpressionReader.{typed, recast}
use Rattle.argot_parse_reader.specs.StatementReader.{ends_stmt, ends_stmts, guards, more_by, opening_by, else_by}
use Rattle.argot_parse_reader.specs.FileReader.{is_end}
use Rattle.argot_parse_reader.specs.Reader.{read}
use Rattle.argot_parse_reader.proofs.Exact.Tokens.{Not, EndsList, stops, ends_simple, ends_spec}

-- what ends an item of a composite literal
abbrev pub ends_item : Option TokenKind → Bool
ends_item (Some (kinds.Mark marks.Comma)) = true
ends_item (Some (kinds.Mark marks.CloseBrace)) = true
ends_item _ = false

-- what ends tokens with balanced brackets
abbrev pub closes : Option TokenKind → Bool
closes (Some (kinds.Mark marks.CloseParen)) = true
closes (Some (kinds.Mark marks.CloseBracket)) = true
closes (Some (kinds.Mark marks.CloseBrace)) = true
closes _ = false

module _ (tokens : List Token) where
  -- the part's nodes are put behind the others
  abbrev pub Gets : ℕ → Task → ℕ → List Post → Forest → ℕ → Type 0
  Gets n task from out x to = read tokens n task from out ≡ Some (to, out ++ posts x)

  -- no braces go on with a type's bare name, where they may
  pub record NoBrace (bare : Bool) (to : ℕ) : Type 0 where
    pub here : bare ≡ true → is_mark tokens to marks.OpenBrace ≡ false
    pub dotted : (at : ℕ) → bare ≡ true → to ≡ at + 1 → is_dotted tokens at ≡ true → is_mark tokens (at + 3) marks.OpenBrace ≡ false

  -- nothing goes on with an operand
  pub record Stays (to : ℕ) : Type 0 where
    pub stay : (n from mark : ℕ) (out : List Post) → read tokens n (Suffixes from mark) to out ≡ Some (to, out)

  -- nor with an expression
  pub record After (bare : Bool) (to : ℕ) : Type 0 where
    pub level : level_at tokens to ≡ 0
    pub stays : Stays to
    pub brace : NoBrace bare to

  -- reading comes behind an expression of a level, and may go on there
  pub record Climbs (types bare : Bool) (k n : ℕ) (out : List Post) (x : Forest) (from to : ℕ) : Type 0 where
    pub first : ℕ × List Post
    pub reads : read tokens n (UnaryOr types bare) from out ≡ Some first
    pub untyped : typed first.1 ≡ false
    pub steps : ℕ
    pub limit : ℕ
    pub enough : room tokens to 0 ≤ steps
    pub high : level_at tokens to ≤ limit
    pub comes : read tokens n (Climb k 9 bare from (length out)) first.0 first.1 ≡ read tokens steps (Climb k limit bare from (length out)) to (out ++ posts x)

  abbrev pub OfLevel : ℕ → Bool → Forest → ℕ → ℕ → Type 0
  OfLevel j bare x from to =
      (types : Bool) (k n : ℕ) (out : List Post) → k ≤ j → room tokens from 4 ≤ n → level_at tokens to ≤ j → Stays to → NoBrace bare to → Climbs types bare k n out x from to

  -- reading comes behind an operand with what goes on behind it, and may go on there
  pub record Comes (types bare : Bool) (n : ℕ) (out : List Post) (x : Forest) (from to : ℕ) : Type 0 where
    pub steps : ℕ
    pub enough : room tokens to 0 ≤ steps
    pub comes : read tokens n (PrimaryOr types bare) from out ≡ read tokens steps (Suffixes from (length out)) to (out ++ posts x)

  abbrev pub OfPrimary : Bool → Forest → ℕ → ℕ → Type 0
  OfPrimary bare x from to =
      (types : Bool) (n : ℕ) (out : List Post) → room tokens from 3 ≤ n → NoBrace bare to → Comes types bare n out x from to

  -- the same of what ends in a bracket or a literal, whatever stands behind it
  abbrev pub WholeOperand : Bool → Forest → ℕ → ℕ → Type 0
  WholeOperand bare x from to = (types : Bool) (n : ℕ) (out : List Post) → room tokens from 2 ≤ n → Gets n (OperandOr types bare) from out x to

  abbrev pub WholePrimary : Bool → Forest → ℕ → ℕ → Type 0
  WholePrimary bare x from to = (types : Bool) (n : ℕ) (out : List Post) → room tokens from 3 ≤ n → Comes types bare n out x from to

  -- expressions: the first of them, and the others behind it
  pub record Lists (bare : Bool) (n : ℕ) (out : List Post) (x : Forest) (from to : ℕ) : Type 0 where
    pub first : ℕ × List Post
    pub reads : read tokens n (The (Level 1 bare)) from out ≡ Some first
    pub then : (first.0 ≡ to) ⊎ HasMark tokens first.0 marks.Comma
    pub loops : read tokens n (MoreExprs bare) first.0 first.1 ≡ Some (to, out ++ posts x)
    pub goes : more_by tokens (read tokens n) bare first ≡ Some (to, out ++ posts x)

  abbrev pub OfExprs : Bool → Forest → ℕ → ℕ → Type 0
  OfExprs bare x from to =
      (n : ℕ) (out : List Post) → room tokens from 5 ≤ n → After bare to → Not tokens to (kinds.Mark marks.Comma) → Lists bare n out x from to

  -- a type before which an arrow stands is read from its `chan` on, and recast
  pub record Recasts (n : ℕ) (out : List Post) (x : Forest) (from to : ℕ) : Type 0 where
    pub channel : HasWord tokens (from + 1) words.Chan
    pub new : List Post
    pub reads : read tokens n (The OnlyType) (from + 1) out ≡ Some (to, out ++ new)
    pub is_typed : typed (out ++ new) ≡ true
    pub recasts : recast (reverse new) ≡ Some (reverse (posts x))
    pub long : length new ≡ length (posts x)

  abbrev pub OfArrow : Forest → ℕ → ℕ → Type 0
  OfArrow x from to =
      (n : ℕ) (out : List Post) → HasMark tokens from marks.Arrow → room tokens (from + 1) 1 ≤ n → Not tokens to (kinds.Mark marks.Dot) → Recasts n out x from to

  pub record OfOnlyType (x : Forest) (from to : ℕ) : Type 0 where
    pub alone : (n : ℕ) (out : List Post) → room tokens from 1 ≤ n → Not tokens to (kinds.Mark marks.Dot) → Fails tokens is_star from → Gets n (The OnlyType) from out x to
    pub among : (n : ℕ) (out : List Post) → room tokens from 4 ≤ n → Passes tokens stops to → Gets n (UnaryOr true true) from out x to
    pub arrow : OfArrow x from to

  pub record OfType (x : Forest) (from to : ℕ) : Type 0 where
    pub gets : (n : ℕ) (out : List Post) → room tokens from 2 ≤ n → Not tokens to (kinds.Mark marks.Dot) → Gets n (The AnyType) from out x to
    pub arrow : OfArrow x from to

  pub record OfEmbedded (x : Forest) (from to : ℕ) : Type 0 where
    pub name : HasAt tokens from kinds.Name
    pub gets : (out : List Post) → Not tokens to (kinds.Mark marks.Dot) → named_type_by tokens from out ≡ Some (to, out ++ posts x)

  pub record OfStmt (x : Forest) (from to : ℕ) : Type 0 where
    pub gets : (n : ℕ) (out : List Post) → room tokens from 7 ≤ n → Passes tokens ends_stmt to → Gets n (The Stmt) from out x to
    pub labelled : (begun : List (ℕ × ℕ)) (n : ℕ) (out : List Post) → room tokens from 8 ≤ n → Passes tokens ends_stmt to → read tokens n (Labels begun) from out ≡ Some (to, closed_all nodes.Labeled begun to (out ++ posts x))

  -- a definition of one name: behind its names stands the first expression, and the others with the nodes around them
  pub record Defines (n : ℕ) (out : List Post) (x : Forest) (from to : ℕ) : Type 0 where
    pub first : ℕ × List Post
    pub reads : read tokens n (The (Level 1 false)) (from + 2) (out ++ posts (one nodes.Names from (from + 1) (one nodes.DeclName from (from + 1) leaf))) ≡ Some first
    pub unguarded : guards tokens first.0 ≡ false
    pub goes : ((more_by tokens (read tokens n) false first >>= ending nodes.Exprs (from + 2) (length out + 2)) >>= ending nodes.Define from (length out)) ≡ Some (to, out ++ posts x)

  pub record OfSimple (bare : Bool) (x : Forest) (from to : ℕ) : Type 0 where
    pub gets : (n : ℕ) (out : List Post) → room tokens from 6 ≤ n → Passes tokens (ends_simple bare) to → Gets n (The (Simple bare)) from out x to
    pub opens : (n : ℕ) (out : List Post) → bare ≡ false → room tokens from 6 ≤ n → Passes tokens is_semicolon to → opening_by tokens (read tokens n) from out ≡ Some (to, out ++ posts x)
    pub defines : (n : ℕ) (out : List Post) → bare ≡ false → HasAt tokens from kinds.Name → HasMark tokens (from + 1) marks.Define → room tokens from 6 ≤ n → Passes tokens is_semicolon to → Defines n out x from to

  -- what stands before a semicolon in a head
  pub data OfInit : Forest → ℕ → ℕ → Type 0 where
    no_statement : {from : ℕ} → OfInit leaf from from
    empty_statement : {from : ℕ} → Passes tokens is_semicolon from → OfInit (one nodes.Init from from (one nodes.Empty from from leaf)) from (from + 1)
    a_statement : {x : Forest} {from to : ℕ} → Spells tokens (Simple false) x from to → OfSimple false x from to → Passes tokens is_semicolon to → OfInit (one nodes.Init from to x) from (to + 1)

  -- an expression that may be left out
  pub data OfMaybe : Forest → ℕ → ℕ → Type 0 where
    no_expression : {from : ℕ} → OfMaybe leaf from from
    an_expression : {x : Forest} {from to : ℕ} → Spells tokens (Level 1 false) x from to → OfLevel 1 false x from to → OfMaybe x from to

  -- what a `switch` over types asks for
  pub data OfGuard : Forest → ℕ → ℕ → Type 0 where
    guarded : {x : Forest} {from to : ℕ} → Spells tokens (Primary false) x from to → OfPrimary false x from to → HasMark tokens to marks.Dot → HasMark tokens (to + 1) marks.OpenParen → HasWord tokens (to + 2) words.TypeWord → HasMark tokens (to + 3) marks.CloseParen → OfGuard (one nodes.Guard from (to + 4) x) from (to + 4)
    named_guarded : {x : Forest} {from to : ℕ} → HasAt tokens from kinds.Name → HasMark tokens (from + 1) marks.Define → Spells tokens (Primary false) x (from + 2) to → OfPrimary false x (from + 2) to → HasMark tokens to marks.Dot → HasMark tokens (to + 1) marks.OpenParen → HasWord tokens (to + 2) words.TypeWord → HasMark tokens (to + 3) marks.CloseParen → OfGuard (one nodes.NamedGuard from (to + 4) (beside (one nodes.DeclName from (from + 1) leaf) (one nodes.Guard (from + 2) (to + 4) x))) from (to + 4)

  abbrev pub Exact : Part → Forest → ℕ → ℕ → Type 0
  Exact File x from to = (n : ℕ) (out : List Post) → room tokens from 1 ≤ n → Passes tokens is_end to → Gets n (The File) from out x to
  Exact Imports x from to = (n : ℕ) (out : List Post) → room tokens from 2 ≤ n → Not tokens to (kinds.Word words.Import) → Gets n (The Imports) from out x to
  Exact Import x from to = (n : ℕ) (out : List Post) → room tokens from 1 ≤ n → Gets n (The Import) from out x to
  Exact Specs x from to = (n : ℕ) (out : List Post) → room tokens from 2 ≤ n → HasMark tokens to marks.CloseParen → Gets n (The Specs) from out x to
  Exact Spec x from to = (n : ℕ) (out : List Post) → room tokens from 1 ≤ n → Gets n (The Spec) from out x to
  Exact Tops x from to = (n : ℕ) (out : List Post) → room tokens from 3 ≤ n → Passes tokens is_end to → Gets n (The Tops) from out x to
  Exact Top x from to = (n : ℕ) (out : List Post) → room tokens from 2 ≤ n → Passes tokens is_semicolon to → Gets n (The Top) from out x to
  Exact Receiver x from to = (n : ℕ) (out : List Post) → room tokens from 1 ≤ n → Gets n (The Receiver) from out x to
  Exact MaybeReceiver x from to = (n : ℕ) (out : List Post) → room tokens from 2 ≤ n → HasAt tokens to kinds.Name → Gets n (The MaybeReceiver) from out x to
  Exact MaybeTypeParams x from to = (n : ℕ) (out : List Post) → room tokens from 2 ≤ n → HasMark tokens to marks.OpenParen → Gets n (The MaybeTypeParams) from out x to
  Exact MaybeBody x from to = (n : ℕ) (out : List Post) → room tokens from 2 ≤ n → Passes tokens is_semicolon to → Gets n (The MaybeBody) from out x to
  Exact Decl x from to = (n : ℕ) (out : List Post) → room tokens from 1 ≤ n → Passes tokens ends_spec to → Gets n (The Decl) from out x to
  Exact (Declared sort) x from to = (n : ℕ) (out : List Post) → room tokens from 2 ≤ n → Passes tokens ends_spec to → Gets n (The (Declared sort)) from out x to
  Exact (DeclaredList sort) x from to = (n : ℕ) (out : List Post) → room tokens from 3 ≤ n → HasMark tokens to marks.CloseParen → Gets n (The (DeclaredList sort)) from out x to
  Exact MaybeTyped x from to = (n : ℕ) (out : List Post) → room tokens from 3 ≤ n → HasMark tokens to marks.Assign → Gets n (The MaybeTyped) from out x to
  Exact MaybeValues x from to = (n : ℕ) (out : List Post) → room tokens from 1 ≤ n → Passes tokens ends_spec to → Gets n (The MaybeValues) from out x to
  Exact TypeParams x from to = (n : ℕ) (out : List Post) → room tokens from 1 ≤ n → Gets n (The TypeParams) from out x to
  Exact Balanced x from to = (n : ℕ) (out : List Post) → room tokens from 1 ≤ n → Passes tokens closes to → read tokens n (The Balanced) from out ≡ Some (to, out)
  Exact Names x from to = (n : ℕ) (out : List Post) → room tokens from 1 ≤ n → Not tokens to (kinds.Mark marks.Comma) → Gets n (The Names) from out x to
  Exact Signature x from to = (n : ℕ) (out : List Post) → room tokens from 2 ≤ n → Not tokens to (kinds.Mark marks.Dot) → Gets n (The Signature) from out x to
  Exact (Params dots) x from to = (n : ℕ) (out : List Post) → room tokens from 1 ≤ n → Gets n (The (Params dots)) from out x to
  Exact (Types dots) x from to = (n : ℕ) (out : List Post) → room tokens from 3 ≤ n → EndsList tokens marks.CloseParen to → Gets n (The (Types dots)) from out x to
  Exact (NamedList dots) x from to = (n : ℕ) (out : List Post) → room tokens from 1 ≤ n → EndsList tokens marks.CloseParen to → Gets n (The (NamedList dots)) from out x to
  Exact AnyType x from to = OfType x from to
  Exact OnlyType x from to = OfOnlyType x from to
  Exact Fields x from to = (n : ℕ) (out : List Post) → room tokens from 3 ≤ n → HasMark tokens to marks.CloseBrace → Gets n (The Fields) from out x to
  Exact Field x from to = (n : ℕ) (out : List Post) → room tokens from 2 ≤ n → Passes tokens ends_stmt to → Gets n (The Field) from out x to
  Exact Embedded x from to = OfEmbedded x from to
  Exact MaybeTag x from to = (out : List Post) → Passes tokens ends_stmt to → tag_by tokens from out ≡ Some (to, out ++ posts x)
  Exact Elements x from to = (n : ℕ) (out : List Post) → room tokens from 3 ≤ n → HasMark tokens to marks.CloseBrace → Gets n (The Elements) from out x to
  Exact Element x from to = (n : ℕ) (out : List Post) → room tokens from 2 ≤ n → Passes tokens ends_stmt to → Gets n (The Element) from out x to
  Exact (Level j bare) x from to = OfLevel j bare x from to
  Exact (Unary bare) x from to = (types : Bool) (n : ℕ) (out : List Post) → room tokens from 4 ≤ n → Stays to → NoBrace bare to → Gets n (UnaryOr types bare) from out x to
  Exact (Primary bare) x from to = OfPrimary bare x from to
  Exact (Operand bare) x from to = (types : Bool) (n : ℕ) (out : List Post) → room tokens from 2 ≤ n → NoBrace bare to → Gets n (OperandOr types bare) from out x to
  Exact (Exprs bare) x from to = OfExprs bare x from to
  Exact Either x from to = (n : ℕ) (out : List Post) → room tokens from 5 ≤ n → Passes tokens stops to → Gets n (The Either) from out x to
  Exact Eithers x from to = (n : ℕ) (out : List Post) → room tokens from 6 ≤ n → Passes tokens stops to → goes_on tokens marks.CloseParen to ≡ false → Gets n (The Eithers) from out x to
  Exact Elems x from to = (n : ℕ) (out : List Post) → room tokens from 1 ≤ n → Gets n (The Elems) from out x to
  Exact Items x from to = (n : ℕ) (out : List Post) → room tokens from 8 ≤ n → EndsList tokens marks.CloseBrace to → Gets n (The Items) from out x to
  Exact Item x from to = (n : ℕ) (out : List Post) → room tokens from 7 ≤ n → Passes tokens ends_item to → Gets n (The Item) from out x to
  Exact Value x from to = (n : ℕ) (out : List Post) → room tokens from 6 ≤ n → Passes tokens stops to → Gets n (The Value) from out x to
  Exact Block x from to = (n : ℕ) (out : List Post) → room tokens from 1 ≤ n → Gets n (The Block) from out x to
  Exact Stmts x from to = (n : ℕ) (out : List Post) → room tokens from 8 ≤ n → Passes tokens ends_stmts to → Gets n (The Stmts) from out x to
  Exact Stmt x from to = OfStmt x from to
  Exact (Simple bare) x from to = OfSimple bare x from to
  Exact MaybeLabel x from to = (n : ℕ) (out : List Post) → room tokens from 1 ≤ n → Passes tokens ends_stmt to → Gets n (The MaybeLabel) from out x to
  Exact MaybeInit x from to = OfInit x from to
  Exact If x from to = (begun : List (ℕ × ℕ)) (n : ℕ) (out : List Post) → room tokens from 1 ≤ n → Passes tokens ends_stmt to → read tokens n (Ifs begun) from out ≡ Some (to, closed_all nodes.If begun to (out ++ posts x))
  Exact MaybeElse x from to = (begun : List (ℕ × ℕ)) (n : ℕ) (out : List Post) → room tokens from 0 ≤ n → Passes tokens ends_stmt to → else_by tokens (read tokens n) begun (from, out) ≡ Some (to, closed_all nodes.If begun to (out ++ posts x))
  Exact MaybeSwitched x from to = OfMaybe x from to
  Exact TypeGuard x from to = OfGuard x from to
  Exact Cases x from to = (n : ℕ) (out : List Post) → room tokens from 2 ≤ n → HasMark tokens to marks.CloseBrace → Gets n (The Cases) from out x to
  Exact Case x from to = (n : ℕ) (out : List Post) → room tokens from 1 ≤ n → Passes tokens ends_stmts to → Gets n (The Case) from out x to
  Exact Comms x from to = (n : ℕ) (out : List Post) → room tokens from 2 ≤ n → HasMark tokens to marks.CloseBrace → Gets n (The Comms) from out x to
  Exact Comm x from to = (n : ℕ) (out : List Post) → room tokens from 1 ≤ n → Passes tokens ends_stmts to → Gets n (The Comm) from out x to
  Exact MaybeCondition x from to = OfMaybe x from to
  Exact MaybePost x from to = (n : ℕ) (out : List Post) → room tokens from 7 ≤ n → HasMark tokens to marks.OpenBrace → Gets n (The MaybePost) from out x to
