-- Reading of types, signatures and parameters, fields and elements of interfaces, one step each.
use Rattle.std.specs.Prelude.{ℕ, ◌+◌, List, length, Bool, true, false, ◌&&◌, ◌||◌, Some, None, Option, if◌then◌else◌}
use Rattle.argot_tree.specs.declared.keyword.Keyword.TheVariants as words
use Rattle.argot_tree.specs.declared.mark.Mark.TheVariants as marks
use Rattle.argot_tree.specs.declared.node_kind.NodeKind.TheVariants as nodes
use Rattle.argot_tree.specs.declared.token.TokenKind.{TokenKind}
use Rattle.argot_tree.specs.declared.token.TokenKind.TheVariants as kinds
use Rattle.argot_tree.specs.declared.token.Token.{Token}
use Rattle.argot_tree.specs.TokensAt.{kind_at, begins_type, is_text, is_semicolon}
use Rattle.argot_tree.specs.Grammar.{AnyType, OnlyType, Signature, Params, Types, NamedList, Fields, Field, Elements, Element, Names, Level}
use Rattle.argot_parse_reader.specs.declared.post.Post.{Post}
use Rattle.argot_parse_reader.specs.Reading.{The, Answer, Reader, ◌>>=◌, closed, put, closing, is_at, is_word, is_mark, is_kind, past, past_list, goes_on, names_then}

-- a type may begin here, or `...` stands here
abbrev pub begins_parameter : Option TokenKind → Bool
begins_parameter kind = begins_type kind || is_kind kind (kinds.Mark marks.Ellipsis)

module _ (tokens : List Token) where
  -- a name, a point and a name
  abbrev pub is_dotted : ℕ → Bool
  is_dotted at = is_mark tokens (at + 1) marks.Dot && is_at tokens (at + 2) kinds.Name

  -- the type that the name at a place is, and the name behind the point with it
  abbrev pub named_type_by : ℕ → List Post → Answer
  named_type_by at out =
      if is_dotted at then Some (at + 3, put nodes.QualifiedType at (at + 3) out)
      else Some (at + 1, put nodes.TypeName at (at + 1) out)

  abbrev pub embedded_by : ℕ → List Post → Answer
  embedded_by at out = if is_at tokens at kinds.Name then named_type_by at out else None

  abbrev pub tag_by : ℕ → List Post → Answer
  tag_by at out =
      if is_text (kind_at tokens at) then Some (at + 1, put nodes.Tag at (at + 1) out) else Some (at, out)

  module _ (rec : Reader) where
    abbrev pub type_parens_by : ℕ → List Post → Answer
    type_parens_by at out = (rec (The AnyType) (at + 1) out >>= past tokens marks.CloseParen) >>= closing nodes.TypeParens at out

    abbrev pub type_by : ℕ → List Post → Answer
    type_by at out =
        if is_at tokens at kinds.Name then named_type_by at out
        else (if is_mark tokens at marks.OpenParen then type_parens_by at out
        else (if is_mark tokens at marks.Star then (rec (The AnyType) (at + 1) out >>= closing nodes.PointerType at out)
        else rec (The OnlyType) at out))

    abbrev pub array_by : ℕ → List Post → Answer
    array_by at out =
        ((rec (The (Level 1 true)) (at + 1) out >>= past tokens marks.CloseBracket) >>= λ r. rec (The AnyType) r.0 r.1) >>= closing nodes.ArrayType at out

    abbrev pub bracketed_by : ℕ → List Post → Answer
    bracketed_by at out =
        if is_mark tokens (at + 1) marks.CloseBracket then (rec (The AnyType) (at + 2) out >>= closing nodes.SliceType at out)
        else array_by at out

    abbrev pub map_by : ℕ → List Post → Answer
    map_by at out =
        if is_mark tokens (at + 1) marks.OpenBracket
        then (((rec (The AnyType) (at + 2) out >>= past tokens marks.CloseBracket) >>= λ r. rec (The AnyType) r.0 r.1) >>= closing nodes.MapType at out)
        else None

    abbrev pub chan_by : ℕ → List Post → Answer
    chan_by at out =
        if is_mark tokens (at + 1) marks.Arrow then (rec (The AnyType) (at + 2) out >>= closing nodes.SendType at out)
        else rec (The AnyType) (at + 1) out >>= closing nodes.ChanType at out

    abbrev pub receive_by : ℕ → List Post → Answer
    receive_by at out =
        if is_word tokens (at + 1) words.Chan then (rec (The AnyType) (at + 2) out >>= closing nodes.ReceiveType at out) else None

    abbrev pub struct_by : ℕ → List Post → Answer
    struct_by at out =
        if is_mark tokens (at + 1) marks.OpenBrace
        then ((rec (The Fields) (at + 2) out >>= past tokens marks.CloseBrace) >>= closing nodes.StructType at out)
        else None

    abbrev pub interface_by : ℕ → List Post → Answer
    interface_by at out =
        if is_mark tokens (at + 1) marks.OpenBrace
        then ((rec (The Elements) (at + 2) out >>= past tokens marks.CloseBrace) >>= closing nodes.InterfaceType at out)
        else None

    abbrev pub func_type_by : ℕ → List Post → Answer
    func_type_by at out = rec (The Signature) (at + 1) out >>= closing nodes.FuncType at out

    -- a type that is no expression and no pointer
    abbrev pub formed_by : ℕ → List Post → Answer
    formed_by at out =
        if is_mark tokens at marks.OpenBracket then bracketed_by at out
        else (if is_word tokens at words.Map then map_by at out
        else (if is_word tokens at words.Chan then chan_by at out
        else (if is_mark tokens at marks.Arrow then receive_by at out
        else (if is_word tokens at words.Func then func_type_by at out
        else (if is_word tokens at words.Struct then struct_by at out
        else (if is_word tokens at words.Interface then interface_by at out
        else None))))))

    -- the result behind parameters, wherever one can begin
    abbrev pub result_by : ℕ × List Post → Answer
    result_by r =
        if is_mark tokens r.0 marks.OpenParen then rec (The (Params false)) r.0 r.1
        else (if begins_type (kind_at tokens r.0) then rec (The AnyType) r.0 r.1
        else Some r)

    abbrev pub signature_by : ℕ → List Post → Answer
    signature_by at out = (rec (The (Params true)) at out >>= result_by) >>= closing nodes.Signature at out

    -- parameters have names where a type or `...` stands behind the names at the front
    abbrev pub listed_by : Bool → ℕ → List Post → Answer
    listed_by dots at out =
        if names_then tokens begins_parameter (at + 1)
        then ((rec (The (NamedList dots)) (at + 1) out >>= past_list tokens marks.CloseParen) >>= closing nodes.NamedParams at out)
        else ((rec (The (Types dots)) (at + 1) out >>= past_list tokens marks.CloseParen) >>= closing nodes.Params at out)

    abbrev pub params_by : Bool → ℕ → List Post → Answer
    params_by dots at out =
        if is_mark tokens at marks.OpenParen
        then (if is_mark tokens (at + 1) marks.CloseParen then Some (at + 2, put nodes.Params at (at + 2) out) else listed_by dots at out)
        else None

    -- the entry of a list is read, and there may be more of them
    abbrev pub more_types_by : Bool → ℕ × List Post → Answer
    more_types_by dots r =
        if goes_on tokens marks.CloseParen r.0 then rec (The (Types dots)) (r.0 + 1) r.1 else Some r

    abbrev pub types_by : Bool → ℕ → List Post → Answer
    types_by dots at out =
        if dots && is_mark tokens at marks.Ellipsis then (rec (The AnyType) (at + 1) out >>= closing nodes.VariadicParam at out)
        else ((rec (The AnyType) at out >>= closing nodes.Param at out) >>= more_types_by dots)

    abbrev pub more_named_by : Bool → ℕ × List Post → Answer
    more_named_by dots r =
        if goes_on tokens marks.CloseParen r.0 then rec (The (NamedList dots)) (r.0 + 1) r.1 else Some r

    -- a name, and the entry that it begins
    abbrev pub named_entry_by : Bool → ℕ → List Post → List Post → Answer
    named_entry_by dots at out named =
        if is_mark tokens (at + 1) marks.Comma
        then rec (The (NamedList dots)) (at + 2) (closed nodes.LoneParam at (at + 1) (length out) named)
        else (if dots && is_mark tokens (at + 1) marks.Ellipsis then (rec (The AnyType) (at + 2) named >>= closing nodes.NamedVariadic at out)
        else ((rec (The AnyType) (at + 1) named >>= closing nodes.NamedParam at out) >>= more_named_by dots))

    abbrev pub named_list_by : Bool → ℕ → List Post → Answer
    named_list_by dots at out =
        if is_at tokens at kinds.Name then named_entry_by dots at out (put nodes.DeclName at (at + 1) out) else None

    -- names with commas between
    abbrev pub names_by : ℕ → List Post → Answer
    names_by at out =
        if is_at tokens at kinds.Name
        then (if is_mark tokens (at + 1) marks.Comma && is_at tokens (at + 2) kinds.Name
        then rec (The Names) (at + 2) (put nodes.DeclName at (at + 1) out)
        else Some (at + 1, put nodes.DeclName at (at + 1) out))
        else None

    abbrev pub named_field_by : ℕ → List Post → Answer
    named_field_by at out =
        (((rec (The Names) at out >>= closing nodes.Names at out) >>= λ r. rec (The AnyType) r.0 r.1) >>= λ r. tag_by r.0 r.1) >>= closing nodes.Field at out

    abbrev pub field_by : ℕ → List Post → Answer
    field_by at out =
        if names_then tokens begins_type at then named_field_by at out
        else (if is_mark tokens at marks.Star
        then ((embedded_by (at + 1) out >>= λ r. tag_by r.0 r.1) >>= closing nodes.EmbeddedPointer at out)
        else ((embedded_by at out >>= λ r. tag_by r.0 r.1) >>= closing nodes.EmbeddedField at out))

    abbrev pub fields_by : ℕ → List Post → Answer
    fields_by at out =
        if is_mark tokens at marks.CloseBrace then Some (at, out)
        else rec (The Field) at out >>= λ r. (if is_semicolon (kind_at tokens r.0) then rec (The Fields) (r.0 + 1) r.1
        else (if is_mark tokens r.0 marks.CloseBrace then Some r else None))

    abbrev pub element_by : ℕ → List Post → Answer
    element_by at out =
        if is_at tokens at kinds.Name && is_mark tokens (at + 1) marks.OpenParen
        then (rec (The Signature) (at + 1) (put nodes.DeclName at (at + 1) out) >>= closing nodes.Method at out)
        else embedded_by at out >>= closing nodes.EmbeddedType at out

    abbrev pub elements_by : ℕ → List Post → Answer
    elements_by at out =
        if is_mark tokens at marks.CloseBrace then Some (at, out)
        else rec (The Element) at out >>= λ r. (if is_semicolon (kind_at tokens r.0) then rec (The Elements) (r.0 + 1) r.1
        else (if is_mark tokens r.0 marks.CloseBrace then Some r else None))
