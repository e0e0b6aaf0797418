-- How files are read: imports, declarations at the top, receivers and type parameters.
use Rattle.std.specs.Prelude.{ℕ, ◌+◌, List, length, Bool, true, false, ◌&&◌, ◌||◌, Option, Some, None, if◌then◌else◌}
use Rattle.argot_tree.specs.declared.keyword.Keyword.TheVariants as words
use Rattle.argot_tree.specs.declared.mark.Mark.TheVariants as marks
use Rattle.argot_tree.specs.declared.node_kind.NodeKind.TheVariants as nodes
use Rattle.argot_tree.specs.declared.token.TokenKind.{TokenKind}
use Rattle.argot_tree.specs.declared.token.TokenKind.TheVariants as kinds
use Rattle.argot_tree.specs.declared.token.Token.{Token}
use Rattle.argot_tree.specs.TokensAt.{kind_at, is_semicolon, is_text, begins_type, is_no_bracket}
use Rattle.argot_tree.specs.Grammar.{Imports, Import, Specs, Spec, Tops, Top, Receiver, MaybeReceiver, TypeParams, MaybeTypeParams, Balanced, MaybeBody, Decl, Signature, AnyType, Block}
use Rattle.argot_parse_reader.specs.declared.post.Post.{Post}
use Rattle.argot_parse_reader.specs.Reading.{The, Answer, Reader, ◌>>=◌, closed, put, closing, is_at, is_word, is_mark, past, past_list}
use Rattle.argot_parse_reader.specs.StatementReader.{past_semicolon}

-- no token stands there
abbrev pub is_end : Option TokenKind → Bool
is_end None = true
is_end (Some kind) = false

-- behind the package clause, with its name
abbrev pub file_parts_by : Reader → ℕ → List Post → Answer
file_parts_by rec at out =
    (rec (The Imports) (at + 3) (put nodes.DeclName (at + 1) (at + 2) out) >>= λ r. rec (The Tops) r.0 r.1) >>= closing nodes.File at out

-- behind a function's name
abbrev pub func_parts_by : Reader → ℕ → List Post → Answer
func_parts_by rec at out =
    (rec (The MaybeTypeParams) at out >>= λ q. rec (The Signature) q.0 q.1) >>= λ q. rec (The MaybeBody) q.0 q.1

module _ (tokens : List Token) where
  abbrev pub file_by : Reader → ℕ → List Post → Answer
  file_by rec at out =
      if is_word tokens at words.Package && (is_at tokens (at + 1) kinds.Name && is_semicolon (kind_at tokens (at + 2)))
      then file_parts_by rec at out
      else None

  abbrev pub imports_by : Reader → ℕ → List Post → Answer
  imports_by rec at out =
      if is_word tokens at words.Import
      then ((rec (The Import) at out >>= past_semicolon tokens) >>= λ r. rec (The Imports) r.0 r.1)
      else Some (at, out)

  abbrev pub import_by : Reader → ℕ → List Post → Answer
  import_by rec at out =
      if is_word tokens at words.Import
      then (if is_mark tokens (at + 1) marks.OpenParen
      then (rec (The Specs) (at + 2) out >>= past tokens marks.CloseParen) >>= closing nodes.ImportGroup at out
      else (rec (The Spec) (at + 1) out >>= closing nodes.Import at out))
      else None

  abbrev pub specs_behind_by : Reader → ℕ × List Post → Answer
  specs_behind_by rec r =
      if is_semicolon (kind_at tokens r.0) then rec (The Specs) (r.0 + 1) r.1
      else (if is_mark tokens r.0 marks.CloseParen then Some r else None)

  abbrev pub specs_by : Reader → ℕ → List Post → Answer
  specs_by rec at out =
      if is_mark tokens at marks.CloseParen then Some (at, out) else (rec (The Spec) at out >>= specs_behind_by rec)

  -- a path with a point before it, and one with a name
  abbrev pub dot_spec_by : ℕ → List Post → Answer
  dot_spec_by at out =
      if is_text (kind_at tokens (at + 1))
      then Some (at + 2, closed nodes.DotSpec at (at + 2) (length out) (put nodes.ImportPath (at + 1) (at + 2) out))
      else None

  abbrev pub named_spec_by : ℕ → List Post → Answer
  named_spec_by at out =
      if is_text (kind_at tokens (at + 1))
      then Some (at + 2, closed nodes.NamedSpec at (at + 2) (length out) (put nodes.ImportPath (at + 1) (at + 2) (put nodes.DeclName at (at + 1) out)))
      else None

  abbrev pub spec_by : ℕ → List Post → Answer
  spec_by at out =
      if is_text (kind_at tokens at) then Some (at + 1, closed nodes.Spec at (at + 1) (length out) (put nodes.ImportPath at (at + 1) out))
      else (if is_mark tokens at marks.Dot then dot_spec_by at out
      else (if is_at tokens at kinds.Name then named_spec_by at out
      else None))

  abbrev pub tops_by : Reader → ℕ → List Post → Answer
  tops_by rec at out =
      if is_end (kind_at tokens at) then Some (at, out)
      else ((rec (The Top) at out >>= past_semicolon tokens) >>= λ r. rec (The Tops) r.0 r.1)

  -- a function from its name on, the keyword of which stands at a token
  abbrev pub func_by : Reader → ℕ → List Post → ℕ × List Post → Answer
  func_by rec at out r =
      if is_at tokens r.0 kinds.Name
      then func_parts_by rec (r.0 + 1) (put nodes.DeclName r.0 (r.0 + 1) r.1) >>= closing nodes.FuncDecl at out
      else None

  abbrev pub func_decl_by : Reader → ℕ → List Post → Answer
  func_decl_by rec at out = rec (The MaybeReceiver) (at + 1) out >>= func_by rec at out

  abbrev pub top_by : Reader → ℕ → List Post → Answer
  top_by rec at out = if is_word tokens at words.Func then func_decl_by rec at out else rec (The Decl) at out

  abbrev pub maybe_receiver_by : Reader → ℕ → List Post → Answer
  maybe_receiver_by rec at out = if is_mark tokens at marks.OpenParen then rec (The Receiver) at out else Some (at, out)

  abbrev pub named_receiver_by : Reader → ℕ → List Post → Answer
  named_receiver_by rec at out =
      ((rec (The AnyType) (at + 2) (put nodes.DeclName (at + 1) (at + 2) out) >>= closing nodes.NamedParam (at + 1) out) >>= past_list tokens marks.CloseParen) >>= closing nodes.NamedParams at out

  abbrev pub bare_receiver_by : Reader → ℕ → List Post → Answer
  bare_receiver_by rec at out =
      ((rec (The AnyType) (at + 1) out >>= closing nodes.Param (at + 1) out) >>= past_list tokens marks.CloseParen) >>= closing nodes.Params at out

  -- a receiver has a name exactly where a type begins behind its first token
  abbrev pub receiver_by : Reader → ℕ → List Post → Answer
  receiver_by rec at out =
      if is_mark tokens at marks.OpenParen
      then (if is_at tokens (at + 1) kinds.Name && begins_type (kind_at tokens (at + 2)) then named_receiver_by rec at out
      else bare_receiver_by rec at out)
      else None

  abbrev pub maybe_type_params_by : Reader → ℕ → List Post → Answer
  maybe_type_params_by rec at out = if is_mark tokens at marks.OpenBracket then rec (The TypeParams) at out else Some (at, out)

  abbrev pub type_params_by : Reader → ℕ → List Post → Answer
  type_params_by rec at out =
      if is_mark tokens at marks.OpenBracket && is_at tokens (at + 1) kinds.Name
      then (rec (The Balanced) (at + 2) out >>= past tokens marks.CloseBracket) >>= closing nodes.TypeParams at out
      else None

  -- what stands in brackets, and what goes on behind them
  abbrev pub in_brackets_by : Reader → ℕ → List Post → Answer
  in_brackets_by rec at out =
      if is_mark tokens at marks.OpenParen then rec (The Balanced) (at + 1) out >>= past tokens marks.CloseParen
      else (if is_mark tokens at marks.OpenBracket then rec (The Balanced) (at + 1) out >>= past tokens marks.CloseBracket
      else (if is_mark tokens at marks.OpenBrace then rec (The Balanced) (at + 1) out >>= past tokens marks.CloseBrace
      else None))

  abbrev pub opens_bracket : ℕ → Bool
  opens_bracket at = is_mark tokens at marks.OpenParen || (is_mark tokens at marks.OpenBracket || is_mark tokens at marks.OpenBrace)

  abbrev pub balanced_by : Reader → ℕ → List Post → Answer
  balanced_by rec at out =
      if is_no_bracket (kind_at tokens at) then rec (The Balanced) (at + 1) out
      else (if opens_bracket at then (in_brackets_by rec at out >>= λ r. rec (The Balanced) r.0 r.1)
      else Some (at, out))

  abbrev pub maybe_body_by : Reader → ℕ → List Post → Answer
  maybe_body_by rec at out = if is_mark tokens at marks.OpenBrace then rec (The Block) at out else Some (at, out)
