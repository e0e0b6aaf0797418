-- How declarations are read: the tokens behind the declared names tell which kind of specification it is.
use Rattle.std.specs.Prelude.{ℕ, ◌+◌, List, Bool, true, ◌&&◌, Some, None, if◌then◌else◌}
use Rattle.argot_tree.specs.declared.keyword.Keyword.TheVariants as words
use Rattle.argot_tree.specs.declared.mark.Mark.TheVariants as marks
use Rattle.argot_tree.specs.declared.node_kind.NodeKind.{NodeKind}
use Rattle.argot_tree.specs.declared.node_kind.NodeKind.TheVariants as nodes
use Rattle.argot_tree.specs.declared.token.TokenKind.TheVariants as kinds
use Rattle.argot_tree.specs.declared.token.Token.{Token}
use Rattle.argot_tree.specs.TokensAt.{kind_at, is_semicolon, begins_type, follows_parameter}
use Rattle.argot_tree.specs.Grammar.{Sort, Constant, Variable, TypeSort, AnyType, Exprs, Names, Declared, DeclaredList, MaybeTyped, MaybeValues, TypeParams}
use Rattle.argot_parse_reader.specs.declared.post.Post.{Post}
use Rattle.argot_parse_reader.specs.Reading.{The, Answer, Reader, ◌>>=◌, try_on, put, closing, is_at, is_word, is_mark, past}

-- the nodes of a group and of a lone declaration
abbrev pub group_kind : Sort → NodeKind
group_kind Constant = nodes.ConstGroup
group_kind Variable = nodes.VarGroup
group_kind TypeSort = nodes.TypeGroup

abbrev pub decl_kind : Sort → NodeKind
decl_kind Constant = nodes.ConstDecl
decl_kind Variable = nodes.VarDecl
decl_kind TypeSort = nodes.TypeDecl

module _ (tokens : List Token) where
  -- `=` and values
  abbrev pub values_by : Reader → ℕ × List Post → Answer
  values_by rec r =
      if is_mark tokens r.0 marks.Assign then rec (The (Exprs true)) (r.0 + 1) r.1 >>= closing nodes.Exprs (r.0 + 1) r.1 else None

  abbrev pub maybe_values_by : Reader → ℕ → List Post → Answer
  maybe_values_by rec at out = try_on (values_by rec (at, out)) (λ r. Some r) (Some (at, out))

  abbrev pub maybe_typed_by : Reader → ℕ → List Post → Answer
  maybe_typed_by rec at out = if begins_type (kind_at tokens at) then rec (The AnyType) at out else Some (at, out)

  abbrev pub typed_values_by : Reader → ℕ × List Post → Answer
  typed_values_by rec r = rec (The MaybeTyped) r.0 r.1 >>= values_by rec

  -- what stands behind the names of constants and of variables, whose specification begins at a token
  abbrev pub constants_by : Reader → ℕ → List Post → ℕ × List Post → Answer
  constants_by rec at out r =
      try_on (typed_values_by rec r) (closing nodes.ConstSpec at out) (closing nodes.ConstSpec at out r)

  abbrev pub variables_by : Reader → ℕ → List Post → ℕ × List Post → Answer
  variables_by rec at out r =
      if is_mark tokens r.0 marks.Assign then values_by rec r >>= closing nodes.VarSpec at out
      else ((rec (The AnyType) r.0 r.1 >>= λ q. rec (The MaybeValues) q.0 q.1) >>= closing nodes.VarSpec at out)

  -- a declared type behind its name and its parameters
  abbrev pub named_type_by : Reader → ℕ → List Post → ℕ × List Post → Answer
  named_type_by rec at out r =
      if is_mark tokens r.0 marks.Assign then rec (The AnyType) (r.0 + 1) r.1 >>= closing nodes.AliasSpec at out
      else (rec (The AnyType) r.0 r.1 >>= closing nodes.TypeSpec at out)

  -- type parameters stand behind a declared type's name
  abbrev pub is_generic : ℕ → Bool
  is_generic at =
      is_mark tokens (at + 1) marks.OpenBracket && (is_at tokens (at + 2) kinds.Name && follows_parameter (kind_at tokens (at + 3)))

  abbrev pub type_by : Reader → ℕ → List Post → Answer
  type_by rec at out =
      if is_at tokens at kinds.Name
      then (if is_generic at then rec (The TypeParams) (at + 1) (put nodes.DeclName at (at + 1) out) >>= named_type_by rec at out
      else named_type_by rec at out (at + 1, put nodes.DeclName at (at + 1) out))
      else None

  abbrev pub declared_by : Reader → Sort → ℕ → List Post → Answer
  declared_by rec Constant at out = (rec (The Names) at out >>= closing nodes.Names at out) >>= constants_by rec at out
  declared_by rec Variable at out = (rec (The Names) at out >>= closing nodes.Names at out) >>= variables_by rec at out
  declared_by rec TypeSort at out = type_by rec at out

  abbrev pub declared_behind_by : Reader → Sort → ℕ × List Post → Answer
  declared_behind_by rec sort r =
      if is_semicolon (kind_at tokens r.0) then rec (The (DeclaredList sort)) (r.0 + 1) r.1
      else (if is_mark tokens r.0 marks.CloseParen then Some r else None)

  abbrev pub declared_list_by : Reader → Sort → ℕ → List Post → Answer
  declared_list_by rec sort at out =
      if is_mark tokens at marks.CloseParen then Some (at, out)
      else (rec (The (Declared sort)) at out >>= declared_behind_by rec sort)

  -- a declaration behind its keyword
  abbrev pub sort_by : Reader → Sort → ℕ → List Post → Answer
  sort_by rec sort at out =
      if is_mark tokens (at + 1) marks.OpenParen
      then (rec (The (DeclaredList sort)) (at + 2) out >>= past tokens marks.CloseParen) >>= closing (group_kind sort) at out
      else (rec (The (Declared sort)) (at + 1) out >>= closing (decl_kind sort) at out)

  abbrev pub decl_by : Reader → ℕ → List Post → Answer
  decl_by rec at out =
      if is_word tokens at words.Const then sort_by rec Constant at out
      else (if is_word tokens at words.Var then sort_by rec Variable at out
      else (if is_word tokens at words.TypeWord then sort_by rec TypeSort at out else None))
