-- Reading of expressions, of an expression or a type, and of what stands in a composite literal, one step each.
use Rattle.std.specs.Prelude.{◌≡◌, ℕ, ◌+◌, ◌-◌, List, [], ◌∷◌, ◌++◌, take, drop, reverse, length, Bool, true, false, ◌&&◌, nat_le, Some, None, Option, if◌then◌else◌, slice_get}
use Rattle.argot_tree.specs.declared.keyword.Keyword.TheVariants as words
use Rattle.argot_tree.specs.declared.mark.Mark.TheVariants as marks
use Rattle.argot_tree.specs.declared.node_kind.NodeKind.{NodeKind}
use Rattle.argot_tree.specs.declared.node_kind.NodeKind.TheVariants as nodes
use Rattle.argot_tree.specs.declared.token.TokenKind.TheVariants as kinds
use Rattle.argot_tree.specs.declared.token.Token.{Token}
use Rattle.argot_tree.specs.TokensAt.{kind_at, is_literal, begins_conversion, begins_composite, level_at, unary_of}
use Rattle.argot_tree.specs.Grammar.{AnyType, OnlyType, Signature, Level, Either, Eithers, Elems, Items, Item, Value, Block}
use Rattle.argot_parse_reader.specs.declared.post.Post.{Post}
use Rattle.argot_parse_reader.specs.Reading.{The, UnaryOr, PrimaryOr, OperandOr, Climb, Suffixes, MoreExprs, Answer, Reader, ◌>>=◌, try_on, closed, put, closing, ending, is_at, is_word, is_mark, past, past_list, goes_on}
use Rattle.argot_parse_reader.specs.TypeReader.{named_type_by}

abbrev pub climbs : ℕ → ℕ → ℕ → Bool
climbs k limit level = nat_le 1 level && (nat_le k level && nat_le level limit)

-- a node of a type that is no expression
abbrev pub is_type : NodeKind → Bool
is_type nodes.PointerType = true
is_type nodes.ArrayType = true
is_type nodes.SliceType = true
is_type nodes.MapType = true
is_type nodes.ChanType = true
is_type nodes.SendType = true
is_type nodes.ReceiveType = true
is_type nodes.FuncType = true
is_type nodes.StructType = true
is_type nodes.InterfaceType = true
is_type _ = false

abbrev pub is_type_post : Option Post → Bool
is_type_post None = false
is_type_post (Some p) = is_type p.kind

-- the last node is such a type's
abbrev pub typed : List Post → Bool
typed out = is_type_post (slice_get out (length out - 1))

abbrev pub is_chan : NodeKind → Bool
is_chan nodes.ChanType = true
is_chan _ = false

abbrev pub is_send : NodeKind → Bool
is_send nodes.SendType = true
is_send _ = false

-- a channel's type with the arrow before it
abbrev pub received : Post → Post
received p = record p { kind = nodes.ReceiveType; token = p.token - 1 }

abbrev pub maybe_more : Post → Option (List Post) → Option (List Post)
maybe_more p None = None
maybe_more p (Some ps) = Some (p ∷ ps)

-- each arrow that stood behind a `chan` belongs to the `chan` behind it; the newest node first
abbrev pub recast : List Post → Option (List Post)
recast [] = None
recast (p ∷ ps) =
    if is_chan p.kind then Some (received p ∷ ps)
    else (if is_send p.kind then maybe_more (received p) (recast ps) else None)

-- what was done with the nodes since a mark
abbrev pub Recasts : ℕ → List Post → Bool → List Post → Type 0
Recasts mark old true new = (take mark new ≡ take mark old) × (recast (reverse (drop mark old)) ≡ Some (reverse (drop mark new)))
Recasts mark old false new = (new ≡ old) × (recast (reverse (drop mark old)) ≡ None)

abbrev pub ending_with : ℕ → List Post → Option (List Post) → Answer
ending_with to out None = None
ending_with to out (Some back) = Some (to, out ++ reverse back)

-- an arrow before an expression, or before a type that begins with `chan`
abbrev pub arrowed : Bool → ℕ → List Post → ℕ × List Post → Answer
arrowed types at out r =
    if types && typed r.1 then ending_with r.0 out (recast (reverse (drop (length out) r.1))) else closing nodes.Receive at out r

-- a star before an expression or before a type
abbrev pub starred : Bool → ℕ → List Post → ℕ × List Post → Answer
starred types at out r = if types && typed r.1 then closing nodes.PointerType at out r else closing nodes.Deref at out r

-- what was read stays where a type may stand
abbrev pub stay_by : Bool → ℕ × List Post → Answer
stay_by types r = if types then Some r else None

-- the kind where there is one
abbrev pub with_kind : Option NodeKind → (NodeKind → Answer) → Answer → Answer
with_kind None f other = other
with_kind (Some kind) f other = f kind

abbrev pub name_use_by : ℕ → List Post → Answer
name_use_by at out = Some (at + 1, put nodes.NameUse at (at + 1) out)

module _ (tokens : List Token) where
  -- `[...]`
  abbrev pub is_open_array : ℕ → Bool
  is_open_array at =
      is_mark tokens at marks.OpenBracket && (is_mark tokens (at + 1) marks.Ellipsis && is_mark tokens (at + 2) marks.CloseBracket)

  -- a bracket's end
  abbrev pub bracket_end : NodeKind → ℕ → ℕ → ℕ × List Post → Answer
  bracket_end kind from mark r = past tokens marks.CloseBracket r >>= ending kind from mark

  -- arguments, and what closes them
  abbrev pub arguments_by : ℕ → ℕ → ℕ × List Post → Answer
  arguments_by from mark r =
      if is_mark tokens r.0 marks.Ellipsis
      then (past_list tokens marks.CloseParen (r.0 + 1, r.1) >>= ending nodes.SpreadCall from mark)
      else (past_list tokens marks.CloseParen r >>= ending nodes.Call from mark)

module _ (tokens : List Token) (rec : Reader) where
  abbrev pub level_by : ℕ → Bool → ℕ → List Post → Answer
  level_by k bare at out = rec (UnaryOr false bare) at out >>= λ r. rec (Climb k 9 bare at (length out)) r.0 r.1

  abbrev pub either_by : ℕ → List Post → Answer
  either_by at out =
      rec (UnaryOr true true) at out >>= λ r. (if typed r.1 then Some r else rec (Climb 1 9 true at (length out)) r.0 r.1)

  abbrev pub climb_by : ℕ → ℕ → Bool → ℕ → ℕ → ℕ → List Post → Answer
  climb_by k limit bare from mark at out =
      if climbs k limit (level_at tokens at)
      then try_on (rec (The (Level (level_at tokens at + 1) bare)) (at + 1) out) (λ r. rec (Climb k (level_at tokens at) bare from mark) r.0 (closed nodes.Binary from r.0 mark r.1)) (Some (at, out))
      else Some (at, out)

  abbrev pub unary_by : Bool → Bool → ℕ → List Post → Answer
  unary_by types bare at out =
      if is_mark tokens at marks.Star then (rec (UnaryOr types bare) (at + 1) out >>= starred types at out)
      else (if is_mark tokens at marks.Arrow then (rec (UnaryOr types bare) (at + 1) out >>= arrowed types at out)
      else with_kind (unary_of (kind_at tokens at)) (λ kind. rec (UnaryOr false bare) (at + 1) out >>= closing kind at out) (rec (PrimaryOr types bare) at out))

  abbrev pub primary_by : Bool → Bool → ℕ → List Post → Answer
  primary_by types bare at out =
      rec (OperandOr types bare) at out >>= λ r. (if types && typed r.1 then Some r else rec (Suffixes at (length out)) r.0 r.1)

  -- behind a type that begins at a token and whose nodes begin at a mark: what it converts, or nothing
  abbrev pub converted_by : Bool → ℕ → ℕ → ℕ × List Post → Answer
  converted_by types from mark r =
      if is_mark tokens r.0 marks.OpenParen
      then try_on (rec (The (Level 1 true)) (r.0 + 1) r.1 >>= past_list tokens marks.CloseParen) (ending nodes.Conversion from mark) (stay_by types r)
      else stay_by types r

  -- or elements
  abbrev pub behind_type_by : Bool → ℕ → ℕ → ℕ × List Post → Answer
  behind_type_by types from mark r =
      if begins_composite (kind_at tokens from) && is_mark tokens r.0 marks.OpenBrace
      then try_on (rec (The Elems) r.0 r.1) (ending nodes.Composite from mark) (stay_by types r)
      else converted_by types from mark r

  -- behind a signature: a body, or it is a type
  abbrev pub behind_signature_by : Bool → ℕ → ℕ → ℕ × List Post → Answer
  behind_signature_by types from mark r =
      if is_mark tokens r.0 marks.OpenBrace
      then try_on (rec (The Block) r.0 r.1) (ending nodes.FuncLiteral from mark) (stay_by types (r.0, closed nodes.FuncType from r.0 mark r.1))
      else converted_by types from mark (r.0, closed nodes.FuncType from r.0 mark r.1)

  abbrev pub func_by : Bool → ℕ → List Post → Answer
  func_by types at out = rec (The Signature) (at + 1) out >>= behind_signature_by types at (length out)

  abbrev pub type_operand_by : Bool → ℕ → List Post → Answer
  type_operand_by types at out = rec (The OnlyType) at out >>= behind_type_by types at (length out)

  abbrev pub parens_by : ℕ → List Post → Answer
  parens_by at out = (rec (The Either) (at + 1) out >>= past tokens marks.CloseParen) >>= closing nodes.Parens at out

  -- a literal of an array whose length its elements give
  abbrev pub open_array_by : ℕ → List Post → Answer
  open_array_by at out =
      ((rec (The AnyType) (at + 3) out >>= closing nodes.OpenArrayType at out) >>= λ r. rec (The Elems) r.0 r.1) >>= closing nodes.Composite at out

  -- elements behind a bare type name, where braces may stand and where they read
  abbrev pub braced_by : ℕ → List Post → ℕ × List Post → Answer
  braced_by at out r =
      if is_mark tokens r.0 marks.OpenBrace
      then try_on (rec (The Elems) r.0 r.1) (closing nodes.Composite at out) (name_use_by at out)
      else name_use_by at out

  abbrev pub name_by : Bool → ℕ → List Post → Answer
  name_by bare at out =
      if bare then (named_type_by tokens at out >>= braced_by at out) else name_use_by at out

  abbrev pub operand_by : Bool → Bool → ℕ → List Post → Answer
  operand_by types bare at out =
      if is_at tokens at kinds.Name then name_by bare at out
      else (if is_literal (kind_at tokens at) then Some (at + 1, put nodes.Literal at (at + 1) out)
      else (if is_mark tokens at marks.OpenParen then parens_by at out
      else (if is_word tokens at words.Func then func_by types at out
      else (if is_open_array tokens at then open_array_by at out
      else (if begins_conversion (kind_at tokens at) then type_operand_by types at out
      else None)))))

  -- what goes on behind an operand: a point
  abbrev pub dot_by : ℕ → ℕ → ℕ → List Post → Answer
  dot_by from mark at out =
      if is_at tokens (at + 1) kinds.Name
      then Some (at + 2, closed nodes.Selector from (at + 2) mark (put nodes.SelectedName (at + 1) (at + 2) out))
      else (if is_mark tokens (at + 1) marks.OpenParen
      then ((rec (The AnyType) (at + 2) out >>= past tokens marks.CloseParen) >>= ending nodes.TypeAssertion from mark)
      else None)

  -- a colon behind the second of them, and a third
  abbrev pub third_by : NodeKind → ℕ → ℕ → ℕ × List Post → Answer
  third_by kind from mark r = rec (The (Level 1 true)) (r.0 + 1) r.1 >>= bracket_end tokens kind from mark

  abbrev pub second_by : NodeKind → NodeKind → ℕ → ℕ → ℕ × List Post → Answer
  second_by kind with_max from mark r =
      if is_mark tokens r.0 marks.Colon then third_by with_max from mark r else bracket_end tokens kind from mark r

  abbrev pub from_start_by : ℕ → ℕ → ℕ → List Post → Answer
  from_start_by from mark at out =
      if is_mark tokens (at + 2) marks.CloseBracket then Some (at + 3, closed nodes.SliceAll from (at + 3) mark out)
      else rec (The (Level 1 true)) (at + 2) out >>= second_by nodes.SliceTo nodes.SliceToMax from mark

  -- behind the first expression
  abbrev pub behind_first_by : ℕ → ℕ → ℕ × List Post → Answer
  behind_first_by from mark r =
      if is_mark tokens r.0 marks.Colon
      then (if is_mark tokens (r.0 + 1) marks.CloseBracket then Some (r.0 + 2, closed nodes.SliceFrom from (r.0 + 2) mark r.1)
      else rec (The (Level 1 true)) (r.0 + 1) r.1 >>= second_by nodes.SliceBetween nodes.SliceBetweenMax from mark)
      else bracket_end tokens nodes.Index from mark r

  -- an index or a slice
  abbrev pub bracket_by : ℕ → ℕ → ℕ → List Post → Answer
  bracket_by from mark at out =
      if is_mark tokens (at + 1) marks.Colon then from_start_by from mark at out
      else rec (The (Level 1 true)) (at + 1) out >>= behind_first_by from mark

  abbrev pub call_by : ℕ → ℕ → ℕ → List Post → Answer
  call_by from mark at out =
      if is_mark tokens (at + 1) marks.CloseParen then Some (at + 2, closed nodes.Call from (at + 2) mark out)
      else rec (The Eithers) (at + 1) out >>= arguments_by tokens from mark

  abbrev pub suffix_by : ℕ → ℕ → ℕ → List Post → Answer
  suffix_by from mark at out =
      if is_mark tokens at marks.Dot then dot_by from mark at out
      else (if is_mark tokens at marks.OpenBracket then bracket_by from mark at out
      else (if is_mark tokens at marks.OpenParen then call_by from mark at out
      else None))

  abbrev pub suffixes_by : ℕ → ℕ → ℕ → List Post → Answer
  suffixes_by from mark at out = try_on (suffix_by from mark at out) (λ r. rec (Suffixes from mark) r.0 r.1) (Some (at, out))

  abbrev pub exprs_by : Bool → ℕ → List Post → Answer
  exprs_by bare at out = rec (The (Level 1 bare)) at out >>= λ r. rec (MoreExprs bare) r.0 r.1

  abbrev pub more_exprs_by : Bool → ℕ → List Post → Answer
  more_exprs_by bare at out =
      if is_mark tokens at marks.Comma
      then try_on (rec (The (Level 1 bare)) (at + 1) out) (λ r. rec (MoreExprs bare) r.0 r.1) (Some (at, out))
      else Some (at, out)

  abbrev pub eithers_by : ℕ → List Post → Answer
  eithers_by at out =
      rec (The Either) at out >>= λ r. (if goes_on tokens marks.CloseParen r.0 then rec (The Eithers) (r.0 + 1) r.1 else Some r)

  abbrev pub elems_by : ℕ → List Post → Answer
  elems_by at out =
      if is_mark tokens at marks.OpenBrace
      then (if is_mark tokens (at + 1) marks.CloseBrace then Some (at + 2, put nodes.Elems at (at + 2) out)
      else (rec (The Items) (at + 1) out >>= past_list tokens marks.CloseBrace) >>= closing nodes.Elems at out)
      else None

  abbrev pub items_by : ℕ → List Post → Answer
  items_by at out =
      rec (The Item) at out >>= λ r. (if goes_on tokens marks.CloseBrace r.0 then rec (The Items) (r.0 + 1) r.1 else Some r)

  abbrev pub item_by : ℕ → List Post → Answer
  item_by at out =
      rec (The Value) at out >>= λ r. (if is_mark tokens r.0 marks.Colon then (rec (The Value) (r.0 + 1) r.1 >>= closing nodes.KeyedItem at out) else closing nodes.Item at out r)

  abbrev pub value_by : ℕ → List Post → Answer
  value_by at out = if is_mark tokens at marks.OpenBrace then rec (The Elems) at out else rec (The (Level 1 true)) at out
