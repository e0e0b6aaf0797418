-- How statements are read: the token that begins one, or the one behind its first expression, tells which it is.
use Rattle.std.specs.Prelude.{ℕ, ◌+◌, ◌-◌, List, [], ◌∷◌, length, Bool, true, false, ◌&&◌, ◌||◌, not, Option, Some, None, if◌then◌else◌, slice_get}
use Rattle.std.specs.List.{remove}
use Rattle.argot_tree.specs.declared.keyword.Keyword.TheVariants as words
use Rattle.argot_tree.specs.declared.mark.Mark.TheVariants as marks
use Rattle.argot_tree.specs.declared.node_kind.NodeKind.{NodeKind}
use Rattle.argot_tree.specs.declared.node_kind.NodeKind.TheVariants as nodes
use Rattle.argot_tree.specs.declared.token.TokenKind.{TokenKind}
use Rattle.argot_tree.specs.declared.token.TokenKind.TheVariants as kinds
use Rattle.argot_tree.specs.declared.token.Token.{Token}
use Rattle.argot_tree.specs.TokensAt.{kind_at, is_semicolon, is_op_assign}
use Rattle.argot_tree.specs.Grammar.{Level, Exprs, Eithers, Names, Decl, Block, Stmts, Stmt, Simple, MaybeLabel, Cases, Case, Comms, Comm, MaybeCondition, MaybePost}
use Rattle.argot_parse_reader.specs.declared.post.Post.{Post}
use Rattle.argot_parse_reader.specs.Reading.{The, PrimaryOr, Ifs, Labels, Answer, Reader, ◌>>=◌, closed, put, closing, ending, closed_all, is_at, is_word, is_mark, past, behind_names}

-- a node over these nodes and an empty statement
abbrev pub put_empty : NodeKind → ℕ → List Post → List Post
put_empty kind at out = closed kind at at (length out) (put nodes.Empty at at out)

-- what ends a statement, and what ends a list of them
abbrev pub ends_stmt : Option TokenKind → Bool
ends_stmt (Some kinds.Inserted) = true
ends_stmt (Some (kinds.Mark marks.Semicolon)) = true
ends_stmt (Some (kinds.Mark marks.CloseBrace)) = true
ends_stmt _ = false

abbrev pub ends_stmts : Option TokenKind → Bool
ends_stmts (Some (kinds.Mark marks.CloseBrace)) = true
ends_stmts (Some (kinds.Word words.Case)) = true
ends_stmts (Some (kinds.Word words.Default)) = true
ends_stmts _ = false

-- a clause of a `switch` or a `select` begins here
abbrev pub begins_clause : Option TokenKind → Bool
begins_clause (Some (kinds.Word words.Case)) = true
begins_clause (Some (kinds.Word words.Default)) = true
begins_clause _ = false

-- what goes on behind the left sides of an assignment
abbrev pub begins_assign : Option TokenKind → Bool
begins_assign (Some (kinds.Mark marks.Comma)) = true
begins_assign (Some (kinds.Mark marks.Assign)) = true
begins_assign kind = is_op_assign kind

abbrev pub is_range : Option TokenKind → Bool
is_range (Some (kinds.Word words.Range)) = true
is_range _ = false

-- the node of an expression with an operator, which no type is asked of
abbrev pub is_operation : NodeKind → Bool
is_operation nodes.Binary = true
is_operation nodes.Positive = true
is_operation nodes.Negative = true
is_operation nodes.LogicalNot = true
is_operation nodes.Complement = true
is_operation nodes.Deref = true
is_operation nodes.AddressOf = true
is_operation nodes.Receive = true
is_operation _ = false

abbrev pub is_operation_post : Option Post → Bool
is_operation_post None = false
is_operation_post (Some post) = is_operation post.kind

-- the last node is no operation's
abbrev pub is_primary : List Post → Bool
is_primary out = not (is_operation_post (slice_get out (length out - 1)))

module _ (tokens : List Token) where
  -- names and `:=` stand there, and not before `range`
  abbrev pub defines : ℕ → Bool
  defines at =
      is_at tokens at kinds.Name && (is_mark tokens (behind_names tokens at) marks.Define && not (is_range (kind_at tokens (behind_names tokens at + 1))))

  -- `= range` or `:= range`
  abbrev pub ranges : ℕ → Bool
  ranges at = (is_mark tokens at marks.Assign || is_mark tokens at marks.Define) && is_range (kind_at tokens (at + 1))

  -- `.(type)`
  abbrev pub guards : ℕ → Bool
  guards at =
      is_mark tokens at marks.Dot && (is_mark tokens (at + 1) marks.OpenParen && (is_word tokens (at + 2) words.TypeWord && is_mark tokens (at + 3) marks.CloseParen))

  -- a label
  abbrev pub labels : ℕ → Bool
  labels at = is_at tokens at kinds.Name && is_mark tokens (at + 1) marks.Colon

  -- a semicolon that must stand there, and stays there
  abbrev pub at_semicolon : ℕ × List Post → Answer
  at_semicolon r = if is_semicolon (kind_at tokens r.0) then Some r else None

  abbrev pub past_semicolon : ℕ × List Post → Answer
  past_semicolon r = if is_semicolon (kind_at tokens r.0) then Some (r.0 + 1, r.1) else None

  -- blocks and lists of statements
  abbrev pub block_by : Reader → ℕ → List Post → Answer
  block_by rec at out =
      if is_mark tokens at marks.OpenBrace
      then (rec (The Stmts) (at + 1) out >>= past tokens marks.CloseBrace) >>= closing nodes.Block at out
      else None

  abbrev pub stmts_behind_by : Reader → ℕ × List Post → Answer
  stmts_behind_by rec r =
      if is_semicolon (kind_at tokens r.0) then rec (The Stmts) (r.0 + 1) r.1
      else (if is_mark tokens r.0 marks.CloseBrace then Some r else None)

  abbrev pub stmts_by : Reader → ℕ → List Post → Answer
  stmts_by rec at out =
      if ends_stmts (kind_at tokens at) then Some (at, out)
      else (if is_semicolon (kind_at tokens at) then rec (The Stmts) (at + 1) (put nodes.Empty at at out)
      else (rec (The Stmt) at out >>= stmts_behind_by rec))

  -- a label, in the labels before it
  abbrev pub label_by : Reader → List (ℕ × ℕ) → ℕ → List Post → Answer
  label_by rec begun at out = rec (Labels ((at, length out) ∷ begun)) (at + 2) (put nodes.DeclName at (at + 1) out)

  abbrev pub labels_by : Reader → List (ℕ × ℕ) → ℕ → List Post → Answer
  labels_by rec begun at out =
      if labels at then label_by rec begun at out
      else (if ends_stmt (kind_at tokens at) then Some (at, closed_all nodes.Labeled begun at (put nodes.Empty at at out))
      else (rec (The Stmt) at out >>= λ r. Some (r.0, closed_all nodes.Labeled begun r.0 r.1)))

  abbrev pub maybe_label_by : ℕ → List Post → Answer
  maybe_label_by at out =
      if is_at tokens at kinds.Name then Some (at + 1, put nodes.LabelUse at (at + 1) out) else Some (at, out)

  abbrev pub return_by : Reader → ℕ → List Post → Answer
  return_by rec at out =
      if ends_stmt (kind_at tokens (at + 1)) then Some (at + 1, put nodes.Return at (at + 1) out)
      else (rec (The (Exprs true)) (at + 1) out >>= closing nodes.Return at out)

  abbrev pub goto_by : ℕ → List Post → Answer
  goto_by at out =
      if is_at tokens (at + 1) kinds.Name
      then Some (at + 2, closed nodes.Goto at (at + 2) (length out) (put nodes.LabelUse (at + 1) (at + 2) out))
      else None

  abbrev pub decl_stmt_by : Reader → ℕ → List Post → Answer
  decl_stmt_by rec at out = rec (The Decl) at out >>= closing nodes.DeclStmt at out

  -- a keyword and an expression, and a keyword and maybe a label
  abbrev pub keyword_by : Reader → NodeKind → ℕ → List Post → Answer
  keyword_by rec kind at out = rec (The (Level 1 true)) (at + 1) out >>= closing kind at out

  abbrev pub jump_by : Reader → NodeKind → ℕ → List Post → Answer
  jump_by rec kind at out = rec (The MaybeLabel) (at + 1) out >>= closing kind at out

  -- expressions under a node of their own
  abbrev pub exprs_node_by : Reader → Bool → ℕ → List Post → Answer
  exprs_node_by rec b at out = rec (The (Exprs b)) at out >>= closing nodes.Exprs at out

  -- more expressions behind the first, where a comma stands there
  abbrev pub more_by : Reader → Bool → ℕ × List Post → Answer
  more_by rec b r = if is_mark tokens r.0 marks.Comma then rec (The (Exprs b)) (r.0 + 1) r.1 else Some r

  abbrev pub assigned_by : Reader → NodeKind → Bool → ℕ → ℕ → ℕ × List Post → Answer
  assigned_by rec kind b from mark r =
      exprs_node_by rec b (r.0 + 1) (closed nodes.Exprs from r.0 mark r.1) >>= ending kind from mark

  -- an assignment whose left sides are read
  abbrev pub assign_by : Reader → Bool → ℕ → ℕ → ℕ × List Post → Answer
  assign_by rec b from mark r =
      if is_mark tokens r.0 marks.Assign
      then assigned_by rec nodes.Assign b from mark r
      else (if is_op_assign (kind_at tokens r.0)
      then assigned_by rec nodes.OpAssign b from mark r
      else None)

  -- a simple statement whose first expression is read
  abbrev pub simple_behind_by : Reader → Bool → ℕ → ℕ → ℕ × List Post → Answer
  simple_behind_by rec b from mark r =
      if is_mark tokens r.0 marks.Arrow then rec (The (Level 1 b)) (r.0 + 1) r.1 >>= ending nodes.Send from mark
      else (if is_mark tokens r.0 marks.Increment then Some (r.0 + 1, closed nodes.Increment from (r.0 + 1) mark r.1)
      else (if is_mark tokens r.0 marks.Decrement then Some (r.0 + 1, closed nodes.Decrement from (r.0 + 1) mark r.1)
      else (if begins_assign (kind_at tokens r.0) then more_by rec b r >>= assign_by rec b from mark
      else Some (r.0, closed nodes.ExprStmt from r.0 mark r.1))))

  -- what names that are read are defined as
  abbrev pub define_behind_by : Reader → Bool → ℕ → ℕ → ℕ × List Post → Answer
  define_behind_by rec b from mark r =
      if is_mark tokens r.0 marks.Define then exprs_node_by rec b (r.0 + 1) r.1 >>= ending nodes.Define from mark else None

  abbrev pub define_by : Reader → Bool → ℕ → List Post → Answer
  define_by rec b at out = (rec (The Names) at out >>= closing nodes.Names at out) >>= define_behind_by rec b at (length out)

  abbrev pub simple_by : Reader → Bool → ℕ → List Post → Answer
  simple_by rec b at out =
      if defines at
      then define_by rec b at out
      else (rec (The (Level 1 b)) at out >>= simple_behind_by rec b at (length out))

  -- the beginning of a head: an expression or expressions where a brace, `.(type)` or `range` follows, and else a simple
  -- statement up to its semicolon
  abbrev pub listed_by : Reader → ℕ → ℕ → ℕ × List Post → Answer
  listed_by rec from mark r =
      if ranges r.0 then Some r else (assign_by rec false from mark r >>= at_semicolon)

  abbrev pub opened_by : Reader → ℕ → ℕ → ℕ × List Post → Answer
  opened_by rec from mark r =
      if is_mark tokens r.0 marks.OpenBrace || guards r.0 then Some r
      else (if begins_assign (kind_at tokens r.0) || is_mark tokens r.0 marks.Define then more_by rec false r >>= listed_by rec from mark
      else (simple_behind_by rec false from mark r >>= at_semicolon))

  abbrev pub opening_by : Reader → ℕ → List Post → Answer
  opening_by rec at out =
      if defines at then rec (The (Simple false)) at out >>= at_semicolon
      else (rec (The (Level 1 false)) at out >>= opened_by rec at (length out))

  -- the condition of an `if`, with what stands before it
  abbrev pub condition_behind_by : Reader → ℕ → ℕ → ℕ × List Post → Answer
  condition_behind_by rec from mark r =
      if is_semicolon (kind_at tokens r.0) then rec (The (Level 1 false)) (r.0 + 1) (closed nodes.Init from r.0 mark r.1)
      else (if is_mark tokens r.0 marks.OpenBrace then Some r else None)

  abbrev pub condition_by : Reader → ℕ → List Post → Answer
  condition_by rec at out =
      if is_semicolon (kind_at tokens at) then rec (The (Level 1 false)) (at + 1) (put_empty nodes.Init at out)
      else (opening_by rec at out >>= condition_behind_by rec at (length out))

  -- behind the block of the innermost `if` that was begun
  abbrev pub else_by : Reader → List (ℕ × ℕ) → ℕ × List Post → Answer
  else_by rec begun r =
      if is_word tokens r.0 words.Else
      then (if is_word tokens (r.0 + 1) words.If then rec (Ifs begun) (r.0 + 1) r.1
      else (rec (The Block) (r.0 + 1) r.1 >>= λ q. Some (q.0, closed_all nodes.If begun q.0 q.1)))
      else Some (r.0, closed_all nodes.If begun r.0 r.1)

  abbrev pub ifs_by : Reader → List (ℕ × ℕ) → ℕ → List Post → Answer
  ifs_by rec begun at out =
      if is_word tokens at words.If
      then (condition_by rec (at + 1) out >>= λ r. rec (The Block) r.0 r.1) >>= else_by rec ((at, length out) ∷ begun)
      else None

  -- the cases of a `switch` whose head is read
  abbrev pub switched_by : Reader → NodeKind → ℕ → ℕ → ℕ × List Post → Answer
  switched_by rec kind from mark r =
      if is_mark tokens r.0 marks.OpenBrace
      then (rec (The Cases) (r.0 + 1) r.1 >>= past tokens marks.CloseBrace) >>= ending kind from mark
      else None

  -- an expression of the head that is read, which began at a token with its nodes since a mark
  abbrev pub tagged_by : Reader → ℕ → ℕ → ℕ → ℕ → ℕ × List Post → Answer
  tagged_by rec from mark start since r =
      if guards r.0
      then (if is_primary r.1 then switched_by rec nodes.TypeSwitch from mark (r.0 + 4, closed nodes.Guard start (r.0 + 4) since r.1) else None)
      else switched_by rec nodes.Switch from mark r

  -- the same with a name before it
  abbrev pub named_guard_by : Reader → ℕ → ℕ → ℕ → ℕ → ℕ × List Post → Answer
  named_guard_by rec from mark start since r =
      if guards r.0 && is_primary r.1
      then switched_by rec nodes.TypeSwitch from mark (r.0 + 4, closed nodes.NamedGuard start (r.0 + 4) since (closed nodes.Guard (start + 2) (r.0 + 4) (since + 1) r.1))
      else None

  -- what a `switch` asks for behind its first statement
  abbrev pub tag_by : Reader → ℕ → ℕ → ℕ → List Post → Answer
  tag_by rec from mark at out =
      if is_mark tokens at marks.OpenBrace then switched_by rec nodes.Switch from mark (at, out)
      else (if is_at tokens at kinds.Name && is_mark tokens (at + 1) marks.Define
      then rec (PrimaryOr false false) (at + 2) (put nodes.DeclName at (at + 1) out) >>= named_guard_by rec from mark at (length out)
      else (rec (The (Level 1 false)) at out >>= tagged_by rec from mark at (length out)))

  -- behind the first statement of the head
  abbrev pub init_by : Reader → ℕ → ℕ → ℕ → ℕ × List Post → Answer
  init_by rec from mark start r =
      if is_semicolon (kind_at tokens r.0) then tag_by rec from mark (r.0 + 1) (closed nodes.Init start r.0 mark r.1) else None

  -- a head that begins with a name and `:=`, whose first expression is read: a guard has the name alone, and a
  -- definition has it in a node of names
  abbrev pub defined_by : Reader → ℕ → ℕ → ℕ → ℕ × List Post → Answer
  defined_by rec from mark start r =
      if guards r.0 then named_guard_by rec from mark start mark (r.0, remove r.1 (mark + 1))
      else (((more_by rec false r >>= ending nodes.Exprs (start + 2) (mark + 2)) >>= ending nodes.Define start mark) >>= init_by rec from mark start)

  abbrev pub opened_switch_by : Reader → ℕ → ℕ → ℕ → ℕ × List Post → Answer
  opened_switch_by rec from mark start r =
      if is_semicolon (kind_at tokens r.0) then init_by rec from mark start r else tagged_by rec from mark start mark r

  -- the head from its first token on
  abbrev pub head_by : Reader → ℕ → ℕ → List Post → Answer
  head_by rec from start out =
      if is_semicolon (kind_at tokens start) then tag_by rec from (length out) (start + 1) (put_empty nodes.Init start out)
      else (if is_mark tokens start marks.OpenBrace then switched_by rec nodes.Switch from (length out) (start, out)
      else (if is_at tokens start kinds.Name && is_mark tokens (start + 1) marks.Define
      then rec (The (Level 1 false)) (start + 2) (closed nodes.Names start (start + 1) (length out) (put nodes.DeclName start (start + 1) out)) >>= defined_by rec from (length out) start
      else (opening_by rec start out >>= opened_switch_by rec from (length out) start)))

  abbrev pub switch_by : Reader → ℕ → List Post → Answer
  switch_by rec at out = head_by rec at (at + 1) out

  -- a clause from its colon on
  abbrev pub clause_by : Reader → NodeKind → ℕ → ℕ → ℕ × List Post → Answer
  clause_by rec kind from mark r =
      if is_mark tokens r.0 marks.Colon then rec (The Stmts) (r.0 + 1) r.1 >>= ending kind from mark else None

  abbrev pub cases_by : Reader → ℕ → List Post → Answer
  cases_by rec at out =
      if begins_clause (kind_at tokens at) then (rec (The Case) at out >>= λ r. rec (The Cases) r.0 r.1) else Some (at, out)

  abbrev pub case_by : Reader → ℕ → List Post → Answer
  case_by rec at out =
      if is_word tokens at words.Case
      then (rec (The Eithers) (at + 1) out >>= closing nodes.Values (at + 1) out) >>= clause_by rec nodes.Case at (length out)
      else (if is_word tokens at words.Default then clause_by rec nodes.Default at (length out) (at + 1, out) else None)

  abbrev pub select_by : Reader → ℕ → List Post → Answer
  select_by rec at out =
      if is_mark tokens (at + 1) marks.OpenBrace
      then (rec (The Comms) (at + 2) out >>= past tokens marks.CloseBrace) >>= closing nodes.Select at out
      else None

  abbrev pub comms_by : Reader → ℕ → List Post → Answer
  comms_by rec at out =
      if begins_clause (kind_at tokens at) then (rec (The Comm) at out >>= λ r. rec (The Comms) r.0 r.1) else Some (at, out)

  -- a communication whose left sides are read
  abbrev pub received_by : Reader → ℕ → ℕ → ℕ × List Post → Answer
  received_by rec from mark r =
      if is_mark tokens r.0 marks.Assign
      then rec (The (Level 1 true)) (r.0 + 1) (closed nodes.Exprs (from + 1) r.0 mark r.1) >>= clause_by rec nodes.AssignCase from mark
      else (if is_mark tokens r.0 marks.Define
      then rec (The (Level 1 true)) (r.0 + 1) (closed nodes.Exprs (from + 1) r.0 mark r.1) >>= clause_by rec nodes.DefineCase from mark
      else None)

  -- a communication whose first expression is read
  abbrev pub comm_behind_by : Reader → ℕ → ℕ → ℕ × List Post → Answer
  comm_behind_by rec from mark r =
      if is_mark tokens r.0 marks.Arrow then rec (The (Level 1 true)) (r.0 + 1) r.1 >>= clause_by rec nodes.SendCase from mark
      else (if is_mark tokens r.0 marks.Colon then clause_by rec nodes.ReceiveCase from mark r
      else (more_by rec true r >>= received_by rec from mark))

  abbrev pub comm_by : Reader → ℕ → List Post → Answer
  comm_by rec at out =
      if is_word tokens at words.Case
      then rec (The (Level 1 true)) (at + 1) out >>= comm_behind_by rec at (length out)
      else (if is_word tokens at words.Default then clause_by rec nodes.Default at (length out) (at + 1, out) else None)

  -- the condition and the last statement in the head of a `for`
  abbrev pub maybe_condition_by : Reader → ℕ → List Post → Answer
  maybe_condition_by rec at out =
      if is_semicolon (kind_at tokens at) then Some (at, out) else rec (The (Level 1 false)) at out

  abbrev pub maybe_post_by : Reader → ℕ → List Post → Answer
  maybe_post_by rec at out =
      if is_mark tokens at marks.OpenBrace then Some (at, put_empty nodes.Post at out)
      else (rec (The (Simple false)) at out >>= closing nodes.Post at out)

  abbrev pub loop_by : Reader → NodeKind → ℕ → ℕ → ℕ × List Post → Answer
  loop_by rec kind from mark r = rec (The Block) r.0 r.1 >>= ending kind from mark

  -- behind the first semicolon
  abbrev pub parts_by : Reader → ℕ → ℕ → ℕ × List Post → Answer
  parts_by rec from mark r =
      ((rec (The MaybeCondition) r.0 r.1 >>= past_semicolon) >>= λ q. rec (The MaybePost) q.0 q.1) >>= loop_by rec nodes.For from mark

  -- behind `range`
  abbrev pub range_by : Reader → NodeKind → ℕ → ℕ → ℕ × List Post → Answer
  range_by rec kind from mark r = rec (The (Level 1 false)) r.0 r.1 >>= loop_by rec kind from mark

  abbrev pub looped_by : Reader → ℕ → ℕ → ℕ × List Post → Answer
  looped_by rec from mark r =
      if is_semicolon (kind_at tokens r.0) then parts_by rec from mark (r.0 + 1, closed nodes.Init (from + 1) r.0 mark r.1)
      else (if ranges r.0
      then range_by rec (if is_mark tokens r.0 marks.Assign then nodes.AssignRange else nodes.DefineRange) from mark (r.0 + 2, closed nodes.Exprs (from + 1) r.0 mark r.1)
      else loop_by rec nodes.While from mark r)

  abbrev pub for_by : Reader → ℕ → List Post → Answer
  for_by rec at out =
      if is_range (kind_at tokens (at + 1)) then range_by rec nodes.Range at (length out) (at + 2, out)
      else (if is_semicolon (kind_at tokens (at + 1)) then parts_by rec at (length out) (at + 2, put_empty nodes.Init (at + 1) out)
      else (if is_mark tokens (at + 1) marks.OpenBrace then loop_by rec nodes.While at (length out) (at + 1, out)
      else (opening_by rec (at + 1) out >>= looped_by rec at (length out))))

  -- a statement, by the token that begins it
  abbrev pub stmt_by : Reader → Option TokenKind → ℕ → List Post → Answer
  stmt_by rec (Some (kinds.Word words.Const)) at out = decl_stmt_by rec at out
  stmt_by rec (Some (kinds.Word words.Var)) at out = decl_stmt_by rec at out
  stmt_by rec (Some (kinds.Word words.TypeWord)) at out = decl_stmt_by rec at out
  stmt_by rec (Some (kinds.Word words.Go)) at out = keyword_by rec nodes.Go at out
  stmt_by rec (Some (kinds.Word words.Defer)) at out = keyword_by rec nodes.Defer at out
  stmt_by rec (Some (kinds.Word words.Return)) at out = return_by rec at out
  stmt_by rec (Some (kinds.Word words.Break)) at out = jump_by rec nodes.Break at out
  stmt_by rec (Some (kinds.Word words.Continue)) at out = jump_by rec nodes.Continue at out
  stmt_by rec (Some (kinds.Word words.Goto)) at out = goto_by at out
  stmt_by rec (Some (kinds.Word words.Fallthrough)) at out = Some (at + 1, put nodes.Fallthrough at (at + 1) out)
  stmt_by rec (Some (kinds.Word words.If)) at out = rec (Ifs []) at out
  stmt_by rec (Some (kinds.Word words.Switch)) at out = switch_by rec at out
  stmt_by rec (Some (kinds.Word words.Select)) at out = select_by rec at out
  stmt_by rec (Some (kinds.Word words.For)) at out = for_by rec at out
  stmt_by rec (Some (kinds.Mark marks.OpenBrace)) at out = rec (The Block) at out
  stmt_by rec (Some kinds.Name) at out = if labels at then label_by rec [] at out else rec (The (Simple true)) at out
  stmt_by rec _ at out = rec (The (Simple true)) at out
