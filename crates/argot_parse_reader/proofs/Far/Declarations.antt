-- A declaration is read at least as far as any that is spelled where it begins.
use Rattle.std.proofs.Common.{◌≡◌, ℕ, zero, suc, ◌+◌, ◌-◌, ◌<◌, ◌≤◌, List, ◌++◌, length, true, Some, refl, ◌∙◌, arith}
use Rattle.argot_tree.specs.declared.keyword.Keyword.TheVariants as words
use Rattle.argot_tree.specs.declared.mark.Mark.TheVariants as marks
use Rattle.argot_tree.specs.declared.node_kind.NodeKind.TheVariants as nodes
use Rattle.argot_tree.specs.declared.token.TokenKind.TheVariants as kinds
use Rattle.argot_tree.specs.declared.token.Token.{Token}
use Rattle.argot_tree.specs.Forests.{Forest, one}
use Rattle.argot_tree.specs.TokensAt.{HasAt, HasWord, HasMark, Passes, follows_parameter}
use Rattle.argot_tree.specs.Grammar.{Spells, Sort, Constant, Variable, TypeSort, Names, AnyType, MaybeTyped, MaybeValues, Exprs, TypeParams, Declared, DeclaredList, Decl, last_name, one_name, no_values, some_values}
use Rattle.argot_parse_reader.specs.declared.post.Post.{Post}
use Rattle.argot_parse_reader.specs.Posts.{posts}
use Rattle.argot_parse_reader.specs.Rooms.{room}
use Rattle.argot_parse_reader.specs.Reading.{The, Answer, ◌>>=◌, try_on, closed, put, closing, is_at, is_mark}
use Rattle.argot_parse_reader.specs.DeclarationReader.{values_by}
use Rattle.argot_parse_reader.specs.Reader.{read}
use Rattle.argot_parse_reader.proofs.Steps.{read_more}
use Rattle.argot_parse_reader.proofs.TokenTests.{has_at}
use Rattle.argot_parse_reader.proofs.Exact.Nodes.{over, declared, names_it}
use Rattle.argot_parse_reader.proofs.Exact.Ahead.{ahead}
use Rattle.argot_parse_reader.proofs.Exact.Starts.{starts}
use Rattle.argot_parse_reader.proofs.Exact.Tokens.{other, apart, at_mark, within_at, within_mark, within_word}
use Rattle.argot_parse_reader.proofs.Exact.Members.{names_forward}
use Rattle.argot_parse_reader.proofs.Exact.Seconds.{either_way}
use Rattle.argot_parse_reader.proofs.Exact.Declarations.{typed_comma, not_generic, generic}
use Rattle.argot_parse_reader.proofs.Exact.Claims.{OfType, Exact}
use Rattle.argot_parse_reader.proofs.Far.Goes.{Goes, Ahead, goes_some, goes_by, goes_try, ahead_of, bind, choose, something, nothing, forward, part}
use Rattle.argot_parse_reader.proofs.Far.TypeParts.{goes, FarType}
use Rattle.argot_parse_reader.proofs.Far.Expressions.{FarExprs, exprs_go}

module _ (tokens : List Token) where
  -- as many names are read as stand there
  names_read : (left n at : ℕ) (out : List Post) → length tokens - at ≤ left → HasAt tokens at kinds.Name → room tokens at 1 ≤ n → Goes (at + 1) (read tokens n (The Names) at out)
  names_read zero n at out few h enough = absurd (omega (arith, within_at h))
  names_read (suc left) n at out few h enough =
      let within = within_at h in
      let more : 0 < n = omega arith in
      either_way (is_mark tokens (at + 1) marks.Comma)
      (λ c. either_way (is_at tokens (at + 2) kinds.Name)
      (λ i. let name = has_at (at + 2) kinds.Name i in
      let inside = within_at name in
      let g = names_read left (n - 1) (at + 2) (put nodes.DeclName at (at + 1) out) (omega arith) name (omega arith) in
      let reads = g.is in
      let far = g.far in
      goes g.found (read_more tokens n (The Names) at out more ∙ simp (h.there, c, i, reads)) (omega arith))
      (λ i. goes (at + 1, put nodes.DeclName at (at + 1) out) (read_more tokens n (The Names) at out more ∙ simp (h.there, c, i)) (omega arith)))
      (λ c. goes (at + 1, put nodes.DeclName at (at + 1) out) (read_more tokens n (The Names) at out more ∙ simp (h.there, c)) (omega arith))

  far_names : {x : Forest} {from to : ℕ} → Spells tokens Names x from to → (n : ℕ) (out : List Post) → room tokens from 1 ≤ n → Goes to (read tokens n (The Names) from out)
  far_names {x} {from} {to} (last_name h) n out enough = names_read (length tokens - from) n from out (omega arith) h enough
  far_names {x} {from} {to} (one_name h c s) n out enough =
      let within = within_at h in
      let more : 0 < n = omega arith in
      let name = starts tokens s in
      let g = far_names s (n - 1) (put nodes.DeclName from (from + 1) out) (omega arith) in
      let reads = g.is in
      goes g.found (read_more tokens n (The Names) from out more ∙ simp (h.there, c.there, name.there, reads)) g.far

  values_ahead : {at : ℕ} (n : ℕ) (r : ℕ × List Post) → at ≤ r.0 → Ahead at (values_by tokens (read tokens n) r)
  values_ahead n r h =
      choose (is_mark tokens r.0 marks.Assign)
      (bind (read tokens n (The (Exprs true)) (r.0 + 1) r.1) (part tokens n (Exprs true) (r.0 + 1) r.1 (omega arith)) (λ q g. something (q.0, closed nodes.Exprs (r.0 + 1) q.0 (length r.1) q.1) g))
      nothing

  -- values are read where they stand, and else nothing is
  values_go : (n at : ℕ) (out : List Post) → 0 < n → Goes at (read tokens n (The MaybeValues) at out)
  values_go n at out more =
      goes_by (read_more tokens n (The MaybeValues) at out more)
      (goes_try (values_by tokens (read tokens (n - 1)) (at, out))
      (λ r e. goes_some r (ahead_of (values_by tokens (read tokens (n - 1)) (at, out)) (values_ahead (n - 1) (at, out) (omega arith)) r e))
      (goes_some (at, out) (omega arith)))

  abbrev pub FarValues : ℕ → ℕ → Type 0
  FarValues from to = (n : ℕ) (out : List Post) → room tokens from 1 ≤ n → Goes to (read tokens n (The MaybeValues) from out)

  pub far_no_values : {from : ℕ} → FarValues from from
  far_no_values {from} = λ n out enough. values_go n from out (omega arith)

  pub far_some_values : {from to : ℕ} → HasMark tokens from marks.Assign → FarExprs tokens true (from + 1) to → FarValues from to
  far_some_values {from} {to} a ih = λ n out enough.
      let within = within_mark a in
      let more : 0 < n = omega arith in
      let g = exprs_go tokens ih (n - 1) out (omega arith) in
      let reads = g.is in
      goes (g.found.0, closed nodes.Exprs (from + 1) g.found.0 (length out) g.found.1) (read_more tokens n (The MaybeValues) from out more ∙ simp (a.there, reads)) g.far

  abbrev pub FarDeclared : Sort → ℕ → ℕ → Type 0
  FarDeclared sort from to = (n : ℕ) (out : List Post) → room tokens from 2 ≤ n → Goes to (read tokens n (The (Declared sort)) from out)

  abbrev pub FarDecl : ℕ → ℕ → Type 0
  FarDecl from to = (n : ℕ) (out : List Post) → room tokens from 1 ≤ n → Goes to (read tokens n (The Decl) from out)

  pub far_constants : {x : Forest} {from mid : ℕ} → Spells tokens Names x from mid → FarDeclared Constant from mid
  far_constants {x} {from} {mid} s = λ n out enough.
      let within = within_at (starts tokens s) in
      let more : 0 < n = omega arith in
      let g = far_names s (n - 1) out (omega arith) in
      let reads = g.is in
      let reached = g.far in
      let named = closed nodes.Names from g.found.0 (length out) g.found.1 in
      let behind : Answer = read tokens (n - 1) (The MaybeTyped) g.found.0 named >>= values_by tokens (read tokens (n - 1)) in
      let whole : read tokens n (The (Declared Constant)) from out ≡ try_on behind (closing nodes.ConstSpec from out) (Some (g.found.0, closed nodes.ConstSpec from g.found.0 (length out) named)) = read_more tokens n (The (Declared Constant)) from out more ∙ simp reads in
      goes_by whole
      (goes_try behind
      (λ r e. let further : g.found.0 ≤ r.0 = ahead_of behind (bind (read tokens (n - 1) (The MaybeTyped) g.found.0 named) (forward tokens (n - 1) MaybeTyped g.found.0 named) (λ q h. values_ahead (n - 1) q h)) r e in
      goes_some (r.0, closed nodes.ConstSpec from r.0 (length out) r.1) (omega arith))
      (goes_some (g.found.0, closed nodes.ConstSpec from g.found.0 (length out) named) reached))

  pub far_constants_are : {x y : Forest} {from mid mid2 to : ℕ} → Spells tokens Names x from mid → Spells tokens MaybeTyped y mid mid2 → HasMark tokens mid2 marks.Assign → Exact tokens Names x from mid → Exact tokens MaybeTyped y mid mid2 → FarExprs tokens true (mid2 + 1) to → FarDeclared Constant from to
  far_constants_are {x} {y} {from} {mid} {mid2} {to} s t a ihx ihy ihz = λ n out enough.
      let within = within_at (starts tokens s) in
      let inside = within_mark a in
      let forward = names_forward tokens s in
      let onward = ahead tokens t in
      let more : 0 < n = omega arith in
      let reads = ihx (n - 1) out (omega arith) (typed_comma tokens t a) in
      let names = one nodes.Names from mid x in
      let type = ihy (n - 1) (out ++ posts names) (omega arith) a in
      let g = exprs_go tokens ihz (n - 1) ((out ++ posts names) ++ posts y) (omega arith) in
      let values = g.is in
      goes (g.found.0, closed nodes.ConstSpec from g.found.0 (length out) (closed nodes.Exprs (mid2 + 1) g.found.0 (length ((out ++ posts names) ++ posts y)) g.found.1)) (read_more tokens n (The (Declared Constant)) from out more ∙ simp (reads, over nodes.Names from mid out x, type, a.there, values)) g.far

  pub far_variables_typed : {x y z : Forest} {from mid mid2 to : ℕ} → Spells tokens Names x from mid → Spells tokens AnyType y mid mid2 → Spells tokens MaybeValues z mid2 to → Exact tokens Names x from mid → OfType tokens y mid mid2 → FarType tokens mid mid2 → FarValues mid2 to → FarDeclared Variable from to
  far_variables_typed {x} {y} {z} {from} {mid} {mid2} {to} s t no_values ihx ihy fy fz = λ n out enough.
      let within = within_at (starts tokens s) in
      let forward = names_forward tokens s in
      let more : 0 < n = omega arith in
      let start = starts tokens t in
      let assign = apart (kinds.Mark marks.Assign) start refl in
      let reads = ihx (n - 1) out (omega arith) (apart (kinds.Mark marks.Comma) start refl) in
      let names = one nodes.Names from mid x in
      let g = fy (n - 1) (out ++ posts names) (omega arith) in
      let type = g.is in
      let reached = g.far in
      let v = values_go (n - 1) g.found.0 g.found.1 (omega arith) in
      let values = v.is in
      let further = v.far in
      goes (v.found.0, closed nodes.VarSpec from v.found.0 (length out) v.found.1) (read_more tokens n (The (Declared Variable)) from out more ∙ simp (reads, over nodes.Names from mid out x, assign.is, type, values)) (omega arith)
  far_variables_typed {x} {y} {z} {from} {mid} {mid2} {to} s t (some_values a u) ihx ihy fy fz = λ n out enough.
      let within = within_at (starts tokens s) in
      let inside = within_mark a in
      let forward = names_forward tokens s in
      let onward = ahead tokens t in
      let more : 0 < n = omega arith in
      let start = starts tokens t in
      let assign = apart (kinds.Mark marks.Assign) start refl in
      let reads = ihx (n - 1) out (omega arith) (apart (kinds.Mark marks.Comma) start refl) in
      let names = one nodes.Names from mid x in
      let type = ihy.gets (n - 1) (out ++ posts names) (omega arith) (other (kinds.Mark marks.Dot) (at_mark a) refl) in
      let v = fz (n - 1) ((out ++ posts names) ++ posts y) (omega arith) in
      let values = v.is in
      goes (v.found.0, closed nodes.VarSpec from v.found.0 (length out) v.found.1) (read_more tokens n (The (Declared Variable)) from out more ∙ simp (reads, over nodes.Names from mid out x, assign.is, type, values)) v.far

  pub far_variables_are : {x : Forest} {from mid to : ℕ} → Spells tokens Names x from mid → HasMark tokens mid marks.Assign → Exact tokens Names x from mid → FarExprs tokens true (mid + 1) to → FarDeclared Variable from to
  far_variables_are {x} {from} {mid} {to} s a ihx ihy = λ n out enough.
      let within = within_at (starts tokens s) in
      let inside = within_mark a in
      let forward = names_forward tokens s in
      let more : 0 < n = omega arith in
      let reads = ihx (n - 1) out (omega arith) (other (kinds.Mark marks.Comma) (at_mark a) refl) in
      let names = one nodes.Names from mid x in
      let g = exprs_go tokens ihy (n - 1) (out ++ posts names) (omega arith) in
      let values = g.is in
      goes (g.found.0, closed nodes.VarSpec from g.found.0 (length out) (closed nodes.Exprs (mid + 1) g.found.0 (length (out ++ posts names)) g.found.1)) (read_more tokens n (The (Declared Variable)) from out more ∙ simp (reads, over nodes.Names from mid out x, a.there, values)) g.far

  pub far_type_spec : {x : Forest} {from to : ℕ} → HasAt tokens from kinds.Name → Spells tokens AnyType x (from + 1) to → FarType tokens (from + 1) to → FarDeclared TypeSort from to
  far_type_spec {x} {from} {to} h s ih = λ n out enough.
      let within = within_at h in
      let more : 0 < n = omega arith in
      let assign = apart (kinds.Mark marks.Assign) (starts tokens s) refl in
      let g = ih (n - 1) (put nodes.DeclName from (from + 1) out) (omega arith) in
      let reads = g.is in
      goes (g.found.0, closed nodes.TypeSpec from g.found.0 (length out) g.found.1) (read_more tokens n (The (Declared TypeSort)) from out more ∙ simp (h.there, not_generic tokens from s, assign.is, reads)) g.far

  pub far_alias_spec : {from to : ℕ} → HasAt tokens from kinds.Name → HasMark tokens (from + 1) marks.Assign → FarType tokens (from + 2) to → FarDeclared TypeSort from to
  far_alias_spec {from} {to} h a ih = λ n out enough.
      let within = within_at h in
      let more : 0 < n = omega arith in
      let next : from + 1 + 1 ≡ from + 2 = omega arith in
      let g = ih (n - 1) (put nodes.DeclName from (from + 1) out) (omega arith) in
      let reads = g.is in
      goes (g.found.0, closed nodes.AliasSpec from g.found.0 (length out) g.found.1) (read_more tokens n (The (Declared TypeSort)) from out more ∙ simp (h.there, a.there, next, reads)) g.far

  pub far_generic_spec : {x y : Forest} {from mid to : ℕ} → HasAt tokens from kinds.Name → Passes tokens follows_parameter (from + 3) → Spells tokens TypeParams x (from + 1) mid → Spells tokens AnyType y mid to → Exact tokens TypeParams x (from + 1) mid → FarType tokens mid to → FarDeclared TypeSort from to
  far_generic_spec {x} {y} {from} {mid} {to} h f s t ihx ihy = λ n out enough.
      let within = within_at h in
      let forward = ahead tokens s in
      let more : 0 < n = omega arith in
      let assign = apart (kinds.Mark marks.Assign) (starts tokens t) refl in
      let first = ihx (n - 1) (out ++ posts (declared from)) (omega arith) in
      let g = ihy (n - 1) ((out ++ posts (declared from)) ++ posts x) (omega arith) in
      let reads = g.is in
      goes (g.found.0, closed nodes.TypeSpec from g.found.0 (length out) g.found.1) (read_more tokens n (The (Declared TypeSort)) from out more ∙ simp (h.there, generic tokens from f s, names_it from out, first, assign.is, reads)) g.far

  pub far_generic_alias : {x : Forest} {from mid to : ℕ} → HasAt tokens from kinds.Name → Passes tokens follows_parameter (from + 3) → Spells tokens TypeParams x (from + 1) mid → HasMark tokens mid marks.Assign → Exact tokens TypeParams x (from + 1) mid → FarType tokens (mid + 1) to → FarDeclared TypeSort from to
  far_generic_alias {x} {from} {mid} {to} h f s a ihx ihy = λ n out enough.
      let within = within_at h in
      let inside = within_mark a in
      let forward = ahead tokens s in
      let more : 0 < n = omega arith in
      let first = ihx (n - 1) (out ++ posts (declared from)) (omega arith) in
      let g = ihy (n - 1) ((out ++ posts (declared from)) ++ posts x) (omega arith) in
      let reads = g.is in
      goes (g.found.0, closed nodes.AliasSpec from g.found.0 (length out) g.found.1) (read_more tokens n (The (Declared TypeSort)) from out more ∙ simp (h.there, generic tokens from f s, names_it from out, first, a.there, reads)) g.far

  pub far_decl_const : {x : Forest} {from to : ℕ} → HasWord tokens from words.Const → Spells tokens (Declared Constant) x (from + 1) to → FarDeclared Constant (from + 1) to → FarDecl from to
  far_decl_const {x} {from} {to} h s ih = λ n out enough.
      let within = within_word h in
      let more : 0 < n = omega arith in
      let name = starts tokens s in
      let g = ih (n - 1) out (omega arith) in
      let reads = g.is in
      goes (g.found.0, closed nodes.ConstDecl from g.found.0 (length out) g.found.1) (read_more tokens n (The Decl) from out more ∙ simp (h.there, name.there, reads)) g.far

  pub far_group_const : {x : Forest} {from to : ℕ} → HasWord tokens from words.Const → HasMark tokens (from + 1) marks.OpenParen → Spells tokens (DeclaredList Constant) x (from + 2) to → HasMark tokens to marks.CloseParen → Exact tokens (DeclaredList Constant) x (from + 2) to → FarDecl from (to + 1)
  far_group_const {x} {from} {to} h i s c ih = λ n out enough.
      let within = within_word h in
      let more : 0 < n = omega arith in
      let reads = ih (n - 1) out (omega arith) c in
      goes (to + 1, closed nodes.ConstGroup from (to + 1) (length out) (out ++ posts x)) (read_more tokens n (The Decl) from out more ∙ simp (h.there, i.there, reads, c.there)) (omega arith)

  pub far_decl_var : {x : Forest} {from to : ℕ} → HasWord tokens from words.Var → Spells tokens (Declared Variable) x (from + 1) to → FarDeclared Variable (from + 1) to → FarDecl from to
  far_decl_var {x} {from} {to} h s ih = λ n out enough.
      let within = within_word h in
      let more : 0 < n = omega arith in
      let name = starts tokens s in
      let g = ih (n - 1) out (omega arith) in
      let reads = g.is in
      goes (g.found.0, closed nodes.VarDecl from g.found.0 (length out) g.found.1) (read_more tokens n (The Decl) from out more ∙ simp (h.there, name.there, reads)) g.far

  pub far_group_var : {x : Forest} {from to : ℕ} → HasWord tokens from words.Var → HasMark tokens (from + 1) marks.OpenParen → Spells tokens (DeclaredList Variable) x (from + 2) to → HasMark tokens to marks.CloseParen → Exact tokens (DeclaredList Variable) x (from + 2) to → FarDecl from (to + 1)
  far_group_var {x} {from} {to} h i s c ih = λ n out enough.
      let within = within_word h in
      let more : 0 < n = omega arith in
      let reads = ih (n - 1) out (omega arith) c in
      goes (to + 1, closed nodes.VarGroup from (to + 1) (length out) (out ++ posts x)) (read_more tokens n (The Decl) from out more ∙ simp (h.there, i.there, reads, c.there)) (omega arith)

  pub far_decl_type : {x : Forest} {from to : ℕ} → HasWord tokens from words.TypeWord → Spells tokens (Declared TypeSort) x (from + 1) to → FarDeclared TypeSort (from + 1) to → FarDecl from to
  far_decl_type {x} {from} {to} h s ih = λ n out enough.
      let within = within_word h in
      let more : 0 < n = omega arith in
      let name = starts tokens s in
      let g = ih (n - 1) out (omega arith) in
      let reads = g.is in
      goes (g.found.0, closed nodes.TypeDecl from g.found.0 (length out) g.found.1) (read_more tokens n (The Decl) from out more ∙ simp (h.there, name.there, reads)) g.far

  pub far_group_type : {x : Forest} {from to : ℕ} → HasWord tokens from words.TypeWord → HasMark tokens (from + 1) marks.OpenParen → Spells tokens (DeclaredList TypeSort) x (from + 2) to → HasMark tokens to marks.CloseParen → Exact tokens (DeclaredList TypeSort) x (from + 2) to → FarDecl from (to + 1)
  far_group_type {x} {from} {to} h i s c ih = λ n out enough.
      let within = within_word h in
      let more : 0 < n = omega arith in
      let reads = ih (n - 1) out (omega arith) c in
      goes (to + 1, closed nodes.TypeGroup from (to + 1) (length out) (out ++ posts x)) (read_more tokens n (The Decl) from out more ∙ simp (h.there, i.there, reads, c.there)) (omega arith)
