-- Declarations that are spelled are read.
use Rattle.std.proofs.Common.{◌≡◌, ℕ, ◌+◌, ◌-◌, ◌<◌, List, ◌++◌, true, false, Option, Some, None, refl, ◌∙◌, subst, arith}
use Rattle.std.proofs.lemmas.List.{append-nil}
use Rattle.std.proofs.lemmas.Bool.{false≢true}
use Rattle.argot_tree.specs.declared.keyword.Keyword.TheVariants as words
use Rattle.argot_tree.specs.declared.mark.Mark.TheVariants as marks
use Rattle.argot_tree.specs.declared.node_kind.NodeKind.TheVariants as nodes
use Rattle.argot_tree.specs.declared.token.TokenKind.{TokenKind}
use Rattle.argot_tree.specs.declared.token.TokenKind.TheVariants as kinds
use Rattle.argot_tree.specs.declared.token.Token.{Token}
use Rattle.argot_tree.specs.Forests.{Forest, leaf, beside, one}
use Rattle.argot_tree.specs.TokensAt.{HasAt, HasWord, HasMark, Passes, is_semicolon, begins_type, follows_parameter, is_no_bracket}
use Rattle.argot_tree.specs.Grammar.{Spells, Sort, Constant, Variable, TypeSort, Names, AnyType, MaybeTyped, MaybeValues, Exprs, TypeParams, Balanced, Declared, DeclaredList, Decl, untyped, typed, no_values, some_values, type_params}
use Rattle.argot_parse_reader.specs.Posts.{posts}
use Rattle.argot_parse_reader.specs.Reading.{The}
use Rattle.argot_parse_reader.specs.DeclarationReader.{is_generic}
use Rattle.argot_parse_reader.specs.StatementReader.{ends_stmt}
use Rattle.argot_parse_reader.specs.Reader.{read}
use Rattle.argot_parse_reader.proofs.Steps.{read_more}
use Rattle.argot_parse_reader.proofs.PostLaws.{put_posts}
use Rattle.argot_parse_reader.proofs.Exact.Nodes.{over, over_two, over_three, two, declared, names_it}
use Rattle.argot_parse_reader.proofs.Exact.Ahead.{ahead}
use Rattle.argot_parse_reader.proofs.Exact.Starts.{starts}
use Rattle.argot_parse_reader.proofs.Exact.Tokens.{Not, other, apart, failing, stops, ends_spec, at_mark, by_mark, by_test, within_at, within_mark, within_word, within_pass}
use Rattle.argot_parse_reader.proofs.Exact.Levels.{after_stop}
use Rattle.argot_parse_reader.proofs.Exact.Elements.{exprs_whole}
use Rattle.argot_parse_reader.proofs.Exact.Seconds.{ungeneric}
use Rattle.argot_parse_reader.proofs.Exact.Members.{names_forward}
use Rattle.argot_parse_reader.proofs.Exact.Claims.{OfType, OfExprs, closes, Exact}

spec_stops : (o : Option TokenKind) → ends_spec o ≡ true → stops o ≡ true
spec_stops None h = refl
spec_stops (Some (kinds.Mark marks.CloseParen)) h = refl
spec_stops (Some kinds.Inserted) h = refl
spec_stops (Some (kinds.Mark marks.Semicolon)) h = refl
spec_stops (Some (kinds.Mark marks.CloseBrace)) h = refl
spec_stops _ h = absurd (false≢true h)

spec_untyped : (o : Option TokenKind) → ends_spec o ≡ true → begins_type o ≡ false
spec_untyped None h = refl
spec_untyped (Some (kinds.Mark marks.CloseParen)) h = refl
spec_untyped (Some kinds.Inserted) h = refl
spec_untyped (Some (kinds.Mark marks.Semicolon)) h = refl
spec_untyped (Some (kinds.Mark marks.CloseBrace)) h = refl
spec_untyped _ h = absurd (false≢true h)

pub semicolon_spec : (o : Option TokenKind) → is_semicolon o ≡ true → ends_spec o ≡ true
semicolon_spec (Some kinds.Inserted) h = refl
semicolon_spec (Some (kinds.Mark marks.Semicolon)) h = refl
semicolon_spec _ h = absurd (false≢true h)

pub stmt_spec : (o : Option TokenKind) → ends_stmt o ≡ true → ends_spec o ≡ true
stmt_spec (Some kinds.Inserted) h = refl
stmt_spec (Some (kinds.Mark marks.Semicolon)) h = refl
stmt_spec (Some (kinds.Mark marks.CloseBrace)) h = refl
stmt_spec _ h = absurd (false≢true h)

closes_bracket : (o : Option TokenKind) → closes o ≡ true → is_no_bracket o ≡ false
closes_bracket (Some (kinds.Mark marks.CloseParen)) h = refl
closes_bracket (Some (kinds.Mark marks.CloseBracket)) h = refl
closes_bracket (Some (kinds.Mark marks.CloseBrace)) h = refl
closes_bracket _ h = absurd (false≢true h)

module _ (tokens : List Token) where
  pub exact_balanced_none : {from : ℕ} → Exact tokens Balanced leaf from from
  exact_balanced_none {from} = λ n out enough c.
      let more : 0 < n = omega arith in
      let bracket = failing is_no_bracket closes_bracket c in
      let open_paren = apart (kinds.Mark marks.OpenParen) c refl in
      let open_bracket = apart (kinds.Mark marks.OpenBracket) c refl in
      let open_brace = apart (kinds.Mark marks.OpenBrace) c refl in
      read_more tokens n (The Balanced) from out more ∙ simp (bracket.there, open_paren.is, open_bracket.is, open_brace.is)

  pub exact_balanced_token : {from to : ℕ} → Passes tokens is_no_bracket from → Spells tokens Balanced leaf (from + 1) to → Exact tokens Balanced leaf (from + 1) to → Exact tokens Balanced leaf from to
  exact_balanced_token {from} {to} h s ih = λ n out enough c.
      let within = within_pass h refl in
      let more : 0 < n = omega arith in
      let reads = ih (n - 1) out (omega arith) c in
      read_more tokens n (The Balanced) from out more ∙ simp (h.there, reads)

  pub exact_balanced_parens : {from mid to : ℕ} → HasMark tokens from marks.OpenParen → Spells tokens Balanced leaf (from + 1) mid → HasMark tokens mid marks.CloseParen → Spells tokens Balanced leaf (mid + 1) to → Exact tokens Balanced leaf (from + 1) mid → Exact tokens Balanced leaf (mid + 1) to → Exact tokens Balanced leaf from to
  exact_balanced_parens {from} {mid} {to} h s i t ihs iht = λ n out enough c.
      let within = within_mark h in
      let forward = ahead tokens s in
      let more : 0 < n = omega arith in
      let reads = ihs (n - 1) out (omega arith) (by_mark closes i refl) in
      let then = iht (n - 1) out (omega arith) c in
      read_more tokens n (The Balanced) from out more ∙ simp (h.there, reads, i.there, then)

  pub exact_balanced_brackets : {from mid to : ℕ} → HasMark tokens from marks.OpenBracket → Spells tokens Balanced leaf (from + 1) mid → HasMark tokens mid marks.CloseBracket → Spells tokens Balanced leaf (mid + 1) to → Exact tokens Balanced leaf (from + 1) mid → Exact tokens Balanced leaf (mid + 1) to → Exact tokens Balanced leaf from to
  exact_balanced_brackets {from} {mid} {to} h s i t ihs iht = λ n out enough c.
      let within = within_mark h in
      let forward = ahead tokens s in
      let more : 0 < n = omega arith in
      let reads = ihs (n - 1) out (omega arith) (by_mark closes i refl) in
      let then = iht (n - 1) out (omega arith) c in
      read_more tokens n (The Balanced) from out more ∙ simp (h.there, reads, i.there, then)

  pub exact_balanced_braces : {from mid to : ℕ} → HasMark tokens from marks.OpenBrace → Spells tokens Balanced leaf (from + 1) mid → HasMark tokens mid marks.CloseBrace → Spells tokens Balanced leaf (mid + 1) to → Exact tokens Balanced leaf (from + 1) mid → Exact tokens Balanced leaf (mid + 1) to → Exact tokens Balanced leaf from to
  exact_balanced_braces {from} {mid} {to} h s i t ihs iht = λ n out enough c.
      let within = within_mark h in
      let forward = ahead tokens s in
      let more : 0 < n = omega arith in
      let reads = ihs (n - 1) out (omega arith) (by_mark closes i refl) in
      let then = iht (n - 1) out (omega arith) c in
      read_more tokens n (The Balanced) from out more ∙ simp (h.there, reads, i.there, then)

  pub exact_type_params : {from to : ℕ} → HasMark tokens from marks.OpenBracket → HasAt tokens (from + 1) kinds.Name → Spells tokens Balanced leaf (from + 2) to → HasMark tokens to marks.CloseBracket → Exact tokens Balanced leaf (from + 2) to → Exact tokens TypeParams (one nodes.TypeParams from (to + 1) leaf) from (to + 1)
  exact_type_params {from} {to} h i s c ih = λ n out enough.
      let within = within_mark h in
      let more : 0 < n = omega arith in
      let reads = ih (n - 1) out (omega arith) (by_mark closes c refl) in
      read_more tokens n (The TypeParams) from out more ∙ simp (h.there, i.there, reads, c.there, put_posts nodes.TypeParams from (to + 1) out)

  pub exact_untyped : {from : ℕ} → Exact tokens MaybeTyped leaf from from
  exact_untyped {from} = λ n out enough a.
      let more : 0 < n = omega arith in
      read_more tokens n (The MaybeTyped) from out more ∙ simp (a.there, append-nil out)

  pub exact_typed : {x : Forest} {from to : ℕ} → Spells tokens AnyType x from to → OfType tokens x from to → Exact tokens MaybeTyped x from to
  exact_typed {x} {from} {to} s ih = λ n out enough a.
      let more : 0 < n = omega arith in
      let start = starts tokens s in
      let reads = ih.gets (n - 1) out (omega arith) (other (kinds.Mark marks.Dot) (at_mark a) refl) in
      read_more tokens n (The MaybeTyped) from out more ∙ simp (start.there, reads)

  pub exact_no_values : {from : ℕ} → Exact tokens MaybeValues leaf from from
  exact_no_values {from} = λ n out enough ends.
      let more : 0 < n = omega arith in
      let assign = apart (kinds.Mark marks.Assign) ends refl in
      read_more tokens n (The MaybeValues) from out more ∙ simp (assign.is, append-nil out)

  pub exact_some_values : {x : Forest} {from to : ℕ} → HasMark tokens from marks.Assign → Spells tokens (Exprs true) x (from + 1) to → OfExprs tokens true x (from + 1) to → Exact tokens MaybeValues (one nodes.Exprs (from + 1) to x) from to
  exact_some_values {x} {from} {to} a s ih = λ n out enough ends.
      let within = within_mark a in
      let more : 0 < n = omega arith in
      let reads = exprs_whole tokens ih (after_stop tokens true (by_test stops spec_stops ends)) (apart (kinds.Mark marks.Comma) ends refl) (n - 1) out (omega arith) in
      read_more tokens n (The MaybeValues) from out more ∙ simp (a.there, reads, over nodes.Exprs (from + 1) to out x)

  -- no comma stands behind names before a type and `=`
  pub typed_comma : {x : Forest} {from to : ℕ} → Spells tokens MaybeTyped x from to → HasMark tokens to marks.Assign → Not tokens from (kinds.Mark marks.Comma)
  typed_comma untyped a = other (kinds.Mark marks.Comma) (at_mark a) refl
  typed_comma (typed s) a = apart (kinds.Mark marks.Comma) (starts tokens s) refl

  values_dot : {x : Forest} {from to : ℕ} → Spells tokens MaybeValues x from to → Passes tokens ends_spec to → Not tokens from (kinds.Mark marks.Dot)
  values_dot no_values ends = apart (kinds.Mark marks.Dot) ends refl
  values_dot (some_values a s) ends = other (kinds.Mark marks.Dot) (at_mark a) refl

  pub exact_constants : {x : Forest} {from mid : ℕ} → Spells tokens Names x from mid → Exact tokens Names x from mid → Exact tokens (Declared Constant) (one nodes.ConstSpec from mid (one nodes.Names from mid x)) from mid
  exact_constants {x} {from} {mid} s ih = λ n out enough ends.
      let within = within_at (starts tokens s) in
      let more : 0 < n = omega arith in
      let two_more : 0 < n - 1 = omega arith in
      let no_type = failing begins_type spec_untyped ends in
      let assign = apart (kinds.Mark marks.Assign) ends refl in
      let reads = ih (n - 1) out (omega arith) (apart (kinds.Mark marks.Comma) ends refl) in
      let names = one nodes.Names from mid x in
      let stays : read tokens (n - 1) (The MaybeTyped) mid (out ++ posts names) ≡ Some (mid, out ++ posts names) = read_more tokens (n - 1) (The MaybeTyped) mid (out ++ posts names) two_more ∙ simp no_type.there in
      read_more tokens n (The (Declared Constant)) from out more ∙ simp (reads, over nodes.Names from mid out x, stays, assign.is, over nodes.ConstSpec from mid out names)

  pub exact_constants_are : {x y z : Forest} {from mid mid2 to : ℕ} → Spells tokens Names x from mid → Spells tokens MaybeTyped y mid mid2 → HasMark tokens mid2 marks.Assign → Spells tokens (Exprs true) z (mid2 + 1) to → Exact tokens Names x from mid → Exact tokens MaybeTyped y mid mid2 → OfExprs tokens true z (mid2 + 1) to → Exact tokens (Declared Constant) (one nodes.ConstSpec from to (beside (one nodes.Names from mid x) (beside y (one nodes.Exprs (mid2 + 1) to z)))) from to
  exact_constants_are {x} {y} {z} {from} {mid} {mid2} {to} s t a u ihx ihy ihz = λ n out enough ends.
      let within = within_at (starts tokens s) in
      let inside = within_mark a in
      let forward = ahead tokens s in
      let onward = ahead tokens t in
      let more : 0 < n = omega arith in
      let reads = ihx (n - 1) out (omega arith) (typed_comma t a) in
      let names = one nodes.Names from mid x in
      let values = one nodes.Exprs (mid2 + 1) to z in
      let type = ihy (n - 1) (out ++ posts names) (omega (arith, names_forward tokens s)) a in
      let then = exprs_whole tokens ihz (after_stop tokens true (by_test stops spec_stops ends)) (apart (kinds.Mark marks.Comma) ends refl) (n - 1) ((out ++ posts names) ++ posts y) (omega arith) in
      read_more tokens n (The (Declared Constant)) from out more ∙ simp (reads, over nodes.Names from mid out x, type, a.there, then, over nodes.Exprs (mid2 + 1) to ((out ++ posts names) ++ posts y) z, over_three nodes.ConstSpec from to out names y values)

  pub exact_variables_typed : {x y z : Forest} {from mid mid2 to : ℕ} → Spells tokens Names x from mid → Spells tokens AnyType y mid mid2 → Spells tokens MaybeValues z mid2 to → Exact tokens Names x from mid → OfType tokens y mid mid2 → Exact tokens MaybeValues z mid2 to → Exact tokens (Declared Variable) (one nodes.VarSpec from to (beside (one nodes.Names from mid x) (beside y z))) from to
  exact_variables_typed {x} {y} {z} {from} {mid} {mid2} {to} s t u ihx ihy ihz = λ n out enough ends.
      let within = within_at (starts tokens s) in
      let onward = ahead tokens t in
      let more : 0 < n = omega arith in
      let start = starts tokens t in
      let assign = apart (kinds.Mark marks.Assign) start refl in
      let reads = ihx (n - 1) out (omega arith) (apart (kinds.Mark marks.Comma) start refl) in
      let names = one nodes.Names from mid x in
      let type = ihy.gets (n - 1) (out ++ posts names) (omega (arith, names_forward tokens s)) (values_dot u ends) in
      let then = ihz (n - 1) ((out ++ posts names) ++ posts y) (omega (arith, names_forward tokens s)) ends in
      read_more tokens n (The (Declared Variable)) from out more ∙ simp (reads, over nodes.Names from mid out x, assign.is, type, then, over_three nodes.VarSpec from to out names y z)

  pub exact_variables_are : {x y : Forest} {from mid to : ℕ} → Spells tokens Names x from mid → HasMark tokens mid marks.Assign → Spells tokens (Exprs true) y (mid + 1) to → Exact tokens Names x from mid → OfExprs tokens true y (mid + 1) to → Exact tokens (Declared Variable) (one nodes.VarSpec from to (beside (one nodes.Names from mid x) (one nodes.Exprs (mid + 1) to y))) from to
  exact_variables_are {x} {y} {from} {mid} {to} s a u ihx ihy = λ n out enough ends.
      let within = within_at (starts tokens s) in
      let inside = within_mark a in
      let forward = ahead tokens s in
      let more : 0 < n = omega arith in
      let reads = ihx (n - 1) out (omega arith) (other (kinds.Mark marks.Comma) (at_mark a) refl) in
      let names = one nodes.Names from mid x in
      let values = one nodes.Exprs (mid + 1) to y in
      let then = exprs_whole tokens ihy (after_stop tokens true (by_test stops spec_stops ends)) (apart (kinds.Mark marks.Comma) ends refl) (n - 1) (out ++ posts names) (omega arith) in
      read_more tokens n (The (Declared Variable)) from out more ∙ simp (reads, over nodes.Names from mid out x, a.there, then, over nodes.Exprs (mid + 1) to (out ++ posts names) y, over_two nodes.VarSpec from to out names values)

  pub not_generic : {x : Forest} (from : ℕ) {to : ℕ} → Spells tokens AnyType x (from + 1) to → is_generic tokens from ≡ false
  not_generic {x} from {to} s =
      let next : from + 1 + 1 ≡ from + 2 = omega arith in
      let after : from + 1 + 2 ≡ from + 3 = omega arith in
      simp (next, after) at (ungeneric tokens s)

  params_open : {x : Forest} {from to : ℕ} → Spells tokens TypeParams x from to → HasAt tokens (from + 1) kinds.Name
  params_open (type_params h i s j) = i

  pub exact_type_spec : {x : Forest} {from to : ℕ} → HasAt tokens from kinds.Name → Spells tokens AnyType x (from + 1) to → OfType tokens x (from + 1) to → Exact tokens (Declared TypeSort) (one nodes.TypeSpec from to (beside (one nodes.DeclName from (from + 1) leaf) x)) from to
  exact_type_spec {x} {from} {to} h s ih = λ n out enough ends.
      let within = within_at h in
      let more : 0 < n = omega arith in
      let assign = apart (kinds.Mark marks.Assign) (starts tokens s) refl in
      let reads = ih.gets (n - 1) (out ++ posts (declared from)) (omega arith) (apart (kinds.Mark marks.Dot) ends refl) in
      read_more tokens n (The (Declared TypeSort)) from out more ∙ simp (h.there, not_generic from s, assign.is, names_it from out, reads, over_two nodes.TypeSpec from to out (declared from) x)

  pub exact_alias_spec : {x : Forest} {from to : ℕ} → HasAt tokens from kinds.Name → HasMark tokens (from + 1) marks.Assign → Spells tokens AnyType x (from + 2) to → OfType tokens x (from + 2) to → Exact tokens (Declared TypeSort) (one nodes.AliasSpec from to (beside (one nodes.DeclName from (from + 1) leaf) x)) from to
  exact_alias_spec {x} {from} {to} h a s ih = λ n out enough ends.
      let within = within_at h in
      let more : 0 < n = omega arith in
      let next : from + 1 + 1 ≡ from + 2 = omega arith in
      let reads = ih.gets (n - 1) (out ++ posts (declared from)) (omega arith) (apart (kinds.Mark marks.Dot) ends refl) in
      read_more tokens n (The (Declared TypeSort)) from out more ∙ simp (h.there, a.there, names_it from out, next, reads, over_two nodes.AliasSpec from to out (declared from) x)

  pub generic : {x : Forest} (from : ℕ) {mid : ℕ} → Passes tokens follows_parameter (from + 3) → Spells tokens TypeParams x (from + 1) mid → is_generic tokens from ≡ true
  generic {x} from {mid} f s =
      let next : from + 1 + 1 ≡ from + 2 = omega arith in
      let open_bracket = starts tokens s in
      let name : HasAt tokens (from + 2) kinds.Name = subst (λ i. HasAt tokens i kinds.Name) next (params_open s) in
      simp (open_bracket.there, name.there, f.there)

  pub exact_generic_spec : {x y : Forest} {from mid to : ℕ} → HasAt tokens from kinds.Name → Passes tokens follows_parameter (from + 3) → Spells tokens TypeParams x (from + 1) mid → Spells tokens AnyType y mid to → Exact tokens TypeParams x (from + 1) mid → OfType tokens y mid to → Exact tokens (Declared TypeSort) (one nodes.TypeSpec from to (beside (one nodes.DeclName from (from + 1) leaf) (beside x y))) from to
  exact_generic_spec {x} {y} {from} {mid} {to} h f s t ihx ihy = λ n out enough ends.
      let within = within_at h in
      let forward = ahead tokens s in
      let more : 0 < n = omega arith in
      let assign = apart (kinds.Mark marks.Assign) (starts tokens t) refl in
      let reads = ihx (n - 1) (out ++ posts (declared from)) (omega arith) in
      let then = ihy.gets (n - 1) ((out ++ posts (declared from)) ++ posts x) (omega arith) (apart (kinds.Mark marks.Dot) ends refl) in
      read_more tokens n (The (Declared TypeSort)) from out more ∙ simp (h.there, generic from f s, names_it from out, reads, assign.is, then, over_three nodes.TypeSpec from to out (declared from) x y)

  pub exact_generic_alias : {x y : Forest} {from mid to : ℕ} → HasAt tokens from kinds.Name → Passes tokens follows_parameter (from + 3) → Spells tokens TypeParams x (from + 1) mid → HasMark tokens mid marks.Assign → Spells tokens AnyType y (mid + 1) to → Exact tokens TypeParams x (from + 1) mid → OfType tokens y (mid + 1) to → Exact tokens (Declared TypeSort) (one nodes.AliasSpec from to (beside (one nodes.DeclName from (from + 1) leaf) (beside x y))) from to
  exact_generic_alias {x} {y} {from} {mid} {to} h f s a t ihx ihy = λ n out enough ends.
      let within = within_at h in
      let forward = ahead tokens s in
      let more : 0 < n = omega arith in
      let reads = ihx (n - 1) (out ++ posts (declared from)) (omega arith) in
      let then = ihy.gets (n - 1) ((out ++ posts (declared from)) ++ posts x) (omega arith) (apart (kinds.Mark marks.Dot) ends refl) in
      read_more tokens n (The (Declared TypeSort)) from out more ∙ simp (h.there, generic from f s, names_it from out, reads, a.there, then, over_three nodes.AliasSpec from to out (declared from) x y)

  pub exact_no_declared : (s : Sort) {from : ℕ} → Exact tokens (DeclaredList s) leaf from from
  exact_no_declared s {from} = λ n out enough c.
      let more : 0 < n = omega arith in
      read_more tokens n (The (DeclaredList s)) from out more ∙ simp (c.there, append-nil out)

  pub exact_last_declared : {k : Sort} {x : Forest} {from to : ℕ} → Spells tokens (Declared k) x from to → HasMark tokens to marks.CloseParen → Exact tokens (Declared k) x from to → Exact tokens (DeclaredList k) x from to
  exact_last_declared {k} {x} {from} {to} s c ih = λ n out enough d.
      let more : 0 < n = omega arith in
      let name = starts tokens s in
      let reads = ih (n - 1) out (omega arith) (by_mark ends_spec c refl) in
      read_more tokens n (The (DeclaredList k)) from out more ∙ simp (name.there, reads, c.there)

  pub exact_one_declared : {k : Sort} {x y : Forest} {from mid to : ℕ} → Spells tokens (Declared k) x from mid → Passes tokens is_semicolon mid → Spells tokens (DeclaredList k) y (mid + 1) to → Exact tokens (Declared k) x from mid → Exact tokens (DeclaredList k) y (mid + 1) to → Exact tokens (DeclaredList k) (beside x y) from to
  exact_one_declared {k} {x} {y} {from} {mid} {to} s c t ihx ihy = λ n out enough d.
      let within = within_pass c refl in
      let forward = ahead tokens s in
      let more : 0 < n = omega arith in
      let name = starts tokens s in
      let reads = ihx (n - 1) out (omega arith) (by_test ends_spec semicolon_spec c) in
      let then = ihy (n - 1) (out ++ posts x) (omega arith) d in
      read_more tokens n (The (DeclaredList k)) from out more ∙ simp (name.there, reads, c.there, then, two out x y)

  pub exact_decl_const : {x : Forest} {from to : ℕ} → HasWord tokens from words.Const → Spells tokens (Declared Constant) x (from + 1) to → Exact tokens (Declared Constant) x (from + 1) to → Exact tokens Decl (one nodes.ConstDecl from to x) from to
  exact_decl_const {x} {from} {to} h s ih = λ n out enough ends.
      let within = within_word h in
      let more : 0 < n = omega arith in
      let name = starts tokens s in
      let reads = ih (n - 1) out (omega arith) ends in
      read_more tokens n (The Decl) from out more ∙ simp (h.there, name.there, reads, over nodes.ConstDecl from to out x)

  pub exact_group_const : {x : Forest} {from to : ℕ} → HasWord tokens from words.Const → HasMark tokens (from + 1) marks.OpenParen → Spells tokens (DeclaredList Constant) x (from + 2) to → HasMark tokens to marks.CloseParen → Exact tokens (DeclaredList Constant) x (from + 2) to → Exact tokens Decl (one nodes.ConstGroup from (to + 1) x) from (to + 1)
  exact_group_const {x} {from} {to} h i s c ih = λ n out enough ends.
      let within = within_word h in
      let more : 0 < n = omega arith in
      let reads = ih (n - 1) out (omega arith) c in
      read_more tokens n (The Decl) from out more ∙ simp (h.there, i.there, reads, c.there, over nodes.ConstGroup from (to + 1) out x)

  pub exact_decl_var : {x : Forest} {from to : ℕ} → HasWord tokens from words.Var → Spells tokens (Declared Variable) x (from + 1) to → Exact tokens (Declared Variable) x (from + 1) to → Exact tokens Decl (one nodes.VarDecl from to x) from to
  exact_decl_var {x} {from} {to} h s ih = λ n out enough ends.
      let within = within_word h in
      let more : 0 < n = omega arith in
      let name = starts tokens s in
      let reads = ih (n - 1) out (omega arith) ends in
      read_more tokens n (The Decl) from out more ∙ simp (h.there, name.there, reads, over nodes.VarDecl from to out x)

  pub exact_group_var : {x : Forest} {from to : ℕ} → HasWord tokens from words.Var → HasMark tokens (from + 1) marks.OpenParen → Spells tokens (DeclaredList Variable) x (from + 2) to → HasMark tokens to marks.CloseParen → Exact tokens (DeclaredList Variable) x (from + 2) to → Exact tokens Decl (one nodes.VarGroup from (to + 1) x) from (to + 1)
  exact_group_var {x} {from} {to} h i s c ih = λ n out enough ends.
      let within = within_word h in
      let more : 0 < n = omega arith in
      let reads = ih (n - 1) out (omega arith) c in
      read_more tokens n (The Decl) from out more ∙ simp (h.there, i.there, reads, c.there, over nodes.VarGroup from (to + 1) out x)

  pub exact_decl_type : {x : Forest} {from to : ℕ} → HasWord tokens from words.TypeWord → Spells tokens (Declared TypeSort) x (from + 1) to → Exact tokens (Declared TypeSort) x (from + 1) to → Exact tokens Decl (one nodes.TypeDecl from to x) from to
  exact_decl_type {x} {from} {to} h s ih = λ n out enough ends.
      let within = within_word h in
      let more : 0 < n = omega arith in
      let name = starts tokens s in
      let reads = ih (n - 1) out (omega arith) ends in
      read_more tokens n (The Decl) from out more ∙ simp (h.there, name.there, reads, over nodes.TypeDecl from to out x)

  pub exact_group_type : {x : Forest} {from to : ℕ} → HasWord tokens from words.TypeWord → HasMark tokens (from + 1) marks.OpenParen → Spells tokens (DeclaredList TypeSort) x (from + 2) to → HasMark tokens to marks.CloseParen → Exact tokens (DeclaredList TypeSort) x (from + 2) to → Exact tokens Decl (one nodes.TypeGroup from (to + 1) x) from (to + 1)
  exact_group_type {x} {from} {to} h i s c ih = λ n out enough ends.
      let within = within_word h in
      let more : 0 < n = omega arith in
      let reads = ih (n - 1) out (omega arith) c in
      read_more tokens n (The Decl) from out more ∙ simp (h.there, i.there, reads, c.there, over nodes.TypeGroup from (to + 1) out x)
