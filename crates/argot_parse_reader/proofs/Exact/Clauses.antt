-- The clauses of a switch and of a select that are spelled are read.
use Rattle.std.proofs.Common.{◌≡◌, ℕ, ◌+◌, ◌-◌, ◌<◌, List, ◌++◌, Bool, true, false, Option, Some, refl, sym, ◌∙◌, subst, ⊎_elim, arith}
use Rattle.std.proofs.lemmas.List.{append-nil}
use Rattle.std.proofs.lemmas.Bool.{false≢true}
use Rattle.argot_tree.specs.declared.keyword.Keyword.TheVariants as words
use Rattle.argot_tree.specs.declared.mark.Mark.TheVariants as marks
use Rattle.argot_tree.specs.declared.node_kind.NodeKind.TheVariants as nodes
use Rattle.argot_tree.specs.declared.token.TokenKind.{TokenKind}
use Rattle.argot_tree.specs.declared.token.TokenKind.TheVariants as kinds
use Rattle.argot_tree.specs.declared.token.Token.{Token}
use Rattle.argot_tree.specs.Forests.{Forest, leaf, beside, one}
use Rattle.argot_tree.specs.TokensAt.{HasWord, HasMark, Passes}
use Rattle.argot_tree.specs.Grammar.{Spells, Level, Exprs, Eithers, Stmts, Stmt, Cases, Case, Comms, Comm, no_case, one_case, case, default_case, no_comm, one_comm, send_comm, assign_comm, define_comm, receive_comm, default_comm}
use Rattle.argot_parse_reader.specs.Posts.{posts}
use Rattle.argot_parse_reader.specs.Reading.{The}
use Rattle.argot_parse_reader.specs.StatementReader.{begins_clause, ends_stmts}
use Rattle.argot_parse_reader.proofs.Steps.{read_more}
use Rattle.argot_parse_reader.proofs.Exact.Nodes.{over, over_two, over_three, two}
use Rattle.argot_parse_reader.proofs.Exact.Ahead.{ahead}
use Rattle.argot_parse_reader.proofs.Exact.Starts.{starts}
use Rattle.argot_parse_reader.proofs.Exact.Tokens.{other, apart, stops, follows, at_mark, at_word, by_mark, by_test, within_mark, within_word, within_pass}
use Rattle.argot_parse_reader.proofs.Exact.Levels.{level_gets, after_stop}
use Rattle.argot_parse_reader.proofs.Exact.Statements.{begun_by}
use Rattle.argot_parse_reader.proofs.Exact.Claims.{OfLevel, OfExprs, OfStmt, Exact}

clause_ends : (o : Option TokenKind) → begins_clause o ≡ true → ends_stmts o ≡ true
clause_ends (Some (kinds.Word words.Case)) h = refl
clause_ends (Some (kinds.Word words.Default)) h = refl
clause_ends _ h = absurd (false≢true h)

-- what stands behind the first of the left sides of a communication
abbrev goes_to_value : Option TokenKind → Bool
goes_to_value (Some (kinds.Mark marks.Comma)) = true
goes_to_value (Some (kinds.Mark marks.Assign)) = true
goes_to_value (Some (kinds.Mark marks.Define)) = true
goes_to_value _ = false

module _ (tokens : List Token) where
  pub exact_no_case : {from : ℕ} → Exact tokens Cases leaf from from
  exact_no_case {from} = λ n out enough c.
      let more : 0 < n = omega arith in
      read_more tokens n (The Cases) from out more ∙ simp (c.there, append-nil out)

  cases_begin : {x : Forest} {from to : ℕ} → Spells tokens Cases x from to → HasMark tokens to marks.CloseBrace → Passes tokens ends_stmts from
  cases_begin no_case c = by_mark ends_stmts c refl
  cases_begin (one_case s t) c = by_test ends_stmts clause_ends (starts tokens s)

  case_forward : {x : Forest} {from to : ℕ} → Spells tokens Case x from to → from < to
  case_forward (case h s c t) = omega (arith, ahead tokens s, ahead tokens t)
  case_forward (default_case h c t) = omega (arith, ahead tokens t)

  pub exact_one_case : {x y : Forest} {from mid to : ℕ} → Spells tokens Case x from mid → Spells tokens Cases y mid to → Exact tokens Case x from mid → Exact tokens Cases y mid to → Exact tokens Cases (beside x y) from to
  exact_one_case {x} {y} {from} {mid} {to} s t ihx ihy = λ n out enough c.
      let start = starts tokens s in
      let within = within_pass start refl in
      let forward = case_forward s in
      let more : 0 < n = omega arith in
      let reads = ihx (n - 1) out (omega arith) (cases_begin t c) in
      let then = ihy (n - 1) (out ++ posts x) (omega arith) c in
      read_more tokens n (The Cases) from out more ∙ simp (start.there, reads, then, two out x y)

  pub exact_case : {x y : Forest} {from mid to : ℕ} → HasWord tokens from words.Case → Spells tokens Eithers x (from + 1) mid → HasMark tokens mid marks.Colon → Spells tokens Stmts y (mid + 1) to → Exact tokens Eithers x (from + 1) mid → Exact tokens Stmts y (mid + 1) to → Exact tokens Case (one nodes.Case from to (beside (one nodes.Values (from + 1) mid x) y)) from to
  exact_case {x} {y} {from} {mid} {to} h s c t ihx ihy = λ n out enough ends.
      let within = within_word h in
      let inside = within_mark c in
      let forward = ahead tokens s in
      let more : 0 < n = omega arith in
      let values = one nodes.Values (from + 1) mid x in
      let reads = ihx (n - 1) out (omega arith) (by_mark stops c refl) (simp c.there) in
      let then = ihy (n - 1) (out ++ posts values) (omega arith) ends in
      read_more tokens n (The Case) from out more ∙ simp (h.there, reads, over nodes.Values (from + 1) mid out x, c.there, then, over_two nodes.Case from to out values y)

  pub exact_default_case : {x : Forest} {from to : ℕ} → HasWord tokens from words.Default → HasMark tokens (from + 1) marks.Colon → Spells tokens Stmts x (from + 2) to → Exact tokens Stmts x (from + 2) to → Exact tokens Case (one nodes.Default from to x) from to
  exact_default_case {x} {from} {to} h c s ih = λ n out enough ends.
      let within = within_word h in
      let next : from + 1 + 1 ≡ from + 2 = omega arith in
      let more : 0 < n = omega arith in
      let reads = ih (n - 1) out (omega arith) ends in
      read_more tokens n (The Case) from out more ∙ simp (h.there, c.there, next, reads, over nodes.Default from to out x)

  pub exact_select : {x : Forest} {from to : ℕ} → HasWord tokens from words.Select → HasMark tokens (from + 1) marks.OpenBrace → Spells tokens Comms x (from + 2) to → HasMark tokens to marks.CloseBrace → Spells tokens Stmt (one nodes.Select from (to + 1) x) from (to + 1) → Exact tokens Comms x (from + 2) to → OfStmt tokens (one nodes.Select from (to + 1) x) from (to + 1)
  exact_select {x} {from} {to} h b s c whole ih = begun_by tokens (at_word h) refl whole
      (λ n out enough ends.
      let within = within_word h in
      let more : 0 < n = omega arith in
      let reads = ih (n - 1) out (omega arith) c in
      read_more tokens n (The Stmt) from out more ∙ simp (h.there, b.there, reads, c.there, over nodes.Select from (to + 1) out x))

  pub exact_no_comm : {from : ℕ} → Exact tokens Comms leaf from from
  exact_no_comm {from} = λ n out enough c.
      let more : 0 < n = omega arith in
      read_more tokens n (The Comms) from out more ∙ simp (c.there, append-nil out)

  comms_begin : {x : Forest} {from to : ℕ} → Spells tokens Comms x from to → HasMark tokens to marks.CloseBrace → Passes tokens ends_stmts from
  comms_begin no_comm c = by_mark ends_stmts c refl
  comms_begin (one_comm s t) c = by_test ends_stmts clause_ends (starts tokens s)

  comm_forward : {x : Forest} {from to : ℕ} → Spells tokens Comm x from to → from < to
  comm_forward (send_comm h s i t c u) = omega (arith, ahead tokens s, ahead tokens t, ahead tokens u)
  comm_forward (assign_comm h s i t c u) = omega (arith, ahead tokens s, ahead tokens t, ahead tokens u)
  comm_forward (define_comm h s i t c u) = omega (arith, ahead tokens s, ahead tokens t, ahead tokens u)
  comm_forward (receive_comm h s c t) = omega (arith, ahead tokens s, ahead tokens t)
  comm_forward (default_comm h c t) = omega (arith, ahead tokens t)

  pub exact_one_comm : {x y : Forest} {from mid to : ℕ} → Spells tokens Comm x from mid → Spells tokens Comms y mid to → Exact tokens Comm x from mid → Exact tokens Comms y mid to → Exact tokens Comms (beside x y) from to
  exact_one_comm {x} {y} {from} {mid} {to} s t ihx ihy = λ n out enough c.
      let start = starts tokens s in
      let within = within_pass start refl in
      let forward = comm_forward s in
      let more : 0 < n = omega arith in
      let reads = ihx (n - 1) out (omega arith) (comms_begin t c) in
      let then = ihy (n - 1) (out ++ posts x) (omega arith) c in
      read_more tokens n (The Comms) from out more ∙ simp (start.there, reads, then, two out x y)

  pub exact_send_comm : {x y z : Forest} {from mid mid2 to : ℕ} → HasWord tokens from words.Case → Spells tokens (Level 1 true) x (from + 1) mid → HasMark tokens mid marks.Arrow → Spells tokens (Level 1 true) y (mid + 1) mid2 → HasMark tokens mid2 marks.Colon → Spells tokens Stmts z (mid2 + 1) to → OfLevel tokens 1 true x (from + 1) mid → OfLevel tokens 1 true y (mid + 1) mid2 → Exact tokens Stmts z (mid2 + 1) to → Exact tokens Comm (one nodes.SendCase from to (beside x (beside y z))) from to
  exact_send_comm {x} {y} {z} {from} {mid} {mid2} {to} h s i t c u ihx ihy ihz = λ n out enough ends.
      let within = within_word h in
      let inside = within_mark i in
      let deep = within_mark c in
      let forward = ahead tokens s in
      let onward = ahead tokens t in
      let more : 0 < n = omega arith in
      let reads = level_gets tokens s ihx (by_mark (follows true) i refl) (n - 1) out (omega arith) in
      let then = level_gets tokens t ihy (by_mark (follows true) c refl) (n - 1) (out ++ posts x) (omega arith) in
      let body = ihz (n - 1) ((out ++ posts x) ++ posts y) (omega arith) ends in
      read_more tokens n (The Comm) from out more ∙ simp (h.there, reads, i.there, then, c.there, body, over_three nodes.SendCase from to out x y z)

  pub exact_assign_comm : {x y z : Forest} {from mid mid2 to : ℕ} → HasWord tokens from words.Case → Spells tokens (Exprs true) x (from + 1) mid → HasMark tokens mid marks.Assign → Spells tokens (Level 1 true) y (mid + 1) mid2 → HasMark tokens mid2 marks.Colon → Spells tokens Stmts z (mid2 + 1) to → OfExprs tokens true x (from + 1) mid → OfLevel tokens 1 true y (mid + 1) mid2 → Exact tokens Stmts z (mid2 + 1) to → Exact tokens Comm (one nodes.AssignCase from to (beside (one nodes.Exprs (from + 1) mid x) (beside y z))) from to
  exact_assign_comm {x} {y} {z} {from} {mid} {mid2} {to} h s i t c u ihx ihy ihz = λ n out enough ends.
      let within = within_word h in
      let inside = within_mark i in
      let deep = within_mark c in
      let forward = ahead tokens s in
      let onward = ahead tokens t in
      let more : 0 < n = omega arith in
      let left = one nodes.Exprs (from + 1) mid x in
      let r = ihx (n - 1) out (omega arith) (after_stop tokens true (by_mark stops i refl)) (other (kinds.Mark marks.Comma) (at_mark i) refl) in
      let reads = r.reads in
      let goes = r.goes in
      let first : Passes tokens goes_to_value r.first.0 = ⊎_elim (λ e. subst (λ j. Passes tokens goes_to_value j) (sym e) (by_mark goes_to_value i refl)) (λ d. by_mark goes_to_value d refl) r.then in
      let arrow = apart (kinds.Mark marks.Arrow) first refl in
      let colon = apart (kinds.Mark marks.Colon) first refl in
      let then = level_gets tokens t ihy (by_mark (follows true) c refl) (n - 1) (out ++ posts left) (omega arith) in
      let body = ihz (n - 1) ((out ++ posts left) ++ posts y) (omega arith) ends in
      read_more tokens n (The Comm) from out more ∙ simp (h.there, reads, arrow.is, colon.is, goes, i.there, over nodes.Exprs (from + 1) mid out x, then, c.there, body, over_three nodes.AssignCase from to out left y z)

  pub exact_define_comm : {x y z : Forest} {from mid mid2 to : ℕ} → HasWord tokens from words.Case → Spells tokens (Exprs true) x (from + 1) mid → HasMark tokens mid marks.Define → Spells tokens (Level 1 true) y (mid + 1) mid2 → HasMark tokens mid2 marks.Colon → Spells tokens Stmts z (mid2 + 1) to → OfExprs tokens true x (from + 1) mid → OfLevel tokens 1 true y (mid + 1) mid2 → Exact tokens Stmts z (mid2 + 1) to → Exact tokens Comm (one nodes.DefineCase from to (beside (one nodes.Exprs (from + 1) mid x) (beside y z))) from to
  exact_define_comm {x} {y} {z} {from} {mid} {mid2} {to} h s i t c u ihx ihy ihz = λ n out enough ends.
      let within = within_word h in
      let inside = within_mark i in
      let deep = within_mark c in
      let forward = ahead tokens s in
      let onward = ahead tokens t in
      let more : 0 < n = omega arith in
      let left = one nodes.Exprs (from + 1) mid x in
      let r = ihx (n - 1) out (omega arith) (after_stop tokens true (by_mark stops i refl)) (other (kinds.Mark marks.Comma) (at_mark i) refl) in
      let reads = r.reads in
      let goes = r.goes in
      let first : Passes tokens goes_to_value r.first.0 = ⊎_elim (λ e. subst (λ j. Passes tokens goes_to_value j) (sym e) (by_mark goes_to_value i refl)) (λ d. by_mark goes_to_value d refl) r.then in
      let arrow = apart (kinds.Mark marks.Arrow) first refl in
      let colon = apart (kinds.Mark marks.Colon) first refl in
      let then = level_gets tokens t ihy (by_mark (follows true) c refl) (n - 1) (out ++ posts left) (omega arith) in
      let body = ihz (n - 1) ((out ++ posts left) ++ posts y) (omega arith) ends in
      read_more tokens n (The Comm) from out more ∙ simp (h.there, reads, arrow.is, colon.is, goes, i.there, over nodes.Exprs (from + 1) mid out x, then, c.there, body, over_three nodes.DefineCase from to out left y z)

  pub exact_receive_comm : {x y : Forest} {from mid to : ℕ} → HasWord tokens from words.Case → Spells tokens (Level 1 true) x (from + 1) mid → HasMark tokens mid marks.Colon → Spells tokens Stmts y (mid + 1) to → OfLevel tokens 1 true x (from + 1) mid → Exact tokens Stmts y (mid + 1) to → Exact tokens Comm (one nodes.ReceiveCase from to (beside x y)) from to
  exact_receive_comm {x} {y} {from} {mid} {to} h s c t ihx ihy = λ n out enough ends.
      let within = within_word h in
      let inside = within_mark c in
      let forward = ahead tokens s in
      let more : 0 < n = omega arith in
      let reads = level_gets tokens s ihx (by_mark (follows true) c refl) (n - 1) out (omega arith) in
      let body = ihy (n - 1) (out ++ posts x) (omega arith) ends in
      read_more tokens n (The Comm) from out more ∙ simp (h.there, reads, c.there, body, over_two nodes.ReceiveCase from to out x y)

  pub exact_default_comm : {x : Forest} {from to : ℕ} → HasWord tokens from words.Default → HasMark tokens (from + 1) marks.Colon → Spells tokens Stmts x (from + 2) to → Exact tokens Stmts x (from + 2) to → Exact tokens Comm (one nodes.Default from to x) from to
  exact_default_comm {x} {from} {to} h c s ih = λ n out enough ends.
      let within = within_word h in
      let next : from + 1 + 1 ≡ from + 2 = omega arith in
      let more : 0 < n = omega arith in
      let reads = ih (n - 1) out (omega arith) ends in
      read_more tokens n (The Comm) from out more ∙ simp (h.there, c.there, next, reads, over nodes.Default from to out x)
