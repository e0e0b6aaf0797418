-- The clauses of a `switch` and of a `select` that are read are spelled, and so is a statement.
use Rattle.std.proofs.Common.{◌≡◌, ℕ, ◌+◌, List, [], ◌++◌, length, true, Option, Some, refl}
use Rattle.argot_tree.specs.declared.keyword.Keyword.TheVariants as words
use Rattle.argot_tree.specs.declared.mark.Mark.TheVariants as marks
use Rattle.argot_tree.specs.declared.node_kind.NodeKind.{NodeKind}
use Rattle.argot_tree.specs.declared.node_kind.NodeKind.TheVariants as nodes
use Rattle.argot_tree.specs.declared.token.TokenKind.{TokenKind}
use Rattle.argot_tree.specs.declared.token.TokenKind.TheVariants as kinds
use Rattle.argot_tree.specs.declared.token.Token.{Token}
use Rattle.argot_tree.specs.Forests.{Forest, beside, one}
use Rattle.argot_tree.specs.TokensAt.{kind_at, HasMark, HasWord}
use Rattle.argot_tree.specs.Grammar.{Part, Level, Exprs, Eithers, Decl, Block, Stmts, Stmt, Simple, MaybeLabel, Cases, Case, Comms, Comm, Spells, decl_stmt, simple_stmt, go_stmt, defer_stmt, break_stmt, continue_stmt, fallthrough_stmt, block_stmt, if_stmt, no_case, one_case, case, default_case, select, no_comm, one_comm, send_comm, assign_comm, define_comm, receive_comm, default_comm}
use Rattle.argot_parse_reader.specs.declared.post.Post.{Post}
use Rattle.argot_parse_reader.specs.Posts.{posts}
use Rattle.argot_parse_reader.specs.Reading.{The, Ifs, Reader, ◌>>=◌, closed, closing, is_word, is_mark}
use Rattle.argot_parse_reader.specs.StatementReader.{begins_clause, labels, more_by, clause_by, cases_by, case_by, select_by, comms_by, received_by, comm_behind_by, comm_by, stmt_by}
use Rattle.argot_parse_reader.proofs.TokenTests.{has_word, has_mark}
use Rattle.argot_parse_reader.proofs.PostLaws.{closed_posts, joined}
use Rattle.argot_parse_reader.proofs.Holding.{Holds, none, given, bind, regroup, weaken, choose}
use Rattle.argot_parse_reader.proofs.SoundReads.{Has, IsSound, node, bare, nothing, then, last, must, behind_two}
use Rattle.argot_parse_reader.proofs.SoundStatements.{more_sound, label_sound, return_sound, goto_sound}
use Rattle.argot_parse_reader.proofs.SoundSwitches.{switch_sound}
use Rattle.argot_parse_reader.proofs.SoundLoops.{for_sound}

-- a clause from its colon on
clause_sound : {tokens : List Token} {rec : Reader} {p : Part} → IsSound tokens rec → (kind : NodeKind) (from : ℕ) (base : List Post) (r : ℕ × List Post) (whole : Forest → Forest) → ((z : Forest) (new : List Post) → new ≡ r.1 ++ posts z → new ≡ base ++ posts (whole z)) → ((z : Forest) (to : ℕ) → HasMark tokens r.0 marks.Colon → Spells tokens Stmts z (r.0 + 1) to → Spells tokens p (one kind from to (whole z)) from to) → Holds (Has tokens p from base) (clause_by tokens rec kind from (length base) r)
clause_sound {tokens} {rec} g kind from base r whole join make =
    choose (is_mark tokens r.0 marks.Colon)
    (λ e. then g Stmts (r.0 + 1) r.1 (λ q h. given (node kind from base (make h.0 q.0 (has_mark r.0 marks.Colon e) h.1) (join h.0 q.1 h.2))))
    (λ _. none)

pub cases_sound : {tokens : List Token} {rec : Reader} → IsSound tokens rec → (at : ℕ) (out : List Post) → Holds (Has tokens Cases at out) (cases_by tokens rec at out)
cases_sound {tokens} {rec} g at out =
    choose (begins_clause (kind_at tokens at))
    (λ _. then g Case at out (λ r h. last g Cases r.0 r.1 (λ to new k. (beside h.0 k.0, one_case h.1 k.1, joined out r.1 new h.0 k.0 h.2 k.2))))
    (λ _. given (nothing at out no_case))

pub case_sound : {tokens : List Token} {rec : Reader} → IsSound tokens rec → (at : ℕ) (out : List Post) → Holds (Has tokens Case at out) (case_by tokens rec at out)
case_sound {tokens} {rec} g at out =
    choose (is_word tokens at words.Case)
    (λ e. regroup (rec (The Eithers) (at + 1) out) _ _ (then g Eithers (at + 1) out (λ r h.
    let values : List Post = closed nodes.Values (at + 1) r.0 (length out) r.1 in
    clause_sound g nodes.Case at out (r.0, values) (λ z. beside (one nodes.Values (at + 1) r.0 h.0) z)
    (λ z new n. joined out values new (one nodes.Values (at + 1) r.0 h.0) z (closed_posts nodes.Values (at + 1) r.0 (length out) out r.1 h.0 h.2 refl) n)
    (λ z to c s. case (has_word at words.Case e) h.1 c s))))
    (λ _. choose (is_word tokens at words.Default)
    (λ e. clause_sound g nodes.Default at out (at + 1, out) (λ z. z) (λ z new n. n) (λ z to c s. default_case (has_word at words.Default e) c (behind_two at s)))
    (λ _. none))

select_sound : {tokens : List Token} {rec : Reader} → IsSound tokens rec → (at : ℕ) (out : List Post) → HasWord tokens at words.Select → Holds (Has tokens Stmt at out) (select_by tokens rec at out)
select_sound {tokens} {rec} g at out w =
    choose (is_mark tokens (at + 1) marks.OpenBrace)
    (λ e. regroup (rec (The Comms) (at + 2) out) _ _ (then g Comms (at + 2) out (λ r h. must marks.CloseBrace r _ (λ c. given (node nodes.Select at out (select w (has_mark (at + 1) marks.OpenBrace e) h.1 c) h.2)))))
    (λ _. none)

pub comms_sound : {tokens : List Token} {rec : Reader} → IsSound tokens rec → (at : ℕ) (out : List Post) → Holds (Has tokens Comms at out) (comms_by tokens rec at out)
comms_sound {tokens} {rec} g at out =
    choose (begins_clause (kind_at tokens at))
    (λ _. then g Comm at out (λ r h. last g Comms r.0 r.1 (λ to new k. (beside h.0 k.0, one_comm h.1 k.1, joined out r.1 new h.0 k.0 h.2 k.2))))
    (λ _. given (nothing at out no_comm))

-- left sides of a communication that are read
received_sound : {tokens : List Token} {rec : Reader} → IsSound tokens rec → (at : ℕ) (out : List Post) (r : ℕ × List Post) → HasWord tokens at words.Case → Has tokens (Exprs true) (at + 1) out r.0 r.1 → Holds (Has tokens Comm at out) (received_by tokens rec at (length out) r)
received_sound {tokens} {rec} g at out r w h =
    let left : Forest = one nodes.Exprs (at + 1) r.0 h.0 in
    let lefts : List Post = closed nodes.Exprs (at + 1) r.0 (length out) r.1 in
    let lefts_are : lefts ≡ out ++ posts left = closed_posts nodes.Exprs (at + 1) r.0 (length out) out r.1 h.0 h.2 refl in
    choose (is_mark tokens r.0 marks.Assign)
    (λ e. then g (Level 1 true) (r.0 + 1) lefts (λ q k. clause_sound g nodes.AssignCase at out q (λ z. beside left (beside k.0 z))
    (λ z new n. joined out lefts new left (beside k.0 z) lefts_are (joined lefts q.1 new k.0 z k.2 n))
    (λ z to c s. assign_comm w h.1 (has_mark r.0 marks.Assign e) k.1 c s)))
    (λ _. choose (is_mark tokens r.0 marks.Define)
    (λ e. then g (Level 1 true) (r.0 + 1) lefts (λ q k. clause_sound g nodes.DefineCase at out q (λ z. beside left (beside k.0 z))
    (λ z new n. joined out lefts new left (beside k.0 z) lefts_are (joined lefts q.1 new k.0 z k.2 n))
    (λ z to c s. define_comm w h.1 (has_mark r.0 marks.Define e) k.1 c s)))
    (λ _. none))

comm_behind_sound : {tokens : List Token} {rec : Reader} → IsSound tokens rec → (at : ℕ) (out : List Post) (r : ℕ × List Post) → HasWord tokens at words.Case → Has tokens (Level 1 true) (at + 1) out r.0 r.1 → Holds (Has tokens Comm at out) (comm_behind_by tokens rec at (length out) r)
comm_behind_sound {tokens} {rec} g at out r w h =
    choose (is_mark tokens r.0 marks.Arrow)
    (λ e. then g (Level 1 true) (r.0 + 1) r.1 (λ q k. clause_sound g nodes.SendCase at out q (λ z. beside h.0 (beside k.0 z))
    (λ z new n. joined out r.1 new h.0 (beside k.0 z) h.2 (joined r.1 q.1 new k.0 z k.2 n))
    (λ z to c s. send_comm w h.1 (has_mark r.0 marks.Arrow e) k.1 c s)))
    (λ _. choose (is_mark tokens r.0 marks.Colon)
    (λ _. clause_sound g nodes.ReceiveCase at out r (λ z. beside h.0 z) (λ z new n. joined out r.1 new h.0 z h.2 n) (λ z to c s. receive_comm w h.1 c s))
    (λ _. bind (more_by tokens rec true r) (more_sound g true (at + 1) out r h.0 h.1 h.2) (λ q k. received_sound g at out q w k)))

pub comm_sound : {tokens : List Token} {rec : Reader} → IsSound tokens rec → (at : ℕ) (out : List Post) → Holds (Has tokens Comm at out) (comm_by tokens rec at out)
comm_sound {tokens} {rec} g at out =
    choose (is_word tokens at words.Case)
    (λ e. then g (Level 1 true) (at + 1) out (λ r h. comm_behind_sound g at out r (has_word at words.Case e) h))
    (λ _. choose (is_word tokens at words.Default)
    (λ e. clause_sound g nodes.Default at out (at + 1, out) (λ z. z) (λ z new n. n) (λ z to c s. default_comm (has_word at words.Default e) c (behind_two at s)))
    (λ _. none))

simple_stmt_sound : {tokens : List Token} {rec : Reader} → IsSound tokens rec → (at : ℕ) (out : List Post) → Holds (Has tokens Stmt at out) (rec (The (Simple true)) at out)
simple_stmt_sound g at out = last g (Simple true) at out (λ to new h. (h.0, simple_stmt h.1, h.2))

decl_stmt_sound : {tokens : List Token} {rec : Reader} → IsSound tokens rec → (at : ℕ) (out : List Post) → Holds (Has tokens Stmt at out) (rec (The Decl) at out >>= closing nodes.DeclStmt at out)
decl_stmt_sound g at out = then g Decl at out (λ r h. given (node nodes.DeclStmt at out (decl_stmt h.1) h.2))

if_stmt_sound : {tokens : List Token} {rec : Reader} → IsSound tokens rec → (at : ℕ) (out : List Post) → Holds (Has tokens Stmt at out) (rec (Ifs []) at out)
if_stmt_sound {tokens} {rec} g at out = weaken (rec (Ifs []) at out) (g.kept (Ifs []) at out) (λ to new h. (h.0, if_stmt h.1, h.2))

-- a statement, by the token that begins it
pub stmt_sound : {tokens : List Token} {rec : Reader} → IsSound tokens rec → (at : ℕ) (out : List Post) (kind : Option TokenKind) → kind_at tokens at ≡ kind → Holds (Has tokens Stmt at out) (stmt_by tokens rec kind at out)
stmt_sound g at out (Some (kinds.Word words.Const)) e = decl_stmt_sound g at out
stmt_sound g at out (Some (kinds.Word words.Var)) e = decl_stmt_sound g at out
stmt_sound g at out (Some (kinds.Word words.TypeWord)) e = decl_stmt_sound g at out
stmt_sound g at out (Some (kinds.Word words.Go)) e =
    then g (Level 1 true) (at + 1) out (λ r h. given (node nodes.Go at out (go_stmt (record { there = e }) h.1) h.2))
stmt_sound g at out (Some (kinds.Word words.Defer)) e =
    then g (Level 1 true) (at + 1) out (λ r h. given (node nodes.Defer at out (defer_stmt (record { there = e }) h.1) h.2))
stmt_sound g at out (Some (kinds.Word words.Return)) e = return_sound g at out (record { there = e })
stmt_sound g at out (Some (kinds.Word words.Break)) e =
    then g MaybeLabel (at + 1) out (λ r h. given (node nodes.Break at out (break_stmt (record { there = e }) h.1) h.2))
stmt_sound g at out (Some (kinds.Word words.Continue)) e =
    then g MaybeLabel (at + 1) out (λ r h. given (node nodes.Continue at out (continue_stmt (record { there = e }) h.1) h.2))
stmt_sound g at out (Some (kinds.Word words.Goto)) e = goto_sound at out (record { there = e })
stmt_sound g at out (Some (kinds.Word words.Fallthrough)) e = given (bare nodes.Fallthrough at out (fallthrough_stmt (record { there = e })))
stmt_sound g at out (Some (kinds.Word words.If)) e = if_stmt_sound g at out
stmt_sound g at out (Some (kinds.Word words.Switch)) e = switch_sound g at out (record { there = e })
stmt_sound g at out (Some (kinds.Word words.Select)) e = select_sound g at out (record { there = e })
stmt_sound g at out (Some (kinds.Word words.For)) e = for_sound g at out (record { there = e })
stmt_sound g at out (Some (kinds.Mark marks.OpenBrace)) e = last g Block at out (λ to new h. (h.0, block_stmt h.1, h.2))
stmt_sound {tokens} {rec} g at out (Some kinds.Name) e =
    choose (labels tokens at) (λ l. label_sound g [] at out l) (λ _. simple_stmt_sound g at out)
stmt_sound g at out _ e = simple_stmt_sound g at out
