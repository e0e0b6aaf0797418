-- Statements that are read are spelled.
use Rattle.std.proofs.Common.{◌≡◌, ℕ, ◌+◌, List, ◌∷◌, ◌++◌, length, Bool, true, refl, sym, ap, ◌∙◌, subst, inl, inr, ⊎_elim}
use Rattle.std.proofs.lemmas.Bool.{and_parts}
use Rattle.argot_tree.specs.declared.keyword.Keyword.TheVariants as words
use Rattle.argot_tree.specs.declared.mark.Mark.TheVariants as marks
use Rattle.argot_tree.specs.declared.node_kind.NodeKind.{NodeKind}
use Rattle.argot_tree.specs.declared.node_kind.NodeKind.TheVariants as nodes
use Rattle.argot_tree.specs.declared.token.TokenKind.TheVariants as kinds
use Rattle.argot_tree.specs.declared.token.Token.{Token}
use Rattle.argot_tree.specs.Forests.{Forest, leaf, beside, one}
use Rattle.argot_tree.specs.TokensAt.{kind_at, HasAt, HasMark, HasWord, is_semicolon, is_op_assign}
use Rattle.argot_tree.specs.Grammar.{Part, Level, Exprs, Names, Block, Stmts, Stmt, Simple, MaybeLabel, Spells, block, no_stmt, last_stmt, one_stmt, empty_stmt, labeled, labeled_empty, return_none, return_values, goto_stmt, no_label, a_label, expr_stmt, send, increment, decrement, assign, op_assign, define, last_expr, one_expr}
use Rattle.argot_parse_reader.specs.declared.post.Post.{Post}
use Rattle.argot_parse_reader.specs.Posts.{posts}
use Rattle.argot_parse_reader.specs.Reading.{The, Labels, Answer, Reader, ◌>>=◌, closed, put, closing, closed_all, is_at, is_mark}
use Rattle.argot_parse_reader.specs.StatementReader.{ends_stmt, ends_stmts, labels, defines, stmts_behind_by, label_by, labels_by, block_by, stmts_by, maybe_label_by, return_by, goto_by, more_by, assign_by, simple_behind_by, define_behind_by, simple_by, exprs_node_by, begins_assign}
use Rattle.argot_parse_reader.proofs.TokenTests.{has_at, has_mark, passes}
use Rattle.argot_parse_reader.proofs.PostLaws.{closed_posts, put_posts, joined}
use Rattle.argot_parse_reader.proofs.Holding.{Holds, none, given, bind, regroup, weaken, choose}
use Rattle.argot_parse_reader.proofs.SoundReads.{Has, Reads, IsLabeled, IsSound, node, bare, nothing, then, last, must}

pub block_sound : {tokens : List Token} {rec : Reader} → IsSound tokens rec → (at : ℕ) (out : List Post) → Holds (Has tokens Block at out) (block_by tokens rec at out)
block_sound {tokens} {rec} g at out =
    choose (is_mark tokens at marks.OpenBrace)
    (λ e. regroup (rec (The Stmts) (at + 1) out) _ _ (then g Stmts (at + 1) out (λ r h. must marks.CloseBrace r _ (λ c. given (node nodes.Block at out (block (has_mark at marks.OpenBrace e) h.1 c) h.2)))))
    (λ _. none)

-- the end of a list of statements
stmts_behind_sound : {tokens : List Token} {rec : Reader} → IsSound tokens rec → (at : ℕ) (out : List Post) (r : ℕ × List Post) → Has tokens Stmt at out r.0 r.1 → Holds (Has tokens Stmts at out) (stmts_behind_by tokens rec r)
stmts_behind_sound {tokens} {rec} g at out r h =
    choose (is_semicolon (kind_at tokens r.0))
    (λ e. last g Stmts (r.0 + 1) r.1 (λ to new k. (beside h.0 k.0, one_stmt h.1 (passes e) k.1, joined out r.1 new h.0 k.0 h.2 k.2)))
    (λ _. choose (is_mark tokens r.0 marks.CloseBrace) (λ e. given (h.0, last_stmt h.1 (has_mark r.0 marks.CloseBrace e), h.2)) (λ _. none))

pub stmts_sound : {tokens : List Token} {rec : Reader} → IsSound tokens rec → (at : ℕ) (out : List Post) → Holds (Has tokens Stmts at out) (stmts_by tokens rec at out)
stmts_sound {tokens} {rec} g at out =
    choose (ends_stmts (kind_at tokens at)) (λ _. given (nothing at out no_stmt))
    (λ _. choose (is_semicolon (kind_at tokens at))
    (λ e. last g Stmts (at + 1) (put nodes.Empty at at out) (λ to new k. (beside (one nodes.Empty at at leaf) k.0, empty_stmt (passes e) k.1, joined out (put nodes.Empty at at out) new (one nodes.Empty at at leaf) k.0 (put_posts nodes.Empty at at out) k.2)))
    (λ _. then g Stmt at out (λ r h. stmts_behind_sound g at out r h)))

-- what is read in a row of labels or of `if`s that were begun
abbrev pub Chained : List Token → Part → NodeKind → List (ℕ × ℕ) → ℕ → List Post → ℕ → List Post → Type 0
Chained tokens p kind begun at out to new = (x : Forest) × Spells tokens p x at to × (new ≡ closed_all kind begun to (out ++ posts x))

-- a label and what it stands before
labeled_is : {tokens : List Token} {x : Forest} {at to : ℕ} → HasAt tokens at kinds.Name → HasMark tokens (at + 1) marks.Colon → IsLabeled tokens x (at + 2) to → Spells tokens Stmt (one nodes.Labeled at to (beside (one nodes.DeclName at (at + 1) leaf) x)) at to
labeled_is {tokens} {x} {at} {to} n c h =
    let named = one nodes.DeclName at (at + 1) leaf in
    let nothing_there : Forest = one nodes.Empty (at + 2) (at + 2) leaf in
    ⊎_elim (λ s. labeled n c s)
    (λ q. subst (λ y. Spells tokens Stmt (one nodes.Labeled at to (beside named y)) at to) (sym q.0) (subst (λ t. Spells tokens Stmt (one nodes.Labeled at t (beside named nothing_there)) at t) (sym q.1) (labeled_empty n c)))
    h

pub label_sound : {tokens : List Token} {rec : Reader} → IsSound tokens rec → (begun : List (ℕ × ℕ)) (at : ℕ) (out : List Post) → labels tokens at ≡ true → Holds (Chained tokens Stmt nodes.Labeled begun at out) (label_by tokens rec begun at out)
label_sound {tokens} {rec} g begun at out e =
    let p = and_parts (is_at tokens at kinds.Name) (is_mark tokens (at + 1) marks.Colon) e in
    let named = one nodes.DeclName at (at + 1) leaf in
    weaken (rec (Labels ((at, length out) ∷ begun)) (at + 2) (put nodes.DeclName at (at + 1) out)) (g.kept (Labels ((at, length out) ∷ begun)) (at + 2) (put nodes.DeclName at (at + 1) out))
    (λ to new k. (
      one nodes.Labeled at to (beside named k.0),
      labeled_is (has_at at kinds.Name p.0) (has_mark (at + 1) marks.Colon p.1) k.1,
      k.2
          ∙ ap (closed_all nodes.Labeled begun to) (closed_posts nodes.Labeled at to (length out) out (put nodes.DeclName at (at + 1) out ++ posts k.0) (beside named k.0) (joined out (put nodes.DeclName at (at + 1) out) (put nodes.DeclName at (at + 1) out ++ posts k.0) named k.0 (put_posts nodes.DeclName at (at + 1) out) refl) refl),
    ))

pub labels_sound : {tokens : List Token} {rec : Reader} → IsSound tokens rec → (begun : List (ℕ × ℕ)) (at : ℕ) (out : List Post) → Holds (Reads tokens (Labels begun) at out) (labels_by tokens rec begun at out)
labels_sound {tokens} {rec} g begun at out =
    choose (labels tokens at) (λ e. weaken (label_by tokens rec begun at out) (label_sound g begun at out e) (λ to new k. (k.0, inl k.1, k.2)))
    (λ _. choose (ends_stmt (kind_at tokens at))
    (λ _. given (one nodes.Empty at at leaf, inr (refl, refl), ap (closed_all nodes.Labeled begun at) (put_posts nodes.Empty at at out)))
    (λ _. then g Stmt at out (λ r h. given (h.0, inl h.1, ap (closed_all nodes.Labeled begun r.0) h.2))))

pub maybe_label_sound : {tokens : List Token} (at : ℕ) (out : List Post) → Holds (Has tokens MaybeLabel at out) (maybe_label_by tokens at out)
maybe_label_sound {tokens} at out =
    choose (is_at tokens at kinds.Name) (λ e. given (bare nodes.LabelUse at out (a_label (has_at at kinds.Name e)))) (λ _. given (nothing at out no_label))

pub return_sound : {tokens : List Token} {rec : Reader} → IsSound tokens rec → (at : ℕ) (out : List Post) → HasWord tokens at words.Return → Holds (Has tokens Stmt at out) (return_by tokens rec at out)
return_sound {tokens} {rec} g at out w =
    choose (ends_stmt (kind_at tokens (at + 1))) (λ _. given (bare nodes.Return at out (return_none w)))
    (λ _. then g (Exprs true) (at + 1) out (λ r h. given (node nodes.Return at out (return_values w h.1) h.2)))

pub goto_sound : {tokens : List Token} (at : ℕ) (out : List Post) → HasWord tokens at words.Goto → Holds (Has tokens Stmt at out) (goto_by tokens at out)
goto_sound {tokens} at out w =
    choose (is_at tokens (at + 1) kinds.Name) (λ e. given (node nodes.Goto at out (goto_stmt w (has_at (at + 1) kinds.Name e)) (put_posts nodes.LabelUse (at + 1) (at + 2) out)))
    (λ _. none)

-- a part under a node of its own
abbrev pub HasNode : List Token → Part → NodeKind → ℕ → List Post → ℕ → List Post → Type 0
HasNode tokens p kind at out to new = (x : Forest) × Spells tokens p x at to × (new ≡ out ++ posts (one kind at to x))

pub exprs_node_sound : {tokens : List Token} {rec : Reader} → IsSound tokens rec → (b : Bool) (at : ℕ) (out : List Post) → Holds (HasNode tokens (Exprs b) nodes.Exprs at out) (exprs_node_by tokens rec b at out)
exprs_node_sound {tokens} {rec} g b at out =
    then g (Exprs b) at out (λ r h. given (h.0, h.1, closed_posts nodes.Exprs at r.0 (length out) out r.1 h.0 h.2 refl))

pub more_sound : {tokens : List Token} {rec : Reader} → IsSound tokens rec → (b : Bool) (from : ℕ) (base : List Post) (r : ℕ × List Post) (x : Forest) → Spells tokens (Level 1 b) x from r.0 → r.1 ≡ base ++ posts x → Holds (Has tokens (Exprs b) from base) (more_by tokens rec b r)
more_sound {tokens} {rec} g b from base r x s e =
    choose (is_mark tokens r.0 marks.Comma)
    (λ c. last g (Exprs b) (r.0 + 1) r.1 (λ to new k. (beside x k.0, one_expr s (has_mark r.0 marks.Comma c) k.1, joined base r.1 new x k.0 e k.2)))
    (λ _. given (x, last_expr s, e))

-- expressions under a node, a token, and expressions under a node
two_lists : (base mid new : List Post) (from at q to : ℕ) (x y : Forest) → mid ≡ base ++ posts x → new ≡ closed nodes.Exprs from at (length base) mid ++ posts (one nodes.Exprs q to y) → new ≡ base ++ posts (beside (one nodes.Exprs from at x) (one nodes.Exprs q to y))
two_lists base mid new from at q to x y e k =
    joined base (closed nodes.Exprs from at (length base) mid) new (one nodes.Exprs from at x) (one nodes.Exprs q to y) (closed_posts nodes.Exprs from at (length base) base mid x e refl) k

pub assign_sound : {tokens : List Token} {rec : Reader} → IsSound tokens rec → (b : Bool) (from : ℕ) (base : List Post) (r : ℕ × List Post) → Has tokens (Exprs b) from base r.0 r.1 → Holds (Has tokens (Simple b) from base) (assign_by tokens rec b from (length base) r)
assign_sound {tokens} {rec} g b from base r h =
    choose (is_mark tokens r.0 marks.Assign)
    (λ e. bind (exprs_node_by tokens rec b (r.0 + 1) (closed nodes.Exprs from r.0 (length base) r.1)) (exprs_node_sound g b (r.0 + 1) (closed nodes.Exprs from r.0 (length base) r.1))
    (λ q k. given (node nodes.Assign from base (assign h.1 (has_mark r.0 marks.Assign e) k.1) (two_lists base r.1 q.1 from r.0 (r.0 + 1) q.0 h.0 k.0 h.2 k.2))))
    (λ _. choose (is_op_assign (kind_at tokens r.0))
    (λ e. bind (exprs_node_by tokens rec b (r.0 + 1) (closed nodes.Exprs from r.0 (length base) r.1)) (exprs_node_sound g b (r.0 + 1) (closed nodes.Exprs from r.0 (length base) r.1))
    (λ q k. given (node nodes.OpAssign from base (op_assign h.1 (passes e) k.1) (two_lists base r.1 q.1 from r.0 (r.0 + 1) q.0 h.0 k.0 h.2 k.2))))
    (λ _. none))

pub simple_behind_sound : {tokens : List Token} {rec : Reader} → IsSound tokens rec → (b : Bool) (from : ℕ) (base : List Post) (r : ℕ × List Post) (x : Forest) → Spells tokens (Level 1 b) x from r.0 → r.1 ≡ base ++ posts x → Holds (Has tokens (Simple b) from base) (simple_behind_by tokens rec b from (length base) r)
simple_behind_sound {tokens} {rec} g b from base r x s e =
    choose (is_mark tokens r.0 marks.Arrow)
    (λ c. then g (Level 1 b) (r.0 + 1) r.1 (λ q k. given (node nodes.Send from base (send s (has_mark r.0 marks.Arrow c) k.1) (joined base r.1 q.1 x k.0 e k.2))))
    (λ _. choose (is_mark tokens r.0 marks.Increment) (λ c. given (node nodes.Increment from base (increment s (has_mark r.0 marks.Increment c)) e))
    (λ _. choose (is_mark tokens r.0 marks.Decrement) (λ c. given (node nodes.Decrement from base (decrement s (has_mark r.0 marks.Decrement c)) e))
    (λ _. choose (begins_assign (kind_at tokens r.0))
    (λ _. bind (more_by tokens rec b r) (more_sound g b from base r x s e) (λ q k. assign_sound g b from base q k))
    (λ _. given (node nodes.ExprStmt from base (expr_stmt s) e)))))

pub define_behind_sound : {tokens : List Token} {rec : Reader} → IsSound tokens rec → (b : Bool) (from : ℕ) (base : List Post) (r : ℕ × List Post) → HasNode tokens Names nodes.Names from base r.0 r.1 → Holds (Has tokens (Simple b) from base) (define_behind_by tokens rec b from (length base) r)
define_behind_sound {tokens} {rec} g b from base r h =
    choose (is_mark tokens r.0 marks.Define)
    (λ e. bind (exprs_node_by tokens rec b (r.0 + 1) r.1) (exprs_node_sound g b (r.0 + 1) r.1)
    (λ q k. given (node nodes.Define from base (define h.1 (has_mark r.0 marks.Define e) k.1) (joined base r.1 q.1 (one nodes.Names from r.0 h.0) (one nodes.Exprs (r.0 + 1) q.0 k.0) h.2 k.2))))
    (λ _. none)

pub names_node_sound : {tokens : List Token} {rec : Reader} {Q : ℕ → List Post → Type 0} {f : ℕ × List Post → Answer} → IsSound tokens rec → (at : ℕ) (out : List Post) → ((r : ℕ × List Post) → HasNode tokens Names nodes.Names at out r.0 r.1 → Holds Q (f r)) → Holds Q ((rec (The Names) at out >>= closing nodes.Names at out) >>= f)
names_node_sound {tokens} {rec} {Q} {f} g at out k =
    regroup (rec (The Names) at out) _ _ (then g Names at out (λ r h. k (r.0, closed nodes.Names at r.0 (length out) r.1) (h.0, h.1, closed_posts nodes.Names at r.0 (length out) out r.1 h.0 h.2 refl)))

pub simple_sound : {tokens : List Token} {rec : Reader} → IsSound tokens rec → (b : Bool) (at : ℕ) (out : List Post) → Holds (Has tokens (Simple b) at out) (simple_by tokens rec b at out)
simple_sound {tokens} {rec} g b at out =
    choose (defines tokens at) (λ _. names_node_sound g at out (λ r h. define_behind_sound g b at out r h))
    (λ _. then g (Level 1 b) at out (λ r h. simple_behind_sound g b at out r h.0 h.1 h.2))
