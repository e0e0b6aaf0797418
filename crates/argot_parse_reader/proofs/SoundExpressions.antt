-- Expressions, and expressions or types, that are read are spelled.
use Rattle.std.proofs.Common.{◌≡◌, ℕ, ◌+◌, ◌≤◌, List, ◌++◌, length, reverse, drop, Bool, true, false, ◌&&◌, cond, Option, Some, None, refl, sym, ap, ◌∙◌, subst, inl, inr, ⊎_elim, arith}
use Rattle.std.specs.Prelude.{nat_le}
use Rattle.std.proofs.Math.Seq.{drop-append_seam}
use Rattle.std.proofs.lemmas.Bool.{and_parts, leb-true, false≢true}
use Rattle.argot_tree.specs.declared.mark.Mark.TheVariants as marks
use Rattle.argot_tree.specs.declared.node_kind.NodeKind.{NodeKind}
use Rattle.argot_tree.specs.declared.node_kind.NodeKind.TheVariants as nodes
use Rattle.argot_tree.specs.declared.token.Token.{Token}
use Rattle.argot_tree.specs.Forests.{Forest, beside, one}
use Rattle.argot_tree.specs.TokensAt.{kind_at, level_at, unary_of, HasMark, HasUnary}
use Rattle.argot_tree.specs.Grammar.{Part, OnlyType, Level, Unary, Primary, Operand, Either, Spells, only_pointer, unary_level, binary, unary, primary, operand, either_expr, either_type}
use Rattle.argot_parse_reader.specs.declared.post.Post.{Post}
use Rattle.argot_parse_reader.specs.Posts.{posts}
use Rattle.argot_parse_reader.specs.Reading.{The, UnaryOr, PrimaryOr, OperandOr, Climb, Suffixes, Reader, ◌>>=◌, closed, closing, is_mark}
use Rattle.argot_parse_reader.specs.ExpressionReader.{climbs, typed, recast, ending_with, arrowed, starred, with_kind, level_by, either_by, climb_by, unary_by, primary_by}
use Rattle.argot_parse_reader.proofs.TokenTests.{has_mark}
use Rattle.argot_parse_reader.proofs.PostLaws.{closed_posts, joined}
use Rattle.argot_parse_reader.proofs.Holding.{Holds, none, given, bind, try, weaken, choose}
use Rattle.argot_parse_reader.proofs.Roots.{rooted_typed, operand_root, unary_root, only_root}
use Rattle.argot_parse_reader.proofs.Recasting.{IsRecast, recast_only}
use Rattle.argot_parse_reader.proofs.SoundReads.{Has, HasOr, IsOr, IsOperand, Reads, IsSound, node}

-- an expression is one or a type, where a type may stand too
pub some_part : {tokens : List Token} {p : Part} (types : Bool) {x : Forest} {from to : ℕ} → Spells tokens p x from to → IsOr tokens p types x from to
some_part true s = inl s
some_part false s = s

loosen : {tokens : List Token} {k j : ℕ} {b : Bool} {x : Forest} {from to : ℕ} → k ≤ j → Spells tokens (Level j b) x from to → Spells tokens (Level k b) x from to
loosen h (unary_level s) = unary_level s
loosen h (binary tight is left right) = binary (omega arith) is left right

pub level_sound : {tokens : List Token} {rec : Reader} → IsSound tokens rec → (k : ℕ) (b : Bool) (at : ℕ) (out : List Post) → Holds (Has tokens (Level k b) at out) (level_by tokens rec k b at out)
level_sound {tokens} {rec} g k b at out =
    bind (rec (UnaryOr false b) at out) (g.kept (UnaryOr false b) at out)
    (λ r h. weaken (rec (Climb k 9 b at (length out)) r.0 r.1) (g.kept (Climb k 9 b at (length out)) r.0 r.1) (λ to new f. f h.0 out h.2 refl (unary_level h.1) (unary_level h.1)))

pub climb_sound : {tokens : List Token} {rec : Reader} → IsSound tokens rec → (k limit : ℕ) (b : Bool) (from mark at : ℕ) (out : List Post) → Holds (Reads tokens (Climb k limit b from mark) at out) (climb_by tokens rec k limit b from mark at out)
climb_sound {tokens} {rec} g k limit b from mark at out =
    let level = level_at tokens at in
    let Q : ℕ → List Post → Type 0 = Reads tokens (Climb k limit b from mark) at out in
    let stay : Q at out = λ x base eo em s t. (x, s, eo) in
    choose (climbs k limit level)
    (λ e. let p = and_parts (nat_le 1 level) (nat_le k level && nat_le level limit) e in
    let q = and_parts (nat_le k level) (nat_le level limit) p.1 in
    let tight = leb-true k level q.0 in
    let is = leb-true 1 level p.0 in
    let within = leb-true level limit q.1 in
    try (rec (The (Level (level + 1) b)) (at + 1) out) (g.kept (The (Level (level + 1) b)) (at + 1) out)
    (λ r h. weaken (rec (Climb k level b from mark) r.0 (closed nodes.Binary from r.0 mark r.1)) (g.kept (Climb k level b from mark) r.0 (closed nodes.Binary from r.0 mark r.1))
    (λ to new f. λ x base eo em s t.
    let left = loosen within t in
    let around : level ≤ level = omega arith in
    f (one nodes.Binary from r.0 (beside x h.0)) base (closed_posts nodes.Binary from r.0 mark base r.1 (beside x h.0) (joined base out r.1 x h.0 eo h.2) em) em
    (binary tight is left h.1) (binary around is left h.1)))
    (given stay))
    (λ _. given stay)

is_typed : {tokens : List Token} {x : Forest} {from to : ℕ} (out new : List Post) → new ≡ out ++ posts x → Spells tokens OnlyType x from to → typed new ≡ true
is_typed {tokens} out new e s = ap typed e ∙ rooted_typed out (only_root tokens s)

unary_untyped : {tokens : List Token} {b : Bool} {x : Forest} {from to : ℕ} (out new : List Post) → new ≡ out ++ posts x → Spells tokens (Unary b) x from to → typed new ≡ false
unary_untyped {tokens} out new e s = ap typed e ∙ rooted_typed out (unary_root tokens s)

operand_untyped : {tokens : List Token} {b : Bool} {x : Forest} {from to : ℕ} (out new : List Post) → new ≡ out ++ posts x → Spells tokens (Operand b) x from to → typed new ≡ false
operand_untyped {tokens} out new e s = ap typed e ∙ rooted_typed out (operand_root tokens s)

pub either_sound : {tokens : List Token} {rec : Reader} → IsSound tokens rec → (at : ℕ) (out : List Post) → Holds (Has tokens Either at out) (either_by tokens rec at out)
either_sound {tokens} {rec} g at out =
    bind (rec (UnaryOr true true) at out) (g.kept (UnaryOr true true) at out)
    (λ r h. choose (typed r.1)
    (λ e. ⊎_elim (λ s. absurd (false≢true (sym (unary_untyped out r.1 h.2 s) ∙ e))) (λ s. given (h.0, either_type s, h.2)) h.1)
    (λ e. ⊎_elim
    (λ s. weaken (rec (Climb 1 9 true at (length out)) r.0 r.1) (g.kept (Climb 1 9 true at (length out)) r.0 r.1) (λ to new f. let y = f h.0 out h.2 refl (unary_level s) (unary_level s) in (y.0, either_expr y.1, y.2)))
    (λ s. absurd (false≢true (sym e ∙ is_typed out r.1 h.2 s))) h.1))

-- a star, and an expression or a type behind it
starred_sound : {tokens : List Token} (types b : Bool) (at : ℕ) (out : List Post) (r : ℕ × List Post) → HasMark tokens at marks.Star → HasOr tokens (Unary b) types (at + 1) out r.0 r.1 → Holds (HasOr tokens (Unary b) types at out) (starred types at out r)
starred_sound false b at out r m h =
    let u : HasUnary _ at nodes.Deref = record { there = ap unary_of m.there } in
    given (node nodes.Deref at out (unary u h.1) h.2)
starred_sound {tokens} true b at out r m h =
    let u : HasUnary tokens at nodes.Deref = record { there = ap unary_of m.there } in
    choose (typed r.1)
    (λ e. ⊎_elim (λ s. absurd (false≢true (sym (unary_untyped out r.1 h.2 s) ∙ e)))
    (λ s. given (one nodes.PointerType at r.0 h.0, inr (only_pointer m s), closed_posts nodes.PointerType at r.0 (length out) out r.1 h.0 h.2 refl)) h.1)
    (λ e. ⊎_elim (λ s. given (one nodes.Deref at r.0 h.0, inl (unary u s), closed_posts nodes.Deref at r.0 (length out) out r.1 h.0 h.2 refl))
    (λ s. absurd (false≢true (sym e ∙ is_typed out r.1 h.2 s))) h.1)

-- an arrow, and an expression or a type behind it
recast_sound : {tokens : List Token} (b : Bool) (at : ℕ) (out : List Post) (to : ℕ) (x : Forest) (found : Option (List Post)) → IsRecast tokens at to x found → Holds (HasOr tokens (Unary b) true at out) (ending_with to out found)
recast_sound b at out to x None h = none
recast_sound b at out to x (Some back) h = given (h.0, inr h.1, ap (λ l. out ++ l) h.2)

arrowed_sound : {tokens : List Token} (types b : Bool) (at : ℕ) (out : List Post) (r : ℕ × List Post) → HasMark tokens at marks.Arrow → HasOr tokens (Unary b) types (at + 1) out r.0 r.1 → Holds (HasOr tokens (Unary b) types at out) (arrowed types at out r)
arrowed_sound {tokens} false b at out r m h =
    let u : HasUnary tokens at nodes.Receive = record { there = ap unary_of m.there } in
    given (node nodes.Receive at out (unary u h.1) h.2)
arrowed_sound {tokens} true b at out r m h =
    let u : HasUnary tokens at nodes.Receive = record { there = ap unary_of m.there } in
    choose (typed r.1)
    (λ e. ⊎_elim (λ s. absurd (false≢true (sym (unary_untyped out r.1 h.2 s) ∙ e)))
    (λ s. let new_is : posts h.0 ≡ drop (length out) r.1 = sym (ap (drop (length out)) h.2 ∙ drop-append_seam out (posts h.0)) in
    subst (λ l. Holds (HasOr tokens (Unary b) true at out) (ending_with r.0 out (recast (reverse l)))) new_is (recast_sound b at out r.0 h.0 (recast (reverse (posts h.0))) (recast_only tokens at m s))) h.1)
    (λ e. ⊎_elim (λ s. given (one nodes.Receive at r.0 h.0, inl (unary u s), closed_posts nodes.Receive at r.0 (length out) out r.1 h.0 h.2 refl))
    (λ s. absurd (false≢true (sym e ∙ is_typed out r.1 h.2 s))) h.1)

unary_some : (tokens : List Token) (b types : Bool) (x : Forest) (from to : ℕ) → IsOr tokens (Primary b) types x from to → IsOr tokens (Unary b) types x from to
unary_some tokens b true x from to h = ⊎_elim (λ s. inl (primary s)) (λ s. inr s) h
unary_some tokens b false x from to h = primary h

primary_some : (tokens : List Token) (b types : Bool) (x : Forest) (from to : ℕ) → IsOr tokens (Operand b) types x from to → IsOr tokens (Primary b) types x from to
primary_some tokens b true x from to h = ⊎_elim (λ s. inl (operand s)) (λ s. inr s) h
primary_some tokens b false x from to h = operand h

operator_sound : {tokens : List Token} {rec : Reader} → IsSound tokens rec → (types b : Bool) (at : ℕ) (out : List Post) (found : Option NodeKind) → unary_of (kind_at tokens at) ≡ found → Holds (HasOr tokens (Unary b) types at out) (with_kind found (λ kind. rec (UnaryOr false b) (at + 1) out >>= closing kind at out) (rec (PrimaryOr types b) at out))
operator_sound {tokens} {rec} g types b at out None e =
    weaken (rec (PrimaryOr types b) at out) (g.kept (PrimaryOr types b) at out) (λ to new h. (h.0, unary_some tokens b types h.0 at to h.1, h.2))
operator_sound {tokens} {rec} g types b at out (Some kind) e =
    let u : HasUnary tokens at kind = record { there = e } in
    bind (rec (UnaryOr false b) (at + 1) out) (g.kept (UnaryOr false b) (at + 1) out)
    (λ r h. given (one kind at r.0 h.0, some_part types (unary u h.1), closed_posts kind at r.0 (length out) out r.1 h.0 h.2 refl))

pub unary_sound : {tokens : List Token} {rec : Reader} → IsSound tokens rec → (types b : Bool) (at : ℕ) (out : List Post) → Holds (HasOr tokens (Unary b) types at out) (unary_by tokens rec types b at out)
unary_sound {tokens} {rec} g types b at out =
    choose (is_mark tokens at marks.Star)
    (λ e. bind (rec (UnaryOr types b) (at + 1) out) (g.kept (UnaryOr types b) (at + 1) out) (λ r h. starred_sound types b at out r (has_mark at marks.Star e) h))
    (λ _. choose (is_mark tokens at marks.Arrow)
    (λ e. bind (rec (UnaryOr types b) (at + 1) out) (g.kept (UnaryOr types b) (at + 1) out) (λ r h. arrowed_sound types b at out r (has_mark at marks.Arrow e) h))
    (λ _. operator_sound g types b at out (unary_of (kind_at tokens at)) refl))

-- what goes on behind an operand that is an expression
behind_operand : {tokens : List Token} {rec : Reader} → IsSound tokens rec → (types b : Bool) (at : ℕ) (out : List Post) (r : ℕ × List Post) (x : Forest) → Spells tokens (Operand b) x at r.0 → r.1 ≡ out ++ posts x → Holds (HasOr tokens (Primary b) types at out) (rec (Suffixes at (length out)) r.0 r.1)
behind_operand {tokens} {rec} g types b at out r x s e =
    let begun : IsOperand tokens at (length out) r.0 r.1 = record { bare = b; x = x; base = out; nodes = e; since = refl; spelled = operand s } in
    weaken (rec (Suffixes at (length out)) r.0 r.1) (g.kept (Suffixes at (length out)) r.0 r.1) (λ to new f. let y = f begun in (y.0, some_part types y.1, y.2))

primary_behind : {tokens : List Token} {rec : Reader} → IsSound tokens rec → (types b : Bool) (at : ℕ) (out : List Post) (r : ℕ × List Post) → HasOr tokens (Operand b) types at out r.0 r.1 → Holds (HasOr tokens (Primary b) types at out) (cond (types && typed r.1) (Some r) (rec (Suffixes at (length out)) r.0 r.1))
primary_behind g false b at out r h = behind_operand g false b at out r h.0 h.1 h.2
primary_behind {tokens} {rec} g true b at out r h =
    choose (typed r.1) (λ _. given (h.0, primary_some tokens b true h.0 at r.0 h.1, h.2))
    (λ e. ⊎_elim (λ s. behind_operand g true b at out r h.0 s h.2) (λ s. absurd (false≢true (sym e ∙ is_typed out r.1 h.2 s))) h.1)

pub primary_sound : {tokens : List Token} {rec : Reader} → IsSound tokens rec → (types b : Bool) (at : ℕ) (out : List Post) → Holds (HasOr tokens (Primary b) types at out) (primary_by tokens rec types b at out)
primary_sound {tokens} {rec} g types b at out =
    bind (rec (OperandOr types b) at out) (g.kept (OperandOr types b) at out) (λ r h. primary_behind g types b at out r h)
