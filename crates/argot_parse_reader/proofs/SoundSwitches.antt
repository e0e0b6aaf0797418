-- A `switch` that is read is spelled.
use Rattle.std.proofs.Common.{◌≡◌, ℕ, ◌+◌, ◌-◌, List, [], ◌∷◌, ◌++◌, length, Bool, true, false, ◌&&◌, refl, sym, ap, ◌∙◌, subst, append_assoc, arith, length-append}
use Rattle.std.specs.List.{remove}
use Rattle.std.proofs.lemmas.List.{append-nil}
use Rattle.std.proofs.lemmas.List.Edits.{remove-append_right}
use Rattle.std.proofs.lemmas.Bool.{and_parts}
use Rattle.argot_tree.specs.declared.keyword.Keyword.TheVariants as words
use Rattle.argot_tree.specs.declared.mark.Mark.TheVariants as marks
use Rattle.argot_tree.specs.declared.node_kind.NodeKind.{NodeKind}
use Rattle.argot_tree.specs.declared.node_kind.NodeKind.TheVariants as nodes
use Rattle.argot_tree.specs.declared.token.TokenKind.TheVariants as kinds
use Rattle.argot_tree.specs.declared.token.Token.{Token}
use Rattle.argot_tree.specs.Forests.{Forest, leaf, beside, one, last_token}
use Rattle.argot_tree.specs.TokensAt.{kind_at, HasAt, HasMark, HasWord, is_semicolon}
use Rattle.argot_tree.specs.Grammar.{Level, Primary, Exprs, Stmt, Simple, Cases, MaybeInit, Spells, unary_level, primary, last_name, define, no_init, empty_init, an_init, switch, type_switch, no_tag_expr, tag_expr, guard, named_guard}
use Rattle.argot_parse_reader.specs.declared.post.Post.{Post}
use Rattle.argot_parse_reader.specs.Posts.{posts}
use Rattle.argot_parse_reader.specs.Reading.{The, PrimaryOr, Reader, ◌>>=◌, closed, put, ending, is_at, is_mark}
use Rattle.argot_parse_reader.specs.StatementReader.{put_empty, is_primary, ranges, guards, more_by, opening_by, switched_by, tagged_by, named_guard_by, tag_by, init_by, defined_by, head_by}
use Rattle.argot_parse_reader.proofs.TokenTests.{has_at, has_mark, passes}
use Rattle.argot_parse_reader.proofs.PostLaws.{closed_posts, put_posts, joined}
use Rattle.argot_parse_reader.proofs.Holding.{Holds, none, given, bind, regroup, choose}
use Rattle.argot_parse_reader.proofs.Roots.{level_primary}
use Rattle.argot_parse_reader.proofs.SoundReads.{Has, IsSound, then, must}
use Rattle.argot_parse_reader.proofs.SoundStatements.{more_sound}
use Rattle.argot_parse_reader.proofs.SoundHeads.{begins_body, body_no_ranges, guards_on, opening_sound, put_empty_posts}

-- an expression whose last node is no operation's is a primary one
pub primary_of : {tokens : List Token} {k : ℕ} {b : Bool} {x : Forest} {from to : ℕ} (out new : List Post) → Spells tokens (Level k b) x from to → new ≡ out ++ posts x → is_primary new ≡ true → Spells tokens (Primary b) x from to
primary_of {tokens} out new s e h = level_primary tokens out s (ap is_primary (sym e) ∙ h)

-- the cases of a `switch` whose head is read
switched_sound : {tokens : List Token} {rec : Reader} → IsSound tokens rec → (kind : NodeKind) (from : ℕ) (base : List Post) (r : ℕ × List Post) (whole : Forest → Forest) → ((z : Forest) (new : List Post) → new ≡ r.1 ++ posts z → new ≡ base ++ posts (whole z)) → ((z : Forest) (to : ℕ) → HasMark tokens r.0 marks.OpenBrace → Spells tokens Cases z (r.0 + 1) to → HasMark tokens to marks.CloseBrace → Spells tokens Stmt (one kind from (to + 1) (whole z)) from (to + 1)) → Holds (Has tokens Stmt from base) (switched_by tokens rec kind from (length base) r)
switched_sound {tokens} {rec} g kind from base r whole join make =
    choose (is_mark tokens r.0 marks.OpenBrace)
    (λ e. regroup (rec (The Cases) (r.0 + 1) r.1) _ _ (then g Cases (r.0 + 1) r.1 (λ q h. must marks.CloseBrace q _ (λ c. given (one kind from (q.0 + 1) (whole h.0), make h.0 q.0 (has_mark r.0 marks.OpenBrace e) h.1 c, closed_posts kind from (q.0 + 1) (length base) base q.1 (whole h.0) (join h.0 q.1 h.2) refl)))))
    (λ _. none)

-- the nodes of what stands before a head's last part, of that part and of the cases
three : (base out mid new : List Post) (x y z : Forest) → out ≡ base ++ posts x → mid ≡ out ++ posts y → new ≡ mid ++ posts z → new ≡ base ++ posts (beside x (beside y z))
three base out mid new x y z e f h = joined base out new x (beside y z) e (joined out mid new y z f h)

tagged_sound : {tokens : List Token} {rec : Reader} → IsSound tokens rec → (from start : ℕ) (base out : List Post) (r : ℕ × List Post) (x y : Forest) → HasWord tokens from words.Switch → Spells tokens MaybeInit x (from + 1) start → out ≡ base ++ posts x → (ranges tokens r.0 ≡ false → Spells tokens (Level 1 false) y start r.0) → r.1 ≡ out ++ posts y → Holds (Has tokens Stmt from base) (tagged_by tokens rec from (length base) start (length out) r)
tagged_sound {tokens} {rec} g from start base out r x y w i eo level er =
    let asked : Forest = one nodes.Guard start (r.0 + 4) y in
    let behind : List Post = closed nodes.Guard start (r.0 + 4) (length out) r.1 in
    choose (guards tokens r.0)
    (λ e. choose (is_primary r.1)
    (λ p. let on = guards_on r.0 e in
    let s = primary_of out r.1 (level (body_no_ranges tokens r.0 (ap begins_body on.0.there))) er p in
    switched_sound g nodes.TypeSwitch from base (r.0 + 4, behind) (λ z. beside x (beside asked z))
    (λ z new n. three base out behind new x asked z eo (closed_posts nodes.Guard start (r.0 + 4) (length out) out r.1 y er refl) n)
    (λ z to o c cl. type_switch w i (guard s on.0 on.1 on.2 on.3) o c cl))
    (λ _. none))
    (λ _. switched_sound g nodes.Switch from base r (λ z. beside x (beside y z)) (λ z new n. three base out r.1 new x y z eo er n)
    (λ z to o c cl. switch w i (tag_expr (level (body_no_ranges tokens r.0 (ap begins_body o.there)))) o c cl))

named_guard_sound : {tokens : List Token} {rec : Reader} → IsSound tokens rec → (from start : ℕ) (base out : List Post) (r : ℕ × List Post) (x y : Forest) → HasWord tokens from words.Switch → Spells tokens MaybeInit x (from + 1) start → out ≡ base ++ posts x → HasAt tokens start kinds.Name → HasMark tokens (start + 1) marks.Define → Spells tokens (Level 1 false) y (start + 2) r.0 → r.1 ≡ put nodes.DeclName start (start + 1) out ++ posts y → Holds (Has tokens Stmt from base) (named_guard_by tokens rec from (length base) start (length out) r)
named_guard_sound {tokens} {rec} g from start base out r x y w i eo n d s er =
    let to : ℕ = r.0 + 4 in
    let named : List Post = put nodes.DeclName start (start + 1) out in
    let name : Forest = one nodes.DeclName start (start + 1) leaf in
    let asked : Forest = one nodes.Guard (start + 2) to y in
    let inner : List Post = closed nodes.Guard (start + 2) to (length out + 1) r.1 in
    let tree : Forest = one nodes.NamedGuard start to (beside name asked) in
    let behind : List Post = closed nodes.NamedGuard start to (length out) inner in
    let mark_is : length out + 1 ≡ length named = omega (arith, length-append out (record { kind = nodes.DeclName; token = start; last = last_token start (start + 1); size = length out + 1 - length out } ∷ [])) in
    let inner_is : inner ≡ named ++ posts asked = closed_posts nodes.Guard (start + 2) to (length out + 1) named r.1 y er mark_is in
    let behind_is : behind ≡ out ++ posts tree = closed_posts nodes.NamedGuard start to (length out) out inner (beside name asked) (joined out named inner name asked (put_posts nodes.DeclName start (start + 1) out) inner_is) refl in
    choose (guards tokens r.0 && is_primary r.1)
    (λ e. let both = and_parts (guards tokens r.0) (is_primary r.1) e in
    let on = guards_on r.0 both.0 in
    switched_sound g nodes.TypeSwitch from base (to, behind) (λ z. beside x (beside tree z)) (λ z new h. three base out behind new x tree z eo behind_is h)
    (λ z to' o c cl. type_switch w i (named_guard n d (primary_of named r.1 s er both.1) on.0 on.1 on.2 on.3) o c cl))
    (λ _. none)

tag_sound : {tokens : List Token} {rec : Reader} → IsSound tokens rec → (from at : ℕ) (base out : List Post) (x : Forest) → HasWord tokens from words.Switch → Spells tokens MaybeInit x (from + 1) at → out ≡ base ++ posts x → Holds (Has tokens Stmt from base) (tag_by tokens rec from (length base) at out)
tag_sound {tokens} {rec} g from at base out x w i eo =
    choose (is_mark tokens at marks.OpenBrace)
    (λ _. switched_sound g nodes.Switch from base (at, out) (λ z. beside x z) (λ z new n. joined base out new x z eo n) (λ z to o c cl. switch w i no_tag_expr o c cl))
    (λ _. choose (is_at tokens at kinds.Name && is_mark tokens (at + 1) marks.Define)
    (λ e. let p = and_parts (is_at tokens at kinds.Name) (is_mark tokens (at + 1) marks.Define) e in
    bind (rec (PrimaryOr false false) (at + 2) (put nodes.DeclName at (at + 1) out)) (g.kept (PrimaryOr false false) (at + 2) (put nodes.DeclName at (at + 1) out)) (λ r h. named_guard_sound g from at base out r x h.0 w i eo (has_at at kinds.Name p.0) (has_mark (at + 1) marks.Define p.1) (unary_level (primary h.1)) h.2))
    (λ _. then g (Level 1 false) at out (λ r h. tagged_sound g from at base out r x h.0 w i eo (λ _. h.1) h.2)))

init_sound : {tokens : List Token} {rec : Reader} → IsSound tokens rec → (from : ℕ) (base : List Post) (r : ℕ × List Post) → HasWord tokens from words.Switch → (is_semicolon (kind_at tokens r.0) ≡ true → Has tokens (Simple false) (from + 1) base r.0 r.1) → Holds (Has tokens Stmt from base) (init_by tokens rec from (length base) (from + 1) r)
init_sound {tokens} {rec} g from base r w simple =
    choose (is_semicolon (kind_at tokens r.0))
    (λ e. let h = simple e in
    tag_sound g from (r.0 + 1) base (closed nodes.Init (from + 1) r.0 (length base) r.1) (one nodes.Init (from + 1) r.0 h.0) w (an_init h.1 (passes e)) (closed_posts nodes.Init (from + 1) r.0 (length base) base r.1 h.0 h.2 refl))
    (λ _. none)

-- without the node
pub unnamed : (start : ℕ) (base new : List Post) (y : Forest) → new ≡ closed nodes.Names start (start + 1) (length base) (put nodes.DeclName start (start + 1) base) ++ posts y → remove new (length base + 1) ≡ put nodes.DeclName start (start + 1) base ++ posts y
unnamed start base new y e =
    let named : List Post = put nodes.DeclName start (start + 1) base in
    let root : Post = record { kind = nodes.Names; token = start; last = last_token start (start + 1); size = length named + 1 - length base } in
    let count : length named ≡ length base + 1 = length-append base _ in
    let none_before : length base + 1 - (length base + 1) ≡ 0 = omega arith in
    ap (λ l. remove l (length base + 1)) (e ∙ append_assoc named (root ∷ []) (posts y)) ∙ remove-append_right named (root ∷ posts y) (length base + 1) (length base + 1) count (omega arith) ∙ ap (λ k. named ++ remove (root ∷ posts y) k) none_before

defined_sound : {tokens : List Token} {rec : Reader} → IsSound tokens rec → (from : ℕ) (base : List Post) (r : ℕ × List Post) (y : Forest) → HasWord tokens from words.Switch → HasAt tokens (from + 1) kinds.Name → HasMark tokens (from + 1 + 1) marks.Define → Spells tokens (Level 1 false) y (from + 1 + 2) r.0 → r.1 ≡ closed nodes.Names (from + 1) (from + 1 + 1) (length base) (put nodes.DeclName (from + 1) (from + 1 + 1) base) ++ posts y → Holds (Has tokens Stmt from base) (defined_by tokens rec from (length base) (from + 1) r)
defined_sound {tokens} {rec} g from base r y w n d s er =
    let start : ℕ = from + 1 in
    let name : Forest = one nodes.DeclName start (start + 1) leaf in
    let names : Forest = one nodes.Names start (start + 1) name in
    let named : List Post = put nodes.DeclName start (start + 1) base in
    let behind : List Post = closed nodes.Names start (start + 1) (length base) named in
    let behind_is : behind ≡ base ++ posts names = closed_posts nodes.Names start (start + 1) (length base) base named name (put_posts nodes.DeclName start (start + 1) base) refl in
    let mark_is : length base + 2 ≡ length behind = omega (arith, ap length behind_is, length-append base (posts names)) in
    let next : start + 2 ≡ start + 1 + 1 = omega arith in
    choose (guards tokens r.0)
    (λ _. named_guard_sound g from start base base (r.0, remove r.1 (length base + 1)) leaf y w no_init (sym (append-nil base)) n d s (unnamed start base r.1 y er))
    (λ _. regroup (more_by tokens rec false r >>= ending nodes.Exprs (start + 2) (length base + 2)) _ _ (regroup (more_by tokens rec false r) _ _
    (bind (more_by tokens rec false r) (more_sound g false (start + 2) behind r y s er)
    (λ q k. init_sound g from base (q.0, closed nodes.Define start q.0 (length base) (closed nodes.Exprs (start + 2) q.0 (length base + 2) q.1)) w
    (λ _. (
      one nodes.Define start q.0 (beside names (one nodes.Exprs (start + 2) q.0 k.0)),
      subst (λ t. Spells tokens (Simple false) (one nodes.Define start q.0 (beside names (one nodes.Exprs t q.0 k.0))) start q.0) (sym next) (define (last_name n) d (subst (λ t. Spells tokens (Exprs false) k.0 t q.0) next k.1)),
      closed_posts nodes.Define start q.0 (length base) base (closed nodes.Exprs (start + 2) q.0 (length base + 2) q.1) (beside names (one nodes.Exprs (start + 2) q.0 k.0)) (joined base behind (closed nodes.Exprs (start + 2) q.0 (length base + 2) q.1) names (one nodes.Exprs (start + 2) q.0 k.0) behind_is (closed_posts nodes.Exprs (start + 2) q.0 (length base + 2) behind q.1 k.0 k.2 mark_is)) refl,
    ))))))

pub switch_sound : {tokens : List Token} {rec : Reader} → IsSound tokens rec → (at : ℕ) (out : List Post) → HasWord tokens at words.Switch → Holds (Has tokens Stmt at out) (head_by tokens rec at (at + 1) out)
switch_sound {tokens} {rec} g at out w =
    choose (is_semicolon (kind_at tokens (at + 1)))
    (λ e. tag_sound g at (at + 1 + 1) out (put_empty nodes.Init (at + 1) out) (one nodes.Init (at + 1) (at + 1) (one nodes.Empty (at + 1) (at + 1) leaf)) w (empty_init (passes e)) (put_empty_posts nodes.Init (at + 1) out))
    (λ _. choose (is_mark tokens (at + 1) marks.OpenBrace)
    (λ _. switched_sound g nodes.Switch at out (at + 1, out) (λ z. z) (λ z new n. n) (λ z to o c cl. switch w no_init no_tag_expr o c cl))
    (λ _. choose (is_at tokens (at + 1) kinds.Name && is_mark tokens (at + 1 + 1) marks.Define)
    (λ e. let p = and_parts (is_at tokens (at + 1) kinds.Name) (is_mark tokens (at + 1 + 1) marks.Define) e in
    then g (Level 1 false) (at + 1 + 2) (closed nodes.Names (at + 1) (at + 1 + 1) (length out) (put nodes.DeclName (at + 1) (at + 1 + 1) out)) (λ r h. defined_sound g at out r h.0 w (has_at (at + 1) kinds.Name p.0) (has_mark (at + 1 + 1) marks.Define p.1) h.1 h.2))
    (λ _. bind (opening_by tokens rec (at + 1) out) (opening_sound g (at + 1) out)
    (λ r h. choose (is_semicolon (kind_at tokens r.0))
    (λ _. init_sound g at out r w (λ e. (h.0, h.1.simple e, h.2)))
    (λ e. tagged_sound g at (at + 1) out out r leaf h.0 w no_init (sym (append-nil out)) (λ n. h.1.expr e n) h.2)))))
