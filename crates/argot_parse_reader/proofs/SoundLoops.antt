-- A `for` that is read is spelled.
use Rattle.std.proofs.Common.{◌≡◌, ℕ, ◌+◌, List, ◌++◌, length, Bool, true, false, cond, Option, Some, refl, sym, ap, ◌∙◌, ⊎_elim}
use Rattle.std.specs.Prelude.{◌⊎◌}
use Rattle.std.proofs.lemmas.List.{append-nil}
use Rattle.std.proofs.lemmas.Bool.{false≢true}
use Rattle.argot_tree.specs.declared.keyword.Keyword.TheVariants as words
use Rattle.argot_tree.specs.declared.mark.Mark.TheVariants as marks
use Rattle.argot_tree.specs.declared.node_kind.NodeKind.{NodeKind}
use Rattle.argot_tree.specs.declared.node_kind.NodeKind.TheVariants as nodes
use Rattle.argot_tree.specs.declared.token.TokenKind.{TokenKind}
use Rattle.argot_tree.specs.declared.token.TokenKind.TheVariants as kinds
use Rattle.argot_tree.specs.declared.token.Token.{Token}
use Rattle.argot_tree.specs.Forests.{Forest, leaf, beside, one}
use Rattle.argot_tree.specs.TokensAt.{kind_at, HasMark, HasWord, Passes, is_semicolon}
use Rattle.argot_tree.specs.Grammar.{Level, Exprs, Block, Stmt, Simple, MaybeCondition, MaybePost, Spells, no_condition, a_condition, empty_post, a_post, while_loop, for_loop, for_empty, range_loop, assign_range, define_range}
use Rattle.argot_parse_reader.specs.declared.post.Post.{Post}
use Rattle.argot_parse_reader.specs.Posts.{posts}
use Rattle.argot_parse_reader.specs.Reading.{The, Reader, ◌>>=◌, closed, is_kind, is_mark}
use Rattle.argot_parse_reader.specs.StatementReader.{put_empty, is_range, ranges, past_semicolon, opening_by, maybe_condition_by, maybe_post_by, loop_by, parts_by, range_by, looped_by, for_by}
use Rattle.argot_parse_reader.proofs.TokenTests.{has_mark, passes}
use Rattle.argot_parse_reader.proofs.PostLaws.{closed_posts, joined}
use Rattle.argot_parse_reader.proofs.Holding.{Holds, given, bind, regroup, choose}
use Rattle.argot_parse_reader.proofs.SoundReads.{Has, IsSound, node, nothing, then, last, must_semicolon}
use Rattle.argot_parse_reader.proofs.SoundHeads.{ranges_on, HasOpening, opening_sound, put_empty_posts}

pub maybe_condition_sound : {tokens : List Token} {rec : Reader} → IsSound tokens rec → (at : ℕ) (out : List Post) → Holds (Has tokens MaybeCondition at out) (maybe_condition_by tokens rec at out)
maybe_condition_sound {tokens} {rec} g at out =
    choose (is_semicolon (kind_at tokens at)) (λ _. given (nothing at out no_condition))
    (λ _. last g (Level 1 false) at out (λ to new h. (h.0, a_condition h.1, h.2)))

pub maybe_post_sound : {tokens : List Token} {rec : Reader} → IsSound tokens rec → (at : ℕ) (out : List Post) → Holds (Has tokens MaybePost at out) (maybe_post_by tokens rec at out)
maybe_post_sound {tokens} {rec} g at out =
    choose (is_mark tokens at marks.OpenBrace) (λ _. given (one nodes.Post at at (one nodes.Empty at at leaf), empty_post, put_empty_posts nodes.Post at out))
    (λ _. then g (Simple false) at out (λ r h. given (node nodes.Post at out (a_post h.1) h.2)))

is_range_on : (found : Option TokenKind) → is_range found ≡ true → found ≡ Some (kinds.Word words.Range)
is_range_on (Some (kinds.Word words.Range)) e = refl
is_range_on _ e = absurd (false≢true e)

has_range : {tokens : List Token} (at : ℕ) → is_range (kind_at tokens at) ≡ true → HasWord tokens at words.Range
has_range {tokens} at e = record { there = is_range_on (kind_at tokens at) e }

-- the body of a loop whose head is read
loop_sound : {tokens : List Token} {rec : Reader} → IsSound tokens rec → (kind : NodeKind) (from : ℕ) (base : List Post) (r : ℕ × List Post) (whole : Forest → Forest) → ((z : Forest) (new : List Post) → new ≡ r.1 ++ posts z → new ≡ base ++ posts (whole z)) → ((z : Forest) (to : ℕ) → Spells tokens Block z r.0 to → Spells tokens Stmt (one kind from to (whole z)) from to) → Holds (Has tokens Stmt from base) (loop_by tokens rec kind from (length base) r)
loop_sound {tokens} {rec} g kind from base r whole join make =
    then g Block r.0 r.1 (λ q h. given (node kind from base (make h.0 q.0 h.1) (join h.0 q.1 h.2)))

-- behind the first statement of the head and its semicolon
parts_sound : {tokens : List Token} {rec : Reader} → IsSound tokens rec → (from : ℕ) (base : List Post) (r : ℕ × List Post) (x : Forest) → r.1 ≡ base ++ posts x → ((y z w : Forest) (mid mid2 to : ℕ) → Spells tokens MaybeCondition y r.0 mid → Passes tokens is_semicolon mid → Spells tokens MaybePost z (mid + 1) mid2 → Spells tokens Block w mid2 to → Spells tokens Stmt (one nodes.For from to (beside x (beside y (beside z w)))) from to) → Holds (Has tokens Stmt from base) (parts_by tokens rec from (length base) r)
parts_sound {tokens} {rec} g from base r x e make =
    regroup (rec (The MaybeCondition) r.0 r.1 >>= past_semicolon tokens) _ _ (regroup (rec (The MaybeCondition) r.0 r.1) _ _
    (then g MaybeCondition r.0 r.1 (λ q h. must_semicolon q _ (λ p. then g MaybePost (q.0 + 1) q.1 (λ s k.
    loop_sound g nodes.For from base s (λ w. beside x (beside h.0 (beside k.0 w)))
    (λ w new n. joined base r.1 new x (beside h.0 (beside k.0 w)) e (joined r.1 q.1 new h.0 (beside k.0 w) h.2 (joined q.1 s.1 new k.0 w k.2 n)))
    (λ w to b. make h.0 k.0 w q.0 s.0 to h.1 p k.1 b))))))

-- behind `range`
range_sound : {tokens : List Token} {rec : Reader} → IsSound tokens rec → (kind : NodeKind) (from : ℕ) (base : List Post) (r : ℕ × List Post) (x : Forest) → r.1 ≡ base ++ posts x → ((y z : Forest) (mid to : ℕ) → Spells tokens (Level 1 false) y r.0 mid → Spells tokens Block z mid to → Spells tokens Stmt (one kind from to (beside x (beside y z))) from to) → Holds (Has tokens Stmt from base) (range_by tokens rec kind from (length base) r)
range_sound {tokens} {rec} g kind from base r x e make =
    then g (Level 1 false) r.0 r.1 (λ q h. loop_sound g kind from base q (λ z. beside x (beside h.0 z))
    (λ z new n. joined base r.1 new x (beside h.0 z) e (joined r.1 q.1 new h.0 z h.2 n))
    (λ z to b. make h.0 z q.0 to h.1 b))

only_define : {tokens : List Token} {at : ℕ} → HasMark tokens at marks.Assign ⊎ HasMark tokens at marks.Define → is_mark tokens at marks.Assign ≡ false → HasMark tokens at marks.Define
only_define h e = ⊎_elim (λ a. absurd (false≢true (sym e ∙ ap (λ k. is_kind k (kinds.Mark marks.Assign)) a.there))) (λ d. d) h

ranged_sound : {tokens : List Token} {rec : Reader} → IsSound tokens rec → (from : ℕ) (base : List Post) (r : ℕ × List Post) (x : Forest) → HasWord tokens from words.For → Spells tokens (Exprs false) x (from + 1) r.0 → r.1 ≡ base ++ posts x → ranges tokens r.0 ≡ true → (b : Bool) → is_mark tokens r.0 marks.Assign ≡ b → Holds (Has tokens Stmt from base) (range_by tokens rec (cond b nodes.AssignRange nodes.DefineRange) from (length base) (r.0 + 2, closed nodes.Exprs (from + 1) r.0 (length base) r.1))
ranged_sound {tokens} {rec} g from base r x w s e on true is =
    range_sound g nodes.AssignRange from base (r.0 + 2, closed nodes.Exprs (from + 1) r.0 (length base) r.1) (one nodes.Exprs (from + 1) r.0 x) (closed_posts nodes.Exprs (from + 1) r.0 (length base) base r.1 x e refl)
    (λ y z mid to t b. assign_range w s (has_mark r.0 marks.Assign is) (has_range (r.0 + 1) (ranges_on r.0 on).1) t b)
ranged_sound {tokens} {rec} g from base r x w s e on false is =
    range_sound g nodes.DefineRange from base (r.0 + 2, closed nodes.Exprs (from + 1) r.0 (length base) r.1) (one nodes.Exprs (from + 1) r.0 x) (closed_posts nodes.Exprs (from + 1) r.0 (length base) base r.1 x e refl)
    (λ y z mid to t b. define_range w s (only_define (ranges_on r.0 on).0 is) (has_range (r.0 + 1) (ranges_on r.0 on).1) t b)

looped_sound : {tokens : List Token} {rec : Reader} → IsSound tokens rec → (at : ℕ) (out : List Post) (r : ℕ × List Post) → HasWord tokens at words.For → HasOpening tokens (at + 1) out r.0 r.1 → Holds (Has tokens Stmt at out) (looped_by tokens rec at (length out) r)
looped_sound {tokens} {rec} g at out r w h =
    choose (is_semicolon (kind_at tokens r.0))
    (λ e. parts_sound g at out (r.0 + 1, closed nodes.Init (at + 1) r.0 (length out) r.1) (one nodes.Init (at + 1) r.0 h.0) (closed_posts nodes.Init (at + 1) r.0 (length out) out r.1 h.0 h.2 refl)
    (λ y z b mid mid2 to c p d t. for_loop w (h.1.simple e) (passes e) c p d t))
    (λ e. choose (ranges tokens r.0) (λ on. ranged_sound g at out r h.0 w (h.1.exprs on) h.2 on (is_mark tokens r.0 marks.Assign) refl)
    (λ off. loop_sound g nodes.While at out r (λ z. beside h.0 z) (λ z new n. joined out r.1 new h.0 z h.2 n)
    (λ z to b. while_loop w (a_condition (h.1.expr e off)) b)))

pub for_sound : {tokens : List Token} {rec : Reader} → IsSound tokens rec → (at : ℕ) (out : List Post) → HasWord tokens at words.For → Holds (Has tokens Stmt at out) (for_by tokens rec at out)
for_sound {tokens} {rec} g at out w =
    let empty_is : put_empty nodes.Init (at + 1) out ≡ out ++ posts (one nodes.Init (at + 1) (at + 1) (one nodes.Empty (at + 1) (at + 1) leaf)) = put_empty_posts nodes.Init (at + 1) out in
    choose (is_range (kind_at tokens (at + 1)))
    (λ e. range_sound g nodes.Range at out (at + 2, out) leaf (sym (append-nil out)) (λ y z mid to s b. range_loop w (has_range (at + 1) e) s b))
    (λ _. choose (is_semicolon (kind_at tokens (at + 1)))
    (λ e. parts_sound g at out (at + 2, put_empty nodes.Init (at + 1) out) (one nodes.Init (at + 1) (at + 1) (one nodes.Empty (at + 1) (at + 1) leaf)) empty_is
    (λ y z b mid mid2 to c p d t. for_empty w (passes e) c p d t))
    (λ _. choose (is_mark tokens (at + 1) marks.OpenBrace)
    (λ _. loop_sound g nodes.While at out (at + 1, out) (λ z. z) (λ z new n. n) (λ z to b. while_loop w no_condition b))
    (λ _. bind (opening_by tokens rec (at + 1) out) (opening_sound g (at + 1) out) (λ r h. looped_sound g at out r w h))))
