-- What is read in the heads of `if`, `switch` and `for`.
use Rattle.std.proofs.Common.{◌≡◌, ℕ, ◌+◌, List, ◌∷◌, ◌++◌, length, Bool, true, false, ◌&&◌, Option, Some, refl, sym, ap, ◌∙◌, inl, inr, ⊎_elim}
use Rattle.std.specs.Prelude.{◌⊎◌, ◌||◌}
use Rattle.std.proofs.lemmas.List.{append-nil}
use Rattle.std.proofs.lemmas.Bool.{and_parts, false≢true}
use Rattle.argot_tree.specs.declared.keyword.Keyword.TheVariants as words
use Rattle.argot_tree.specs.declared.mark.Mark.{Mark}
use Rattle.argot_tree.specs.declared.mark.Mark.TheVariants as marks
use Rattle.argot_tree.specs.declared.node_kind.NodeKind.{NodeKind}
use Rattle.argot_tree.specs.declared.node_kind.NodeKind.TheVariants as nodes
use Rattle.argot_tree.specs.declared.token.TokenKind.{TokenKind}
use Rattle.argot_tree.specs.declared.token.TokenKind.TheVariants as kinds
use Rattle.argot_tree.specs.declared.token.Token.{Token}
use Rattle.argot_tree.specs.Forests.{Forest, leaf, beside, one}
use Rattle.argot_tree.specs.TokensAt.{kind_at, HasMark, HasWord, Passes, is_semicolon}
use Rattle.argot_tree.specs.Grammar.{Level, Exprs, Block, Simple, If, MaybeInit, Spells, last_expr, no_init, empty_init, an_init, if_, no_else, else_if, else_block}
use Rattle.argot_parse_reader.specs.declared.post.Post.{Post}
use Rattle.argot_parse_reader.specs.Posts.{posts}
use Rattle.argot_parse_reader.specs.Reading.{The, Ifs, Answer, Reader, ◌>>=◌, closed, put, closed_all, is_word, is_mark}
use Rattle.argot_parse_reader.specs.StatementReader.{put_empty, is_range, defines, ranges, guards, at_semicolon, more_by, assign_by, simple_behind_by, begins_assign, listed_by, opened_by, opening_by, condition_behind_by, condition_by, else_by, ifs_by}
use Rattle.argot_parse_reader.proofs.TokenTests.{has_mark, has_word, passes}
use Rattle.argot_parse_reader.proofs.PostLaws.{closed_posts, put_posts, joined, joined_last}
use Rattle.argot_parse_reader.proofs.Holding.{Holds, none, given, bind, regroup, weaken, choose}
use Rattle.argot_parse_reader.proofs.SoundReads.{Has, IsSound, then, last}
use Rattle.argot_parse_reader.proofs.SoundStatements.{Chained, more_sound, assign_sound, simple_behind_sound}

-- either of two tests
or_parts : (a b : Bool) → (a || b) ≡ true → (a ≡ true) ⊎ (b ≡ true)
or_parts true b h = inl refl
or_parts false b h = inr h

no_semicolon : {tokens : List Token} {at : ℕ} (mark : Mark) → HasMark tokens at mark → is_semicolon (Some (kinds.Mark mark)) ≡ false → is_semicolon (kind_at tokens at) ≡ false
no_semicolon mark h e = ap is_semicolon h.there ∙ e

pub ranges_on : {tokens : List Token} (at : ℕ) → ranges tokens at ≡ true → (HasMark tokens at marks.Assign ⊎ HasMark tokens at marks.Define) × (is_range (kind_at tokens (at + 1)) ≡ true)
ranges_on {tokens} at e =
    let p = and_parts (is_mark tokens at marks.Assign || is_mark tokens at marks.Define) (is_range (kind_at tokens (at + 1))) e in
    (⊎_elim (λ h. inl (has_mark at marks.Assign h)) (λ h. inr (has_mark at marks.Define h)) (or_parts (is_mark tokens at marks.Assign) (is_mark tokens at marks.Define) p.0), p.1)

pub ranges_no_semicolon : (tokens : List Token) (at : ℕ) → ranges tokens at ≡ true → is_semicolon (kind_at tokens at) ≡ false
ranges_no_semicolon tokens at e =
    ⊎_elim (λ h. no_semicolon marks.Assign h refl) (λ h. no_semicolon marks.Define h refl) (ranges_on at e).0

-- what only a body or a guard begins with
abbrev pub begins_body : Option TokenKind → Bool
begins_body (Some (kinds.Mark marks.OpenBrace)) = true
begins_body (Some (kinds.Mark marks.Dot)) = true
begins_body _ = false

pub ranges_no_body : (tokens : List Token) (at : ℕ) → ranges tokens at ≡ true → begins_body (kind_at tokens at) ≡ false
ranges_no_body tokens at e =
    ⊎_elim (λ h. ap begins_body h.there) (λ h. ap begins_body h.there) (ranges_on at e).0

pub body_no_ranges : (tokens : List Token) (at : ℕ) → begins_body (kind_at tokens at) ≡ true → ranges tokens at ≡ false
body_no_ranges tokens at e =
    let P : Bool → Type 0 = λ b. ranges tokens at ≡ b → b ≡ false in
    let all : (b : Bool) → P b = λ b. elim b as P [ true ↦ λ h. absurd (false≢true (sym (ranges_no_body tokens at h) ∙ e)) | false ↦ λ h. refl ] in
    all (ranges tokens at) refl

pub guards_on : {tokens : List Token} (at : ℕ) → guards tokens at ≡ true → HasMark tokens at marks.Dot × HasMark tokens (at + 1) marks.OpenParen × HasWord tokens (at + 2) words.TypeWord × HasMark tokens (at + 3) marks.CloseParen
guards_on {tokens} at e =
    let p = and_parts (is_mark tokens at marks.Dot) (is_mark tokens (at + 1) marks.OpenParen && (is_word tokens (at + 2) words.TypeWord && is_mark tokens (at + 3) marks.CloseParen)) e in
    let q = and_parts (is_mark tokens (at + 1) marks.OpenParen) (is_word tokens (at + 2) words.TypeWord && is_mark tokens (at + 3) marks.CloseParen) p.1 in
    let r = and_parts (is_word tokens (at + 2) words.TypeWord) (is_mark tokens (at + 3) marks.CloseParen) q.1 in
    (has_mark at marks.Dot p.0, has_mark (at + 1) marks.OpenParen q.0, has_word (at + 2) words.TypeWord r.0, has_mark (at + 3) marks.CloseParen r.1)

stops_no_semicolon : (tokens : List Token) (at : ℕ) → (is_mark tokens at marks.OpenBrace || guards tokens at) ≡ true → is_semicolon (kind_at tokens at) ≡ false
stops_no_semicolon tokens at e =
    ⊎_elim (λ h. no_semicolon marks.OpenBrace (has_mark at marks.OpenBrace h) refl) (λ h. no_semicolon marks.Dot (guards_on at h).0 refl) (or_parts (is_mark tokens at marks.OpenBrace) (guards tokens at) e)

-- the beginning of a head: the token behind it tells what it is
pub record IsOpening (tokens : List Token) (x : Forest) (from to : ℕ) : Type 0 where
  pub simple : is_semicolon (kind_at tokens to) ≡ true → Spells tokens (Simple false) x from to
  pub exprs : ranges tokens to ≡ true → Spells tokens (Exprs false) x from to
  pub expr : is_semicolon (kind_at tokens to) ≡ false → ranges tokens to ≡ false → Spells tokens (Level 1 false) x from to

abbrev pub HasOpening : List Token → ℕ → List Post → ℕ → List Post → Type 0
HasOpening tokens at out to new = (x : Forest) × IsOpening tokens x at to × (new ≡ out ++ posts x)

opening_simple : {tokens : List Token} {x : Forest} {from to : ℕ} → Spells tokens (Simple false) x from to → Passes tokens is_semicolon to → IsOpening tokens x from to
opening_simple {tokens} {x} {from} {to} s p = record {
  simple = λ _. s;
  exprs = λ e. absurd (false≢true (sym (ranges_no_semicolon tokens to e) ∙ p.there));
  expr = λ e _. absurd (false≢true (sym e ∙ p.there));
}

opening_exprs : {tokens : List Token} {x : Forest} {from to : ℕ} → Spells tokens (Exprs false) x from to → ranges tokens to ≡ true → IsOpening tokens x from to
opening_exprs {tokens} {x} {from} {to} s h = record {
  simple = λ e. absurd (false≢true (sym (ranges_no_semicolon tokens to h) ∙ e));
  exprs = λ _. s;
  expr = λ _ e. absurd (false≢true (sym e ∙ h));
}

opening_expr : {tokens : List Token} {x : Forest} {from to : ℕ} → Spells tokens (Level 1 false) x from to → is_semicolon (kind_at tokens to) ≡ false → IsOpening tokens x from to
opening_expr s h = record {
  simple = λ e. absurd (false≢true (sym h ∙ e));
  exprs = λ _. last_expr s;
  expr = λ _ _. s;
}

-- a simple statement before its semicolon
up_to_semicolon : {tokens : List Token} (at : ℕ) (out : List Post) (a : Answer) → Holds (Has tokens (Simple false) at out) a → Holds (HasOpening tokens at out) (a >>= at_semicolon tokens)
up_to_semicolon {tokens} at out a h =
    bind a h (λ r k. choose (is_semicolon (kind_at tokens r.0)) (λ e. given (k.0, opening_simple k.1 (passes e), k.2)) (λ _. none))

listed_sound : {tokens : List Token} {rec : Reader} → IsSound tokens rec → (at : ℕ) (out : List Post) (r : ℕ × List Post) → Has tokens (Exprs false) at out r.0 r.1 → Holds (HasOpening tokens at out) (listed_by tokens rec at (length out) r)
listed_sound {tokens} {rec} g at out r h =
    choose (ranges tokens r.0) (λ e. given (h.0, opening_exprs h.1 e, h.2))
    (λ _. up_to_semicolon at out (assign_by tokens rec false at (length out) r) (assign_sound g false at out r h))

opened_sound : {tokens : List Token} {rec : Reader} → IsSound tokens rec → (at : ℕ) (out : List Post) (r : ℕ × List Post) → Has tokens (Level 1 false) at out r.0 r.1 → Holds (HasOpening tokens at out) (opened_by tokens rec at (length out) r)
opened_sound {tokens} {rec} g at out r h =
    choose (is_mark tokens r.0 marks.OpenBrace || guards tokens r.0) (λ e. given (h.0, opening_expr h.1 (stops_no_semicolon tokens r.0 e), h.2))
    (λ _. choose (begins_assign (kind_at tokens r.0) || is_mark tokens r.0 marks.Define)
    (λ _. bind (more_by tokens rec false r) (more_sound g false at out r h.0 h.1 h.2) (λ q k. listed_sound g at out q k))
    (λ _. up_to_semicolon at out (simple_behind_by tokens rec false at (length out) r) (simple_behind_sound g false at out r h.0 h.1 h.2)))

pub opening_sound : {tokens : List Token} {rec : Reader} → IsSound tokens rec → (at : ℕ) (out : List Post) → Holds (HasOpening tokens at out) (opening_by tokens rec at out)
opening_sound {tokens} {rec} g at out =
    choose (defines tokens at) (λ _. up_to_semicolon at out (rec (The (Simple false)) at out) (g.kept (The (Simple false)) at out))
    (λ _. then g (Level 1 false) at out (λ r h. opened_sound g at out r h))

-- an empty statement, and one that is there, as the first of a head
pub put_empty_posts : (kind : NodeKind) (at : ℕ) (out : List Post) → put_empty kind at out ≡ out ++ posts (one kind at at (one nodes.Empty at at leaf))
put_empty_posts kind at out =
    closed_posts kind at at (length out) out (put nodes.Empty at at out) (one nodes.Empty at at leaf) (put_posts nodes.Empty at at out) refl

-- a condition, and what stands before it
abbrev HasCondition : List Token → ℕ → List Post → ℕ → List Post → Type 0
HasCondition tokens at out to new =
    (x y : Forest) × (mid : ℕ) × Spells tokens MaybeInit x at mid × Spells tokens (Level 1 false) y mid to × (new ≡ out ++ posts (beside x y))

condition_behind_sound : {tokens : List Token} {rec : Reader} → IsSound tokens rec → (at : ℕ) (out : List Post) (r : ℕ × List Post) → HasOpening tokens at out r.0 r.1 → Holds (HasCondition tokens at out) (condition_behind_by tokens rec at (length out) r)
condition_behind_sound {tokens} {rec} g at out r h =
    choose (is_semicolon (kind_at tokens r.0))
    (λ e. last g (Level 1 false) (r.0 + 1) (closed nodes.Init at r.0 (length out) r.1)
    (λ to new k. (one nodes.Init at r.0 h.0, k.0, r.0 + 1, an_init (h.1.simple e) (passes e), k.1, joined out (closed nodes.Init at r.0 (length out) r.1) new (one nodes.Init at r.0 h.0) k.0 (closed_posts nodes.Init at r.0 (length out) out r.1 h.0 h.2 refl) k.2)))
    (λ e. choose (is_mark tokens r.0 marks.OpenBrace)
    (λ b. given (leaf, h.0, at, no_init, h.1.expr e (body_no_ranges tokens r.0 (ap begins_body (has_mark r.0 marks.OpenBrace b).there)), h.2))
    (λ _. none))

condition_sound : {tokens : List Token} {rec : Reader} → IsSound tokens rec → (at : ℕ) (out : List Post) → Holds (HasCondition tokens at out) (condition_by tokens rec at out)
condition_sound {tokens} {rec} g at out =
    choose (is_semicolon (kind_at tokens at))
    (λ e. last g (Level 1 false) (at + 1) (put_empty nodes.Init at out)
    (λ to new k. (one nodes.Init at at (one nodes.Empty at at leaf), k.0, at + 1, empty_init (passes e), k.1, joined out (put_empty nodes.Init at out) new (one nodes.Init at at (one nodes.Empty at at leaf)) k.0 (put_empty_posts nodes.Init at out) k.2)))
    (λ _. bind (opening_by tokens rec at out) (opening_sound g at out) (λ r h. condition_behind_sound g at out r h))

-- what stands behind the block of an `if` that began at a token, whose parts so far are these
else_sound : {tokens : List Token} {rec : Reader} → IsSound tokens rec → (begun : List (ℕ × ℕ)) (at mid mid2 : ℕ) (out : List Post) (r : ℕ × List Post) (x y z : Forest) → HasWord tokens at words.If → Spells tokens MaybeInit x (at + 1) mid → Spells tokens (Level 1 false) y mid mid2 → Spells tokens Block z mid2 r.0 → ((w : Forest) (new : List Post) → new ≡ r.1 ++ posts w → new ≡ out ++ posts (beside x (beside y (beside z w)))) → Holds (Chained tokens If nodes.If begun at out) (else_by tokens rec ((at, length out) ∷ begun) r)
else_sound {tokens} {rec} g begun at mid mid2 out r x y z i s t b join =
    let whole : Forest → Forest = λ w. beside x (beside y (beside z w)) in
    let closes : (w : Forest) (to : ℕ) (new : List Post) → new ≡ r.1 ++ posts w → closed_all nodes.If ((at, length out) ∷ begun) to new ≡ closed_all nodes.If begun to (out ++ posts (one nodes.If at to (whole w))) = λ w to new e.
    ap (closed_all nodes.If begun to) (closed_posts nodes.If at to (length out) out new (whole w) (join w new e) refl) in
    choose (is_word tokens r.0 words.Else)
    (λ e. choose (is_word tokens (r.0 + 1) words.If)
    (λ _. weaken (rec (Ifs ((at, length out) ∷ begun)) (r.0 + 1) r.1) (g.kept (Ifs ((at, length out) ∷ begun)) (r.0 + 1) r.1)
    (λ to new k. (one nodes.If at to (whole k.0), if_ i s t b (else_if (has_word r.0 words.Else e) k.1), k.2 ∙ closes k.0 to (r.1 ++ posts k.0) refl)))
    (λ _. then g Block (r.0 + 1) r.1 (λ q k. given (one nodes.If at q.0 (whole k.0), if_ i s t b (else_block (has_word r.0 words.Else e) k.1), closes k.0 q.0 q.1 k.2))))
    (λ _. given (one nodes.If at r.0 (whole leaf), if_ i s t b no_else, closes leaf r.0 r.1 (sym (append-nil r.1))))

pub ifs_sound : {tokens : List Token} {rec : Reader} → IsSound tokens rec → (begun : List (ℕ × ℕ)) (at : ℕ) (out : List Post) → Holds (Chained tokens If nodes.If begun at out) (ifs_by tokens rec begun at out)
ifs_sound {tokens} {rec} g begun at out =
    choose (is_word tokens at words.If)
    (λ e. regroup (condition_by tokens rec (at + 1) out) _ _ (bind (condition_by tokens rec (at + 1) out) (condition_sound g (at + 1) out)
    (λ r h. then g Block r.0 r.1 (λ q k. else_sound g begun at h.2 r.0 out q h.0 h.1 k.0 (has_word at words.If e) h.3 h.4 k.1
    (λ w new n. joined_last out r.1 new h.0 h.1 (beside k.0 w) h.5 (joined r.1 q.1 new k.0 w k.2 n))))))
    (λ _. none)
