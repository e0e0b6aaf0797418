-- Operands and what goes on behind them, and lists of expressions, that are read are spelled.
use Rattle.std.proofs.Common.{◌≡◌, ℕ, ◌+◌, List, ◌++◌, length, Bool, true, false, ◌&&◌, Option, Some, refl, sym, ap, subst, inr}
use Rattle.std.proofs.lemmas.Bool.{and_parts, false≢true}
use Rattle.argot_tree.specs.declared.keyword.Keyword.TheVariants as words
use Rattle.argot_tree.specs.declared.mark.Mark.TheVariants as marks
use Rattle.argot_tree.specs.declared.node_kind.NodeKind.{NodeKind}
use Rattle.argot_tree.specs.declared.node_kind.NodeKind.TheVariants as nodes
use Rattle.argot_tree.specs.declared.token.TokenKind.{TokenKind}
use Rattle.argot_tree.specs.declared.token.TokenKind.TheVariants as kinds
use Rattle.argot_tree.specs.declared.token.Token.{Token}
use Rattle.argot_tree.specs.Forests.{Forest, leaf, beside, one}
use Rattle.argot_tree.specs.TokensAt.{kind_at, HasAt, HasMark, HasWord, Passes, MaybeComma, is_star, is_literal, begins_conversion, begins_composite}
use Rattle.argot_tree.specs.Grammar.{AnyType, OnlyType, Signature, Level, Primary, Operand, Exprs, Either, Eithers, Elems, Items, Item, Value, Block, Spells, func_type, formed_type, literal, name_use, parens, func_literal, composite, open_composite, bare_composite, conversion, selector, index, slice_all, slice_from, slice_to, slice_between, slice_to_max, slice_between_max, assertion, call_none, call, spread_call, last_expr, one_expr, last_either, one_either, no_elems, elems, last_item, one_item, item, keyed_item, value_expr, value_elems}
use Rattle.argot_parse_reader.specs.declared.post.Post.{Post}
use Rattle.argot_parse_reader.specs.Posts.{posts}
use Rattle.argot_parse_reader.specs.Reading.{The, Suffixes, MoreExprs, Answer, Reader, ◌>>=◌, closed, put, closing, is_at, is_word, is_mark, past_list, behind_comma, goes_on}
use Rattle.argot_parse_reader.specs.TypeReader.{named_type_by}
use Rattle.argot_parse_reader.specs.ExpressionReader.{stay_by, name_use_by, is_open_array, bracket_end, converted_by, behind_type_by, behind_signature_by, parens_by, open_array_by, name_by, operand_by, dot_by, third_by, from_start_by, behind_first_by, bracket_by, call_by, suffix_by, suffixes_by, exprs_by, more_exprs_by, eithers_by, elems_by, items_by, item_by, value_by}
use Rattle.argot_parse_reader.proofs.TokenTests.{has_at, has_word, has_mark, passes, fails}
use Rattle.argot_parse_reader.proofs.PostLaws.{closed_posts, put_posts, joined}
use Rattle.argot_parse_reader.proofs.Holding.{Holds, none, given, bind, regroup, try, weaken, choose, each}
use Rattle.argot_parse_reader.proofs.SoundReads.{Has, HasOr, IsOperand, Reads, IsSound, node, bare, then, last, must, must_list, maybe_comma}
use Rattle.argot_parse_reader.proofs.SoundTypes.{named_type_sound, goes_on_by}
use Rattle.argot_parse_reader.proofs.SoundExpressions.{some_part}

-- what was read stays where a type may stand
stay_sound : {tokens : List Token} (types b : Bool) (from : ℕ) (base : List Post) (r : ℕ × List Post) (x : Forest) → Spells tokens OnlyType x from r.0 → r.1 ≡ base ++ posts x → Holds (HasOr tokens (Operand b) types from base) (stay_by types r)
stay_sound true b from base r x s e = given (x, inr s, e)
stay_sound false b from base r x s e = none

conversion_no_star : (found : Option TokenKind) → begins_conversion found ≡ true → is_star found ≡ false
conversion_no_star (Some (kinds.Mark marks.Star)) e = absurd (false≢true e)
conversion_no_star _ e = refl

any_type : {tokens : List Token} {x : Forest} {from to : ℕ} → Passes tokens begins_conversion from → Spells tokens OnlyType x from to → Spells tokens AnyType x from to
any_type {tokens} {x} {from} {to} p s = formed_type (fails (conversion_no_star (kind_at tokens from) p.there)) s

-- an expression, a comma that may stand there, and what closes it
abbrev HasArgument : List Token → ℕ → List Post → ℕ → List Post → Type 0
HasArgument tokens at out to new =
    (y : Forest) × (mid end : ℕ) × Spells tokens (Level 1 true) y at mid × MaybeComma tokens mid end × HasMark tokens end marks.CloseParen × (to ≡ end + 1) × (new ≡ out ++ posts y)

argument_sound : {tokens : List Token} {rec : Reader} → IsSound tokens rec → (at : ℕ) (out : List Post) → Holds (HasArgument tokens at out) (rec (The (Level 1 true)) at out >>= past_list tokens marks.CloseParen)
argument_sound {tokens} {rec} g at out =
    then g (Level 1 true) at out (λ r h. choose (is_mark tokens (behind_comma tokens r.0) marks.CloseParen)
    (λ e. given (h.0, r.0, behind_comma tokens r.0, h.1, maybe_comma tokens r.0, has_mark (behind_comma tokens r.0) marks.CloseParen e, refl, h.2))
    (λ _. none))

converted_sound : {tokens : List Token} {rec : Reader} → IsSound tokens rec → (types b : Bool) (from : ℕ) (base : List Post) (r : ℕ × List Post) (x : Forest) → Passes tokens begins_conversion from → Spells tokens OnlyType x from r.0 → r.1 ≡ base ++ posts x → Holds (HasOr tokens (Operand b) types from base) (converted_by tokens rec types from (length base) r)
converted_sound {tokens} {rec} g types b from base r x p s e =
    choose (is_mark tokens r.0 marks.OpenParen)
    (λ o. try (rec (The (Level 1 true)) (r.0 + 1) r.1 >>= past_list tokens marks.CloseParen) (argument_sound g (r.0 + 1) r.1)
    (λ q k. given (
      one nodes.Conversion from q.0 (beside x k.0),
      some_part types (subst (λ t. Spells tokens (Operand b) (one nodes.Conversion from t (beside x k.0)) from t) (sym k.6) (conversion p (any_type p s) (has_mark r.0 marks.OpenParen o) k.3 k.4 k.5)),
      closed_posts nodes.Conversion from q.0 (length base) base q.1 (beside x k.0) (joined base r.1 q.1 x k.0 e k.7) refl,
    ))
    (stay_sound types b from base r x s e))
    (λ _. stay_sound types b from base r x s e)

behind_type_sound : {tokens : List Token} {rec : Reader} → IsSound tokens rec → (types b : Bool) (from : ℕ) (base : List Post) (r : ℕ × List Post) (x : Forest) → Passes tokens begins_conversion from → Spells tokens OnlyType x from r.0 → r.1 ≡ base ++ posts x → Holds (HasOr tokens (Operand b) types from base) (behind_type_by tokens rec types from (length base) r)
behind_type_sound {tokens} {rec} g types b from base r x p s e =
    choose (begins_composite (kind_at tokens from) && is_mark tokens r.0 marks.OpenBrace)
    (λ c. let q = and_parts (begins_composite (kind_at tokens from)) (is_mark tokens r.0 marks.OpenBrace) c in
    try (rec (The Elems) r.0 r.1) (g.kept (The Elems) r.0 r.1)
    (λ q' k. given (one nodes.Composite from q'.0 (beside x k.0), some_part types (composite (passes q.0) (any_type p s) k.1), closed_posts nodes.Composite from q'.0 (length base) base q'.1 (beside x k.0) (joined base r.1 q'.1 x k.0 e k.2) refl))
    (stay_sound types b from base r x s e))
    (λ _. converted_sound g types b from base r x p s e)

behind_signature_sound : {tokens : List Token} {rec : Reader} → IsSound tokens rec → (types b : Bool) (from : ℕ) (base : List Post) (r : ℕ × List Post) (x : Forest) → HasWord tokens from words.Func → Spells tokens Signature x (from + 1) r.0 → r.1 ≡ base ++ posts x → Holds (HasOr tokens (Operand b) types from base) (behind_signature_by tokens rec types from (length base) r)
behind_signature_sound {tokens} {rec} g types b from base r x w s e =
    let typed_is : closed nodes.FuncType from r.0 (length base) r.1 ≡ base ++ posts (one nodes.FuncType from r.0 x) = closed_posts nodes.FuncType from r.0 (length base) base r.1 x e refl in
    choose (is_mark tokens r.0 marks.OpenBrace)
    (λ _. try (rec (The Block) r.0 r.1) (g.kept (The Block) r.0 r.1)
    (λ q k. given (one nodes.FuncLiteral from q.0 (beside x k.0), some_part types (func_literal w s k.1), closed_posts nodes.FuncLiteral from q.0 (length base) base q.1 (beside x k.0) (joined base r.1 q.1 x k.0 e k.2) refl))
    (stay_sound types b from base (r.0, closed nodes.FuncType from r.0 (length base) r.1) (one nodes.FuncType from r.0 x) (func_type w s) typed_is))
    (λ _. converted_sound g types b from base (r.0, closed nodes.FuncType from r.0 (length base) r.1) (one nodes.FuncType from r.0 x) (record { there = ap begins_conversion w.there }) (func_type w s) typed_is)

name_use_sound : {tokens : List Token} {b : Bool} (at : ℕ) (out : List Post) → HasAt tokens at kinds.Name → Holds (Has tokens (Operand b) at out) (name_use_by at out)
name_use_sound at out n = given (bare nodes.NameUse at out (name_use n))

name_sound : {tokens : List Token} {rec : Reader} → IsSound tokens rec → (b : Bool) (at : ℕ) (out : List Post) → HasAt tokens at kinds.Name → Holds (Has tokens (Operand b) at out) (name_by tokens rec b at out)
name_sound g false at out n = name_use_sound at out n
name_sound {tokens} {rec} g true at out n =
    bind (named_type_by tokens at out) (named_type_sound at out n)
    (λ r h. choose (is_mark tokens r.0 marks.OpenBrace)
    (λ _. try (rec (The Elems) r.0 r.1) (g.kept (The Elems) r.0 r.1)
    (λ q k. given (node nodes.Composite at out (bare_composite h.2 k.1) (joined out r.1 q.1 h.0 k.0 h.3 k.2)))
    (name_use_sound at out n))
    (λ _. name_use_sound at out n))

parens_sound : {tokens : List Token} {rec : Reader} → IsSound tokens rec → (b : Bool) (at : ℕ) (out : List Post) → HasMark tokens at marks.OpenParen → Holds (Has tokens (Operand b) at out) (parens_by tokens rec at out)
parens_sound {tokens} {rec} g b at out o =
    regroup (rec (The Either) (at + 1) out) _ _ (then g Either (at + 1) out (λ r h. must marks.CloseParen r _ (λ c. given (node nodes.Parens at out (parens o h.1 c) h.2))))

open_array_sound : {tokens : List Token} {rec : Reader} → IsSound tokens rec → (b : Bool) (at : ℕ) (out : List Post) → is_open_array tokens at ≡ true → Holds (Has tokens (Operand b) at out) (open_array_by tokens rec at out)
open_array_sound {tokens} {rec} g b at out e =
    let p = and_parts (is_mark tokens at marks.OpenBracket) (is_mark tokens (at + 1) marks.Ellipsis && is_mark tokens (at + 2) marks.CloseBracket) e in
    let q = and_parts (is_mark tokens (at + 1) marks.Ellipsis) (is_mark tokens (at + 2) marks.CloseBracket) p.1 in
    regroup (rec (The AnyType) (at + 3) out >>= closing nodes.OpenArrayType at out) _ _ (regroup (rec (The AnyType) (at + 3) out) _ _
    (then g AnyType (at + 3) out (λ r h. then g Elems r.0 (closed nodes.OpenArrayType at r.0 (length out) r.1) (λ s k.
    given (node nodes.Composite at out (open_composite (has_mark at marks.OpenBracket p.0) (has_mark (at + 1) marks.Ellipsis q.0) (has_mark (at + 2) marks.CloseBracket q.1) h.1 k.1)
    (joined out (closed nodes.OpenArrayType at r.0 (length out) r.1) s.1 (one nodes.OpenArrayType at r.0 h.0) k.0 (closed_posts nodes.OpenArrayType at r.0 (length out) out r.1 h.0 h.2 refl) k.2))))))

an_operand : {tokens : List Token} {b : Bool} (types : Bool) (at : ℕ) (out : List Post) (a : Answer) → Holds (Has tokens (Operand b) at out) a → Holds (HasOr tokens (Operand b) types at out) a
an_operand types at out a h = weaken a h (λ to new k. (k.0, some_part types k.1, k.2))

pub operand_sound : {tokens : List Token} {rec : Reader} → IsSound tokens rec → (types b : Bool) (at : ℕ) (out : List Post) → Holds (HasOr tokens (Operand b) types at out) (operand_by tokens rec types b at out)
operand_sound {tokens} {rec} g types b at out =
    choose (is_at tokens at kinds.Name) (λ e. an_operand types at out (name_by tokens rec b at out) (name_sound g b at out (has_at at kinds.Name e)))
    (λ _. choose (is_literal (kind_at tokens at))
    (λ e. an_operand types at out (Some (at + 1, put nodes.Literal at (at + 1) out)) (given (bare nodes.Literal at out (literal (passes e)))))
    (λ _. choose (is_mark tokens at marks.OpenParen) (λ e. an_operand types at out (parens_by tokens rec at out) (parens_sound g b at out (has_mark at marks.OpenParen e)))
    (λ _. choose (is_word tokens at words.Func)
    (λ e. then g Signature (at + 1) out (λ r h. behind_signature_sound g types b at out r h.0 (has_word at words.Func e) h.1 h.2))
    (λ _. choose (is_open_array tokens at) (λ e. an_operand types at out (open_array_by tokens rec at out) (open_array_sound g b at out e))
    (λ _. choose (begins_conversion (kind_at tokens at))
    (λ e. then g OnlyType at out (λ r h. behind_type_sound g types b at out r h.0 (passes e) h.1 h.2))
    (λ _. none))))))

module _ {tokens : List Token} {rec : Reader} (g : IsSound tokens rec) (b : Bool) (x : Forest) (from : ℕ) (base : List Post) where
  -- a bracket's end
  bracket_end_sound : (kind : NodeKind) (r : ℕ × List Post) (whole : Forest) → r.1 ≡ base ++ posts whole → (HasMark tokens r.0 marks.CloseBracket → Spells tokens (Primary b) (one kind from (r.0 + 1) whole) from (r.0 + 1)) → Holds (Has tokens (Primary b) from base) (bracket_end tokens kind from (length base) r)
  bracket_end_sound kind r whole e make =
      must marks.CloseBracket r _ (λ c. given (node kind from base (make c) e))

  third_sound : (kind : NodeKind) (r : ℕ × List Post) (whole : Forest → Forest) → ((w : Forest) (new : List Post) → new ≡ r.1 ++ posts w → new ≡ base ++ posts (whole w)) → ((w : Forest) (to : ℕ) → Spells tokens (Level 1 true) w (r.0 + 1) to → HasMark tokens to marks.CloseBracket → Spells tokens (Primary b) (one kind from (to + 1) (whole w)) from (to + 1)) → Holds (Has tokens (Primary b) from base) (third_by tokens rec kind from (length base) r)
  third_sound kind r whole join make =
      then g (Level 1 true) (r.0 + 1) r.1 (λ q h. bracket_end_sound kind q (whole h.0) (join h.0 q.1 h.2) (λ c. make h.0 q.0 h.1 c))

  module _ (at : ℕ) (out : List Post) (e : out ≡ base ++ posts x) (s : Spells tokens (Primary b) x from at) where
    dot_sound : HasMark tokens at marks.Dot → Holds (Has tokens (Primary b) from base) (dot_by tokens rec from (length base) at out)
    dot_sound d =
        choose (is_at tokens (at + 1) kinds.Name)
        (λ n. given (node nodes.Selector from base (selector s d (has_at (at + 1) kinds.Name n)) (joined base out (put nodes.SelectedName (at + 1) (at + 2) out) x (one nodes.SelectedName (at + 1) (at + 2) leaf) e (put_posts nodes.SelectedName (at + 1) (at + 2) out))))
        (λ _. choose (is_mark tokens (at + 1) marks.OpenParen)
        (λ o. regroup (rec (The AnyType) (at + 2) out) _ _ (then g AnyType (at + 2) out (λ r h. must marks.CloseParen r _ (λ c.
        given (node nodes.TypeAssertion from base (assertion s d (has_mark (at + 1) marks.OpenParen o) h.1 c) (joined base out r.1 x h.0 e h.2))))))
        (λ _. none))

    from_start_sound : HasMark tokens at marks.OpenBracket → HasMark tokens (at + 1) marks.Colon → Holds (Has tokens (Primary b) from base) (from_start_by tokens rec from (length base) at out)
    from_start_sound o d =
        choose (is_mark tokens (at + 2) marks.CloseBracket)
        (λ c. given (node nodes.SliceAll from base (slice_all s o d (has_mark (at + 2) marks.CloseBracket c)) e))
        (λ _. then g (Level 1 true) (at + 2) out (λ r h. choose (is_mark tokens r.0 marks.Colon)
        (λ f. third_sound nodes.SliceToMax r (λ w. beside x (beside h.0 w)) (λ w new n. joined base out new x (beside h.0 w) e (joined out r.1 new h.0 w h.2 n))
        (λ w to t c. slice_to_max s o d h.1 (has_mark r.0 marks.Colon f) t c))
        (λ _. bracket_end_sound nodes.SliceTo r (beside x h.0) (joined base out r.1 x h.0 e h.2) (λ c. slice_to s o d h.1 c))))

    behind_first_sound : HasMark tokens at marks.OpenBracket → (r : ℕ × List Post) → Has tokens (Level 1 true) (at + 1) out r.0 r.1 → Holds (Has tokens (Primary b) from base) (behind_first_by tokens rec from (length base) r)
    behind_first_sound o r h =
        choose (is_mark tokens r.0 marks.Colon)
        (λ f. let d = has_mark r.0 marks.Colon f in
        choose (is_mark tokens (r.0 + 1) marks.CloseBracket)
        (λ c. given (node nodes.SliceFrom from base (slice_from s o h.1 d (has_mark (r.0 + 1) marks.CloseBracket c)) (joined base out r.1 x h.0 e h.2)))
        (λ _. then g (Level 1 true) (r.0 + 1) r.1 (λ q k. choose (is_mark tokens q.0 marks.Colon)
        (λ i. third_sound nodes.SliceBetweenMax q (λ w. beside x (beside h.0 (beside k.0 w)))
        (λ w new n. joined base out new x (beside h.0 (beside k.0 w)) e (joined out r.1 new h.0 (beside k.0 w) h.2 (joined r.1 q.1 new k.0 w k.2 n)))
        (λ w to t c. slice_between_max s o h.1 d k.1 (has_mark q.0 marks.Colon i) t c))
        (λ _. bracket_end_sound nodes.SliceBetween q (beside x (beside h.0 k.0)) (joined base out q.1 x (beside h.0 k.0) e (joined out r.1 q.1 h.0 k.0 h.2 k.2)) (λ c. slice_between s o h.1 d k.1 c)))))
        (λ _. bracket_end_sound nodes.Index r (beside x h.0) (joined base out r.1 x h.0 e h.2) (λ c. index s o h.1 c))

    bracket_sound : HasMark tokens at marks.OpenBracket → Holds (Has tokens (Primary b) from base) (bracket_by tokens rec from (length base) at out)
    bracket_sound o =
        choose (is_mark tokens (at + 1) marks.Colon) (λ d. from_start_sound o (has_mark (at + 1) marks.Colon d))
        (λ _. then g (Level 1 true) (at + 1) out (λ r h. behind_first_sound o r h))

    call_sound : HasMark tokens at marks.OpenParen → Holds (Has tokens (Primary b) from base) (call_by tokens rec from (length base) at out)
    call_sound o =
        choose (is_mark tokens (at + 1) marks.CloseParen) (λ c. given (node nodes.Call from base (call_none s o (has_mark (at + 1) marks.CloseParen c)) e))
        (λ _. then g Eithers (at + 1) out (λ r h. choose (is_mark tokens r.0 marks.Ellipsis)
        (λ d. must_list marks.CloseParen (r.0 + 1, r.1) _ (λ to m c. given (node nodes.SpreadCall from base (spread_call s o h.1 (has_mark r.0 marks.Ellipsis d) m c) (joined base out r.1 x h.0 e h.2))))
        (λ _. must_list marks.CloseParen r _ (λ to m c. given (node nodes.Call from base (call s o h.1 m c) (joined base out r.1 x h.0 e h.2))))))

    suffix_sound : Holds (Has tokens (Primary b) from base) (suffix_by tokens rec from (length base) at out)
    suffix_sound =
        choose (is_mark tokens at marks.Dot) (λ d. dot_sound (has_mark at marks.Dot d))
        (λ _. choose (is_mark tokens at marks.OpenBracket) (λ o. bracket_sound (has_mark at marks.OpenBracket o))
        (λ _. choose (is_mark tokens at marks.OpenParen) (λ o. call_sound (has_mark at marks.OpenParen o))
        (λ _. none)))

pub suffixes_sound : {tokens : List Token} {rec : Reader} → IsSound tokens rec → (from mark at : ℕ) (out : List Post) → Holds (Reads tokens (Suffixes from mark) at out) (suffixes_by tokens rec from mark at out)
suffixes_sound {tokens} {rec} g from mark at out =
    let suffix : Holds (Reads tokens (Suffixes from mark) at out) (suffix_by tokens rec from mark at out) =
    each (λ (h : IsOperand tokens from mark at out). Has tokens (Primary h.bare) from h.base) (suffix_by tokens rec from mark at out)
    (λ h. subst (λ m. Holds (Has tokens (Primary h.bare) from h.base) (suffix_by tokens rec from m at out)) (sym h.since) (suffix_sound g h.bare h.x from h.base at out h.nodes h.spelled)) in
    try (suffix_by tokens rec from mark at out) suffix
    (λ r p. weaken (rec (Suffixes from mark) r.0 r.1) (g.kept (Suffixes from mark) r.0 r.1)
    (λ to new f. λ h. let y = p h in f (record { bare = h.bare; x = y.0; base = h.base; nodes = y.2; since = h.since; spelled = y.1 })))
    (given (λ h. (h.x, h.spelled, h.nodes)))

pub exprs_sound : {tokens : List Token} {rec : Reader} → IsSound tokens rec → (b : Bool) (at : ℕ) (out : List Post) → Holds (Has tokens (Exprs b) at out) (exprs_by tokens rec b at out)
exprs_sound {tokens} {rec} g b at out =
    then g (Level 1 b) at out (λ r h. weaken (rec (MoreExprs b) r.0 r.1) (g.kept (MoreExprs b) r.0 r.1) (λ to new f. f h.0 at out h.2 h.1))

pub more_exprs_sound : {tokens : List Token} {rec : Reader} → IsSound tokens rec → (b : Bool) (at : ℕ) (out : List Post) → Holds (Reads tokens (MoreExprs b) at out) (more_exprs_by tokens rec b at out)
more_exprs_sound {tokens} {rec} g b at out =
    let Q : ℕ → List Post → Type 0 = Reads tokens (MoreExprs b) at out in
    let stay : Q at out = λ x from base e s. (x, last_expr s, e) in
    choose (is_mark tokens at marks.Comma)
    (λ c. try (rec (The (Level 1 b)) (at + 1) out) (g.kept (The (Level 1 b)) (at + 1) out)
    (λ r h. weaken (rec (MoreExprs b) r.0 r.1) (g.kept (MoreExprs b) r.0 r.1) (λ to new f. λ x from base e s.
    let y = f h.0 (at + 1) out h.2 h.1 in (beside x y.0, one_expr s (has_mark at marks.Comma c) y.1, joined base out new x y.0 e y.2)))
    (given stay))
    (λ _. given stay)

pub eithers_sound : {tokens : List Token} {rec : Reader} → IsSound tokens rec → (at : ℕ) (out : List Post) → Holds (Has tokens Eithers at out) (eithers_by tokens rec at out)
eithers_sound {tokens} {rec} g at out =
    then g Either at out (λ r h. choose (goes_on tokens marks.CloseParen r.0)
    (λ e. last g Eithers (r.0 + 1) r.1 (λ to new k. (beside h.0 k.0, one_either h.1 (goes_on_by marks.CloseParen r.0 e) k.1, joined out r.1 new h.0 k.0 h.2 k.2)))
    (λ _. given (h.0, last_either h.1, h.2)))

pub elems_sound : {tokens : List Token} {rec : Reader} → IsSound tokens rec → (at : ℕ) (out : List Post) → Holds (Has tokens Elems at out) (elems_by tokens rec at out)
elems_sound {tokens} {rec} g at out =
    choose (is_mark tokens at marks.OpenBrace)
    (λ e. let o = has_mark at marks.OpenBrace e in
    choose (is_mark tokens (at + 1) marks.CloseBrace) (λ c. given (bare nodes.Elems at out (no_elems o (has_mark (at + 1) marks.CloseBrace c))))
    (λ _. regroup (rec (The Items) (at + 1) out) _ _ (then g Items (at + 1) out (λ r h. must_list marks.CloseBrace r _ (λ to m c. given (node nodes.Elems at out (elems o h.1 m c) h.2))))))
    (λ _. none)

pub items_sound : {tokens : List Token} {rec : Reader} → IsSound tokens rec → (at : ℕ) (out : List Post) → Holds (Has tokens Items at out) (items_by tokens rec at out)
items_sound {tokens} {rec} g at out =
    then g Item at out (λ r h. choose (goes_on tokens marks.CloseBrace r.0)
    (λ e. last g Items (r.0 + 1) r.1 (λ to new k. (beside h.0 k.0, one_item h.1 (goes_on_by marks.CloseBrace r.0 e) k.1, joined out r.1 new h.0 k.0 h.2 k.2)))
    (λ _. given (h.0, last_item h.1, h.2)))

pub item_sound : {tokens : List Token} {rec : Reader} → IsSound tokens rec → (at : ℕ) (out : List Post) → Holds (Has tokens Item at out) (item_by tokens rec at out)
item_sound {tokens} {rec} g at out =
    then g Value at out (λ r h. choose (is_mark tokens r.0 marks.Colon)
    (λ c. then g Value (r.0 + 1) r.1 (λ q k. given (node nodes.KeyedItem at out (keyed_item h.1 (has_mark r.0 marks.Colon c) k.1) (joined out r.1 q.1 h.0 k.0 h.2 k.2))))
    (λ _. given (node nodes.Item at out (item h.1) h.2)))

pub value_sound : {tokens : List Token} {rec : Reader} → IsSound tokens rec → (at : ℕ) (out : List Post) → Holds (Has tokens Value at out) (value_by tokens rec at out)
value_sound {tokens} {rec} g at out =
    choose (is_mark tokens at marks.OpenBrace) (λ _. last g Elems at out (λ to new h. (h.0, value_elems h.1, h.2)))
    (λ _. last g (Level 1 true) at out (λ to new h. (h.0, value_expr h.1, h.2)))
