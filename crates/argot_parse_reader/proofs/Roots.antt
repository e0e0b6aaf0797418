-- The last node of a tree is its root, and tells a type from an expression and an operand from an operation.
use Rattle.std.proofs.Common.{◌≡◌, ℕ, ◌+◌, ◌-◌, List, [], ◌∷◌, ◌++◌, length, Bool, true, false, Option, Some, None, refl, sym, ap, ◌∙◌, arith, append_assoc, length-append}
use Rattle.std.specs.Prelude.{slice_get, not}
use Rattle.std.proofs.lemmas.Bool.{false≢true}
use Rattle.argot_tree.specs.declared.mark.Mark.TheVariants as marks
use Rattle.argot_tree.specs.declared.node_kind.NodeKind.{NodeKind}
use Rattle.argot_tree.specs.declared.node_kind.NodeKind.TheVariants as nodes
use Rattle.argot_tree.specs.declared.token.TokenKind.{TokenKind}
use Rattle.argot_tree.specs.declared.token.TokenKind.TheVariants as kinds
use Rattle.argot_tree.specs.declared.token.Token.{Token}
use Rattle.argot_tree.specs.Forests.{Forest, leaf, tree, beside, one, size}
use Rattle.argot_tree.specs.TokensAt.{unary_of}
use Rattle.argot_tree.specs.Grammar.{Spells, Unary, Primary, Operand, OnlyType, Level, unary_level, binary, unary, primary, operand, literal, name_use, parens, func_literal, composite, open_composite, bare_composite, conversion, selector, index, slice_all, slice_from, slice_to, slice_between, slice_to_max, slice_between_max, assertion, call_none, call, spread_call, only_pointer, array_type, slice_type, map_type, chan_type, send_type, receive_type, func_type, struct_type, interface_type}
use Rattle.argot_parse_reader.specs.declared.post.Post.{Post}
use Rattle.argot_parse_reader.specs.Posts.{posts}
use Rattle.argot_parse_reader.specs.ExpressionReader.{is_type, is_type_post, typed}
use Rattle.argot_parse_reader.specs.StatementReader.{is_operation, is_operation_post, is_primary}

last_of : (xs : List Post) (p : Post) → slice_get (xs ++ p ∷ []) (length xs) ≡ Some p
last_of [] p = refl
last_of (x ∷ xs) p = last_of xs p

pub last_post : (xs : List Post) (p : Post) → slice_get (xs ++ p ∷ []) (length (xs ++ p ∷ []) - 1) ≡ Some p
last_post xs p =
    let at : length (xs ++ p ∷ []) - 1 ≡ length xs = omega (arith, length-append xs (p ∷ [])) in
    ap (λ i. slice_get (xs ++ p ∷ []) i) at ∙ last_of xs p

last_posts : (out : List Post) (kind : NodeKind) (token last : ℕ) (kids : Forest) → slice_get (out ++ posts (tree kind token last kids leaf)) (length (out ++ posts (tree kind token last kids leaf)) - 1) ≡ Some (record { kind = kind; token = token; last = last; size = size kids + 1 })
last_posts out kind token last kids =
    let p : Post = record { kind = kind; token = token; last = last; size = size kids + 1 } in
    ap (λ l. slice_get l (length l - 1)) (sym (append_assoc out (posts kids) (p ∷ []))) ∙ last_post (out ++ posts kids) p

-- one tree, whose root passes
pub record Rooted (test : NodeKind → Bool) (passes : Bool) (x : Forest) : Type 0 where
  pub kind : NodeKind
  pub token : ℕ
  pub last : ℕ
  pub kids : Forest
  pub is : x ≡ tree kind token last kids leaf
  pub tested : test kind ≡ passes

pub rooted_typed : {passes : Bool} {x : Forest} (out : List Post) → Rooted is_type passes x → typed (out ++ posts x) ≡ passes
rooted_typed {passes} {x} out r =
    ap (λ y. typed (out ++ posts y)) r.is ∙ ap is_type_post (last_posts out r.kind r.token r.last r.kids) ∙ r.tested

pub rooted_primary : {x : Forest} (out : List Post) → Rooted is_operation false x → is_primary (out ++ posts x) ≡ true
rooted_primary {x} out r =
    ap (λ y. is_primary (out ++ posts y)) r.is ∙ ap (λ o. not (is_operation_post o)) (last_posts out r.kind r.token r.last r.kids) ∙ ap not r.tested

rooted_operation : {x : Forest} (out : List Post) → Rooted is_operation true x → is_primary (out ++ posts x) ≡ false
rooted_operation {x} out r =
    ap (λ y. is_primary (out ++ posts y)) r.is ∙ ap (λ o. not (is_operation_post o)) (last_posts out r.kind r.token r.last r.kids) ∙ ap not r.tested

-- what a test says of a node with a kind at hand
by_root : (test : NodeKind → Bool) (passes : Bool) (kind : NodeKind) (token last : ℕ) (kids : Forest) → test kind ≡ passes → Rooted test passes (tree kind token last kids leaf)
by_root test passes kind token last kids h = record { kind = kind; token = token; last = last; kids = kids; is = refl; tested = h }

-- what a test says of a kind that may be missing
abbrev says : (NodeKind → Bool) → Bool → Option NodeKind → Bool
says test otherwise None = otherwise
says test otherwise (Some kind) = test kind

untyped : (found : Option TokenKind) → says is_type false (unary_of found) ≡ false
untyped (Some (kinds.Mark marks.Plus)) = refl
untyped (Some (kinds.Mark marks.Minus)) = refl
untyped (Some (kinds.Mark marks.Not)) = refl
untyped (Some (kinds.Mark marks.Xor)) = refl
untyped (Some (kinds.Mark marks.Star)) = refl
untyped (Some (kinds.Mark marks.And)) = refl
untyped (Some (kinds.Mark marks.Arrow)) = refl
untyped _ = refl

operates : (found : Option TokenKind) → says is_operation true (unary_of found) ≡ true
operates (Some (kinds.Mark marks.Plus)) = refl
operates (Some (kinds.Mark marks.Minus)) = refl
operates (Some (kinds.Mark marks.Not)) = refl
operates (Some (kinds.Mark marks.Xor)) = refl
operates (Some (kinds.Mark marks.Star)) = refl
operates (Some (kinds.Mark marks.And)) = refl
operates (Some (kinds.Mark marks.Arrow)) = refl
operates _ = refl

module _ (tokens : List Token) where
  pub only_root : {x : Forest} {from to : ℕ} → Spells tokens OnlyType x from to → Rooted is_type true x
  only_root (only_pointer h s) = by_root is_type true _ _ _ _ refl
  only_root (array_type h s i t) = by_root is_type true _ _ _ _ refl
  only_root (slice_type h i s) = by_root is_type true _ _ _ _ refl
  only_root (map_type h i s j t) = by_root is_type true _ _ _ _ refl
  only_root (chan_type h i s) = by_root is_type true _ _ _ _ refl
  only_root (send_type h i s) = by_root is_type true _ _ _ _ refl
  only_root (receive_type h i s) = by_root is_type true _ _ _ _ refl
  only_root (func_type h s) = by_root is_type true _ _ _ _ refl
  only_root (struct_type h i s j) = by_root is_type true _ _ _ _ refl
  only_root (interface_type h i s j) = by_root is_type true _ _ _ _ refl

  pub operand_root : {b : Bool} {x : Forest} {from to : ℕ} → Spells tokens (Operand b) x from to → Rooted is_type false x
  operand_root (literal h) = by_root is_type false _ _ _ _ refl
  operand_root (name_use h) = by_root is_type false _ _ _ _ refl
  operand_root (parens h s i) = by_root is_type false _ _ _ _ refl
  operand_root (func_literal h s t) = by_root is_type false _ _ _ _ refl
  operand_root (composite h s t) = by_root is_type false _ _ _ _ refl
  operand_root (open_composite h i j s t) = by_root is_type false _ _ _ _ refl
  operand_root (bare_composite s t) = by_root is_type false _ _ _ _ refl
  operand_root (conversion h s i t c j) = by_root is_type false _ _ _ _ refl

  pub primary_root : {b : Bool} {x : Forest} {from to : ℕ} → Spells tokens (Primary b) x from to → Rooted is_type false x
  primary_root (operand s) = operand_root s
  primary_root (selector s h i) = by_root is_type false _ _ _ _ refl
  primary_root (index s h t i) = by_root is_type false _ _ _ _ refl
  primary_root (slice_all s h i j) = by_root is_type false _ _ _ _ refl
  primary_root (slice_from s h t i j) = by_root is_type false _ _ _ _ refl
  primary_root (slice_to s h i t j) = by_root is_type false _ _ _ _ refl
  primary_root (slice_between s h t i u j) = by_root is_type false _ _ _ _ refl
  primary_root (slice_to_max s h i t j u k) = by_root is_type false _ _ _ _ refl
  primary_root (slice_between_max s h t i u j v k) = by_root is_type false _ _ _ _ refl
  primary_root (assertion s h i t j) = by_root is_type false _ _ _ _ refl
  primary_root (call_none s h i) = by_root is_type false _ _ _ _ refl
  primary_root (call s h t c i) = by_root is_type false _ _ _ _ refl
  primary_root (spread_call s h t i c j) = by_root is_type false _ _ _ _ refl

  pub unary_root : {b : Bool} {x : Forest} {from to : ℕ} → Spells tokens (Unary b) x from to → Rooted is_type false x
  unary_root (unary {kind = kind} h s) = by_root is_type false kind _ _ _ (ap (says is_type false) (sym h.there) ∙ untyped _)
  unary_root (primary s) = primary_root s

  operand_operation : {b : Bool} {x : Forest} {from to : ℕ} → Spells tokens (Operand b) x from to → Rooted is_operation false x
  operand_operation (literal h) = by_root is_operation false _ _ _ _ refl
  operand_operation (name_use h) = by_root is_operation false _ _ _ _ refl
  operand_operation (parens h s i) = by_root is_operation false _ _ _ _ refl
  operand_operation (func_literal h s t) = by_root is_operation false _ _ _ _ refl
  operand_operation (composite h s t) = by_root is_operation false _ _ _ _ refl
  operand_operation (open_composite h i j s t) = by_root is_operation false _ _ _ _ refl
  operand_operation (bare_composite s t) = by_root is_operation false _ _ _ _ refl
  operand_operation (conversion h s i t c j) = by_root is_operation false _ _ _ _ refl

  pub primary_operation : {b : Bool} {x : Forest} {from to : ℕ} → Spells tokens (Primary b) x from to → Rooted is_operation false x
  primary_operation (operand s) = operand_operation s
  primary_operation (selector s h i) = by_root is_operation false _ _ _ _ refl
  primary_operation (index s h t i) = by_root is_operation false _ _ _ _ refl
  primary_operation (slice_all s h i j) = by_root is_operation false _ _ _ _ refl
  primary_operation (slice_from s h t i j) = by_root is_operation false _ _ _ _ refl
  primary_operation (slice_to s h i t j) = by_root is_operation false _ _ _ _ refl
  primary_operation (slice_between s h t i u j) = by_root is_operation false _ _ _ _ refl
  primary_operation (slice_to_max s h i t j u k) = by_root is_operation false _ _ _ _ refl
  primary_operation (slice_between_max s h t i u j v k) = by_root is_operation false _ _ _ _ refl
  primary_operation (assertion s h i t j) = by_root is_operation false _ _ _ _ refl
  primary_operation (call_none s h i) = by_root is_operation false _ _ _ _ refl
  primary_operation (call s h t c i) = by_root is_operation false _ _ _ _ refl
  primary_operation (spread_call s h t i c j) = by_root is_operation false _ _ _ _ refl

  -- an expression whose last node is no operation's is a primary one
  unary_primary : {b : Bool} {x : Forest} {from to : ℕ} (out : List Post) → Spells tokens (Unary b) x from to → is_primary (out ++ posts x) ≡ true → Spells tokens (Primary b) x from to
  unary_primary out (primary s) h = s
  unary_primary out (unary {kind} {b} {x} {from} {to} u s) h =
      absurd (false≢true (sym (rooted_operation {x = one kind from to x} out (by_root is_operation true kind _ _ _ (ap (says is_operation true) (sym u.there) ∙ operates _))) ∙ h))

  pub level_primary : {k : ℕ} {b : Bool} {x : Forest} {from to : ℕ} (out : List Post) → Spells tokens (Level k b) x from to → is_primary (out ++ posts x) ≡ true → Spells tokens (Primary b) x from to
  level_primary out (unary_level s) h = unary_primary out s h
  level_primary out (binary {k} {b} {x} {y} {from} {mid} {to} tight is left right) h =
      absurd (false≢true (sym (rooted_operation {x = one nodes.Binary from to (beside x y)} out (by_root is_operation true nodes.Binary _ _ _ refl)) ∙ h))
