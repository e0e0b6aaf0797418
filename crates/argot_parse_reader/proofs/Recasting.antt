-- Arrows that were read before a channel's type are recast: each belongs to the `chan` behind it.
use Rattle.std.proofs.Common.{◌≡◌, ℕ, ◌+◌, ◌-◌, ◌≤◌, List, [], ◌∷◌, ◌++◌, reverse, false, Option, Some, None, refl, sym, ap, ◌∙◌, subst, arith}
use Rattle.std.specs.Prelude.{◌==◌}
use Rattle.std.proofs.lemmas.List.{reverse-append, reverse-reverse}
use Rattle.std.proofs.lemmas.Bool.{ne_eqb}
use Rattle.argot_tree.specs.declared.keyword.Keyword.TheVariants as words
use Rattle.argot_tree.specs.declared.mark.Mark.TheVariants as marks
use Rattle.argot_tree.specs.declared.node_kind.NodeKind.{NodeKind}
use Rattle.argot_tree.specs.declared.node_kind.NodeKind.TheVariants as nodes
use Rattle.argot_tree.specs.declared.token.Token.{Token}
use Rattle.argot_tree.specs.Forests.{Forest, beside, one, size, last_token}
use Rattle.argot_tree.specs.TokensAt.{HasWord, HasMark, Fails, is_star}
use Rattle.argot_tree.specs.Grammar.{Part, OnlyType, AnyType, Spells, type_name, qualified_type, type_parens, pointer_type, only_pointer, array_type, slice_type, map_type, chan_type, send_type, receive_type, func_type, struct_type, interface_type, formed_type}
use Rattle.argot_parse_reader.specs.declared.post.Post.{Post}
use Rattle.argot_parse_reader.specs.Posts.{posts}
use Rattle.argot_parse_reader.specs.ExpressionReader.{is_chan, is_send, received, maybe_more, recast}
use Rattle.argot_parse_reader.proofs.Exact.Ahead.{ahead}

-- a node that begins a token later ends at the same token
pub last_same : (from to : ℕ) → from + 2 ≤ to → last_token (from + 1) to ≡ last_token from to
last_same from to h =
    let one_not : (from + 1 == to) ≡ false = ne_eqb (from + 1) to (λ e. absurd (omega (arith, e))) in
    let not_one : (from == to) ≡ false = ne_eqb from to (λ e. absurd (omega (arith, e))) in
    simp (one_not, not_one)

pub recast_one : (kind : NodeKind) (from to long : ℕ) (x : Forest) → from + 2 ≤ to → long ≡ size x + 1 → received (record { kind = kind; token = from + 1; last = last_token (from + 1) to; size = long }) ≡ record { kind = nodes.ReceiveType; token = from; last = last_token from to; size = size x + 1 }
recast_one kind from to long x h e =
    let place : from + 1 - 1 ≡ from = omega arith in
    let last = last_same from to h in
    λ i. record { kind = nodes.ReceiveType; token = place i; last = last i; size = e i }

-- what recasting the nodes of a type gives, if it gives any: those of a type as long as it that begins with the arrow
abbrev pub IsRecast : List Token → ℕ → ℕ → Forest → Option (List Post) → Type 0
IsRecast tokens at to x None = Unit {0}
IsRecast tokens at to x (Some back) =
    (y : Forest) × Spells tokens OnlyType y at to × (reverse back ≡ posts y) × (size y ≡ size x)

-- the nodes from the last one
backwards : (kind : NodeKind) (from to : ℕ) (kids : Forest) → reverse (posts (one kind from to kids)) ≡ record { kind = kind; token = from; last = last_token from to; size = size kids + 1 } ∷ reverse (posts kids)
backwards kind from to kids = reverse-append (posts kids) (record { kind = kind; token = from; last = last_token from to; size = size kids + 1 } ∷ [])

forwards : (p q : Post) (kids : Forest) (back : List Post) → p ≡ q → back ≡ reverse (posts kids) → reverse (p ∷ back) ≡ posts kids ++ q ∷ []
forwards p q kids back e h =
    (λ i. reverse (e i ∷ h i)) ∙ ap reverse (sym (reverse-append (posts kids) (q ∷ []))) ∙ reverse-reverse (posts kids ++ q ∷ [])

module _ (tokens : List Token) where
  at_chan : {x : Forest} (at to : ℕ) → HasMark tokens at marks.Arrow → HasWord tokens (at + 1) words.Chan → Spells tokens AnyType x (at + 1 + 1) to → IsRecast tokens at to (one nodes.ChanType (at + 1) to x) (recast (reverse (posts (one nodes.ChanType (at + 1) to x))))
  at_chan {x} at to a w t =
      let next : at + 1 + 1 ≡ at + 2 = omega arith in
      let behind = subst (λ f. Spells tokens AnyType x f to) next t in
      let forward = ahead tokens t in
      let p : Post = record { kind = nodes.ChanType; token = at + 1; last = last_token (at + 1) to; size = size x + 1 } in
      let q : Post = record { kind = nodes.ReceiveType; token = at; last = last_token at to; size = size x + 1 } in
      let same : received p ≡ q = recast_one nodes.ChanType at to (size x + 1) x (omega arith) refl in
      subst (λ l. IsRecast tokens at to (one nodes.ChanType (at + 1) to x) (recast l)) (sym (backwards nodes.ChanType (at + 1) to x))
      (one nodes.ReceiveType at to x, receive_type a w behind, forwards (received p) q x (reverse (posts x)) same refl, refl)

  more_arrows : (x : Forest) (at to : ℕ) → HasMark tokens at marks.Arrow → HasWord tokens (at + 1) words.Chan → HasMark tokens (at + 2) marks.Arrow → (inner : Option (List Post)) → IsRecast tokens (at + 2) to x inner → IsRecast tokens at to (one nodes.SendType (at + 1) to x) (maybe_more (received (record { kind = nodes.SendType; token = at + 1; last = last_token (at + 1) to; size = size x + 1 })) inner)
  more_arrows x at to a w b None h = tt
  more_arrows x at to a w b (Some back) h =
      let y : Forest = h.0 in
      let no_star : Fails tokens is_star (at + 2) = record { there = ap is_star b.there } in
      let forward = ahead tokens h.1 in
      let p : Post = record { kind = nodes.SendType; token = at + 1; last = last_token (at + 1) to; size = size x + 1 } in
      let q : Post = record { kind = nodes.ReceiveType; token = at; last = last_token at to; size = size y + 1 } in
      let long : size x + 1 ≡ size y + 1 = ap (λ n. n + 1) (sym h.3) in
      let same : received p ≡ q = recast_one nodes.SendType at to (size x + 1) y (omega arith) long in
      let back_is : back ≡ reverse (posts y) = sym (reverse-reverse back) ∙ ap reverse h.2 in
      (one nodes.ReceiveType at to y, receive_type a w (formed_type no_star h.1), forwards (received p) q y back same back_is, ap (λ n. n + 0) (sym long))

  at_send : (x : Forest) (at to : ℕ) → HasMark tokens at marks.Arrow → HasWord tokens (at + 1) words.Chan → HasMark tokens (at + 2) marks.Arrow → IsRecast tokens (at + 2) to x (recast (reverse (posts x))) → IsRecast tokens at to (one nodes.SendType (at + 1) to x) (recast (reverse (posts (one nodes.SendType (at + 1) to x))))
  at_send x at to a w b h =
      subst (λ l. IsRecast tokens at to (one nodes.SendType (at + 1) to x) (recast l)) (sym (backwards nodes.SendType (at + 1) to x)) (more_arrows x at to a w b (recast (reverse (posts x))) h)

  -- the nodes of other types are not recast
  at_other : (kind : NodeKind) (at to from end : ℕ) (kids : Forest) → is_chan kind ≡ false → is_send kind ≡ false → IsRecast tokens at to (one kind from end kids) (recast (reverse (posts (one kind from end kids))))
  at_other kind at to from end kids c s =
      let none : recast (reverse (posts (one kind from end kids))) ≡ None = ap recast (backwards kind from end kids) ∙ simp (c, s) in
      subst (λ o. IsRecast tokens at to (one kind from end kids) o) (sym none) tt

  sent : (x : Forest) (at from to : ℕ) → from ≡ at + 1 → HasMark tokens at marks.Arrow → HasWord tokens from words.Chan → HasMark tokens (from + 1) marks.Arrow → IsRecast tokens (at + 2) to x (recast (reverse (posts x))) → IsRecast tokens at to (one nodes.SendType from to x) (recast (reverse (posts (one nodes.SendType from to x))))
  sent x at from to e a w b h =
      let next : from + 1 ≡ at + 2 = omega arith in
      subst (λ f. IsRecast tokens at to (one nodes.SendType f to x) (recast (reverse (posts (one nodes.SendType f to x))))) (sym e)
      (at_send x at to a (subst (λ f. HasWord tokens f words.Chan) e w) (subst (λ f. HasMark tokens f marks.Arrow) next b) h)

  -- an arrow before a type, if the part is one
  abbrev Arrowed : Part → Forest → ℕ → ℕ → Type 0
  Arrowed OnlyType x from to = (at : ℕ) → from ≡ at + 1 → HasMark tokens at marks.Arrow → IsRecast tokens at to x (recast (reverse (posts x)))
  Arrowed AnyType x from to = (at : ℕ) → from ≡ at + 1 → HasMark tokens at marks.Arrow → IsRecast tokens at to x (recast (reverse (posts x)))
  Arrowed _ x from to = Unit {0}

  arrowed : {p : Part} {x : Forest} {from to : ℕ} → Spells tokens p x from to → Arrowed p x from to
  arrowed (only_pointer {x} {from} {to} s t) = λ at e a. at_other nodes.PointerType at to from to x refl refl
  arrowed (array_type {x} {y} {from} {mid} {to} o l c t) = λ at e a. at_other nodes.ArrayType at to from to (beside x y) refl refl
  arrowed (slice_type {x} {from} {to} o c t) = λ at e a. at_other nodes.SliceType at to from to x refl refl
  arrowed (map_type {x} {y} {from} {mid} {to} w o k c t) = λ at e a. at_other nodes.MapType at to from to (beside x y) refl refl
  arrowed (chan_type {x} {from} {to} w f t) = λ at e a.
      subst (λ f. IsRecast tokens at to (one nodes.ChanType f to x) (recast (reverse (posts (one nodes.ChanType f to x))))) (sym e)
      (at_chan at to a (subst (λ f. HasWord tokens f words.Chan) e w) (subst (λ f. Spells tokens AnyType x (f + 1) to) e t))
  arrowed (send_type {x} {from} {to} w b t) = λ at e a.
      let next : from + 1 ≡ at + 2 = omega arith in
      let behind : from + 2 ≡ at + 2 + 1 = omega arith in
      sent x at from to e a w b (arrowed t (at + 2) behind (subst (λ f. HasMark tokens f marks.Arrow) next b))
  arrowed (receive_type {x} {from} {to} b w t) = λ at e a. at_other nodes.ReceiveType at to from to x refl refl
  arrowed (func_type {x} {from} {to} w s) = λ at e a. at_other nodes.FuncType at to from to x refl refl
  arrowed (struct_type {x} {from} {to} w o f c) = λ at e a. at_other nodes.StructType at (to + 1) from (to + 1) x refl refl
  arrowed (interface_type {x} {from} {to} w o l c) = λ at e a. at_other nodes.InterfaceType at (to + 1) from (to + 1) x refl refl
  arrowed (formed_type f s) = arrowed s
  arrowed (type_name n) = λ at e a. tt
  arrowed (qualified_type n d m) = λ at e a. tt
  arrowed (type_parens {x} {from} {to} o s c) = λ at e a. at_other nodes.TypeParens at (to + 1) from (to + 1) x refl refl
  arrowed (pointer_type {x} {from} {to} h s) = λ at e a. at_other nodes.PointerType at to from to x refl refl
  arrowed _ = tt

  -- an arrow and a type that was read behind it
  pub recast_only : {x : Forest} {to : ℕ} (at : ℕ) → HasMark tokens at marks.Arrow → Spells tokens OnlyType x (at + 1) to → IsRecast tokens at to x (recast (reverse (posts x)))
  recast_only at a s = arrowed s at refl a
