-- Trees whose nodes have at most one child of the kind that is looked for in them.
use Rattle.std.proofs.Common.{◌≡◌, ℕ, ◌+◌, ◌≤◌, refl, sym, subst, Some, Option, arith, List}
use Rattle.std.specs.Prelude.{if◌then◌else◌}
use Rattle.argot_tree.specs.declared.mark.Mark.TheVariants as marks
use Rattle.argot_tree.specs.declared.token.TokenKind.{TokenKind}
use Rattle.argot_tree.specs.declared.token.TokenKind.TheVariants as kinds
use Rattle.argot_tree.specs.declared.token.Token.{Token}
use Rattle.argot_tree.specs.TokensAt.{HasUnary, unary_of, kind_at}
use Rattle.argot_tree.specs.declared.node_kind.NodeKind.{NodeKind}
use Rattle.argot_tree.specs.Forests.{Forest, leaf, tree, beside}
use Rattle.argot_files.specs.declared.keys.Key.{Key}
use Rattle.argot_files.specs.declared.keys.Key.TheVariants as keys
use Rattle.argot_files.specs.Keys.{key_of, fits}

-- how many of the trees are of the kind that is looked for
abbrev pub count : Key → Forest → ℕ
count key leaf = 0
count key (tree kind token last kids rest) = (if fits key kind then 1 else 0) + count key rest

abbrev pub Limited : Key → Forest → Type 0
Limited keys.Nothing kids = Unit {0}
Limited key kids = count key kids ≤ 1

abbrev pub Shaped : Forest → Type 0
Shaped leaf = Unit {0}
Shaped (tree kind token last kids rest) = Limited (key_of kind) kids × Shaped kids × Shaped rest

pub beside_shaped : (x y : Forest) → Shaped x → Shaped y → Shaped (beside x y)
beside_shaped leaf y h k = k
beside_shaped (tree kind token last kids rest) y h k = (h.0, h.1, beside_shaped rest y h.2 k)

pub count-beside : (key : Key) (x y : Forest) → count key (beside x y) ≡ count key x + count key y
count-beside key leaf y = omega arith
count-beside key (tree kind token last kids rest) y = omega (arith, count-beside key rest y)

pub some_kind : (a b : NodeKind) → Some a ≡ Some b → a ≡ b
some_kind a b e = cc

unary_plain : (o : Option TokenKind) (kind : NodeKind) → unary_of o ≡ Some kind → key_of kind ≡ keys.Nothing
unary_plain (Some (kinds.Mark marks.Plus)) kind e = subst (λ k. key_of k ≡ keys.Nothing) (some_kind _ _ e) refl
unary_plain (Some (kinds.Mark marks.Minus)) kind e = subst (λ k. key_of k ≡ keys.Nothing) (some_kind _ _ e) refl
unary_plain (Some (kinds.Mark marks.Not)) kind e = subst (λ k. key_of k ≡ keys.Nothing) (some_kind _ _ e) refl
unary_plain (Some (kinds.Mark marks.Xor)) kind e = subst (λ k. key_of k ≡ keys.Nothing) (some_kind _ _ e) refl
unary_plain (Some (kinds.Mark marks.Star)) kind e = subst (λ k. key_of k ≡ keys.Nothing) (some_kind _ _ e) refl
unary_plain (Some (kinds.Mark marks.And)) kind e = subst (λ k. key_of k ≡ keys.Nothing) (some_kind _ _ e) refl
unary_plain (Some (kinds.Mark marks.Arrow)) kind e = subst (λ k. key_of k ≡ keys.Nothing) (some_kind _ _ e) refl
unary_plain o kind e = absurd (cc)

pub unary_limited : {tokens : List Token} {at : ℕ} {kind : NodeKind} → HasUnary tokens at kind → (x : Forest) → Limited (key_of kind) x
unary_limited {tokens} {at} {kind} h x = subst (λ k. Limited k x) (sym (unary_plain (kind_at tokens at) kind h.there)) tt
