-- Nodes in order: each begins behind the one beside it and within the one above it, and within a block behind its first
-- token.
use Rattle.std.proofs.Common.{◌≡◌, ℕ, ◌+◌, ◌≤◌, true, false, refl, arith}
use Rattle.argot_tree.specs.declared.node_kind.NodeKind.{NodeKind}
use Rattle.argot_tree.specs.Forests.{Forest, leaf, tree, beside, one, last_token}
use Rattle.argot_names_rules.specs.Blocks.{is_block}

-- trees side by side, from one place up to another; `behind` is the place behind the first of them
abbrev pub Lies : Forest → ℕ → ℕ → Type 0
Lies leaf from to = from ≤ to
Lies (tree kind token last kids rest) from to = (behind : ℕ) × (from ≤ token) × (token ≤ behind) × (last ≡ last_token token behind) × Lies kids token behind × (is_block kind ≡ true → Lies kids (token + 1) behind) × Lies rest behind to

pub never : {A : Type 0} → false ≡ true → A
never e = absurd (cc)

pub lies_le : (x : Forest) (from to : ℕ) → Lies x from to → from ≤ to
lies_le leaf from to h = h
lies_le (tree kind token last kids rest) from to h =
    let more = lies_le rest h.0 to h.6 in
    omega (arith, h.1, h.2)

pub none_in : (from to : ℕ) → from ≤ to → Lies leaf from to
none_in from to h = h

pub widen_in : (x : Forest) (from to low high : ℕ) → low ≤ from → to ≤ high → Lies x from to → Lies x low high
widen_in leaf from to low high p q h = omega arith
widen_in (tree kind token last kids rest) from to low high p q h =
    (h.0, omega (arith, h.1), h.2, h.3, h.4, h.5, widen_in rest h.0 to h.0 high (omega arith) q h.6)

pub beside_in : (x y : Forest) (low mid high : ℕ) → Lies x low mid → Lies y mid high → Lies (beside x y) low high
beside_in leaf y low mid high h k = widen_in y mid high low high h (omega arith) k
beside_in (tree kind token last kids rest) y low mid high h k =
    (h.0, h.1, h.2, h.3, h.4, h.5, beside_in rest y h.0 mid high h.6 k)

pub one_in : (kind : NodeKind) (from to low high : ℕ) (kids : Forest) → low ≤ from → from ≤ to → to ≤ high → Lies kids from to → (is_block kind ≡ true → Lies kids (from + 1) to) → Lies (one kind from to kids) low high
one_in kind from to low high kids p q r h k = (to, p, q, refl, h, k, r)
