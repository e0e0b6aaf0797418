-- A name means at most one declaration.
use Rattle.std.proofs.Common.{◌≡◌, inl, inr, sym, arith}
use Rattle.std.specs.Prelude.{◌⊎◌}
use Rattle.argot_names_rules.specs.Laws.{OneMeaning}
use Rattle.argot_names_rules.specs.Scopes.{Declaration, Block, IsInside, ComesFirst, by_file, by_node}

-- of two different declarations one comes first
first_once : (a b : Declaration) → ComesFirst a b → ComesFirst b a → ⊥
first_once a b (by_file p) (by_file q) = absurd (omega arith)
first_once a b (by_file p) (by_node e q) = absurd (omega arith)
first_once a b (by_node e p) (by_file q) = absurd (omega arith)
first_once a b (by_node e p) (by_node f q) = absurd (omega arith)

-- each of the two blocks lies inside the other, or both are one
settled : (a b : Declaration) (A B : Block) → IsInside A B ⊎ ((A ≡ B) × ((b ≡ a) ⊎ ComesFirst a b)) → IsInside B A ⊎ ((B ≡ A) × ((a ≡ b) ⊎ ComesFirst b a)) → a ≡ b
settled a b A B (inl p) (inl q) = absurd (omega arith)
settled a b A B (inl p) (inr q) = absurd (grind (arith, q.0))
settled a b A B (inr p) (inl q) = absurd (grind (arith, p.0))
settled a b A B (inr p) (inr q) =
    elim p.1 [
      | inl e ↦ sym e
      | inr f ↦ elim q.1 [ inl e ↦ e | inr g ↦ absurd (first_once a b f g) ]
    ]

pub one_meaning : OneMeaning
one_meaning h home file token name a b m n =
    settled a b m.block n.block (m.innermost b n.block n.in_scope) (n.innermost a m.block m.in_scope)
