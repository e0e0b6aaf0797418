-- Orders of numbers, one after the other.
use Rattle.std.proofs.Common.{◌≡◌, ℕ, ◌<◌, false, refl, ◌∙◌, inl, inr, arith}
use Rattle.std.specs.Prelude.{◌⊎◌}
use Rattle.std.specs.Ordering.{nat_cmp, ordering_then, is_lt}
use Rattle.std.specs.declared.cmp.Ordering.{Ordering}
use Rattle.std.specs.declared.cmp.Ordering.TheVariants.{Less, Equal, Greater}
use Rattle.std.specs.Cmp.{nat_cmp_is}
use Rattle.std.proofs.lemmas.Bool.{cases_lt}

pub above : (x y : ℕ) → nat_cmp x y ≡ Greater → y < x
above x y e = elim (cases_lt y x) [
  | inl l ↦ l
  | inr l ↦ elim (cases_lt x y) [
    | inl m ↦ (let z : Less ≡ Greater = nat_cmp_is x y Less m ∙ e in absurd cc)
    | inr m ↦ (let z : Equal ≡ Greater = nat_cmp_is x y Equal (omega arith) ∙ e in absurd cc)
  ]
]

pub level : (x y : ℕ) → nat_cmp x y ≡ Equal → x ≡ y
level x y e = elim (cases_lt y x) [
  | inl l ↦ (let z : Greater ≡ Equal = nat_cmp_is x y Greater l ∙ e in absurd cc)
  | inr l ↦ elim (cases_lt x y) [
    | inl m ↦ (let z : Less ≡ Equal = nat_cmp_is x y Less m ∙ e in absurd cc)
    | inr m ↦ omega arith
  ]
]

pub greater_of : (p q : Ordering) → ordering_then p q ≡ Greater → (p ≡ Greater) ⊎ ((p ≡ Equal) × (q ≡ Greater))
greater_of Less q e = absurd cc
greater_of Equal q e = inr (refl, e)
greater_of Greater q e = inl refl

pub equal_of : (p q : Ordering) → ordering_then p q ≡ Equal → (p ≡ Equal) × (q ≡ Equal)
equal_of Less q e = absurd cc
equal_of Equal q e = (refl, e)
equal_of Greater q e = absurd cc

pub not_less : (o : Ordering) → is_lt o ≡ false → (o ≡ Greater) ⊎ (o ≡ Equal)
not_less Less e = absurd cc
not_less Equal e = inr refl
not_less Greater e = inl refl
