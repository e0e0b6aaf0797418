-- What stands behind a step that gave something.
use Rattle.std.proofs.Common.{◌≡◌, Option, Some, None, refl, ap, ◌⊎◌, inl, inr}
use Rattle.argot_check_asking.specs.Rules.{bind}

pub some_is : {A : Type 0} {a b : A} → Some a ≡ Some b → a ≡ b
some_is h = cc

-- the step before a result
pub parts : {A B : Type 0} (o : Option A) (k : A → Option B) (b : B) → bind o k ≡ Some b → (a : A) × (o ≡ Some a) × (k a ≡ Some b)
parts None k b h = cc
parts (Some a) k b h = (a, refl, h)

-- the result of a step
pub step : {A B : Type 0} (o : Option A) (k : A → Option B) (a : A) → o ≡ Some a → bind o k ≡ k a
step o k a e = ap (λ x. bind x k) e

-- no result: the step or what follows gave none
pub neither : {A B : Type 0} (o : Option A) (k : A → Option B) → bind o k ≡ None → (o ≡ None) ⊎ ((a : A) × (o ≡ Some a) × (k a ≡ None))
neither None k h = inl refl
neither (Some a) k h = inr (a, refl, h)
