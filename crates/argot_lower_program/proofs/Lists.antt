-- Lists that have the same at each number are the same.
use Rattle.std.specs.Prelude.{slice_get}
use Rattle.std.proofs.Common.{◌≡◌, ℕ, zero, suc, ◌<◌, List, [], ◌∷◌, length, Some, refl, ap, ◌∙◌, arith}

pub ext : {X : Type 0} (xs ys : List X) → length xs ≡ length ys → ((i : ℕ) → i < length xs → slice_get xs i ≡ slice_get ys i) → xs ≡ ys
ext [] [] e h = refl
ext [] (y ∷ ys) e h =
    let z : ⊥ = omega arith in
    absurd z
ext (x ∷ xs) [] e h =
    let z : ⊥ = omega arith in
    absurd z
ext {X} (x ∷ xs) (y ∷ ys) e h =
    let first : Some x ≡ Some y = h zero (omega arith) in
    let same : x ≡ y = cc in
    let e' : length xs ≡ length ys = omega arith in
    let rest : xs ≡ ys = ext xs ys e' (λ i t. h (suc i) (omega arith)) in
    ap (λ (z : X). z ∷ xs) same ∙ ap (λ (zs : List X). y ∷ zs) rest
