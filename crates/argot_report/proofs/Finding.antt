-- The first item of a list that passes a test.
use Rattle.std.proofs.Common.{◌≡◌, ℕ, zero, suc, ◌<◌, Bool, true, false, cond, Option, Some, None, List, [], ◌∷◌, length, refl, sym, ap, ◌∙◌, arith, subst}
use Rattle.std.specs.Prelude.{slice_get, ◌&&◌, nat_le}
use Rattle.std.specs.List.{find}

-- it is the item of this number where no item before it passes
pub find_here : {X : Type 0} (test : X → Bool) (xs : List X) (n : ℕ) (x : X) → slice_get xs n ≡ Some x → test x ≡ true
    → ((k : ℕ) (y : X) → k < n → slice_get xs k ≡ Some y → test y ≡ false) → find test xs ≡ Some x
find_here test [] n x is passes fails = absurd cc
find_here test (y ∷ ys) zero x is passes fails = let e : y ≡ x = cc in let t : test y ≡ true = ap test e ∙ passes in rw t (ap Some e)
find_here test (y ∷ ys) (suc n) x is passes fails =
    let t : test y ≡ false = fails zero y (omega arith) refl in
    rw t (find_here test ys n x is passes (λ k z l h. fails (suc k) z (omega (arith, l)) h))

-- and there is none where none passes
pub find_none : {X : Type 0} (test : X → Bool) (xs : List X) → ((k : ℕ) (y : X) → slice_get xs k ≡ Some y → test y ≡ false) → find test xs ≡ None
find_none test [] fails = refl
find_none test (y ∷ ys) fails = let t : test y ≡ false = fails zero y refl in rw t (find_none test ys (λ k z h. fails (suc k) z h))

-- two tests that agree on the items find the same
pub find_same : {X : Type 0} (a b : X → Bool) (xs : List X) → ((k : ℕ) (y : X) → slice_get xs k ≡ Some y → a y ≡ b y) → find a xs ≡ find b xs
find_same a b [] same = refl
find_same a b (y ∷ ys) same = let t : a y ≡ b y = same zero y refl in rw t (ap (λ z. cond (b y) (Some y) z) (find_same a b ys (λ k z h. same (suc k) z h)))
