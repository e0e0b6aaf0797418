-- Names of a list by their numbers.
use Rattle.std.proofs.Common.{◌≡◌, ℕ, zero, suc, ◌<◌, List, [], ◌∷◌, length, Bool, true, false, Some, refl, ap, arith, Bor}
use Rattle.std.specs.Prelude.{map, nat_eq, slice_get, slice_index_or, ◌||◌}
use Rattle.std.specs.Cmp.Lexicographic.{pointwise}
use Rattle.std.proofs.lemmas.Slice.Eq.{bytes_eq-Decides}
use Rattle.argot_names_rules.specs.Universe.{is_among}

some_is : {A : Type 0} (x y : A) → Some x ≡ Some y → x ≡ y
some_is x y e = cc

-- a list of texts holds these names
pub name_at : (xs : List (Bor (List ℕ))) (names : List (List ℕ)) (d : Bor (List ℕ)) (k : ℕ) → map (λ b. b.now) xs ≡ names → k < length xs → slice_get names k ≡ Some (slice_index_or xs k d).now
name_at [] names d k e low = absurd (omega arith)
name_at (x ∷ xs) [] d k e low = absurd (cc)
name_at (x ∷ xs) (n ∷ names) d zero e low = let same : n ≡ x.now = cc in ap (λ y. Some y) same
name_at (x ∷ xs) (n ∷ names) d (suc k) e low = let rest : map (λ b. b.now) xs ≡ names = cc in name_at xs names d k rest (omega arith)

pub among_at : (name : List ℕ) (names : List (List ℕ)) (k : ℕ) → slice_get names k ≡ Some name → is_among name names ≡ true
among_at name [] k e = absurd (cc)
among_at name (n ∷ names) zero e =
    let same : pointwise nat_eq name n ≡ true = (bytes_eq-Decides name n).1 (some_is name n (cc)) in
    ap (λ b. b || is_among name names) same
among_at name (n ∷ names) (suc k) e = right (pointwise nat_eq name n) (is_among name names) (among_at name names k e)
  where
    right : (a b : Bool) → b ≡ true → (a || b) ≡ true
    right true b e = refl
    right false b e = e

pub none_among : (name : List ℕ) (names : List (List ℕ)) → ((k : ℕ) → slice_get names k ≡ Some name → ⊥) → is_among name names ≡ false
none_among name [] none = refl
none_among name (n ∷ names) none = go (pointwise nat_eq name n) refl (none_among name names (λ k. none (suc k)))
  where
    go : (b : Bool) → pointwise nat_eq name n ≡ b → is_among name names ≡ false → (b || is_among name names) ≡ false
    go true e rest = absurd (none zero (ap (λ x. Some x) (let same : name ≡ n = (bytes_eq-Decides name n).0 e in cc)))
    go false e rest = rest

pub number_below : (names : List (List ℕ)) (k : ℕ) (name : List ℕ) → slice_get names k ≡ Some name → k < length names
number_below [] k name e = absurd (cc)
number_below (n ∷ names) zero name e = omega arith
number_below (n ∷ names) (suc k) name e = let low = number_below names k name e in omega (arith, low)
