-- Finding the first row of a place and a register by halving.
use Rattle.std.proofs.Common.{◌≡◌, ℕ, zero, suc, ◌<◌, ◌≤◌, ◌==◌, ◌&&◌, ◌||◌, Bool, true, false, cond, nat_lt, List, [], ◌∷◌, Some, drop, slice_get, refl, sym, ap, subst, inl, inr, arith}
use Rattle.std.proofs.lemmas.Bool.{cases_Bool, both_ways}
use Rattle.std.proofs.lemmas.Bool.Decides.{nat_tests}
use Rattle.argot_plain.specs.Lists.{In}
use Rattle.argot_plain.specs.Lists.In.{here, there}
use Rattle.argot_ssa.specs.Paths.{Row}
use Rattle.argot_ssa.specs.Form.{Before, AreInOrder, definitions, run, stands_before}
use Rattle.argot_ssa.specs.Form.Before.{by_place, by_register, by_definition}

get_in : (xs : List Row) (k : ℕ) (x : Row) → slice_get xs k ≡ Some x → In x xs
get_in [] k x h = absurd (cc)
get_in (y ∷ ys) zero x h = here (let e : x ≡ y = cc in e)
get_in (y ∷ ys) (suc k) x h = there (get_in ys k x h)

pub earlier : (rows : List Row) → AreInOrder rows → (j m : ℕ) (x y : Row) → j < m → slice_get rows j ≡ Some x → slice_get rows m ≡ Some y → Before x y
earlier [] order j m x y less e f = absurd (cc)
earlier (z ∷ rows) order zero zero x y less e f = absurd (omega arith)
earlier (z ∷ rows) order zero (suc m) x y less e f = subst (λ t. Before t y) (let s : z ≡ x = cc in s) (order.0 y (get_in rows m y f))
earlier (z ∷ rows) order (suc j) zero x y less e f = absurd (omega arith)
earlier (z ∷ rows) order (suc j) (suc m) x y less e f = earlier rows order.1 j m x y (omega arith) e f

pub sinks : (x y : Row) (i r : ℕ) → Before x y → stands_before y i r ≡ true → stands_before x i r ≡ true
sinks x y i r (by_place less) h = by_numbers x.0 x.1 y.0 y.1 i r less h
  where
    by_numbers : (a b c d i r : ℕ) → a < c → (nat_lt c i || ((c == i) && nat_lt d r)) ≡ true → (nat_lt a i || ((a == i) && nat_lt b r)) ≡ true
    by_numbers a b c d i r less h = grind (arith, nat_tests)
sinks x y i r (by_register same less) h = by_numbers x.0 x.1 y.0 y.1 i r same less h
  where
    by_numbers : (a b c d i r : ℕ) → a ≡ c → b < d → (nat_lt c i || ((c == i) && nat_lt d r)) ≡ true → (nat_lt a i || ((a == i) && nat_lt b r)) ≡ true
    by_numbers a b c d i r same less h = grind (arith, nat_tests)
sinks x y i r (by_definition same same_too less) h = by_numbers x.0 x.1 y.0 y.1 i r same same_too h
  where
    by_numbers : (a b c d i r : ℕ) → a ≡ c → b ≡ d → (nat_lt c i || ((c == i) && nat_lt d r)) ≡ true → (nat_lt a i || ((a == i) && nat_lt b r)) ≡ true
    by_numbers a b c d i r same same_too h = rw (same, same_too) h

pub lifts : (x y : Row) (i r : ℕ) → Before x y → stands_before x i r ≡ false → stands_before y i r ≡ false
lifts x y i r b h = elim (cases_Bool (stands_before y i r)) [
  | inl does ↦ absurd (both_ways _ h (sinks x y i r b does))
  | inr not_it ↦ not_it
]

not_match : (x : Row) (i r : ℕ) → stands_before x i r ≡ true → ((x.0 == i) && (x.1 == r)) ≡ false
not_match x i r h = by_numbers x.0 x.1 i r h
  where
    by_numbers : (a b i r : ℕ) → (nat_lt a i || ((a == i) && nat_lt b r)) ≡ true → ((a == i) && (b == r)) ≡ false
    by_numbers a b i r h = grind (arith, nat_tests)

-- past the rows of the place and the register there are no more
past : (x y : Row) (i r : ℕ) → stands_before x i r ≡ false → ((x.0 == i) && (x.1 == r)) ≡ false → Before x y → (stands_before y i r ≡ false) × (((y.0 == i) && (y.1 == r)) ≡ false)
past x y i r h no_match (by_place less) = (lifts x y i r (by_place less) h, by_numbers x.0 x.1 y.0 y.1 i r less h)
  where
    by_numbers : (a b c d i r : ℕ) → a < c → (nat_lt a i || ((a == i) && nat_lt b r)) ≡ false → ((c == i) && (d == r)) ≡ false
    by_numbers a b c d i r less h = grind (arith, nat_tests)
past x y i r h no_match (by_register same less) = (lifts x y i r (by_register same less) h, by_numbers x.0 x.1 y.0 y.1 i r same less h)
  where
    by_numbers : (a b c d i r : ℕ) → a ≡ c → b < d → (nat_lt a i || ((a == i) && nat_lt b r)) ≡ false → ((c == i) && (d == r)) ≡ false
    by_numbers a b c d i r same less h = grind (arith, nat_tests)
past x y i r h no_match (by_definition same same_too less) = (lifts x y i r (by_definition same same_too less) h, by_numbers x.0 x.1 y.0 y.1 i r same same_too no_match)
  where
    by_numbers : (a b c d i r : ℕ) → a ≡ c → b ≡ d → ((a == i) && (b == r)) ≡ false → ((c == i) && (d == r)) ≡ false
    by_numbers a b c d i r same same_too h = rw (← same, ← same_too) h

none_past : (x : Row) (rows : List Row) (i r : ℕ) → stands_before x i r ≡ false → ((x.0 == i) && (x.1 == r)) ≡ false → ((y : Row) → In y rows → Before x y) → definitions rows i r ≡ []
none_past x [] i r h no_match later = refl
none_past x (y ∷ rows) i r h no_match later =
    rw ((past x y i r h no_match (later y (here refl))).1) (none_past x rows i r h no_match (λ z m. later z (there m)))

-- from a row on that doesn't stand before them, the rows of the place and the register are a run
run_is : (rows : List Row) (i r : ℕ) → AreInOrder rows → ((x : Row) → In x rows → stands_before x i r ≡ false) → run rows i r ≡ definitions rows i r
run_is [] i r order h = refl
run_is (x ∷ rows) i r order h = at ((x.0 == i) && (x.1 == r)) refl (run_is rows i r order.1 (λ y m. h y (there m)))
  where
    at : (b : Bool) → ((x.0 == i) && (x.1 == r)) ≡ b → run rows i r ≡ definitions rows i r → cond b (x.2 ∷ run rows i r) [] ≡ cond b (x.2 ∷ definitions rows i r) (definitions rows i r)
    at true e rest = ap (λ ds. x.2 ∷ ds) rest
    at false e rest = sym (none_past x rows i r (h x (here refl)) e order.0)

pub run_from : (rows : List Row) (i r at : ℕ) → AreInOrder rows → ((j : ℕ) (x : Row) → j < at → slice_get rows j ≡ Some x → stands_before x i r ≡ true) → ((j : ℕ) (x : Row) → at ≤ j → slice_get rows j ≡ Some x → stands_before x i r ≡ false) → run (drop at rows) i r ≡ definitions rows i r
run_from [] i r zero order below above = refl
run_from [] i r (suc at) order below above = refl
run_from (x ∷ rows) i r zero order below above = run_is (x ∷ rows) i r order (λ y m. let found = in_get y m in above found.0 y (omega arith) found.1)
  where
    in_get : (y : Row) {ys : List Row} → In y ys → (k : ℕ) × (slice_get ys k ≡ Some y)
    in_get y (here {y = z} {ys = zs} e) = (0, ap Some (sym e))
    in_get y (there {y = z} {ys = zs} m) = let found = in_get y m in (suc found.0, found.1)
run_from (x ∷ rows) i r (suc at) order below above =
    rw (not_match x i r (below 0 x (omega arith) refl))
    (run_from rows i r at order.1 (λ j y less e. below (suc j) y (omega arith) e) (λ j y less e. above (suc j) y (omega arith) e))
