-- The order of rows, against the order by which they are sorted.
use Rattle.std.proofs.Common.{◌≡◌, ℕ, zero, suc, ◌<◌, Bool, true, ◌&&◌, nat_eq, List, [], ◌∷◌, length, slice_index_or, Contains, refl, sym, subst, arith, eqb-true}
use Rattle.std.specs.Ordering.{nat_cmp, ordering_then, eq_by_cmp}
use Rattle.std.specs.declared.cmp.Ordering.{Ordering}
use Rattle.std.specs.declared.cmp.Ordering.TheVariants.{Less, Equal, Greater}
use Rattle.std.specs.Cmp.{IsTotalOrder, IsEquivalence}
use Rattle.std.specs.List.{AllByRecursion}
use Rattle.std.specs.List.Sorted.{IsStrictlySortedBy}
use Rattle.std.proofs.lemmas.Bool.{and_parts}
use Rattle.std.proofs.lemmas.Bool.Decides.{nat_tests}
use Rattle.std.proofs.lemmas.Cmp.{ranked, nat_cmp_total, nat_eq_equiv, on_total, then_total, on_equiv, and_equiv}
use Rattle.std.proofs.lemmas.Map.Keys.{sorted_head, sorted_tail}
use Rattle.argot_plain.specs.Lists.{In}
use Rattle.argot_plain.specs.Lists.In.{here, there}
use Rattle.argot_ssa.specs.Paths.{Row}
use Rattle.argot_ssa.specs.Form.{Before, AreInOrder}
use Rattle.argot_ssa.specs.Form.Before.{by_place, by_register, by_definition}

abbrev pub row_cmp : Row → Row → Ordering
row_cmp x y = ordering_then (ordering_then (nat_cmp x.0 y.0) (nat_cmp x.1 y.1)) (nat_cmp x.2 y.2)

abbrev pub row_eq : Row → Row → Bool
row_eq x y = (nat_eq x.0 y.0 && nat_eq x.1 y.1) && nat_eq x.2 y.2

pub row_total : IsTotalOrder row_cmp
row_total = then_total (then_total (on_total (λ (x : Row). x.0) nat_cmp_total) (on_total (λ (x : Row). x.1) nat_cmp_total)) (on_total (λ (x : Row). x.2) nat_cmp_total)

pub row_equiv : IsEquivalence row_eq
row_equiv = and_equiv (and_equiv (on_equiv (λ (x : Row). x.0) nat_eq_equiv) (on_equiv (λ (x : Row). x.1) nat_eq_equiv)) (on_equiv (λ (x : Row). x.2) nat_eq_equiv)

pub row_ties : (x y : Row) → row_eq x y ≡ eq_by_cmp row_cmp x y
row_ties x y = grind (arith, nat_tests)

pub row_same : (x y : Row) → row_eq x y ≡ true → x ≡ y
row_same x y e =
    let both = and_parts _ _ e in
    let first = and_parts _ _ both.0 in
    same x.0 x.1 x.2 y.0 y.1 y.2 (eqb-true _ _ first.0) (eqb-true _ _ first.1) (eqb-true _ _ both.1)
  where
    same : (a b c d e f : ℕ) → a ≡ d → b ≡ e → c ≡ f → ◌≡◌ {A = Row} (a, b, c) (d, e, f)
    same a b c d e f p q s = cc

less : (x y : Row) (a b c : Ordering) → a ≡ nat_cmp x.0 y.0 → b ≡ nat_cmp x.1 y.1 → c ≡ nat_cmp x.2 y.2 → ordering_then (ordering_then a b) c ≡ Less → Before x y
less x y Less b c p q r h = by_place (ranked x.0 y.0 Less p)
less x y Equal Less c p q r h = by_register (ranked x.0 y.0 Equal p) (ranked x.1 y.1 Less q)
less x y Equal Equal Less p q r h = by_definition (ranked x.0 y.0 Equal p) (ranked x.1 y.1 Equal q) (ranked x.2 y.2 Less r)
less x y Equal Equal Equal p q r h = absurd (cc)
less x y Equal Equal Greater p q r h = absurd (cc)
less x y Equal Greater c p q r h = absurd (cc)
less x y Greater b c p q r h = absurd (cc)

all_in : (P : Row → Type 0) (y : Row) {xs : List Row} → In y xs → AllByRecursion P xs → P y
all_in P y (here e) a = subst P (sym e) a.0
all_in P y (there r) a = all_in P y r a.1

pub sorted_in_order : (xs : List Row) → IsStrictlySortedBy row_cmp xs → AreInOrder xs
sorted_in_order [] s = tt
sorted_in_order (x ∷ xs) s =
    ((λ y h. less x y _ _ _ refl refl refl (all_in (λ z. row_cmp x z ≡ Less) y h (sorted_head row_cmp x xs s))), sorted_in_order xs (sorted_tail row_cmp x xs s))

pub in_contained : (x : Row) {xs : List Row} → In x xs → Contains xs x
in_contained x (here {y = y} {ys = ys} e) = (0, omega arith, sym e)
in_contained x (there {y = y} {ys = ys} r) = let c = in_contained x r in (suc c.0, (let low = c.1 in omega arith), c.2)

found_at : (xs : List Row) (x : Row) (k : ℕ) → k < length xs → slice_index_or xs k x ≡ x → In x xs
found_at [] x k low e = absurd (omega arith)
found_at (y ∷ ys) x zero low e = here (sym e)
found_at (y ∷ ys) x (suc k) low e = there (found_at ys x k (omega arith) e)

pub contained_in : (xs : List Row) (x : Row) → Contains xs x → In x xs
contained_in xs x c = found_at xs x c.0 c.1 c.2
