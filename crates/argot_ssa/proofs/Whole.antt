-- The rows of all functions as the reaching definitions of the program.
use Rattle.std.proofs.Common.{◌≡◌, ℕ, zero, suc, ◌<◌, ◌++◌, List, [], ◌∷◌, None, length, map, take, drop, slice_get, slice_index_or, slice_set, refl, ap, inl, inr, arith}
use Rattle.std.proofs.lemmas.Option.{slice_get_cases}
use Rattle.argot_plain.specs.Lists.{In}
use Rattle.argot_plain.specs.Lists.In.{here, there}
use Rattle.argot_plain.specs.Code.{Code, IsAt, kind_of}
use Rattle.argot_plain.specs.WellFormed.{WellFormed}
use Rattle.argot_plain.specs.declared.instructions.Kind.{Kind}
use Rattle.argot_ssa.specs.Paths.{Row}
use Rattle.argot_ssa.specs.Form.{AreInOrder, as_row, as_triple, IsFoundIn, AreDefs}
use Rattle.argot_ssa.proofs.Ranges.{cover, get_within}
use Rattle.argot_ssa.proofs.Forming.{found_definition, definition_found}

-- one more item is written in place
pub in_place : (f : Row → Row) (d : Row) (xs : List Row) (i : ℕ) → i < length xs → slice_set (map f (take i xs) ++ drop i xs) i (f (slice_index_or (map f (take i xs) ++ drop i xs) i d)) ≡ map f (take (suc i) xs) ++ drop (suc i) xs
in_place f d [] i low = absurd (omega arith)
in_place f d (x ∷ xs) zero low = refl
in_place f d (x ∷ xs) (suc i) low = ap (λ ys. f x ∷ ys) (in_place f d xs i (omega arith))

pub back_again : (rows : List Row) → map as_row (map as_triple rows) ≡ rows
back_again [] = refl
back_again (x ∷ rows) = ap (λ xs. x ∷ xs) (back_again rows)

pub turned_in : (d i r : ℕ) {rows : List Row} → In (i, r, d) rows → In (d, i, r) (map as_triple rows)
turned_in d i r (here e) = here (ap as_triple e)
turned_in d i r (there m) = there (turned_in d i r m)

of_first : {A : Type 0} (x y : A) (ys : List A) (P : Type 0) → (x ≡ y → P) → (In x ys → P) → In x (y ∷ ys) → P
of_first x y ys P first rest (here e) = first e
of_first x y ys P first rest (there h) = rest h

pub in_turned : (rows : List Row) (d i r : ℕ) → In (d, i, r) (map as_triple rows) → In (i, r, d) rows
in_turned [] d i r h = absurd (elim h [ ])
in_turned (x ∷ rows) d i r h = of_first (d, i, r) (as_triple x) (map as_triple rows) (In (i, r, d) (x ∷ rows))
    (λ e. here (ap as_row e)) (λ m. there (in_turned rows d i r m)) h

at_within : (p : Code) (i : ℕ) (kind : Kind) → IsAt p i kind → i < length p.instrs
at_within p i kind at = elim (slice_get_cases p.instrs i).1 [
  | inl some ↦ some.1
  | inr none ↦ absurd (let e : kind_of (slice_get p.instrs i) ≡ None = ap kind_of none.1 in cc)
]

pub all_defs : (p : Code) → WellFormed p → (rows : List Row) → ((x : Row) → In x rows → IsFoundIn p (length p.functions) x) → ((x : Row) → IsFoundIn p (length p.functions) x → In x rows) → AreInOrder rows → AreDefs p (map as_triple rows)
all_defs p w rows only all order = record {
  exact = λ d i r. (
    (λ h. let f = only (i, r, d) (in_turned rows d i r h) in found_definition p w f.g f.fn f.is (i, r, d) f.found),
    (λ def.
        let home = cover p w i (at_within p i def.kind def.is) in
        let inside = home.1 in
        turned_in d i r (all (i, r, d) (record {
          g = home.0;
          below = get_within p.functions home.0 inside.fn inside.is;
          fn = inside.fn;
          is = inside.is;
          found = definition_found p w home.0 inside.fn inside.is d i r inside def;
        }))),
  );
  in_order = rw (back_again rows) order;
}
