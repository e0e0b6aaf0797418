-- The rows of a function are its reaching definitions, and what they say of one place and register.
use Rattle.std.proofs.Common.{◌≡◌, ℕ, suc, ◌+◌, ◌<◌, ◌≤◌, ◌==◌, ◌&&◌, Bool, true, false, cond, List, [], ◌∷◌, refl, sym, ap, subst, ◌∙◌, arith, eqb-true, eq-eqb}
use Rattle.std.proofs.lemmas.Bool.{and_parts, and_from}
use Rattle.argot_links.specs.Members.{IsAscendingFrom}
use Rattle.argot_plain.specs.Lists.{In}
use Rattle.argot_plain.specs.Lists.In.{here, there}
use Rattle.argot_plain.specs.Code.{Code, IsAt, IsFunction, IsIn, Defines}
use Rattle.argot_plain.specs.WellFormed.{WellFormed}
use Rattle.argot_plain.specs.declared.functions.Function.{Function}
use Rattle.argot_facts.specs.Reaching.{IsDefinition}
use Rattle.argot_ssa.specs.Places.{size, defines_at}
use Rattle.argot_ssa.specs.Paths.{Path, Row, IsFound}
use Rattle.argot_ssa.specs.Paths.Path.{step, more}
use Rattle.argot_ssa.specs.Form.{Before, AreInOrder, definitions, IsFormOf}
use Rattle.argot_ssa.specs.Form.Before.{by_place, by_register, by_definition}
use Rattle.argot_ssa.proofs.Ranges.{inside_at, number_at}
use Rattle.argot_ssa.proofs.Reached.{true_defines, defines_true, path_reaches, reaches_path, true_reads, reads_true}

same_row : (a b c d e f : ℕ) → a ≡ d → b ≡ e → c ≡ f → ◌≡◌ {A = Row} (a, b, c) (d, e, f)
same_row a b c d e f p q s = cc

pub path_starts : (p : Code) (fn : Function) (defines : ℕ → Bool) (d : ℕ) {k : ℕ} → Path p fn defines d k → d < size fn
path_starts p fn defines d (step e) = e.from
path_starts p fn defines d (more path none e) = path_starts p fn defines d path

module _ (p : Code) (w : WellFormed p) (g : ℕ) (fn : Function) (is : IsFunction p g fn) where
  pub found_definition : (x : Row) → IsFound p fn x → IsDefinition p x.2 x.0 x.1
  found_definition x f =
      let read = true_reads p fn x.1 f.k f.read in
      let def = true_defines p w g fn is x.1 f.d f.starts f.defines in
      let Def : ℕ → Type 0 = λ d. IsDefinition p d x.0 x.1 in
      let At : ℕ → Type 0 = λ i. IsDefinition p (fn.entry + f.d) i x.1 in
      subst Def (sym f.definition) (subst At (sym f.place) (record {
        kind = read.0;
        is = read.1;
        read = read.2;
        index = def.0;
        defined = record { defines = def.1; reaches = path_reaches p w g fn is x.1 f.d f.path };
      }))

  pub found_inside : (x : Row) → IsFound p fn x → IsIn p x.0 g
  found_inside x f = subst (λ i. IsIn p i g) (sym f.place) (inside_at p w g fn is f.k f.low)

  pub definition_found : (d i r : ℕ) → IsIn p i g → IsDefinition p d i r → IsFound p fn (i, r, d)
  definition_found d i r inside def =
      let at = number_at p w g fn is i inside in
      let from = reaches_path p w g fn is r d def.defined.reaches at.0 at.2 at.1 in
      let starts = path_starts p fn (defines_at p fn r) from.0 from.2 in
      record {
        k = at.0;
        d = from.0;
        place = sym at.2;
        definition = sym from.1;
        low = at.1;
        read = reads_true p fn r at.0 def.kind (subst (λ j. IsAt p j def.kind) (sym at.2) def.is) def.read;
        starts = starts;
        defines = defines_true p w g fn is r from.0 def.index starts (subst (λ j. Defines p j def.index r) (sym from.1) def.defined.defines);
        path = from.2;
      }

matches : (x : Row) (i r : ℕ) → ((x.0 == i) && (x.1 == r)) ≡ true → (x.0 ≡ i) × (x.1 ≡ r)
matches x i r e = let both = and_parts _ _ e in (eqb-true _ _ both.0, eqb-true _ _ both.1)

match : (x : Row) (i r : ℕ) → x.0 ≡ i → x.1 ≡ r → ((x.0 == i) && (x.1 == r)) ≡ true
match x i r e f = and_from _ _ (eq-eqb _ _ e) (eq-eqb _ _ f)

-- a row is among the definitions of its place and register
pub row_listed : (d i r : ℕ) {rows : List Row} → In (i, r, d) rows → In d (definitions rows i r)
row_listed d i r (here {y = x} {ys = xs} e) =
    let first : x.0 ≡ i = ap (λ t. t.0) (sym e) in
    let second : x.1 ≡ r = ap (λ t. t.1) (sym e) in
    let third : d ≡ x.2 = ap (λ t. t.2) e in
    rw (match x i r first second) (here third)
row_listed d i r (there {y = x} {ys = xs} h) = later ((x.0 == i) && (x.1 == r)) (row_listed d i r h)
  where
    later : (b : Bool) → In d (definitions xs i r) → In d (cond b (x.2 ∷ definitions xs i r) (definitions xs i r))
    later true m = there m
    later false m = m

of_head : (d y : ℕ) (ys : List ℕ) (P : Type 0) → (d ≡ y → P) → (In d ys → P) → In d (y ∷ ys) → P
of_head d y ys P first rest (here e) = first e
of_head d y ys P first rest (there h) = rest h

pub listed_row : (rows : List Row) (d i r : ℕ) → In d (definitions rows i r) → In (i, r, d) rows
listed_row [] d i r h = absurd (elim h [ ])
listed_row (x ∷ xs) d i r h = at ((x.0 == i) && (x.1 == r)) refl (listed_row xs d i r) h
  where
    at : (b : Bool) → ((x.0 == i) && (x.1 == r)) ≡ b → (In d (definitions xs i r) → In (i, r, d) xs) → In d (cond b (x.2 ∷ definitions xs i r) (definitions xs i r)) → In (i, r, d) (x ∷ xs)
    at false e rest m = there (rest m)
    at true e rest m = of_head d x.2 (definitions xs i r) (In (i, r, d) (x ∷ xs))
        (λ same. let both = matches x i r e in here (same_row i r d x.0 x.1 x.2 (sym both.0) (sym both.1) same))
        (λ later. there (rest later)) m

greater : (x y : Row) → x.0 ≡ y.0 → x.1 ≡ y.1 → Before x y → x.2 < y.2
greater x y e f (by_place less) = absurd (omega arith)
greater x y e f (by_register same less) = absurd (omega arith)
greater x y e f (by_definition same same_too less) = less

ascends : (rows : List Row) (i r low : ℕ) → ((y : Row) → In y rows → y.0 ≡ i → y.1 ≡ r → low ≤ y.2) → AreInOrder rows → IsAscendingFrom low (definitions rows i r)
ascends [] i r low bound order = tt
ascends (x ∷ xs) i r low bound order = at ((x.0 == i) && (x.1 == r)) refl
    (λ least h. ascends xs i r least h order.1)
  where
    at : (b : Bool) → ((x.0 == i) && (x.1 == r)) ≡ b → ((least : ℕ) → ((y : Row) → In y xs → y.0 ≡ i → y.1 ≡ r → least ≤ y.2) → IsAscendingFrom least (definitions xs i r)) → IsAscendingFrom low (cond b (x.2 ∷ definitions xs i r) (definitions xs i r))
    at false e rest = rest low (λ y h p q. bound y (there h) p q)
    at true e rest =
        let both = matches x i r e in
        (bound x (here refl) both.0 both.1, rest (suc x.2) (λ y h p q. let more' = greater x y (both.0 ∙ sym p) (both.1 ∙ sym q) (order.0 y h) in omega arith))

module _ (p : Code) (w : WellFormed p) (g : ℕ) (fn : Function) (is : IsFunction p g fn) (rows : List Row)
    (only : (x : Row) → In x rows → IsFound p fn x) (all : (x : Row) → IsFound p fn x → In x rows) (order : AreInOrder rows) where
  pub forms : IsFormOf p g rows
  forms i r inside = record {
    exact = λ d. ((λ h. found_definition p w g fn is (i, r, d) (only (i, r, d) (listed_row rows d i r h))), (λ def. row_listed d i r (all (i, r, d) (definition_found p w g fn is d i r inside def))));
    ascending = ascends rows i r 0 (λ y h e f. omega arith) order;
  }
