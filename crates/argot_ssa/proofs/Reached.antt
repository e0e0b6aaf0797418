-- Reaching definitions, seen inside a function: its places by number, and what defines a register by a test.
use Rattle.std.proofs.Common.{◌≡◌, ℕ, zero, suc, ◌+◌, ◌<◌, ◌⊎◌, ◌==◌, ◌++◌, Bool, true, false, cond, List, [], ◌∷◌, Option, Some, None, slice_get, refl, sym, ap, subst, inl, inr, arith, eqb-true, eq-eqb}
use Rattle.std.proofs.lemmas.Bool.{cases_Bool, cases_eq, both_ways, or_right}
use Rattle.argot_links.specs.Members.{has}
use Rattle.argot_links.proofs.Having.{has_cases, has_first, pushed_cases, has_pushed, has_kept}
use Rattle.argot_plain.specs.Lists.{In}
use Rattle.argot_plain.specs.Code.{Code, IsAt, IsFunction, IsIn, Defines, Successor, kind_of, reads, defined}
use Rattle.argot_plain.specs.Code.Defines.{by_kind, by_entry}
use Rattle.argot_plain.specs.WellFormed.{WellFormed}
use Rattle.argot_plain.specs.declared.functions.Function.{Function}
use Rattle.argot_plain.specs.declared.instructions.Kind.{Kind}
use Rattle.argot_facts.specs.Reaching.{Reaches}
use Rattle.argot_facts.specs.Reaching.Reaches.{next, on}
use Rattle.argot_ssa.specs.Places.{size, numbers, reads_in, defined_in, reads_at, defined_at, defines_at}
use Rattle.argot_ssa.proofs.Nexts.{get_has, has_get, in_has, has_in}
use Rattle.argot_ssa.proofs.Ranges.{same_function, same_number, inside_at, comes}
use Rattle.argot_ssa.specs.Paths.{Path}
use Rattle.argot_ssa.specs.Paths.Path.{step, more}

pub append_cases : (xs ys : List ℕ) (x : ℕ) → has (xs ++ ys) x ≡ true → (has xs x ≡ true) ⊎ (has ys x ≡ true)
append_cases [] ys x h = inr h
append_cases (y ∷ xs) ys x h = elim (has_cases y (xs ++ ys) x h) [
  | inl e ↦ inl (subst (λ z. has (y ∷ xs) z ≡ true) (sym e) (has_first y xs))
  | inr r ↦ elim (append_cases xs ys x r) [ inl l ↦ inl (or_right _ _ l) | inr l ↦ inr l ]
]

pub append_left : (xs ys : List ℕ) (x : ℕ) → has xs x ≡ true → has (xs ++ ys) x ≡ true
append_left [] ys x h = absurd (both_ways false refl h)
append_left (y ∷ xs) ys x h = elim (has_cases y xs x h) [
  | inl e ↦ subst (λ z. has (y ∷ (xs ++ ys)) z ≡ true) (sym e) (has_first y (xs ++ ys))
  | inr r ↦ or_right _ _ (append_left xs ys x r)
]

pub append_right : (xs ys : List ℕ) (x : ℕ) → has ys x ≡ true → has (xs ++ ys) x ≡ true
append_right [] ys x h = h
append_right (y ∷ xs) ys x h = or_right _ _ (append_right xs ys x h)

pub numbers_below : (n x : ℕ) → has (numbers n) x ≡ true → x < n
numbers_below zero x h = absurd (both_ways false refl h)
numbers_below (suc n) x h = elim (pushed_cases (numbers n) n x h) [ inl old ↦ let r = numbers_below n x old in omega arith | inr e ↦ omega arith ]

below_numbers : (n x : ℕ) → x < n → has (numbers n) x ≡ true
below_numbers zero x low = absurd (omega arith)
below_numbers (suc n) x low = elim (cases_eq x n) [
  | inl e ↦ subst (λ z. has (numbers n ++ n ∷ []) z ≡ true) (sym e) (has_pushed (numbers n) n)
  | inr other ↦ has_kept (numbers n) n x (below_numbers n x (omega arith))
]

at_kind : (p : Code) (i : ℕ) (r : ℕ) (o : Option Kind) → kind_of (slice_get p.instrs i) ≡ o → has (defined_in o) r ≡ true → (k : ℕ) × Defines p i k r
at_kind p i r None e h = absurd (both_ways false refl h)
at_kind p i r (Some kind) e h = let found = has_get (defined kind) r h in (found.0, by_kind kind e found.1)

module _ (p : Code) (w : WellFormed p) (g : ℕ) (fn : Function) (is : IsFunction p g fn) (r : ℕ) where
  pub true_defines : (j : ℕ) → j < size fn → defines_at p fn r j ≡ true → (k : ℕ) × Defines p (fn.entry + j) k r
  unfolding defines_at defined_at
  true_defines j low h = elim (append_cases (cond (j == 0) (numbers fn.params) []) _ r h) [
    | inl param ↦ at_entry (j == 0) refl param
    | inr kind ↦ at_kind p (fn.entry + j) r _ refl kind
  ]
    where
      at_entry : (b : Bool) → (j == 0) ≡ b → has (cond b (numbers fn.params) []) r ≡ true → (k : ℕ) × Defines p (fn.entry + j) k r
      at_entry false e h = absurd (both_ways false refl h)
      at_entry true e h =
          let zero_is = eqb-true j 0 e in
          (r, by_entry g (record { fn = fn; is = is; at = omega arith }) (numbers_below fn.params r h) refl)

  -- the place by another name
  defines_true_at : (i j : ℕ) → fn.entry + j ≡ i → j < size fn → (k : ℕ) → Defines p i k r → defines_at p fn r j ≡ true
  unfolding defines_at defined_at
  defines_true_at i j name low k (by_kind kind at get) =
      append_right (cond (j == 0) (numbers fn.params) []) _ r
      (subst (λ o. has (defined_in o) r ≡ true) (sym (subst (λ x. IsAt p x kind) (sym name) at)) (get_has (defined kind) k r get))
  defines_true_at i j name low k (by_entry h e less same) =
      let inside = w.ranges.inside h e.fn e.is in
      let at = e.at in
      let there : IsIn p i h = record { fn = e.fn; is = e.is; low = omega arith; high = omega arith } in
      let here : IsIn p i g = subst (λ x. IsIn p x g) name (inside_at p w g fn is j low) in
      let number = same_number p w i h g there here in
      let function : e.fn ≡ fn = same_function p w g e.fn fn (subst (λ n. IsFunction p n e.fn) number e.is) is in
      let start : e.fn.entry ≡ fn.entry = ap (λ f. f.entry) function in
      let first_one : j ≡ 0 = omega arith in
      let count : e.fn.params ≡ fn.params = ap (λ f. f.params) function in
      let listed : has (numbers fn.params) r ≡ true = below_numbers fn.params r (omega arith) in
      let chosen : has (cond (j == 0) (numbers fn.params) []) r ≡ true = subst (λ b. has (cond b (numbers fn.params) []) r ≡ true) (sym (eq-eqb j 0 first_one)) listed in
      append_left _ _ r chosen

  pub defines_true : (j k : ℕ) → j < size fn → Defines p (fn.entry + j) k r → defines_at p fn r j ≡ true
  defines_true j k low d = defines_true_at (fn.entry + j) j refl low k d

  pub not_defines : (j : ℕ) → j < size fn → defines_at p fn r j ≡ false → (k : ℕ) → Defines p (fn.entry + j) k r → ⊥
  not_defines j low none k d = both_ways _ none (defines_true j k low d)

  pub path_reaches : (d : ℕ) {k : ℕ} → Path p fn (defines_at p fn r) d k → Reaches p (fn.entry + d) r (fn.entry + k)
  path_reaches d (step e) = next e.step
  path_reaches d (more {i = i} path none e) = on (path_reaches d path) (not_defines i e.from none) e.step

  unfree : (j : ℕ) → j < size fn → ((k : ℕ) → Defines p (fn.entry + j) k r → ⊥) → defines_at p fn r j ≡ false
  unfree j low none = elim (cases_Bool (defines_at p fn r j)) [
    | inl does ↦ let found = true_defines j low does in absurd (none found.0 found.1)
    | inr free ↦ free
  ]

  pub reaches_path : (place : ℕ) {i : ℕ} → Reaches p place r i → (k : ℕ) → fn.entry + k ≡ i → k < size fn → (d : ℕ) × (fn.entry + d ≡ place) × Path p fn (defines_at p fn r) d k
  reaches_path place (next s) k name low =
      let from = comes p w g fn is place k low (subst (Successor p place) (sym name) s) in
      (from.0, from.1, step from.2)
  reaches_path place (on {i = i} before none s) k name low =
      let from = comes p w g fn is i k low (subst (Successor p i) (sym name) s) in
      let rest = reaches_path place before from.0 from.1 from.2.from in
      let free = unfree from.0 from.2.from (λ n d. none n (subst (λ x. Defines p x n r) from.1 d)) in
      (rest.0, rest.1, more rest.2 free from.2)

-- what a place reads
read_in : (p : Code) (i r : ℕ) (o : Option Kind) → kind_of (slice_get p.instrs i) ≡ o → has (reads_in o) r ≡ true → (kind : Kind) × IsAt p i kind × In r (reads kind)
read_in p i r None e h = absurd (both_ways false refl h)
read_in p i r (Some kind) e h = (kind, e, has_in (reads kind) r h)

pub true_reads : (p : Code) (fn : Function) (r k : ℕ) → reads_at p fn r k ≡ true → (kind : Kind) × IsAt p (fn.entry + k) kind × In r (reads kind)
unfolding reads_at
true_reads p fn r k h = read_in p (fn.entry + k) r _ refl h

pub reads_true : (p : Code) (fn : Function) (r k : ℕ) (kind : Kind) → IsAt p (fn.entry + k) kind → In r (reads kind) → reads_at p fn r k ≡ true
unfolding reads_at
reads_true p fn r k kind at read = subst (λ o. has (reads_in o) r ≡ true) (sym at) (in_has r read)
