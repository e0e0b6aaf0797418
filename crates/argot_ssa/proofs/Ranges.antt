-- The functions of a well-formed program have their places to themselves, and each place has its function.
use Rattle.std.proofs.Common.{◌≡◌, ℕ, zero, suc, ◌+◌, ◌-◌, ◌<◌, ◌≤◌, ◌⊎◌, List, [], ◌∷◌, Some, None, length, slice_get, refl, sym, ap, subst, inl, inr, arith}
use Rattle.std.proofs.lemmas.Bool.{cases_lt}
use Rattle.std.proofs.lemmas.Option.{slice_get_cases}
use Rattle.argot_plain.specs.Code.{Code, IsAt, IsFunction, IsIn, Successor, kind_of}
use Rattle.argot_plain.specs.Code.Successor.{successor}
use Rattle.argot_plain.specs.declared.instructions.Kind.{Kind}
use Rattle.argot_plain.specs.WellFormed.{WellFormed}
use Rattle.argot_plain.specs.declared.functions.Function.{Function}
use Rattle.argot_ssa.specs.Places.{size, Goes}

pub get_within : {A : Type 0} (xs : List A) (k : ℕ) (x : A) → slice_get xs k ≡ Some x → k < length xs
get_within [] k x h = absurd (cc)
get_within (y ∷ ys) zero x h = omega arith
get_within (y ∷ ys) (suc k) x h = let r = get_within ys k x h in omega arith

pub within_get : {A : Type 0} (xs : List A) (k : ℕ) → k < length xs → (x : A) × (slice_get xs k ≡ Some x)
within_get [] k h = absurd (omega arith)
within_get (y ∷ ys) zero h = (y, refl)
within_get (y ∷ ys) (suc k) h = within_get ys k (omega arith)

module _ (p : Code) (w : WellFormed p) where
  pub same_function : (g : ℕ) (fn other : Function) → IsFunction p g fn → IsFunction p g other → fn ≡ other
  same_function g fn other a b = cc

  -- a later function begins behind an earlier one
  pub in_order : (g k : ℕ) (fn after : Function) → IsFunction p g fn → IsFunction p (g + suc k) after → fn.leave < after.entry
  in_order g zero fn after a b =
      let next = w.ranges.next g fn after a b in omega arith
  in_order g (suc k) fn after a b =
      let late : g + suc (suc k) < length p.functions = get_within p.functions (g + suc (suc k)) after b in
      let mid = within_get p.functions (g + suc k) (omega arith) in
      let before = in_order g k fn mid.0 a mid.1 in
      let inside = w.ranges.inside (g + suc k) mid.0 mid.1 in
      let shift : g + suc (suc k) ≡ (g + suc k) + 1 = omega arith in
      let next = w.ranges.next (g + suc k) mid.0 after mid.1 (subst (λ n. IsFunction p n after) shift b) in
      omega arith

  -- the place of one function is in no other
  pub same_number : (i g h : ℕ) → IsIn p i g → IsIn p i h → g ≡ h
  same_number i g h a b = elim (order g h) [
    | inl e ↦ e
    | inr o ↦ absurd (elim o [
      | inl lt ↦ let far = in_order g lt.0 a.fn b.fn a.is (subst (λ n. IsFunction p n b.fn) lt.1 b.is) in
          let low = a.high in let high = b.low in omega arith
      | inr gt ↦ let far = in_order h gt.0 b.fn a.fn b.is (subst (λ n. IsFunction p n a.fn) gt.1 a.is) in
          let low = b.high in let high = a.low in omega arith
    ])
  ]
    where
      order : (g h : ℕ) → (g ≡ h) ⊎ (((k : ℕ) × (h ≡ g + suc k)) ⊎ ((k : ℕ) × (g ≡ h + suc k)))
      order zero zero = inl refl
      order zero (suc h) = inr (inl (h, omega arith))
      order (suc g) zero = inr (inr (g, omega arith))
      order (suc g) (suc h) = elim (order g h) [
        | inl e ↦ inl (ap suc e)
        | inr o ↦ inr (elim o [ inl lt ↦ inl (lt.0, (let e = lt.1 in omega arith)) | inr gt ↦ inr (gt.0, (let e = gt.1 in omega arith)) ])
      ]

  -- each place up to the end of a function is in one
  cover_to : (g : ℕ) (fn : Function) → IsFunction p g fn → (i : ℕ) → i ≤ fn.leave → (h : ℕ) × IsIn p i h
  cover_to zero fn is i high =
      let first = w.ranges.first fn is in
      (zero, record { fn = fn; is = is; low = omega arith; high = high })
  cover_to (suc g) fn is i high = elim (cases_lt i fn.entry) [
    | inr low ↦ (suc g, record { fn = fn; is = is; low = low; high = high })
    | inl early ↦
        let late = get_within p.functions (suc g) fn is in
        let mid = within_get p.functions g (omega arith) in
        let shift : suc g ≡ g + 1 = omega arith in
        let next = w.ranges.next g mid.0 fn mid.1 (subst (λ n. IsFunction p n fn) shift is) in
        cover_to g mid.0 mid.1 i (omega arith)
  ]

  pub cover : (i : ℕ) → i < length p.instrs → (h : ℕ) × IsIn p i h
  cover i low =
      let some = get_within p.functions 0 w.entry_function.fn w.entry_function.is in
      let last = within_get p.functions (length p.functions - 1) (omega arith) in
      let end = w.ranges.last (length p.functions - 1) last.0 last.1 (omega arith) in
      cover_to (length p.functions - 1) last.0 last.1 i (omega arith)

  module _ (g : ℕ) (fn : Function) (is : IsFunction p g fn) where
    pub inside_at : (k : ℕ) → k < size fn → IsIn p (fn.entry + k) g
    inside_at k low = record { fn = fn; is = is; low = omega arith; high = omega arith }

    pub number_at : (i : ℕ) → IsIn p i g → (k : ℕ) × (k < size fn) × (fn.entry + k ≡ i)
    number_at i a =
        let same = same_function g fn a.fn is a.is in
        let low : fn.entry ≤ i = subst (λ f. f.entry ≤ i) (sym same) a.low in
        let high : i ≤ fn.leave = subst (λ f. i ≤ f.leave) (sym same) a.high in
        (i - fn.entry, omega arith, omega arith)

    pub place_exists : (k : ℕ) → k < size fn → fn.entry + k < length p.instrs
    place_exists k low = let r = w.ranges.inside g fn is in omega arith

    -- a successor of a place of the function is one
    pub goes : (k t : ℕ) → k < size fn → Successor p (fn.entry + k) t → (s : ℕ) × (fn.entry + s ≡ t) × Goes p fn k s
    goes k t low s =
        let there = number_at t (w.stays _ t g s (inside_at k low)) in
        (there.0, there.2, record { from = low; to = there.1; step = subst (Successor p (fn.entry + k)) (sym there.2) s })

    -- what goes on at a place of the function is one
    pub comes : (d k : ℕ) → k < size fn → Successor p d (fn.entry + k) → (j : ℕ) × (fn.entry + j ≡ d) × Goes p fn j k
    comes d k low s =
        let home = cover d (has_place d (fn.entry + k) s) in
        let same : home.0 ≡ g = same_number (fn.entry + k) home.0 g (w.stays d _ home.0 s home.1) (inside_at k low) in
        let here = number_at d (subst (IsIn p d) same home.1) in
        (here.0, here.2, record { from = here.1; to = low; step = subst (λ x. Successor p x (fn.entry + k)) (sym here.2) s })
      where
        has_place : (d j : ℕ) → Successor p d j → d < length p.instrs
        has_place d j (successor kind at next) = at_within d kind at
          where
            at_within : (d : ℕ) (kind : Kind) → IsAt p d kind → d < length p.instrs
            at_within d kind at = elim (slice_get_cases p.instrs d).1 [
              | inl some ↦ some.1
              | inr none ↦ absurd (let e : kind_of (slice_get p.instrs d) ≡ None = ap kind_of none.1 in cc)
            ]
