-- Lists of pairs that gain others.
use Rattle.std.proofs.Common.{◌≡◌, ℕ, ◌+◌, ◌≤◌, Some, List, [], ◌∷◌, ◌++◌, refl, sym, ap, ◌∙◌, inl, inr, subst}
use Rattle.std.specs.Prelude.{◌⊎◌}
use Rattle.argot_plain.specs.Code.{Code, IsAt, IsFunction, IsIn, Successor, successor, Next}
use Rattle.argot_plain.specs.Lists.{In, here, there}
use Rattle.argot_plain.specs.declared.functions.Function.{Function}
use Rattle.argot_facts.proofs.Listed.{In-append, In-left, In-right}
use Rattle.argot_plain.specs.declared.instructions.Kind.{Kind}
use Rattle.argot_plain.specs.declared.instructions.Kind.TheVariants.{Leave, Goto, Branch, Panic}
use Rattle.argot_facts.proofs.Calls.{same_kind}
use Rattle.argot_control.specs.Pairs.{Gains, GoesOnAt}

-- there is nothing to gain
pub gains_none : (R : ℕ → ℕ → Type 0) (xs : List (ℕ × ℕ)) → ((a b : ℕ) → R a b → ⊥) → Gains R xs xs
gains_none R xs none = λ a b. ((λ m. inl m), λ s. elim s [ inl m ↦ m | inr r ↦ absurd (none a b r) ])

-- first pairs with the one property, then with the other
pub gains_both : (V W U : ℕ → ℕ → Type 0) (xs ys zs : List (ℕ × ℕ)) → ((a b : ℕ) → V a b → U a b) → ((a b : ℕ) → W a b → U a b) → ((a b : ℕ) → U a b → V a b ⊎ W a b) → Gains V xs ys → Gains W ys zs → Gains U xs zs
gains_both V W U xs ys zs one two split v w = λ a b. (
  (λ m. elim ((w a b).0 m) [ inl n ↦ elim ((v a b).0 n) [ inl o ↦ inl o | inr r ↦ inr (one a b r) ] | inr r ↦ inr (two a b r) ]),
  λ s. elim s [
    | inl m ↦ (w a b).1 (inl ((v a b).1 (inl m)))
    | inr r ↦ elim (split a b r) [ inl x ↦ (w a b).1 (inl ((v a b).1 (inr x))) | inr x ↦ (w a b).1 (inr x) ]
  ],
)

-- the property may be said otherwise
pub gains_as : (W U : ℕ → ℕ → Type 0) (xs ys : List (ℕ × ℕ)) → ((a b : ℕ) → W a b → U a b) → ((a b : ℕ) → U a b → W a b) → Gains W xs ys → Gains U xs ys
gains_as W U xs ys to from w = λ a b. (
  (λ m. elim ((w a b).0 m) [ inl n ↦ inl n | inr r ↦ inr (to a b r) ]),
  λ s. elim s [ inl m ↦ (w a b).1 (inl m) | inr r ↦ (w a b).1 (inr (from a b r)) ],
)

pub same_pair : (a b x y : ℕ) → a ≡ x → b ≡ y → ◌≡◌ {A = ℕ × ℕ} (a, b) (x, y)
same_pair a b x y e f = ap (λ (n : ℕ). (n, b)) e ∙ ap (λ (n : ℕ). (x, n)) f

-- one pair more
pub gains_one : (xs : List (ℕ × ℕ)) (x y : ℕ) → Gains (λ a b. (a ≡ x) × (b ≡ y)) xs (xs ++ (x, y) ∷ [])
gains_one xs x y = λ a b. (
  (λ m. elim (In-append {A = ℕ × ℕ} (a, b) xs ((x, y) ∷ []) m) [ inl n ↦ inl n | inr n ↦ inr (one a b n) ]),
  λ s. elim s [ inl m ↦ In-left {A = ℕ × ℕ} (a, b) xs ((x, y) ∷ []) m | inr e ↦ In-right {A = ℕ × ℕ} (a, b) xs ((x, y) ∷ []) (here (same_pair a b x y e.0 e.1)) ],
)
  where
    one : (a b : ℕ) → In {A = ℕ × ℕ} (a, b) ((x, y) ∷ []) → (a ≡ x) × (b ≡ y)
    one a b (here e) = (ap (λ (s : ℕ × ℕ). s.0) e, ap (λ (s : ℕ × ℕ). s.1) e)
    one a b (there k) = elim k [ ]

-- the places of a function lie within its bounds
pub within_function : (p : Code) (h i : ℕ) (fn : Function) → IsFunction p h fn → fn.entry ≤ i → i ≤ fn.leave → IsIn p i h
within_function p h i fn is low high = record { fn = fn; is = is; low = low; high = high }

pub bounds_of : (p : Code) (h i : ℕ) (fn : Function) → IsFunction p h fn → IsIn p i h → (fn.entry ≤ i) × (i ≤ fn.leave)
bounds_of p h i fn is inside =
    let e : Some inside.fn ≡ Some fn = sym inside.is ∙ is in
    let f : inside.fn ≡ fn = cc in
    (subst (λ (z : Function). z.entry ≤ i) f inside.low, subst (λ (z : Function). i ≤ z.leave) f inside.high)

-- what stands at a place is what it goes on by
pub next_by : (p : Code) (i j : ℕ) (kind : Kind) → IsAt p i kind → Successor p i j → Next kind i j
next_by p i j kind at (successor k is n) = subst (λ z. Next z i j) (same_kind p i k kind is at) n

pub goes_by : (p : Code) (i : ℕ) (kind : Kind) (R : ℕ → ℕ → Type 0) (xs ys : List (ℕ × ℕ)) → IsAt p i kind → ((a b : ℕ) → R a b → (a ≡ i) × Next kind i b) → ((a b : ℕ) → a ≡ i → Next kind i b → R a b)
    → Gains R xs ys → Gains (GoesOnAt p i) xs ys
goes_by p i kind R xs ys at to from g = gains_as R (GoesOnAt p i) xs ys
    (λ a b r. let n = to a b r in (n.0, subst (λ k. Successor p k b) (sym n.0) (successor kind at n.1)))
    (λ a b s. from a b s.0 (next_by p i b kind at (subst (λ k. Successor p k b) s.0 s.1)))
    g

-- any other kind than these goes on to the next place
pub to_next : (kind : Kind) (i j : ℕ) → ((from : List ℕ) → kind ≡ Leave from → ⊥) → ((target : ℕ) → kind ≡ Goto target → ⊥) → ((targets : List ℕ) → kind ≡ Branch targets → ⊥) → ((from : ℕ) → kind ≡ Panic from → ⊥)
    → (Next kind i j → j ≡ i + 1) × (j ≡ i + 1 → Next kind i j)
to_next (Leave from) i j leave goto branch panic = absurd (leave from refl)
to_next (Goto target) i j leave goto branch panic = absurd (goto target refl)
to_next (Branch targets) i j leave goto branch panic = absurd (branch targets refl)
to_next (Panic from) i j leave goto branch panic = absurd (panic from refl)
to_next _ i j leave goto branch panic = ((λ n. n), λ n. n)
