-- The marks before each step.
use Rattle.std.proofs.Common.{◌≡◌, ◌≢◌, ℕ, zero, suc, ◌+◌, ◌<◌, ◌≤◌, List, [], ◌∷◌, Option, Some, None, Bool, false, ◌||◌, length, refl, ap, ◌∙◌, arith, add-zero, zero-add, nat_eq, length-set}
use Rattle.std.proofs.lemmas.List.{length-replicate}
use Rattle.std.specs.Prelude.{slice_get, slice_set}
use Rattle.argot_first_form.specs.declared.functions.Function.{Function}
use Rattle.argot_plain.specs.declared.first.Kind.{Kind}
use Rattle.argot_first.specs.Marks.{marked, set_at, target, carries, marks_after, no_marks}

pub marked-same : (m : List Bool) (r : ℕ) (v : Bool) → r < length m → marked (slice_set m r v) r ≡ v
marked-same [] r v h = absurd (omega arith)
marked-same (x ∷ m) zero v h = refl
marked-same (x ∷ m) (suc r) v h = marked-same m r v (omega arith)

pub marked-other : (m : List Bool) (r q : ℕ) (v : Bool) → r ≢ q → marked (slice_set m r v) q ≡ marked m q
marked-other [] r q v h = refl
marked-other (x ∷ m) zero zero v h = absurd (h refl)
marked-other (x ∷ m) zero (suc q) v h = refl
marked-other (x ∷ m) (suc r) zero v h = refl
marked-other (x ∷ m) (suc r) (suc q) v h = marked-other m r q v (λ e. h (ap suc e))

pub length-set_at : (m : List Bool) (t : Option ℕ) (v : Bool) → length (set_at m t v) ≡ length m
length-set_at m None v = refl
length-set_at m (Some r) v = length-set m r v

module _ (functions : List Function) (s : ℕ) where
  -- the marks before the step i, where these kinds begin at the step n with these marks
  unfoldable pub upto : ℕ → List Bool → List Kind → ℕ → List Bool
  upto n m kinds zero = m
  upto n m [] (suc i) = m
  upto n m (k ∷ ks) (suc i) = upto (n + 1) (marks_after functions s n m k) ks i

  pub upto-none : (n : ℕ) (m : List Bool) (kinds : List Kind) → upto n m kinds 0 ≡ m
  unfolding upto
  upto-none n m [] = refl
  upto-none n m (k ∷ ks) = refl

  pub upto-more : (n : ℕ) (m : List Bool) (kinds : List Kind) (i : ℕ) (kind : Kind) → slice_get kinds i ≡ Some kind → upto n m kinds (suc i) ≡ marks_after functions s (n + i) (upto n m kinds i) kind
  unfolding upto
  upto-more n m [] i kind h = absurd (cc h)
  upto-more n m (k ∷ ks) zero kind h = rw (add-zero, upto-none (n + 1) (marks_after functions s n m k) ks) (ap (marks_after functions s n m) (cc h))
  upto-more n m (k ∷ ks) (suc i) kind h = upto-more (n + 1) (marks_after functions s n m k) ks i kind h ∙ ap (λ x. marks_after functions s x (upto (n + 1) (marks_after functions s n m k) ks i) kind) (omega arith)

  pub upto-past : (n : ℕ) (m : List Bool) (kinds : List Kind) (i : ℕ) → length kinds ≤ i → upto n m kinds (suc i) ≡ upto n m kinds i
  unfolding upto
  upto-past n m [] zero h = refl
  upto-past n m [] (suc i) h = refl
  upto-past n m (k ∷ ks) zero h = absurd (omega arith)
  upto-past n m (k ∷ ks) (suc i) h = upto-past (n + 1) (marks_after functions s n m k) ks i (omega arith)

  pub length-upto : (n : ℕ) (m : List Bool) (kinds : List Kind) (i : ℕ) → length (upto n m kinds i) ≡ length m
  unfolding upto
  length-upto n m [] zero = refl
  length-upto n m (k ∷ ks) zero = refl
  length-upto n m [] (suc i) = refl
  length-upto n m (k ∷ ks) (suc i) = length-upto (n + 1) (marks_after functions s n m k) ks i ∙ length-set_at m (target k) _

  abbrev pub before : List Kind → ℕ → List Bool
  before kinds i = upto 0 (no_marks kinds) kinds i

  -- whether the step's result has the data
  abbrev pub value : List Kind → ℕ → Kind → Bool
  value kinds i kind = nat_eq i s || carries functions (before kinds i) kind

  pub before-step : (kinds : List Kind) (i : ℕ) (kind : Kind) → slice_get kinds i ≡ Some kind → before kinds (suc i) ≡ set_at (before kinds i) (target kind) (value kinds i kind)
  before-step kinds i kind h = upto-more 0 (no_marks kinds) kinds i kind h ∙ ap (λ x. marks_after functions s x (before kinds i) kind) (zero-add i)

  pub length-before : (kinds : List Kind) (i : ℕ) → length (before kinds i) ≡ length kinds
  length-before kinds i = length-upto 0 (no_marks kinds) kinds i ∙ length-replicate (length kinds) false
