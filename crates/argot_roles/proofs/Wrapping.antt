-- Places of wrappers, and what is left out.
use Rattle.std.proofs.Common.{◌≡◌, ℕ, zero, suc, Bool, true, false, List, [], ◌∷◌, Some, refl, sym, ap, ◌∙◌, leb-true, le-leb}
use Rattle.std.specs.Prelude.{◌&&◌, ◌||◌, nat_le, slice_get}
use Rattle.argot_plain.specs.Code.{Code, kind_of}
use Rattle.argot_plain.specs.Counts.{is_wrapper, in_wrapper, calls_by_number, is_left_out}
use Rattle.argot_plain.specs.declared.functions.Function.{Function}
use Rattle.argot_roles.specs.Counting.{Wraps, IsWrapped}

all_three : (a b d : Bool) → (a && b && d) ≡ true → (a ≡ true) × (b ≡ true) × (d ≡ true)
all_three true true true h = (refl, refl, refl)
all_three true true false h = absurd cc
all_three true false d h = absurd cc
all_three false b d h = absurd cc

three : (a b d : Bool) → a ≡ true → b ≡ true → d ≡ true → (a && b && d) ≡ true
three true true true p q r = refl
three true true false p q r = absurd cc
three true false d p q r = absurd cc
three false b d p q r = absurd cc

found : (i : ℕ) (fns : List Function) → in_wrapper i fns ≡ true → (h : ℕ) × (fn : Function) × (slice_get fns h ≡ Some fn) × Wraps fn i
found i [] e = absurd cc
found i (fn ∷ fns) e = by (is_wrapper fn.role && nat_le fn.entry i && nat_le i fn.leave) refl e (found i fns)
  where
    by : (b : Bool) → (is_wrapper fn.role && nat_le fn.entry i && nat_le i fn.leave) ≡ b → (b || in_wrapper i fns) ≡ true
        → (in_wrapper i fns ≡ true → (h : ℕ) × (other : Function) × (slice_get fns h ≡ Some other) × Wraps other i)
        → (h : ℕ) × (other : Function) × (slice_get (fn ∷ fns) h ≡ Some other) × Wraps other i
    by true is t more =
        let x = all_three (is_wrapper fn.role) (nat_le fn.entry i) (nat_le i fn.leave) is in
        (0, fn, refl, record { wraps = x.0; low = leb-true fn.entry i x.1; high = leb-true i fn.leave x.2 })
    by false is t more = let r = more t in (suc r.0, r.1, r.2, r.3)

stands : (i h : ℕ) (fns : List Function) (fn : Function) → slice_get fns h ≡ Some fn → Wraps fn i → in_wrapper i fns ≡ true
stands i h [] fn e w = absurd cc
stands i zero (x ∷ fns) fn e w =
    let s : fn ≡ x = cc in
    first (three (is_wrapper x.role) (nat_le x.entry i) (nat_le i x.leave)
    (ap (λ (f : Function). is_wrapper f.role) (sym s) ∙ w.wraps)
    (ap (λ (f : Function). nat_le f.entry i) (sym s) ∙ le-leb fn.entry i w.low)
    (ap (λ (f : Function). nat_le i f.leave) (sym s) ∙ le-leb i fn.leave w.high))
  where
    first : (is_wrapper x.role && nat_le x.entry i && nat_le i x.leave) ≡ true → in_wrapper i (x ∷ fns) ≡ true
    first p = ap (λ b. b || in_wrapper i fns) p
stands i (suc h) (x ∷ fns) fn e w = or_right (is_wrapper x.role && nat_le x.entry i && nat_le i x.leave) (in_wrapper i fns) (stands i h fns fn e w)
  where
    or_right : (a b : Bool) → b ≡ true → (a || b) ≡ true
    or_right true b p = refl
    or_right false b p = p

-- the place is one of a wrapper exactly where the definition's test says so
pub wrapped_is : (p : Code) (i : ℕ) → IsWrapped p i → in_wrapper i p.functions ≡ true
wrapped_is p i w = stands i w.0 p.functions w.1 w.2 w.3

pub is_wrapped : (p : Code) (i : ℕ) → in_wrapper i p.functions ≡ true → IsWrapped p i
is_wrapped p i e = found i p.functions e

-- a call by number inside a wrapper is left out
pub out_is : (p : Code) (i : ℕ) (calls inside : Bool) → calls ≡ calls_by_number (kind_of (slice_get p.instrs i)) → (inside ≡ true → IsWrapped p i)
    → (IsWrapped p i → inside ≡ true)
    → (calls && inside) ≡ is_left_out p i
out_is p i calls inside c to from = ap (λ b. b && inside) c ∙ ap (λ b. calls_by_number (kind_of (slice_get p.instrs i)) && b) (same inside refl)
  where
    same : (b : Bool) → inside ≡ b → inside ≡ in_wrapper i p.functions
    same true e = e ∙ sym (wrapped_is p i (to e))
    same false e = e ∙ sym (not_there (in_wrapper i p.functions) refl)
      where
        not_there : (d : Bool) → in_wrapper i p.functions ≡ d → d ≡ false
        not_there false f = refl
        not_there true f = (let z : true ≡ false = sym (from (is_wrapped p i f)) ∙ e in absurd cc)
