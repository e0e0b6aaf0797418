-- Places that a list names.
use Rattle.std.proofs.Common.{◌≡◌, ℕ, ◌++◌, ◌∷◌, [], Bool, true, false, List, refl, sym, ap, ◌∙◌, inl, inr, eq-eqb}
use Rattle.std.specs.Prelude.{◌⊎◌, ◌==◌, ◌||◌}
use Rattle.std.proofs.lemmas.Bool.{eqb-true}
use Rattle.argot_plain.specs.Counts.{is_named}
use Rattle.argot_roles.specs.Marking.{Marks}
use Rattle.argot_roles.proofs.Setting.{marks_both}

more : (i : ℕ) (xs : List (ℕ × List ℕ)) (x : ℕ × List ℕ) → is_named i (xs ++ x ∷ []) ≡ (is_named i xs || (i == x.0))
more i [] x = by (i == x.0)
  where
    by : (b : Bool) → (b || false) ≡ b
    by true = refl
    by false = refl
more i (y ∷ xs) x = ap (λ b. (i == y.0) || b) (more i xs x) ∙ grouped (i == y.0) (is_named i xs) (i == x.0)
  where
    grouped : (a b d : Bool) → (a || (b || d)) ≡ ((a || b) || d)
    grouped true b d = refl
    grouped false b d = refl

left : (a b : Bool) → a ≡ true → (a || b) ≡ true
left true b e = refl
left false b e = absurd cc

right : (a b : Bool) → b ≡ true → (a || b) ≡ true
right true b e = refl
right false b e = e

either : (a b : Bool) → (a || b) ≡ true → (a ≡ true) ⊎ (b ≡ true)
either true b e = inl refl
either false b e = inr e

-- one place more
pub named_more : (xs ys : List (ℕ × List ℕ)) (x : ℕ × List ℕ) (a b c : List Bool) → ys ≡ xs ++ x ∷ [] → Marks (λ m. is_named m xs ≡ true) a b → Marks (λ m. m ≡ x.0) b c
    → Marks (λ m. is_named m ys ≡ true) a c
named_more xs ys x a b c e = marks_both (λ m. is_named m xs ≡ true) (λ m. m ≡ x.0) (λ m. is_named m ys ≡ true) a b c
    (λ m s. ap (is_named m) e ∙ (more m xs x ∙ elim s [ inl h ↦ left (is_named m xs) (m == x.0) h | inr h ↦ right (is_named m xs) (m == x.0) (eq-eqb m x.0 h) ]))
    (λ m s. elim (either (is_named m xs) (m == x.0) (sym (ap (is_named m) e ∙ more m xs x) ∙ s)) [ inl h ↦ inl h | inr h ↦ inr (eqb-true m x.0 h) ])
