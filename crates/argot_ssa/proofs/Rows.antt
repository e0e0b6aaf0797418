-- What a list has after one more item at its end.
use Rattle.std.proofs.Common.{◌≡◌, ◌⊎◌, List, [], ◌∷◌, ◌++◌, refl, inl, inr}
use Rattle.argot_plain.specs.Lists.{In}
use Rattle.argot_plain.specs.Lists.In.{here, there}
use Rattle.argot_ssa.specs.Paths.{Row, AddsRows}

pub in_kept : {A : Type 0} (y x : A) {xs : List A} → In x xs → In x (xs ++ y ∷ [])
in_kept y x (here e) = here e
in_kept y x (there r) = there (in_kept y x r)

pub in_pushed : {A : Type 0} (xs : List A) (y : A) → In y (xs ++ y ∷ [])
in_pushed [] y = here refl
in_pushed (x ∷ xs) y = there (in_pushed xs y)

only_one : {A : Type 0} (x y : A) → In x (y ∷ []) → x ≡ y
only_one x y (here e) = e
only_one x y (there r) = absurd (elim r [ ])

pub in_cases : {A : Type 0} (xs : List A) (y x : A) → In x (xs ++ y ∷ []) → In x xs ⊎ (x ≡ y)
in_cases [] y x h = inr (only_one x y h)
in_cases (z ∷ xs) y x (here e) = inl (here e)
in_cases (z ∷ xs) y x (there r) = elim (in_cases xs y x r) [ inl o ↦ inl (there o) | inr e ↦ inr e ]

-- rows that are added in two goes
pub adds_more : (old mid new : List Row) (P Q R : Row → Type 0) → ((x : Row) → R x → P x ⊎ Q x) → ((x : Row) → P x → R x) → ((x : Row) → Q x → R x) → AddsRows old mid P → AddsRows mid new Q → AddsRows old new R
adds_more old mid new P Q R split left right a b = record {
  kept = λ x h. b.kept x (a.kept x h);
  only = λ x h. elim (b.only x h) [
    | inl m ↦ elim (a.only x m) [ inl o ↦ inl o | inr p ↦ inr (left x p) ]
    | inr q ↦ inr (right x q)
  ];
  there = λ x r. elim (split x r) [ inl p ↦ b.kept x (a.there x p) | inr q ↦ b.there x q ];
}

pub adds_none : (old : List Row) (P : Row → Type 0) → ((x : Row) → P x → ⊥) → AddsRows old old P
adds_none old P none = record { kept = λ x h. h; only = λ x h. inl h; there = λ x p. absurd (none x p) }
