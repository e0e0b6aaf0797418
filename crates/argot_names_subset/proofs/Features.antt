-- Predeclared names by their numbers.
use Rattle.std.proofs.Common.{◌≡◌, ℕ, zero, suc, ◌+◌, ◌<◌, ◌⊎◌, inl, inr, List, [], ◌∷◌, ◌++◌, Bool, true, false, cond, Option, Some, None, length, refl, sym, ap, ◌∙◌, subst, arith}
use Rattle.std.specs.Prelude.{slice_get, map, nat_eq, ◌==◌, ◌||◌}
use Rattle.std.specs.Cmp.Lexicographic.{pointwise}
use Rattle.std.proofs.lemmas.Bool.{or_cases}
use Rattle.std.proofs.lemmas.Bool.Decides.{nat_tests}
use Rattle.argot_typed.specs.declared.program.Decl.{Decl}
use Rattle.argot_names_rules.specs.Loaded.{predeclared_decl}
use Rattle.argot_names_rules.specs.Universe.{is_among, predeclared_types, predeclared_values, predeclared_functions, predeclared}
use Rattle.argot_names_rules.specs.declared.flag.Feature.{Feature}
use Rattle.argot_names_rules.specs.declared.flag.Feature.TheVariants as features
use Rattle.argot_names_rules.specs.Subset.{IsFeature, float32, float64, complex64, complex128, complex, real, imag, uintptr, comparable, recover}
use Rattle.argot_names_imports.proofs.Lists.{get_below, get_before, get_two, map_get}
use Rattle.argot_names_imports.proofs.FirstFiles.{same_text, text_same}
use Rattle.argot_names_subset_file.specs.Standings.{feature_numbered}

is_number : (d n : ℕ) → (d == n) ≡ true → d ≡ n
is_number d n e = grind (arith, nat_tests)

-- the name of this number has the feature
pub record IsFeatured (d : ℕ) (feature : Feature) : Type 0 where
  pub name : List ℕ
  pub there : slice_get predeclared d ≡ Some name
  pub is : IsFeature name feature

pick : (b : Bool) (x y : Option Feature) (f : Feature) → cond b x y ≡ Some f → ((b ≡ true) × (x ≡ Some f)) ⊎ (y ≡ Some f)
pick true x y f e = inl (refl, e)
pick false x y f e = inr e

of_number : (d n : ℕ) (f g : Feature) (name : List ℕ) → (d == n) ≡ true → Some g ≡ Some f → slice_get predeclared n ≡ Some name → IsFeature name g → IsFeatured d f
of_number d n f g name e same there is =
    let at : d ≡ n = is_number d n e in
    let one : g ≡ f = cc in
    record { name = name; there = ap (slice_get predeclared) at ∙ there; is = subst (IsFeature name) one is }

pub number_featured : (d : ℕ) (f : Feature) → feature_numbered d ≡ Some f → IsFeatured d f
number_featured d f e =
    elim (pick (d == 16 || d == 17) _ _ f e) [
      | inl h ↦ elim (or_cases (d == 16) (d == 17) h.0) [ inl x ↦ of_number d 16 f _ _ x h.1 refl float32 | inr x ↦ of_number d 17 f _ _ x h.1 refl float64 ]
      | inr e ↦ elim (pick (d == 18 || d == 19) _ _ f e) [
        | inl h ↦ elim (or_cases (d == 18) (d == 19) h.0) [ inl x ↦ of_number d 18 f _ _ x h.1 refl complex64 | inr x ↦ of_number d 19 f _ _ x h.1 refl complex128 ]
        | inr e ↦ elim (pick (d == 20) _ _ f e) [
          | inl h ↦ of_number d 20 f _ _ h.0 h.1 refl uintptr
          | inr e ↦ elim (pick (d == 21) _ _ f e) [
            | inl h ↦ of_number d 21 f _ _ h.0 h.1 refl comparable
            | inr e ↦ elim (pick (d == 40) _ _ f e) [
              | inl h ↦ of_number d 40 f _ _ h.0 h.1 refl recover
              | inr e ↦ elim (pick (d == 41 || (d == 42 || d == 43)) (Some features.ComplexBuiltIn) None f e) [
                | inl h ↦ elim (or_cases (d == 41) (d == 42 || d == 43) h.0) [
                  | inl x ↦ of_number d 41 f _ _ x h.1 refl complex
                  | inr y ↦ elim (or_cases (d == 42) (d == 43) y) [ inl x ↦ of_number d 42 f _ _ x h.1 refl real | inr x ↦ of_number d 43 f _ _ x h.1 refl imag ]
                ]
                | inr e ↦ absurd (cc)
              ]
            ]
          ]
        ]
      ]
    ]

-- and each name with one has a number
pub record HasNumber (name : List ℕ) (feature : Feature) : Type 0 where
  pub d : ℕ
  pub there : slice_get predeclared d ≡ Some name
  pub is : feature_numbered d ≡ Some feature

pub feature_number : (name : List ℕ) (f : Feature) → IsFeature name f → HasNumber name f
feature_number _ _ float32 = record { d = 16; there = refl; is = refl }
feature_number _ _ float64 = record { d = 17; there = refl; is = refl }
feature_number _ _ complex64 = record { d = 18; there = refl; is = refl }
feature_number _ _ complex128 = record { d = 19; there = refl; is = refl }
feature_number _ _ complex = record { d = 41; there = refl; is = refl }
feature_number _ _ real = record { d = 42; there = refl; is = refl }
feature_number _ _ imag = record { d = 43; there = refl; is = refl }
feature_number _ _ uintptr = record { d = 20; there = refl; is = refl }
feature_number _ _ comparable = record { d = 21; there = refl; is = refl }
feature_number _ _ recover = record { d = 40; there = refl; is = refl }

-- names of a list by their places
among_at : (name : List ℕ) (names : List (List ℕ)) → is_among name names ≡ true → (d : ℕ) × (slice_get names d ≡ Some name)
among_at name [] e = absurd (cc)
among_at name (one ∷ names) e =
    elim (or_cases (pointwise nat_eq name one) (is_among name names) e) [
      | inl x ↦ (0, ap (λ n. Some n) (sym (same_text name one x)))
      | inr x ↦ let h = among_at name names x in (suc h.0, h.1)
    ]

or_right : (b c : Bool) → c ≡ true → (b || c) ≡ true
or_right true c e = refl
or_right false c e = e

or_left : (b c : Bool) → b ≡ true → (b || c) ≡ true
or_left true c e = refl
or_left false c e = absurd (cc)

at_among : (name : List ℕ) (names : List (List ℕ)) (d : ℕ) → slice_get names d ≡ Some name → is_among name names ≡ true
at_among name [] d e = absurd (cc)
at_among name (one ∷ names) zero e =
    let same : one ≡ name = cc in
    or_left (pointwise nat_eq name one) (is_among name names) (subst (λ n. pointwise nat_eq name n ≡ true) (sym same) (text_same name))
at_among name (one ∷ names) (suc d) e = or_right (pointwise nat_eq name one) (is_among name names) (at_among name names d e)

-- the first of all are types
pub type_number : (name : List ℕ) → is_among name predeclared_types ≡ true → (d : ℕ) × (d < 22) × (slice_get predeclared d ≡ Some name)
type_number name e =
    let h = among_at name predeclared_types e in
    (h.0, get_below predeclared_types h.0 name h.1, get_before predeclared_types (predeclared_values ++ predeclared_functions) h.0 name h.1)

pub number_type : (d : ℕ) (name : List ℕ) → d < 22 → slice_get predeclared d ≡ Some name → is_among name predeclared_types ≡ true
number_type d name l e =
    elim (get_two predeclared_types (predeclared_values ++ predeclared_functions) d name e) [
      | inl h ↦ at_among name predeclared_types d h
      | inr h ↦ absurd (beyond h.0 h.1)
    ]
  where
    beyond : (j : ℕ) → d ≡ 22 + j → ⊥
    beyond j e = omega (arith, l, e)

-- the declaration of the name of this number
pub predeclared_at : (decls others : List Decl) (d : ℕ) (name : List ℕ) → decls ≡ map predeclared_decl predeclared ++ others → slice_get predeclared d ≡ Some name → slice_get decls d ≡ Some (predeclared_decl name)
predeclared_at decls others d name e at =
    subst (λ ds. slice_get ds d ≡ Some (predeclared_decl name)) (sym e) (get_before (map predeclared_decl predeclared) others d (predeclared_decl name) (map_get predeclared_decl predeclared d name at))

-- numbers of types are those of predeclared names
pub type_named : (d : ℕ) → d < 22 → (name : List ℕ) × (slice_get predeclared d ≡ Some name)
type_named d l = go (get_within predeclared_types d l)
  where
    get_within : (xs : List (List ℕ)) (d : ℕ) → d < length xs → (x : List ℕ) × (slice_get xs d ≡ Some x)
    get_within [] d l = absurd (omega (arith, l))
    get_within (x ∷ xs) zero l = (x, refl)
    get_within (x ∷ xs) (suc d) l = get_within xs d (omega (arith, l))

    go : (x : List ℕ) × (slice_get predeclared_types d ≡ Some x) → (name : List ℕ) × (slice_get predeclared d ≡ Some name)
    go h = (h.0, get_before predeclared_types (predeclared_values ++ predeclared_functions) d h.0 h.1)
