-- The list of a package's files, one more in front at a time.
use Rattle.std.proofs.Common.{◌≡◌, ℕ, zero, suc, ◌+◌, ◌<◌, ◌≤◌, ◌⊎◌, inl, inr, List, [], ◌∷◌, length, Option, Some, slice_index_or, slice_set, refl, sym, ap, ◌∙◌, subst, arith}
use Rattle.std.specs.Prelude.{slice_get, replicate}
use Rattle.std.proofs.lemmas.Bool.{cases_eq}
use Rattle.std.proofs.lemmas.List.{get_or-set_same, get_or-set_other}
use Rattle.argot_names_rules.specs.Lists.{IsListOf}
use Rattle.argot_names_imports.proofs.Lists.{get_below, list_none, list_same}
use Rattle.argot_names_packages.specs.Files.{IsFileFrom, AreFilesFrom}

some_is : {A : Type 0} (x y : A) → Some x ≡ Some y → x ≡ y
some_is x y e = cc

-- an item in front of a list
module _ {A : Type 0} (Before : A → A → Type 0) (Holds Holds' : A → Type 0) (x : A) (xs : List A) (is : IsListOf Before Holds xs) where
  front_order : ((y : A) → Holds y → Before x y) → (k : ℕ) (a b : A) → slice_get (x ∷ xs) k ≡ Some a → slice_get (x ∷ xs) (k + 1) ≡ Some b → Before a b
  front_order before zero a b e f = subst (λ z. Before z b) (some_is x a e) (before b (is.sound b (0, f)))
  front_order before (suc k) a b e f =
      let at : suc k + 1 ≡ suc (k + 1) = omega arith in
      is.ordered k a b e (subst (λ j. slice_get (x ∷ xs) j ≡ Some b) at f)

  front_sound : Holds' x → ((y : A) → Holds y → Holds' y) → (y : A) (k : ℕ) → slice_get (x ∷ xs) k ≡ Some y → Holds' y
  front_sound holds to y zero e = subst Holds' (some_is x y e) holds
  front_sound holds to y (suc k) e = to y (is.sound y (k, e))

  pub list_front : Holds' x → ((y : A) → Holds y → Before x y) → ((y : A) → Holds y → Holds' y) → ((y : A) → Holds' y → Holds y ⊎ (y ≡ x)) → IsListOf Before Holds' (x ∷ xs)
  list_front holds before to from =
      record {
        ordered = front_order before;
        sound = λ y i. front_sound holds to y i.0 i.1;
        complete = λ y h. elim (from y h) [
          | inl old ↦ let i = is.complete y old in (suc i.0, i.1)
          | inr new ↦ (0, ap (λ z. Some z) (sym new))
        ];
      }

abbrev Below : ℕ → ℕ → Type 0
Below a b = a < b

module _ (leaders : List (Option ℕ)) (file : ℕ) (lists : List (List ℕ)) (are : AreFilesFrom leaders (file + 1) lists) where
  -- another file than this one
  later : (first f : ℕ) → IsFileFrom leaders (file + 1) first f → IsFileFrom leaders file first f
  later first f h = record { leads = h.leads; from_on = omega (arith, h.from_on) }

  other_lists : (first : ℕ) → (slice_get leaders file ≡ Some (Some first) → ⊥) → first < length lists → IsListOf Below (IsFileFrom leaders file first) (slice_index_or lists first [])
  other_lists first none below =
      list_same Below (IsFileFrom leaders (file + 1) first) (IsFileFrom leaders file first) (slice_index_or lists first []) (are first below) (later first)
      (λ f h. elim (cases_eq f file) [
        | inl same ↦ absurd (none (subst (λ x. slice_get leaders x ≡ Some (Some first)) same h.leads))
        | inr other ↦ record { leads = h.leads; from_on = omega (arith, h.from_on, other) }
      ])

  pub file_none : ((first : ℕ) → slice_get leaders file ≡ Some (Some first) → ⊥) → AreFilesFrom leaders file lists
  file_none none first below = other_lists first (none first) below

  pub file_put : (first : ℕ) (new : List (List ℕ)) → slice_get leaders file ≡ Some (Some first) → first < length lists → length new ≡ length lists → new ≡ slice_set lists first (file ∷ slice_index_or lists first []) → AreFilesFrom leaders file new
  file_put first new leads within long e other below =
      elim (cases_eq other first) [
        | inl same ↦
            let there : slice_index_or new other [] ≡ file ∷ slice_index_or lists first [] =
            ap (λ n. slice_index_or n other []) e ∙ ap (λ k. slice_index_or (slice_set lists first (file ∷ slice_index_or lists first [])) k []) same ∙ get_or-set_same lists first (file ∷ slice_index_or lists first []) [] within in
            subst (IsListOf Below (IsFileFrom leaders file other)) (sym there) (subst (λ k. IsListOf Below (IsFileFrom leaders file k) (file ∷ slice_index_or lists first [])) (sym same) mine)
        | inr differs ↦
            let there : slice_index_or new other [] ≡ slice_index_or lists other [] = ap (λ n. slice_index_or n other []) e ∙ get_or-set_other lists first other (file ∷ slice_index_or lists first []) [] differs in
            subst (IsListOf Below (IsFileFrom leaders file other)) (sym there)
            (other_lists other (λ h. differs (some_is other first (some_is (Some other) (Some first) (sym h ∙ leads)))) (omega (arith, below, long)))
      ]
    where
      mine : IsListOf Below (IsFileFrom leaders file first) (file ∷ slice_index_or lists first [])
      mine =
          list_front Below (IsFileFrom leaders (file + 1) first) (IsFileFrom leaders file first) file (slice_index_or lists first []) (are first within) (record { leads = leads; from_on = omega arith })
          (λ f h. omega (arith, h.from_on)) (later first)
          (λ f h. elim (cases_eq f file) [ inl same ↦ inr same | inr other ↦ inl (record { leads = h.leads; from_on = omega (arith, h.from_on, other) }) ])

nothing_there : (n k : ℕ) → slice_index_or {A = List ℕ} (replicate n []) k [] ≡ []
nothing_there zero k = refl
nothing_there (suc n) zero = refl
nothing_there (suc n) (suc k) = nothing_there n k

-- no file yet
pub files_none : (leaders : List (Option ℕ)) (n : ℕ) (lists : List (List ℕ)) → length leaders ≤ n → lists ≡ replicate n [] → AreFilesFrom leaders n lists
files_none leaders n lists all e first below =
    subst (IsListOf Below (IsFileFrom leaders n first)) (sym (ap (λ ls. slice_index_or ls first []) e ∙ nothing_there n first))
    (list_none Below (IsFileFrom leaders n first) (λ f h. absurd (omega (arith, h.from_on, all, get_below leaders f (Some first) h.leads))))
