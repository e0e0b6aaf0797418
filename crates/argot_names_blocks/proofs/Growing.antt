-- Lists that grow by what one node after the other gives.
use Rattle.std.proofs.Common.{◌≡◌, ℕ, zero, suc, ◌+◌, ◌<◌, ◌≤◌, List, [], ◌∷◌, ◌++◌, length, Option, Some, None, inl, inr, refl, sym, ◌∙◌, subst, length-append, arith}
use Rattle.std.specs.Prelude.{◌⊎◌, slice_get}
use Rattle.std.proofs.lemmas.Bool.{cases_eq, cases_lt}
use Rattle.std.proofs.lemmas.Option.{slice_get_within}
use Rattle.argot_names_blocks.specs.Listing.{added, ListsUpTo, ListsAll}
use Rattle.argot_files.proofs.Listed.{some_is}

module _ {A : Type 0} where
  pub get_left : (xs ys : List A) (k : ℕ) → k < length xs → slice_get (xs ++ ys) k ≡ slice_get xs k
  get_left [] ys k h = absurd (omega arith)
  get_left (x ∷ xs) ys zero h = refl
  get_left (x ∷ xs) ys (suc k) h = get_left xs ys k (omega arith)

  pub get_end : (xs : List A) (y : A) (k : ℕ) → k ≡ length xs → slice_get (xs ++ y ∷ []) k ≡ Some y
  get_end [] y zero e = refl
  get_end [] y (suc k) e = absurd (omega arith)
  get_end (x ∷ xs) y zero e = absurd (omega arith)
  get_end (x ∷ xs) y (suc k) e = get_end xs y k (omega arith)

  -- an item of the list with one more
  pub in_more : (xs : List A) (y : A) (k : ℕ) (x : A) → slice_get (xs ++ y ∷ []) k ≡ Some x → ((k < length xs) × (slice_get xs k ≡ Some x)) ⊎ ((k ≡ length xs) × (x ≡ y))
  in_more xs y k x e = elim (cases_lt k (length xs)) [
    | inl low ↦ inl (low, sym (get_left xs (y ∷ []) k low) ∙ e)
    | inr high ↦ elim (cases_eq k (length xs)) [
      | inl same ↦ inr (same, some_is x y (sym e ∙ get_end xs y k same))
      | inr other ↦
          let within = slice_get_within (xs ++ y ∷ []) k x e in
          absurd (omega (arith, length-append xs (y ∷ [])))
    ]
  ]

  module _ (node : A → ℕ) (Holds : A → Type 0) where
    Before : A → A → Type 0
    Before a b = node a < node b

    grow_some : (k : ℕ) (xs : List A) (y : A) → ListsUpTo node Holds k xs → node y ≡ k → Holds y → ((b : A) → node b ≡ k → Holds b → Some y ≡ Some b) → ListsUpTo node Holds (k + 1) (xs ++ y ∷ [])
    grow_some k xs y h at holds only =
        record {
          ordered = λ j a b e f. elim (in_more xs y (j + 1) b f) [
            | inl low ↦ h.ordered j a b (sym (get_left xs (y ∷ []) j (omega (arith, low.0))) ∙ e) low.1
            | inr end ↦
                let here : slice_get xs j ≡ Some a = sym (get_left xs (y ∷ []) j (omega (arith, end.0))) ∙ e in
                let below : node a < k = (h.sound a (j, here)).1 in
                subst (λ x. node a < node x) (sym end.1) (omega arith)
          ];
          sound = λ x i. elim (in_more xs y i.0 x i.1) [
            | inl low ↦
                let s = h.sound x (i.0, low.1) in
                (s.0, omega (arith, s.1))
            | inr end ↦ (subst Holds (sym end.1) holds, subst (λ z. node z < k + 1) (sym end.1) (omega arith))
          ];
          complete = λ x hx low. elim (cases_eq (node x) k) [
            | inl same ↦
                let one : y ≡ x = some_is y x (only x same hx) in
                (length xs, subst (λ z. slice_get (xs ++ y ∷ []) (length xs) ≡ Some z) one (get_end xs y (length xs) refl))
            | inr other ↦
                let i = h.complete x hx (omega arith) in
                (i.0, get_left xs (y ∷ []) i.0 (slice_get_within xs i.0 x i.1) ∙ i.1)
          ];
        }

    grow_none : (k : ℕ) (xs : List A) → ListsUpTo node Holds k xs → ((b : A) → node b ≡ k → Holds b → None ≡ Some b) → ListsUpTo node Holds (k + 1) xs
    grow_none k xs h only =
        record {
          ordered = h.ordered;
          sound = λ x i.
              let s = h.sound x i in
              (s.0, omega (arith, s.1));
          complete = λ x hx low. elim (cases_eq (node x) k) [
            | inl same ↦
                let none = only x same hx in
                absurd (cc)
            | inr other ↦ h.complete x hx (omega arith)
          ];
        }

    pub grow : (k : ℕ) (xs : List A) (o : Option A) → ListsUpTo node Holds k xs → ((b : A) → o ≡ Some b → (node b ≡ k) × Holds b) → ((b : A) → node b ≡ k → Holds b → o ≡ Some b) → ListsUpTo node Holds (k + 1) (added xs o)
    grow k xs None h sound complete = grow_none k xs h complete
    grow k xs (Some y) h sound complete =
        let s = sound y refl in
        grow_some k xs y h s.0 s.1 complete

    pub none_yet : ListsUpTo node Holds 0 []
    none_yet =
        record {
          ordered = λ j a b e f. absurd (cc);
          sound = λ x i. absurd (nothing x i.0 i.1);
          complete = λ x h low. absurd (omega arith);
        }
      where
        nothing : (x : A) (k : ℕ) → slice_get [] k ≡ Some x → ⊥
        nothing x k e = cc

    pub all_listed : (k n : ℕ) (xs : List A) → n ≤ k → ListsUpTo node Holds k xs → ((x : A) → Holds x → node x < n) → ListsAll node Holds xs
    all_listed k n xs low h within =
        record { ordered = h.ordered; sound = λ x i. (h.sound x i).0; complete = λ x hx. h.complete x hx (omega (arith, within x hx)) }
