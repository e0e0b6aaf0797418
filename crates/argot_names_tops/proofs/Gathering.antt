-- Lists of names grow by what one item after the other gives.
use Rattle.std.proofs.Common.{◌≡◌, ℕ, ◌+◌, ◌<◌, inl, inr, List, [], ◌∷◌, ◌++◌, length, Option, Some, None, refl, sym, ap, ◌∙◌, subst, arith}
use Rattle.std.specs.Prelude.{slice_get, IfSome, IfNone}
use Rattle.std.specs.Option.{option_to_list}
use Rattle.std.proofs.lemmas.Bool.{cases_eq}
use Rattle.argot_names_imports.proofs.Lists.{get_last, get_before, get_either, get_below}
use Rattle.argot_names_tops.specs.declared.named.Named.{Named}
use Rattle.argot_names_tops.specs.Collecting.{IsGiven, AreGivenInOrder, AreCollected}

some_is : {A : Type 0} (x y : A) → Some x ≡ Some y → x ≡ y
some_is x y e = cc

module _ {A : Type 0} (Gives : ℕ → A → Named → Type 0) (xs : List A) where
  given_later : (count : ℕ) (n : Named) → IsGiven Gives xs count n → IsGiven Gives xs (count + 1) n
  given_later count n g = record { number = g.number; item = g.item; below = omega (arith, g.below); there = g.there; gives = g.gives }

  pub collected_none : (ys : List Named) → ys ≡ [] → AreCollected Gives xs 0 ys
  collected_none ys e =
      subst (AreCollected Gives xs 0) (sym e)
      (record { sound = λ k n at. absurd (cc); complete = λ j x n low at g. absurd (omega (arith, low)); ordered = λ i k a b low f g. absurd (cc) })

  -- the next item gives no name
  same : (count : ℕ) (x : A) (ys : List Named) → slice_get xs count ≡ Some x → AreCollected Gives xs count ys → ((n : Named) → Gives count x n → ⊥) → AreCollected Gives xs (count + 1) ys
  same count x ys there are none =
      record {
        sound = λ k n at. given_later count n (are.sound k n at);
        complete = λ j y n low at g. elim (cases_eq j count) [
          | inl e ↦
              let y_is : y ≡ x = some_is y x (sym at ∙ ap (slice_get xs) e ∙ there) in
              absurd (none n (subst (λ z. Gives count z n) y_is (subst (λ i. Gives i y n) e g)))
          | inr apart ↦ are.complete j y n (omega (arith, low, apart)) at g
        ];
        ordered = are.ordered;
      }

  -- it gives this one
  more : (count : ℕ) (x : A) (ys : List Named) (m : Named) → slice_get xs count ≡ Some x → AreCollected Gives xs count ys → Gives count x m → AreCollected Gives xs (count + 1) (ys ++ m ∷ [])
  more count x ys m there are gives =
      record {
        sound = λ k n at. elim (get_either ys m k n at) [
          | inl e ↦ given_later count n (are.sound k n e)
          | inr e ↦ record { number = count; item = x; below = omega arith; there = there; gives = subst (Gives count x) (sym e.1) gives }
        ];
        complete = λ j y n low at g. elim (cases_eq j count) [
          | inl e ↦
              let y_is : x ≡ y = some_is x y (sym there ∙ ap (slice_get xs) (sym e) ∙ at) in
              record { place = length ys; name = m; there = get_last ys m; gives = subst (λ i. Gives i y m) (sym e) (subst (λ z. Gives count z m) y_is gives) }
          | inr apart ↦
              let h = are.complete j y n (omega (arith, low, apart)) at g in
              record { place = h.place; name = h.name; there = get_before ys (m ∷ []) h.place h.name h.there; gives = h.gives }
        ];
        ordered = λ i k a b low f g. order i k a b low f g;
      }
    where
      order : (i k : ℕ) (a b : Named) → i < k → slice_get (ys ++ m ∷ []) i ≡ Some a → slice_get (ys ++ m ∷ []) k ≡ Some b → AreGivenInOrder Gives xs a b
      order i k a b low f g =
          elim (get_either ys m i a f) [
            | inl e ↦ elim (get_either ys m k b g) [
              | inl h ↦ are.ordered i k a b low e h
              | inr h ↦
                  let s = are.sound i a e in
                  record { one = s.number; other = count; x = s.item; y = x; before = s.below; x_there = s.there; y_there = there; a_is = s.gives; b_is = subst (Gives count x) (sym h.1) gives }
            ]
            | inr e ↦ elim (get_either ys m k b g) [
              | inl h ↦ absurd (omega (arith, low, e.0, get_below ys k b h))
              | inr h ↦ absurd (omega (arith, low, e.0, h.0))
            ]
          ]

  append_nil : (ys : List Named) → ys ++ [] ≡ ys
  append_nil [] = refl
  append_nil (y ∷ ys) = ap (λ zs. y ∷ zs) (append_nil ys)

  pub collected_more : (count : ℕ) (x : A) (ys new : List Named) (o : Option Named) → slice_get xs count ≡ Some x → AreCollected Gives xs count ys → IfSome o (Gives count x) → IfNone o ((n : Named) → Gives count x n → ⊥)
      → new ≡ ys ++ option_to_list o → AreCollected Gives xs (count + 1) new
  collected_more count x ys new None there are some none e = subst (AreCollected Gives xs (count + 1)) (sym (e ∙ append_nil ys)) (same count x ys there are none)
  collected_more count x ys new (Some m) there are some none e = subst (AreCollected Gives xs (count + 1)) (sym e) (more count x ys m there are some)
