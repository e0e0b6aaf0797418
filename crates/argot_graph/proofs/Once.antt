-- A list that ascends, of which an item that is the one before it is passed over; over any items and order.
use Rattle.std.proofs.Common.{◌≡◌, ◌↔◌, ℕ, zero, suc, ◌+◌, ◌<◌, ◌++◌, ◌∷◌, [], List, Some, length, take, refl, sym, ap, ◌∙◌, inl, inr, arith, subst}
use Rattle.std.specs.List.{slice_get}
use Rattle.std.specs.Prelude.{◌⊎◌}
use Rattle.std.proofs.lemmas.Bool.{cases_lt}
use Rattle.std.proofs.lemmas.List.{length-append, take_more}
use Rattle.std.proofs.lemmas.Option.{get_or_from_slice_get}
use Rattle.argot_plain.specs.Lists.{In, here, there}
use Rattle.argot_facts.proofs.Listed.{In-append, In-left, In-right, in_of_get, get_within, get_at, get-append, take-get}
use Rattle.argot_facts.specs.Graphs.{IsOrdered}

-- each item is the one before it or stands behind it
abbrev pub Ascends : {A : Type 0} → (A → A → Type 0) → List A → Type 0
Ascends {A} R xs = (k : ℕ) (a b : A) → slice_get xs k ≡ Some a → slice_get xs (k + 1) ≡ Some b → (a ≡ b) ⊎ R a b

-- what is kept of the first k items
pub record AreKept {A : Type 0} (R : A → A → Type 0) (xs kept : List A) (k : ℕ) : Type 0 where
  pub ordered : IsOrdered R kept
  pub same : (e : A) → In e kept ↔ In e (take k xs)
  pub last : (j n : ℕ) (a b : A) → k ≡ j + 1 → slice_get xs j ≡ Some a → length kept ≡ n + 1 → slice_get kept n ≡ Some b → a ≡ b

-- the last item of a list that is one longer
last_of : {A : Type 0} (kept : List A) (b : A) (n : ℕ) (c : A) → n ≡ length kept → slice_get (kept ++ b ∷ []) n ≡ Some c → b ≡ c
last_of {A} kept b n c e h = elim (get-append kept (b ∷ []) n c h) [
  | inl f ↦ absurd (omega (arith, get_within kept n c f, e))
  | inr f ↦ alone f.0 f.1
]
  where
    alone : (t : ℕ) → slice_get (b ∷ []) t ≡ Some c → b ≡ c
    alone zero g = cc
    alone (suc t) g = absurd cc

within : {A : Type 0} (kept : List A) (b : A) (n : ℕ) (c : A) → n < length kept → slice_get (kept ++ b ∷ []) n ≡ Some c → slice_get kept n ≡ Some c
within kept b n c l h = elim (get-append kept (b ∷ []) n c h) [ inl f ↦ f | inr f ↦ absurd (omega (arith, f.2, l)) ]

more_of : {A : Type 0} (xs : List A) (k : ℕ) (b : A) → slice_get xs k ≡ Some b → take (k + 1) xs ≡ take k xs ++ b ∷ []
more_of xs k b g = take_more xs k b (get_within xs k b g) ∙ ap (λ x. take k xs ++ x ∷ []) (get_or_from_slice_get xs k b b g)

module _ {A : Type 0} (R : A → A → Type 0) (xs kept : List A) (k : ℕ) (b : A) (ascend : Ascends R xs) (at : slice_get xs k ≡ Some b) (i : AreKept R xs kept k) where
  -- the item stands behind the last one that is kept
  behind_last : ((j : ℕ) → k ≡ j + 1 → slice_get xs j ≡ slice_get xs k → ⊥) → (m : ℕ) (a : A) → m + 1 ≡ length kept → slice_get kept m ≡ Some a → R a b
  behind_last new m a e g = by k refl
    where
      by : (n : ℕ) → k ≡ n → R a b
      by zero z = (let h : In a (take 0 xs) = subst (λ n. In a (take n xs)) z ((i.same a).0 (in_of_get kept m a g)) in elim h [ ])
      by (suc j) z =
          let e' : k ≡ j + 1 = omega (arith, z) in
          let there = get_at xs j (omega (arith, get_within xs k b at, z)) in
          let same : there.0 ≡ a = i.last j m there.0 a e' there.1 (sym e) g in
          elim (ascend j there.0 b there.1 (ap (slice_get xs) (sym e') ∙ at)) [
            | inl one ↦ absurd (new j e' (there.1 ∙ ap Some one ∙ sym at))
            | inr before ↦ subst (λ x. R x b) same before
          ]

  pub pushed : ((j : ℕ) → k ≡ j + 1 → slice_get xs j ≡ slice_get xs k → ⊥) → AreKept R xs (kept ++ b ∷ []) (k + 1)
  pushed new =
      let long : length (kept ++ b ∷ []) ≡ length kept + 1 = length-append kept (b ∷ []) in
      record {
        ordered = λ m x y gx gy.
            let short = get_within (kept ++ b ∷ []) (m + 1) y gy in
            elim (cases_lt (m + 1) (length kept)) [
              | inl l ↦ i.ordered m x y (within kept b m x (omega arith) gx) (within kept b (m + 1) y l gy)
              | inr l ↦
                  let e : m + 1 ≡ length kept = omega (arith, short, long) in
                  subst (R x) (last_of kept b (m + 1) y e gy) (behind_last new m x e (within kept b m x (omega arith) gx))
            ];
        same = λ e. (
          λ h. subst (In e) (sym (more_of xs k b at)) (elim (In-append e kept (b ∷ []) h) [ inl x ↦ In-left e (take k xs) (b ∷ []) ((i.same e).0 x) | inr x ↦ In-right e (take k xs) (b ∷ []) x ]),
          λ h. elim (In-append e (take k xs) (b ∷ []) (subst (In e) (more_of xs k b at) h)) [ inl x ↦ In-left e kept (b ∷ []) ((i.same e).1 x) | inr x ↦ In-right e kept (b ∷ []) x ],
        );
        last = λ j n x y e gx count gy.
            let f : j ≡ k = omega arith in
            let z : Some x ≡ Some b = sym gx ∙ ap (slice_get xs) f ∙ at in
            let w : x ≡ b = cc in
            w ∙ last_of kept b n y (omega (arith, count, long)) gy;
      }

  pub skipped : (j : ℕ) × (k ≡ j + 1) × (slice_get xs j ≡ slice_get xs k) → AreKept R xs kept (k + 1)
  skipped old =
      let j = old.0 in
      let before : slice_get xs j ≡ Some b = old.2 ∙ at in
      let there : In b (take k xs) = in_of_get (take k xs) j b (take-get k xs j b (omega (arith, old.1)) before) in
      record {
        ordered = i.ordered;
        same = λ e. (
          λ h. subst (In e) (sym (more_of xs k b at)) (In-left e (take k xs) (b ∷ []) ((i.same e).0 h)),
          λ h. (i.same e).1 (elim (In-append e (take k xs) (b ∷ []) (subst (In e) (more_of xs k b at) h)) [ inl x ↦ x | inr x ↦ subst (λ y. In y (take k xs)) (sym (only e x)) there ]),
        );
        last = λ m n x y e gx count gy.
            let f : m ≡ k = omega arith in
            let z : Some x ≡ Some b = sym gx ∙ ap (slice_get xs) f ∙ at in
            let w : x ≡ b = cc in
            i.last j n x y old.1 (before ∙ ap Some (sym w)) count gy;
      }
    where
      only : (e : A) → In e (b ∷ []) → e ≡ b
      only e (here x) = x
      only e (there x) = elim x [ ]

pub nothing : {A : Type 0} (R : A → A → Type 0) (xs : List A) → AreKept R xs [] 0
nothing R xs = record { ordered = λ m x y gx gy. absurd cc; same = λ e. (λ h. h, λ h. h); last = λ j n x y e gx count gy. absurd (omega arith) }
