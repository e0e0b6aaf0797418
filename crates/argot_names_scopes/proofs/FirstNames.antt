-- The first names grow by one item after the other.
use Rattle.std.proofs.Common.{◌≡◌, ℕ, ◌+◌, ◌<◌, ◌≤◌, List, Option, Some, None, inl, inr, refl, sym, ◌∙◌, subst, arith}
use Rattle.std.specs.Prelude.{slice_get}
use Rattle.std.proofs.lemmas.Bool.{cases_eq}
use Rattle.argot_tree.specs.declared.token.Token.{Token}
use Rattle.argot_names_blocks.specs.declared.binding.Binding.{Binding}
use Rattle.argot_files.proofs.Listed.{some_is}
use Rattle.argot_names_scopes.specs.Texts.{text_in}
use Rattle.argot_names_scopes.specs.Tables.{IsNamed, IsFirstNamed}

module _ (bytes : List ℕ) (tokens : List Token) (brought : List Binding) where
  same_item : (o : ℕ) (t : List ℕ) (k j : ℕ) (b c : Binding) → slice_get brought k ≡ Some b → j ≡ k → IsNamed bytes tokens brought o t j c → b ≡ c
  same_item o t k j b c e same n = some_is b c (sym e ∙ subst (λ x. slice_get brought x ≡ Some c) same n.there)

  -- item k isn't the first
  pub still : (o : ℕ) (t : List ℕ) (k : ℕ) (r : Option ℕ) (b : Binding) → IsFirstNamed bytes tokens brought o t k r → slice_get brought k ≡ Some b
      → (b.opens ≡ o → text_in bytes tokens b.token ≡ t → (j : ℕ) × (c : Binding) × (r ≡ Some j) × (slice_get brought j ≡ Some c) × (c.token ≤ b.token)) → IsFirstNamed bytes tokens brought o t (k + 1) r
  still o t k r b h e low =
      record {
        there = λ i f.
            let w = h.there i f in
            (w.0, omega (arith, w.1), w.2);
        first = λ i j c other f g l n. elim (cases_eq j k) [
          | inl same ↦
              let one : b ≡ other = same_item o t k j b other e same n in
              let d = low (subst (λ (x : Binding). x.opens ≡ o) (sym one) n.block) (subst (λ (x : Binding). text_in bytes tokens x.token ≡ t) (sym one) n.spells) in
              let number : d.0 ≡ i = some_is d.0 i (sym d.2 ∙ f) in
              let that : c ≡ d.1 = some_is c d.1 (sym g ∙ subst (λ x. slice_get brought x ≡ Some d.1) number d.3) in
              subst (λ (x : Binding). x.token ≤ other.token) (sym that) (subst (λ (x : Binding). d.1.token ≤ x.token) one d.4)
          | inr apart ↦ h.first i j c other f g (omega arith) n
        ];
        least = λ i j c other f g l n at. elim (cases_eq j k) [
          | inl same ↦ omega (arith, same, (h.there i f).1)
          | inr apart ↦ h.least i j c other f g (omega arith) n at
        ];
        none = λ j other f l n. elim (cases_eq j k) [
          | inl same ↦
              let one : b ≡ other = same_item o t k j b other e same n in
              let d = low (subst (λ (x : Binding). x.opens ≡ o) (sym one) n.block) (subst (λ (x : Binding). text_in bytes tokens x.token ≡ t) (sym one) n.spells) in
              let is = d.2 in
              absurd (cc (f, is))
          | inr apart ↦ h.none j other f (omega arith) n
        ];
      }

  -- item k is
  pub now_first : (o : ℕ) (t : List ℕ) (k : ℕ) (r : Option ℕ) (b : Binding) → IsFirstNamed bytes tokens brought o t k r → slice_get brought k ≡ Some b → b.opens ≡ o → text_in bytes tokens b.token ≡ t
      → ((j : ℕ) (c : Binding) → r ≡ Some j → slice_get brought j ≡ Some c → b.token < c.token) → IsFirstNamed bytes tokens brought o t (k + 1) (Some k)
  now_first o t k r b h e block spells low =
      record {
        there = λ i f. (b, omega (arith, some_is k i f), subst (λ x. IsNamed bytes tokens brought o t x b) (some_is k i f) (record { there = e; block = block; spells = spells }));
        first = λ i j c other f g l n.
            let that : b ≡ c = some_is b c (sym e ∙ subst (λ x. slice_get brought x ≡ Some c) (sym (some_is k i f)) g) in
            subst (λ (x : Binding). x.token ≤ other.token) that (elim (cases_eq j k) [
              | inl same ↦
                  let one : b ≡ other = same_item o t k j b other e same n in
                  let token : b.token ≡ other.token = (λ i. (one i).token) in
                  omega (arith, token)
              | inr apart ↦ let behind = before r refl j other (omega arith) n in omega (arith, behind)
            ]);
        least = λ i j c other f g l n at.
            let that : b ≡ c = some_is b c (sym e ∙ subst (λ x. slice_get brought x ≡ Some c) (sym (some_is k i f)) g) in
            let token : b.token ≡ other.token = subst (λ (x : Binding). x.token ≡ other.token) (sym that) at in
            elim (cases_eq j k) [
              | inl same ↦ omega (arith, same, some_is k i f)
              | inr apart ↦ let behind = before r refl j other (omega arith) n in absurd (omega (arith, behind, token))
            ];
        none = λ j other f l n. absurd (cc);
      }
    where
      before : (q : Option ℕ) → r ≡ q → (j : ℕ) (other : Binding) → j < k → IsNamed bytes tokens brought o t j other → b.token < other.token
      before None q j other l n = absurd (h.none j other q l n)
      before (Some i) q j other l n =
          let w = h.there i q in
          omega (arith, low i w.0 q w.2.there, h.first i j w.0 other q w.2.there l n)

  pub no_items : (o : ℕ) (t : List ℕ) (r : Option ℕ) → r ≡ None → IsFirstNamed bytes tokens brought o t 0 r
  no_items o t r is = record { there = λ k e. absurd (cc (e, is)); first = λ k j b other e g l n. absurd (omega (arith, l)); least = λ k j b other e g l n at. absurd (omega (arith, l)); none = λ j other e l n. absurd (omega (arith, l)) }
