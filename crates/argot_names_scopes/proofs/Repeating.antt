-- The first place grows by one item after the other.
use Rattle.std.proofs.Common.{◌≡◌, ℕ, ◌+◌, ◌≤◌, List, Bool, true, false, Option, Some, None, inl, inr, refl, sym, ◌∙◌, subst, arith}
use Rattle.std.specs.Prelude.{◌⊎◌, slice_get, nat_le, if◌then◌else◌}
use Rattle.std.proofs.lemmas.Bool.{cases_eq}
use Rattle.std.proofs.lemmas.Bool.Decides.{nat_tests}
use Rattle.argot_tree.specs.declared.token.Token.{Token}
use Rattle.argot_names_blocks.specs.declared.binding.Binding.{Binding}
use Rattle.argot_files.proofs.Listed.{some_is}
use Rattle.argot_names_scopes.specs.Again.{IsAgainIn, start_of, smaller, sooner_of, IsAgainAt, IsFirstAgain}

smaller_low : (a b : ℕ) → (smaller a b ≤ a) × (smaller a b ≤ b)
smaller_low a b = (grind (arith, nat_tests), grind (arith, nat_tests))

smaller_one : (a b : ℕ) → (smaller a b ≡ a) ⊎ (smaller a b ≡ b)
smaller_one a b = go (nat_le a b)
  where
    go : (x : Bool) → ((if x then a else b) ≡ a) ⊎ ((if x then a else b) ≡ b)
    go true = inl refl
    go false = inr refl

module _ (bytes : List ℕ) (tokens : List Token) (brought : List Binding) where
  abbrev At : ℕ → ℕ → Type 0
  At = IsAgainAt bytes tokens brought

  -- item k isn't declared again
  pub no_more : (k : ℕ) (first : Option ℕ) → IsFirstAgain bytes tokens brought k first → ((offset : ℕ) → At k offset → ⊥) → IsFirstAgain bytes tokens brought (k + 1) first
  no_more k first h none =
      record {
        there = λ o e.
            let t = h.there o e in
            (t.0, omega (arith, t.1), t.2);
        first = λ o other j e low a. elim (cases_eq j k) [
          | inl same ↦ absurd (none other (subst (λ x. At x other) same a))
          | inr apart ↦ h.first o other j e (omega arith) a
        ];
        none = λ other j e low a. elim (cases_eq j k) [
          | inl same ↦ none other (subst (λ x. At x other) same a)
          | inr apart ↦ h.none other j e (omega arith) a
        ];
      }

  -- item k is, at this offset
  one_more : (k : ℕ) (first : Option ℕ) (b : ℕ) → IsFirstAgain bytes tokens brought k first → At k b → ((other : ℕ) → At k other → other ≡ b) → IsFirstAgain bytes tokens brought (k + 1) (sooner_of first (Some b))
  one_more k None b h a only =
      record {
        there = λ o e. (k, omega arith, subst (At k) (some_is b o e) a);
        first = λ o other j e low t. elim (cases_eq j k) [
          | inl same ↦ omega (arith, some_is b o e, only other (subst (λ x. At x other) same t))
          | inr apart ↦ absurd (h.none other j refl (omega arith) t)
        ];
        none = λ other j e low t. absurd (cc);
      }
  one_more k (Some q) b h a only =
      record {
        there = λ o e. elim (smaller_one q b) [
          | inl is ↦
              let t = h.there q refl in
              (t.0, omega (arith, t.1), subst (At t.0) (sym is ∙ some_is (smaller q b) o e) t.2)
          | inr is ↦ (k, omega arith, subst (At k) (sym is ∙ some_is (smaller q b) o e) a)
        ];
        first = λ o other j e low t.
            let small = smaller_low q b in
            let same_o = some_is (smaller q b) o e in
            elim (cases_eq j k) [
              | inl same ↦ omega (arith, small.1, same_o, only other (subst (λ x. At x other) same t))
              | inr apart ↦ omega (arith, small.0, same_o, h.first q other j refl (omega arith) t)
            ];
        none = λ other j e low t. absurd (cc);
      }

  -- with item k
  pub more : (k : ℕ) (first : Option ℕ) (item : Binding) (o : Option ℕ) → IsFirstAgain bytes tokens brought k first → slice_get brought k ≡ Some item → IsAgainIn bytes tokens brought item → start_of (slice_get tokens item.token) ≡ o → IsFirstAgain bytes tokens brought (k + 1) (sooner_of first o)
  more k first item None h e again begins =
      no_more k first h (λ offset a.
      let same = some_is a.item item (sym a.there ∙ e) in
      let here : start_of (slice_get tokens item.token) ≡ Some offset = subst (λ x. start_of (slice_get tokens x.token) ≡ Some offset) same a.begins in
      absurd (cc))
  more k first item (Some b) h e again begins =
      one_more k first b h (record { item = item; there = e; again = again; begins = begins }) (λ other a.
      let same = some_is a.item item (sym a.there ∙ e) in
      let here : start_of (slice_get tokens item.token) ≡ Some other = subst (λ x. start_of (slice_get tokens x.token) ≡ Some other) same a.begins in
      cc)
