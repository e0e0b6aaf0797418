-- Lists of numbers of nodes with a property.
use Rattle.std.proofs.Common.{◌≡◌, ◌↔◌, ℕ, ◌+◌, ◌<◌, ◌++◌, ◌∷◌, [], List, Some, sym, ap, ◌∙◌, subst, inl, inr, arith}
use Rattle.std.specs.List.{slice_get}
use Rattle.std.proofs.lemmas.Bool.{cases_lt}
use Rattle.argot_plain.specs.Lists.{In, here, there}
use Rattle.argot_facts.proofs.Listed.{In-append, In-left, In-right}
use Rattle.argot_facts.specs.declared.nodes.Node.{Node}
use Rattle.argot_flow_ends.specs.declared.lists.End.{End}

only_one : {A : Type 0} (x y : A) → In x (y ∷ []) → x ≡ y
only_one x y (here e) = e
only_one x y (there m) = elim m [ ]

module _ (ns : List Node) (n : ℕ) (b : Node) (at : slice_get ns n ≡ Some b) where
  same_node : (m : ℕ) (a : Node) → m ≡ n → slice_get ns m ≡ Some a → a ≡ b
  same_node m a e g = let z : Some a ≡ Some b = sym g ∙ ap (slice_get ns) e ∙ at in cc

  module _ (P : Node → Type 0) (xs : List ℕ) (before : (m : ℕ) → In m xs ↔ ((a : Node) × (slice_get ns m ≡ Some a) × P a × (m < n))) where
    pub number_put : P b → (m : ℕ) → In m (xs ++ n ∷ []) ↔ ((a : Node) × (slice_get ns m ≡ Some a) × P a × (m < n + 1))
    number_put has m = (
      λ h. elim (In-append m xs (n ∷ []) h) [
        | inl x ↦ let r = (before m).0 x in (r.0, r.1, r.2, omega (arith, r.3))
        | inr x ↦ let e = only_one m n x in (b, ap (slice_get ns) e ∙ at, has, omega (arith, e))
      ],
      λ h. elim (cases_lt m n) [
        | inl l ↦ In-left m xs (n ∷ []) ((before m).1 (h.0, h.1, h.2, l))
        | inr l ↦ In-right m xs (n ∷ []) (here (omega (arith, h.3, l)))
      ],
    )

    pub number_kept : (P b → ⊥) → (m : ℕ) → In m xs ↔ ((a : Node) × (slice_get ns m ≡ Some a) × P a × (m < n + 1))
    number_kept none m = (
      λ h. let r = (before m).0 h in (r.0, r.1, r.2, omega (arith, r.3)),
      λ h. elim (cases_lt m n) [
        | inl l ↦ (before m).1 (h.0, h.1, h.2, l)
        | inr l ↦ absurd (none (subst P (same_node m h.0 (omega (arith, h.3, l)) h.1) h.2))
      ],
    )

  module _ (P : Node → ℕ → Type 0) (xs : List End) (before : (e : End) → In e xs ↔ ((a : Node) × (slice_get ns e.node ≡ Some a) × P a e.arg × (e.node < n))) where
    pub end_put : (k : ℕ) → P b k → ((j : ℕ) → P b j → j ≡ k) → (e : End)
        → In e (xs ++ record { node = n; arg = k } ∷ []) ↔ ((a : Node) × (slice_get ns e.node ≡ Some a) × P a e.arg × (e.node < n + 1))
    end_put k has once e = (
      λ h. elim (In-append e xs (record { node = n; arg = k } ∷ []) h) [
        | inl x ↦ let r = (before e).0 x in (r.0, r.1, r.2, omega (arith, r.3))
        | inr x ↦
            let s = only_one e (record { node = n; arg = k }) x in
            (b, ap (λ (d : End). slice_get ns d.node) s ∙ at, subst (P b) (sym (ap (λ (d : End). d.arg) s)) has, (let z : e.node ≡ n = ap (λ (d : End). d.node) s in omega (arith, z)))
      ],
      λ h. elim (cases_lt e.node n) [
        | inl l ↦ In-left e xs (record { node = n; arg = k } ∷ []) ((before e).1 (h.0, h.1, h.2, l))
        | inr l ↦
            let same : e.node ≡ n = omega (arith, h.3, l) in
            let arg : e.arg ≡ k = once e.arg (subst (λ a. P a e.arg) (same_node e.node h.0 same h.1) h.2) in
            In-right e xs (record { node = n; arg = k } ∷ []) (here (ap (λ m. record { node = m; arg = e.arg }) same ∙ ap (λ j. record { node = n; arg = j }) arg))
      ],
    )

    pub end_kept : ((k : ℕ) → P b k → ⊥) → (e : End) → In e xs ↔ ((a : Node) × (slice_get ns e.node ≡ Some a) × P a e.arg × (e.node < n + 1))
    end_kept none e = (
      λ h. let r = (before e).0 h in (r.0, r.1, r.2, omega (arith, r.3)),
      λ h. elim (cases_lt e.node n) [
        | inl l ↦ (before e).1 (h.0, h.1, h.2, l)
        | inr l ↦ absurd (none e.arg (subst (λ a. P a e.arg) (same_node e.node h.0 (omega (arith, h.3, l)) h.1) h.2))
      ],
    )
