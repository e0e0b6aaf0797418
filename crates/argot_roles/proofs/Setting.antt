-- Flags that are set one after the other.
use Rattle.std.proofs.Common.{◌≡◌, ℕ, ◌++◌, ◌∷◌, [], ◌<◌, Bool, List, length, refl, sym, ◌∙◌, inl, inr, subst}
use Rattle.std.specs.Prelude.{◌⊎◌}
use Rattle.argot_plain.specs.Lists.{In, here, there}
use Rattle.argot_facts.specs.Marked.{IsSet}
use Rattle.argot_facts.proofs.Listed.{In-append, In-left, In-right}
use Rattle.argot_roles.specs.Marking.{Marks, AreMarked}

pub marks_none : (A : ℕ → Type 0) (a : List Bool) → ((m : ℕ) → A m → ⊥) → Marks A a a
marks_none A a none = record { count = refl; kept = λ m s. s; there = λ m x l. absurd (none m x); only = λ m s. inl s }

-- first those with the one property, then those with the other
pub marks_both : (A B C : ℕ → Type 0) (a b c : List Bool) → ((m : ℕ) → A m ⊎ B m → C m) → ((m : ℕ) → C m → A m ⊎ B m) → Marks A a b → Marks B b c → Marks C a c
marks_both A B C a b c to from v w = record {
  count = w.count ∙ v.count;
  kept = λ m s. w.kept m (v.kept m s);
  there = λ m x l. elim (from m x) [ inl y ↦ w.kept m (v.there m y l) | inr y ↦ w.there m y (subst (λ n. m < n) (sym v.count) l) ];
  only = λ m s. elim (w.only m s) [ inl t ↦ elim (v.only m t) [ inl u ↦ inl u | inr x ↦ inr (to m (inl x)) ] | inr x ↦ inr (to m (inr x)) ];
}

pub marks_as : (A B : ℕ → Type 0) (a b : List Bool) → ((m : ℕ) → A m → B m) → ((m : ℕ) → B m → A m) → Marks A a b → Marks B a b
marks_as A B a b to from v = record {
  count = v.count;
  kept = v.kept;
  there = λ m x. v.there m (from m x);
  only = λ m s. elim (v.only m s) [ inl t ↦ inl t | inr x ↦ inr (to m x) ];
}

-- one item more of a list
pub marks_more : (xs ys : List ℕ) (x : ℕ) (a b c : List Bool) → ys ≡ xs ++ x ∷ [] → Marks (λ m. In m xs) a b → Marks (λ m. m ≡ x) b c → Marks (λ m. In m ys) a c
marks_more xs ys x a b c e = marks_both (λ m. In m xs) (λ m. m ≡ x) (λ m. In m ys) a b c
    (λ m s. subst (In m) (sym e) (elim s [ inl h ↦ In-left m xs (x ∷ []) h | inr h ↦ In-right m xs (x ∷ []) (here h) ]))
    (λ m s. elim (In-append m xs (x ∷ []) (subst (In m) e s)) [ inl h ↦ inl h | inr h ↦ inr (only m h) ])
  where
    only : (m : ℕ) → In m (x ∷ []) → m ≡ x
    only m (here h) = h
    only m (there h) = elim h [ ]

-- over flags of which none is set
pub marked_afresh : (A : ℕ → Type 0) (n : ℕ) (a b : List Bool) → length a ≡ n → ((m : ℕ) → IsSet a m → ⊥) → Marks A a b → AreMarked A n b
marked_afresh A n a b l none v = record {
  count = v.count ∙ l;
  there = λ m x h. v.there m x (subst (λ k. m < k) (sym l) h);
  only = λ m s. elim (v.only m s) [ inl t ↦ absurd (none m t) | inr x ↦ x ];
}
