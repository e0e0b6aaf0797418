-- Lists that gain what has a property.
use Rattle.std.proofs.Common.{◌⊎◌, inl, inr, List}
use Rattle.argot_answers.specs.Answers.{Adds}

module _ {A : Type 0} where
  -- nothing has it, and nothing is added
  pub adds_nothing : (Holds : A → Type 0) (xs : List A) → ((x : A) → Holds x → ⊥) → Adds Holds xs xs
  adds_nothing Holds xs none = record { kept = λ x i. i; added = λ x h. absurd (none x h); only = λ x i. inl i }

  -- first what has the one property is added, then what has the other
  pub adds_both : (P Q : A → Type 0) (xs ys zs : List A) → Adds P xs ys → Adds Q ys zs → Adds (λ x. P x ⊎ Q x) xs zs
  adds_both P Q xs ys zs a b =
      record {
        kept = λ x i. b.kept x (a.kept x i);
        added = λ x h. elim h [ inl p ↦ b.kept x (a.added x p) | inr q ↦ b.added x q ];
        only = λ x i. elim (b.only x i) [
          | inl j ↦ elim (a.only x j) [ inl k ↦ inl k | inr p ↦ inr (inl p) ]
          | inr q ↦ inr (inr q)
        ];
      }

  -- what is added for a property is added for another one which says the same
  pub adds_as : (P Q : A → Type 0) (xs ys : List A) → ((x : A) → P x → Q x) → ((x : A) → Q x → P x) → Adds P xs ys → Adds Q xs ys
  adds_as P Q xs ys to from a =
      record {
        kept = a.kept;
        added = λ x h. a.added x (from x h);
        only = λ x i. elim (a.only x i) [ inl j ↦ inl j | inr p ↦ inr (to x p) ];
      }
