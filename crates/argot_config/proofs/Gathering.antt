-- Items that are gathered in order: none, one more, and one that is passed over.
use Rattle.std.proofs.Common.{◌≡◌, ℕ, ◌+◌, ◌<◌, List, [], ◌∷◌, ◌++◌, ◌⊎◌, inl, inr, get_or, ap, arith}
use Rattle.std.proofs.lemmas.Bool.{cases_lt}
use Rattle.std.proofs.lemmas.List.Quantifiers.{all_pairs_push}
use Rattle.argot_config.specs.Marking.{Gathers}
use Rattle.argot_config.proofs.Members.{in_none, in_push, in_last, in_pushed, in_at}

below-or-last : (a b : ℕ) → a < b + 1 → (a < b) ⊎ (a ≡ b)
below-or-last a b h = elim (cases_lt a b) [ inl less ↦ inl less | inr more ↦ inr (omega arith) ]

pub gathers_none : {A : Type 0} (number : A → ℕ) (Q : A → Type 0) → Gathers number Q 0 []
gathers_none number Q =
    record {
      ascending = λ i j d b w. absurd (omega arith);
      below = λ x m. absurd (in_none x m);
      only = λ x m. absurd (in_none x m);
      all = λ x b q. absurd (omega arith);
    }

-- an item behind the others
pub gathers_push : {A : Type 0} (number : A → ℕ) (Q : A → Type 0) (n : ℕ) (found : List A) (x : A) → Gathers number Q n found → number x ≡ n → Q x
    → ((y : A) → number y ≡ n → Q y → y ≡ x) → Gathers number Q (n + 1) (found ++ x ∷ [])
gathers_push {A} number Q n found x g is q one =
    record {
      ascending = all_pairs_push (λ a b. number a < number b) found x g.ascending (λ k d w. let b = g.below (get_or found k d) (in_at found k d w) in omega arith);
      below = λ y m. elim (in_pushed y x found m) [ inl before ↦ let b = g.below y before in omega arith | inr last ↦ let e : number y ≡ number x = ap number last in omega arith ];
      only = λ y m. elim (in_pushed y x found m) [ inl before ↦ g.only y before | inr last ↦ rw last q ];
      all = λ y b p. elim (below-or-last (number y) n b) [ inl less ↦ in_push y x found (g.all y less p) | inr same ↦ rw (one y same p) (in_last x found) ];
    }

-- no item has the number
pub gathers_skip : {A : Type 0} (number : A → ℕ) (Q : A → Type 0) (n : ℕ) (found : List A) → Gathers number Q n found → ((y : A) → number y ≡ n → Q y → ⊥)
    → Gathers number Q (n + 1) found
gathers_skip number Q n found g none =
    record {
      ascending = g.ascending;
      below = λ y m. let b = g.below y m in omega arith;
      only = g.only;
      all = λ y b p. elim (below-or-last (number y) n b) [ inl less ↦ g.all y less p | inr same ↦ absurd (none y same p) ];
    }
