-- Tests: a `bool` that is true exactly where a claim holds.
use Rattle.std.proofs.Common.{◌≡◌, Bool, true, false, not, refl}
use Rattle.std.specs.Prelude.{◌↔◌, IsTrue}

-- the claim holds, and the answer is yes
pub yes_iff : {P : Type 0} → P → IsTrue true ↔ P
yes_iff p = (λ _. p, λ _. refl)

-- it doesn't hold, and the answer is no
pub no_iff : {P : Type 0} → (P → ⊥) → IsTrue false ↔ P
no_iff none = (λ t. absurd (cc), λ p. absurd (none p))

-- the answer is yes, so it holds; the answer is no, so it doesn't
pub iff_yes : {P : Type 0} (b : Bool) → b ≡ true → (IsTrue b ↔ P) → P
iff_yes b e h = h.0 e

pub iff_no : {P : Type 0} (b : Bool) → b ≡ false → (IsTrue b ↔ P) → P → ⊥
iff_no b e h p = let t = h.1 p in absurd (cc)

-- the claim is another one which says the same
pub iff_trans : {P Q R : Type 0} → (P ↔ Q) → (Q ↔ R) → P ↔ R
iff_trans a b = (λ p. b.0 (a.0 p), λ r. a.1 (b.1 r))

-- the answer is turned round
pub not_iff : {P Q : Type 0} (b : Bool) → (IsTrue b ↔ P) → ((P → ⊥) → Q) → (P → Q → ⊥) → IsTrue (not b) ↔ Q
not_iff true h to from = (λ t. absurd (cc), λ q. absurd (from (h.0 refl) q))
not_iff false h to from = (λ _. to (λ p. let t = h.1 p in absurd (cc)), λ _. refl)
