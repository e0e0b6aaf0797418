-- The least thing with a property.
use Rattle.std.proofs.Common.{◌≡◌, ◌⊎◌, inl, inr, Option, Some, None, refl, sym, subst}
use Rattle.argot_answers.specs.Answers.{Least}

module _ {A : Type 0} (Before : A → A → Type 0) where
  -- nothing has it
  pub least_none : (Holds : A → Type 0) → ((y : A) → Holds y → ⊥) → Least Before Holds None
  least_none Holds none = record { sound = λ x e. absurd (cc); least = λ x y e. absurd (cc); none = λ _. none }

  -- one thing has it, and none before it has
  pub least_some : (Holds : A → Type 0) (x : A) → Holds x → ((y : A) → Holds y → Before y x → ⊥) → Least Before Holds (Some x)
  least_some Holds x holds first =
      record {
        sound = λ y e. let same : x ≡ y = cc in subst Holds same holds;
        least = λ z y e h b. let same : x ≡ z = cc in first y h (subst (Before y) (sym same) b);
        none = λ e. absurd (cc);
      }

  -- the answer for a property is that for another one which says the same
  pub least_as : (P Q : A → Type 0) (o : Option A) → ((x : A) → P x → Q x) → ((x : A) → Q x → P x) → Least Before P o → Least Before Q o
  least_as P Q o to from is =
      record {
        sound = λ x e. to x (is.sound x e);
        least = λ x y e h. is.least x y e (from y h);
        none = λ e y h. is.none e y (from y h);
      }

  module _ (P Q : A → Type 0) where
    -- of two searches one found nothing
    pub least_left : (o : Option A) → Least Before P o → Least Before Q None → Least Before (λ x. P x ⊎ Q x) o
    least_left o p q = least_as P (λ x. P x ⊎ Q x) o (λ x h. inl h) (λ x h. elim h [ inl a ↦ a | inr b ↦ absurd (q.none refl x b) ]) p

    pub least_right : (o : Option A) → Least Before P None → Least Before Q o → Least Before (λ x. P x ⊎ Q x) o
    least_right o p q = least_as Q (λ x. P x ⊎ Q x) o (λ x h. inr h) (λ x h. elim h [ inl a ↦ absurd (p.none refl x a) | inr b ↦ b ]) q

    -- both found something: the answer is the one that doesn't come behind the other
    pub least_first : (x y : A) → Least Before P (Some x) → Least Before Q (Some y) → ((z : A) → Before z x → Before z y) → Least Before (λ z. P z ⊎ Q z) (Some x)
    least_first x y p q ahead =
        least_some (λ z. P z ⊎ Q z) x (inl (p.sound x refl)) (λ z h b. elim h [ inl a ↦ p.least x z refl a b | inr c ↦ q.least y z refl c (ahead z b) ])

    pub least_second : (x y : A) → Least Before P (Some x) → Least Before Q (Some y) → ((z : A) → Before z y → Before z x) → Least Before (λ z. P z ⊎ Q z) (Some y)
    least_second x y p q ahead =
        least_some (λ z. P z ⊎ Q z) y (inr (q.sound y refl)) (λ z h b. elim h [ inl a ↦ p.least x z refl a (ahead z b) | inr c ↦ q.least y z refl c b ])
