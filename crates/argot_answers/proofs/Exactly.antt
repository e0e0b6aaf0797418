-- Answers that are given exactly where something has a property.
use Rattle.std.proofs.Common.{◌≡◌, Option, Some, None, refl, sym, ap, subst}
use Rattle.argot_answers.specs.Answers.{Exactly}

module _ {A : Type 0} (Holds : A → Type 0) where
  -- nothing has it
  pub exact_none : ((x : A) → Holds x → ⊥) → Exactly Holds None
  exact_none none = record { sound = λ x e. absurd (cc); complete = λ x h. absurd (none x h) }

  -- one thing has it, and whatever has it is this
  pub exact_some : (y : A) → Holds y → ((x : A) → Holds x → x ≡ y) → Exactly Holds (Some y)
  exact_some y holds one =
      record {
        sound = λ x e. let same : y ≡ x = cc in subst Holds same holds;
        complete = λ x h. ap (λ z. Some z) (sym (one x h));
      }

  -- what is answered has it
  pub exact_holds : (y : A) → Exactly Holds (Some y) → Holds y
  exact_holds y is = is.sound y refl

  -- where something is answered, nothing else has it
  pub exact_one : (y : A) → Exactly Holds (Some y) → (x : A) → Holds x → x ≡ y
  exact_one y is x h = let e : Some y ≡ Some x = is.complete x h in let same : y ≡ x = cc in sym same

  -- where nothing is answered, nothing has it
  pub exact_not : Exactly Holds None → (x : A) → Holds x → ⊥
  exact_not is x h = let e : None ≡ Some x = is.complete x h in absurd (cc)

-- the answer for a property is that for another one which says the same
pub exact_as : {A : Type 0} (P Q : A → Type 0) (o : Option A) → ((x : A) → P x → Q x) → ((x : A) → Q x → P x) → Exactly P o → Exactly Q o
exact_as P Q o to from is = record { sound = λ x e. to x (is.sound x e); complete = λ x h. is.complete x (from x h) }
