-- A walk over a list, in search of an item with a property: whatever has it is still to come.
use Rattle.std.proofs.Common.{◌≡◌, zero, suc, List, [], ◌∷◌, refl, sym, subst}
use Rattle.std.specs.Prelude.{◌↔◌}
use Rattle.argot_answers.specs.Answers.{In}

-- what is left is of what is gone over, and whatever of it has the property is left
pub record IsLeft {A : Type 0} (Among Has : A → Type 0) (left : List A) : Type 0 where
  pub sound : (x : A) → In x left → Among x
  pub complete : (x : A) → Among x → Has x → In x left

module _ {A : Type 0} (Among Has : A → Type 0) where
  -- at the beginning
  pub walk_starts : (xs left : List A) → left ≡ xs → ((x : A) → In x xs ↔ Among x) → IsLeft Among Has left
  walk_starts xs left e each =
      subst (IsLeft Among Has) (sym e) (record { sound = λ x. (each x).0; complete = λ x a h. (each x).1 a })

  -- where an item is used
  pub walk_at : (left rest : List A) (x : A) → left ≡ x ∷ rest → IsLeft Among Has left → Among x
  walk_at left rest x e l = l.sound x (subst (In x) (sym e) (zero, refl))

  -- at the turn, where the item hasn't the property
  pub walk_on : (left rest : List A) (x : A) → left ≡ x ∷ rest → IsLeft Among Has left → (Has x → ⊥) → IsLeft Among Has rest
  walk_on left rest x e l none =
      record {
        sound = λ y i. l.sound y (subst (In y) (sym e) (suc i.0, i.1));
        complete = λ y a h. behind y h (subst (In y) e (l.complete y a h));
      }
    where
      behind : (y : A) → Has y → In y (x ∷ rest) → In y rest
      behind y h (zero, f) = let same : x ≡ y = cc in absurd (none (subst Has (sym same) h))
      behind y h (suc k, f) = (k, f)

  -- behind the loop
  pub walk_ends : (left : List A) → left ≡ [] → IsLeft Among Has left → (x : A) → Among x → Has x → ⊥
  walk_ends left e l x a h = let i = subst (In x) e (l.complete x a h) in absurd (cc (i.1))
