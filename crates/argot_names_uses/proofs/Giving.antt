-- Lists of items grow by what one number after the other gives.
use Rattle.std.proofs.Common.{◌≡◌, ℕ, ◌+◌, inl, inr, List, [], ◌∷◌, ◌++◌, length, sym, subst, arith}
use Rattle.std.specs.Prelude.{◌⊎◌}
use Rattle.std.proofs.lemmas.Bool.{cases_eq}
use Rattle.argot_names_imports.proofs.Lists.{get_last, get_before, get_behind, in_either, nothing_in, in_two}
use Rattle.argot_names_rules.specs.Files.{SourceFiles}
use Rattle.argot_names_imports.specs.declared.reached.Reached.{Reached}
use Rattle.argot_names_imports.specs.Numbers.{IsOfNumber}
use Rattle.argot_names_uses.specs.declared.item.Item.{Item}
use Rattle.argot_names_uses.specs.Items.{Claim, Either, IsDeclaredBy, IsMade, HasItem, AreItems, AreGiven}

pub has_before : (items more : List Item) (owner number : ℕ) (name : List ℕ) → HasItem items owner number name → HasItem (items ++ more) owner number name
has_before items more owner number name i = record { place = i.place; item = i.item; there = get_before items more i.place i.item i.there; made = i.made }

pub has_behind : (items more : List Item) (owner number : ℕ) (name : List ℕ) → HasItem more owner number name → HasItem (items ++ more) owner number name
has_behind items more owner number name i = record { place = length items + i.place; item = i.item; there = get_behind items more i.place i.item i.there; made = i.made }

module _ (Gives : ℕ → Item → Type 0) where
  pub given_none : (items : List Item) → items ≡ [] → AreGiven Gives 0 items
  given_none items e =
      subst (AreGiven Gives 0) (sym e)
      (record { sound = λ item h. absurd (nothing_in item h); complete = λ k item low g. absurd (omega (arith, low)) })

  -- the next number gives nothing
  pub given_same : (count : ℕ) (items : List Item) → AreGiven Gives count items → ((item : Item) → Gives count item → ⊥) → AreGiven Gives (count + 1) items
  given_same count items are none =
      record {
        sound = λ item h. let s = are.sound item h in (s.0, omega (arith, s.1), s.2);
        complete = λ k item low g. elim (cases_eq k count) [
          | inl same ↦ absurd (none item (subst (λ j. Gives j item) same g))
          | inr apart ↦ are.complete k item (omega (arith, low, apart)) g
        ];
      }

  -- it gives this item alone
  pub given_more : (count : ℕ) (items new : List Item) (item : Item) → AreGiven Gives count items → Gives count item → ((other : Item) → Gives count other → IsMade other.owner other.number other.name.now item) → new ≡ items ++ item ∷ [] → AreGiven Gives (count + 1) new
  given_more count items new item are gives alone e =
      subst (AreGiven Gives (count + 1)) (sym e)
      (record {
        sound = λ i h. elim (in_either items item i h) [
          | inl g ↦ let s = are.sound i g in (s.0, omega (arith, s.1), s.2)
          | inr same ↦ (count, omega arith, subst (Gives count) (sym same) gives)
        ];
        complete = λ k i low g. elim (cases_eq k count) [
          | inl same ↦ record { place = length items; item = item; there = get_last items item; made = alone i (subst (λ j. Gives j i) same g) }
          | inr apart ↦ has_before items (item ∷ []) i.owner i.number i.name.now (are.complete k i (omega (arith, low, apart)) g)
        ];
      })

module _ (h : SourceFiles) (r : Reached) where
  pub declared_onto : (D E : Claim) (owner number : ℕ) (name : List ℕ) → ((file node : ℕ) → D file node name → E file node name) → IsDeclaredBy h r D owner number name → IsDeclaredBy h r E owner number name
  declared_onto D E owner number name to d = record { file = d.file; node = d.node; of = d.of; declares = to d.file d.node d.declares; number_is = d.number_is }

  -- another claim that says the same of files of packages
  pub items_same : (D E : Claim) (items : List Item) → ((file owner node : ℕ) (name : List ℕ) → IsOfNumber h r file owner → D file node name → E file node name)
      → ((file owner node : ℕ) (name : List ℕ) → IsOfNumber h r file owner → E file node name → D file node name) → AreItems h r D items → AreItems h r E items
  items_same D E items to from are =
      record {
        sound = λ item i. let s = are.sound item i in record { file = s.file; node = s.node; of = s.of; declares = to s.file item.owner s.node item.name.now s.of s.declares; number_is = s.number_is };
        complete = λ owner number name d. are.complete owner number name (record { file = d.file; node = d.node; of = d.of; declares = from d.file owner d.node name d.of d.declares; number_is = d.number_is });
      }

  -- two lists
  pub items_joined : (D E : Claim) (items more new : List Item) → AreItems h r D items → AreItems h r E more → new ≡ items ++ more → AreItems h r (Either D E) new
  items_joined D E items more new are and e =
      subst (AreItems h r (Either D E)) (sym e)
      (record {
        sound = λ item i. elim (in_two items more item i) [
          | inl g ↦ declared_onto D (Either D E) item.owner item.number item.name.now (λ file node d. inl d) (are.sound item g)
          | inr g ↦ declared_onto E (Either D E) item.owner item.number item.name.now (λ file node d. inr d) (and.sound item g)
        ];
        complete = λ owner number name d. go owner number name d d.declares;
      })
    where
      go : (owner number : ℕ) (name : List ℕ) (d : IsDeclaredBy h r (Either D E) owner number name) → D d.file d.node name ⊎ E d.file d.node name → HasItem (items ++ more) owner number name
      go owner number name d (inl x) = has_before items more owner number name (are.complete owner number name (record { file = d.file; node = d.node; of = d.of; declares = x; number_is = d.number_is }))
      go owner number name d (inr x) = has_behind items more owner number name (and.complete owner number name (record { file = d.file; node = d.node; of = d.of; declares = x; number_is = d.number_is }))
