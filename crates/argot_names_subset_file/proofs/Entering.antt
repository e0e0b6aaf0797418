-- The set of what entries name, entry by entry.
use Rattle.std.proofs.Common.{◌≡◌, ℕ, ◌+◌, ◌<◌, ◌≤◌, ◌⊎◌, inl, inr, List, Bool, true, false, cond, Some, length, refl, sym, ap, ◌∙◌, subst, arith}
use Rattle.std.specs.Prelude.{nat_eq, slice_get, ◌↔◌, ◌&&◌}
use Rattle.std.specs.Cmp.Lexicographic.{pointwise}
use Rattle.std.proofs.lemmas.Bool.{and_parts, cases_eq}
use Rattle.argot_tree.specs.declared.entries.Entry.{Entry}
use Rattle.argot_names_imports.proofs.FirstFiles.{same_text, text_same}
use Rattle.argot_names_imports.proofs.Lists.{get_below}
use Rattle.argot_names_subset_file.specs.declared.entries.Key.{Key}
use Rattle.argot_names_subset_file.specs.Entries.{Keys, names, has_key, IsKeyOf, AreKeysOf}
use Rattle.argot_names_subset_file.proofs.PartLemmas.{some_is}

both : (b c : Bool) → b ≡ true → c ≡ true → (b && c) ≡ true
both true c e f = f
both false c e f = absurd (cc)

-- the key of an entry has its parts alone
named_parts : (entry : Entry) (k : Key) (p r n : List ℕ) → IsKeyOf entry k → names k p r n ≡ true → (entry.«package» ≡ p) × (entry.receiver ≡ r) × (entry.name ≡ n)
named_parts entry k p r n is e =
    let first = and_parts (pointwise nat_eq k.«package».now p) _ e in
    let second = and_parts (pointwise nat_eq k.receiver.now r) _ first.1 in
    (sym is.package_is ∙ same_text k.«package».now p first.0, sym is.receiver_is ∙ same_text k.receiver.now r second.0, sym is.name_is ∙ same_text k.name.now n second.1)

same : (a b : List ℕ) → a ≡ b → pointwise nat_eq a b ≡ true
same a b e = subst (λ c. pointwise nat_eq a c ≡ true) e (text_same a)

parts_named : (entry : Entry) (k : Key) (p r n : List ℕ) → IsKeyOf entry k → entry.«package» ≡ p → entry.receiver ≡ r → entry.name ≡ n → names k p r n ≡ true
parts_named entry k p r n is e f g =
    both (pointwise nat_eq k.«package».now p) _ (same k.«package».now p (is.package_is ∙ e)) (both (pointwise nat_eq k.receiver.now r) _ (same k.receiver.now r (is.receiver_is ∙ f)) (same k.name.now n (is.name_is ∙ g)))

-- one of the first entries
pub record HasBelow (entries : List Entry) (count : ℕ) (p r n : List ℕ) : Type 0 where
  pub place : ℕ
  pub below : place < count
  pub entry : Entry
  pub there : slice_get entries place ≡ Some entry
  pub package_is : entry.«package» ≡ p
  pub receiver_is : entry.receiver ≡ r
  pub name_is : entry.name ≡ n

abbrev pub AreKeysBelow : List Entry → ℕ → Keys → Type 0
AreKeysBelow entries count keys = (p r n : List ℕ) → has_key keys p r n ≡ true ↔ HasBelow entries count p r n

pub keys_none : (entries : List Entry) (keys : Keys) → ((p r n : List ℕ) → has_key keys p r n ≡ false) → AreKeysBelow entries 0 keys
keys_none entries keys none p r n = (λ e. let no_one = none p r n in absurd (cc), λ h. absurd (omega (arith, h.below)))

of_cond : (b c : Bool) → cond b true c ≡ true → (b ≡ true) ⊎ (c ≡ true)
of_cond true c e = inl refl
of_cond false c e = inr e

to_left : (b c : Bool) → b ≡ true → cond b true c ≡ true
to_left true c e = refl
to_left false c e = absurd (cc)

to_right : (b c : Bool) → c ≡ true → cond b true c ≡ true
to_right true c e = refl
to_right false c e = e

pub keys_more : (entries : List Entry) (k : ℕ) (entry : Entry) (key : Key) (old new : Keys) → slice_get entries k ≡ Some entry → IsKeyOf entry key → AreKeysBelow entries k old → ((p r n : List ℕ) → has_key new p r n ≡ cond (names key p r n) true (has_key old p r n)) → AreKeysBelow entries (k + 1) new
keys_more entries k entry key old new there is are put p r n = (
  λ e. elim (of_cond (names key p r n) (has_key old p r n) (sym (put p r n) ∙ e)) [
    | inl x ↦ let h = named_parts entry key p r n is x in record { place = k; below = omega arith; entry = entry; there = there; package_is = h.0; receiver_is = h.1; name_is = h.2 }
    | inr x ↦ let h = (are p r n).0 x in record { place = h.place; below = omega (arith, h.below); entry = h.entry; there = h.there; package_is = h.package_is; receiver_is = h.receiver_is; name_is = h.name_is }
  ],
  λ h. put p r n ∙ elim (cases_eq h.place k) [
    | inl at ↦
        let one : h.entry ≡ entry = some_is h.entry entry (sym h.there ∙ (ap (slice_get entries) at ∙ there)) in
        to_left (names key p r n) (has_key old p r n)
        (parts_named entry key p r n is (sym (ap (λ (x : Entry). x.«package») one) ∙ h.package_is) (sym (ap (λ (x : Entry). x.receiver) one) ∙ h.receiver_is) (sym (ap (λ (x : Entry). x.name) one) ∙ h.name_is))
    | inr other ↦ to_right (names key p r n) (has_key old p r n) ((are p r n).1 (record { place = h.place; below = omega (arith, h.below, other); entry = h.entry; there = h.there; package_is = h.package_is; receiver_is = h.receiver_is; name_is = h.name_is }))
  ],
)

pub keys_all : (entries : List Entry) (count : ℕ) (keys : Keys) → length entries ≤ count → AreKeysBelow entries count keys → AreKeysOf keys entries
keys_all entries count keys long are p r n = (
  λ e. let h = (are p r n).0 e in record { entry = h.entry; among = (h.place, h.there); package_is = h.package_is; receiver_is = h.receiver_is; name_is = h.name_is },
  λ h. (are p r n).1 (record { place = h.among.0; below = omega (arith, long, get_below entries h.among.0 h.entry h.among.1); entry = h.entry; there = h.among.1; package_is = h.package_is; receiver_is = h.receiver_is; name_is = h.name_is }),
)
