-- The first of the places that claims hold of.
use Rattle.std.proofs.Common.{◌≡◌, ℕ, ◌+◌, ◌<◌, inl, inr, List, length, Option, Some, None, refl, sym, ap, ◌∙◌, subst, arith}
use Rattle.std.specs.Prelude.{slice_get, IfSome, IfNone}
use Rattle.std.proofs.lemmas.Bool.{cond_both, cases_order, cases_eq}
use Rattle.argot_names_rules.specs.Files.{Place as Byte, IsBefore, by_file, by_offset, IsFirst}
use Rattle.argot_names_imports.proofs.Lists.{get_below}
use Rattle.argot_files.specs.declared.place.Place.{Place}
use Rattle.argot_names_tops.specs.declared.named.Named.{Named}
use Rattle.argot_names_tops.specs.declared.entries.Entry.{Entry}
use Rattle.argot_files.specs.Places.{place_of}
use Rattle.argot_names_tops.specs.Entries.{Entries, found_at, is_before, IsEntry, IsEntryOf, found, missing, AreEntries}
use Rattle.argot_names_tops.specs.First.{NamesFirst, there, nowhere, Either, sooner_of}
use Rattle.argot_names_tops.specs.Behind.{IsItemBehind, IsBehindBelow}
use Rattle.argot_names_tops.proofs.Before.{before_by, not_before, never_before, before_through}

some_is : {A : Type 0} (x y : A) → Some x ≡ Some y → x ≡ y
some_is x y e = cc

-- what isn't behind another place stands before what is behind that
before_past : (o b a : Byte) → (IsBefore o b → ⊥) → IsBefore o a → IsBefore b a
before_past o b a not before =
    elim (cases_order b.file o.file) [
      | inl same ↦ elim (cases_order b.offset o.offset) [
        | inl at ↦ here same (omega (arith, at)) before
        | inr apart ↦ elim apart [ inl low ↦ here same (omega (arith, low)) before | inr high ↦ absurd (not (by_offset (sym same) high)) ]
      ]
      | inr other ↦ elim other [ inl low ↦ lower low before | inr high ↦ absurd (not (by_file high)) ]
    ]
  where
    here : b.file ≡ o.file → b.offset < o.offset + 1 → IsBefore o a → IsBefore b a
    here same low (by_file l) = by_file (omega (arith, same, l))
    here same low (by_offset e l) = by_offset (same ∙ e) (omega (arith, low, l))

    lower : b.file < o.file → IsBefore o a → IsBefore b a
    lower low (by_file l) = by_file (omega (arith, low, l))
    lower low (by_offset e l) = by_file (omega (arith, low, e))

pub first_same : (P Q : Byte → Type 0) (o : Option Place) → ((p : Byte) → P p → Q p) → ((p : Byte) → Q p → P p) → NamesFirst P o → NamesFirst Q o
first_same P Q _ to from (there {p = p} f) = there (record { holds = to (place_of p) f.holds; first = λ other q before. f.first other (from other q) before })
first_same P Q _ to from (nowhere n) = nowhere (λ p q. n p (from p q))

pub first_none : (P : Byte → Type 0) → ((p : Byte) → P p → ⊥) → NamesFirst P None
first_none P n = nowhere n

-- the only place
pub first_one : (P : Byte → Type 0) (p : Place) → P (place_of p) → ((q : Byte) → P q → q ≡ place_of p) → NamesFirst P (Some p)
first_one P p holds only = there (record { holds = holds; first = λ other q before. never_before (place_of p) (subst (λ x. IsBefore x (place_of p)) (only other q) before) })

pub sooner_first : (P Q : Byte → Type 0) (a b : Option Place) → NamesFirst P a → NamesFirst Q b → NamesFirst (Either P Q) (sooner_of a b)
sooner_first P Q _ _ (nowhere m) (nowhere n) = nowhere (λ p e. elim e [ inl x ↦ m p x | inr y ↦ n p y ])
sooner_first P Q _ _ (nowhere m) (there {p = b} g) = there (record { holds = inr g.holds; first = λ o e before. elim e [ inl x ↦ m o x | inr y ↦ g.first o y before ] })
sooner_first P Q _ _ (there {p = a} f) (nowhere n) = there (record { holds = inl f.holds; first = λ o e before. elim e [ inl x ↦ f.first o x before | inr y ↦ n o y ] })
sooner_first P Q _ _ (there {p = a} f) (there {p = b} g) =
    cond_both (is_before b a) (Some b) (Some a) (NamesFirst (Either P Q))
    (λ yes. there (record {
      holds = inr g.holds;
      first = λ o e before. elim e [ inl x ↦ f.first o x (before_through o (place_of b) (place_of a) before (before_by b a yes)) | inr y ↦ g.first o y before ];
    }))
    (λ no. there (record {
      holds = inl f.holds;
      first = λ o e before. elim e [ inl x ↦ f.first o x before | inr y ↦ not_before b a no (before_past o (place_of b) (place_of a) (g.first o y) before) ];
    }))

pub first_some : (P : Byte → Type 0) (o : Option Place) → NamesFirst P o → IfSome o (λ p. IsFirst P (place_of p))
first_some P _ (there f) = f
first_some P _ (nowhere n) = tt

pub first_nowhere : (P : Byte → Type 0) (o : Option Place) → NamesFirst P o → IfNone o ((p : Byte) → P p → ⊥)
first_nowhere P _ (there f) = tt
first_nowhere P _ (nowhere n) = n

-- the item by its entry
module _ (others : List Named) (m : Entries) (are : AreEntries others (length others) m) (item : Named) where
  pub behind_there : (e : Entry) → found_at m item.scope item.name.now ≡ Some e → IsBefore (place_of e.place) (place_of item.place) → NamesFirst (IsItemBehind others item) (Some item.place)
  behind_there e at precedes = go (found_at m item.scope item.name.now) at (are item.scope item.name.now)
    where
      made : IsEntry others (length others) item.scope item.name.now e → NamesFirst (IsItemBehind others item) (Some item.place)
      made i =
          first_one (IsItemBehind others item) item.place
          (record {
            number = i.early;
            other = i.earliest;
            there = i.early_is.there;
            scope_is = i.early_is.is.scope_is;
            name_is = i.early_is.is.name_is;
            before = subst (λ p. IsBefore (place_of p) (place_of item.place)) (sym i.early_place) precedes;
            place_is = refl;
          })
          (λ q b. b.place_is)

      go : (o : Option Entry) → o ≡ Some e → IsEntryOf others (length others) item.scope item.name.now o → NamesFirst (IsItemBehind others item) (Some item.place)
      go _ same (missing none) = absurd (cc)
      go _ same (found {e = x} i) = made (subst (IsEntry others (length others) item.scope item.name.now) (some_is x e same) i)

  pub behind_none : (e : Entry) → found_at m item.scope item.name.now ≡ Some e → (IsBefore (place_of e.place) (place_of item.place) → ⊥) → NamesFirst (IsItemBehind others item) None
  behind_none e at not = go (found_at m item.scope item.name.now) at (are item.scope item.name.now)
    where
      made : IsEntry others (length others) item.scope item.name.now e → NamesFirst (IsItemBehind others item) None
      made i =
          nowhere (λ p b.
          not
          (before_past (place_of b.other.place) (place_of e.place) (place_of item.place)
          (i.no_earlier b.number b.other (get_below others b.number b.other b.there) (record { there = b.there; is = record { scope_is = b.scope_is; name_is = b.name_is } })) b.before))

      go : (o : Option Entry) → o ≡ Some e → IsEntryOf others (length others) item.scope item.name.now o → NamesFirst (IsItemBehind others item) None
      go _ same (missing none) = absurd (cc)
      go _ same (found {e = x} i) = made (subst (IsEntry others (length others) item.scope item.name.now) (some_is x e same) i)

  pub behind_nothing : found_at m item.scope item.name.now ≡ None → NamesFirst (IsItemBehind others item) None
  behind_nothing at = go (found_at m item.scope item.name.now) at (are item.scope item.name.now)
    where
      go : (o : Option Entry) → o ≡ None → IsEntryOf others (length others) item.scope item.name.now o → NamesFirst (IsItemBehind others item) None
      go _ same (missing none) = nowhere (λ p b. none b.number b.other (get_below others b.number b.other b.there) (record { there = b.there; is = record { scope_is = b.scope_is; name_is = b.name_is } }))
      go _ same (found i) = absurd (cc)

module _ (items others : List Named) where
  pub below_none : NamesFirst (IsBehindBelow items others 0) None
  below_none = nowhere (λ p b. omega (arith, b.below))

  pub below_more : (k : ℕ) (item : Named) (first here : Option Place) → slice_get items k ≡ Some item → NamesFirst (IsBehindBelow items others k) first → NamesFirst (IsItemBehind others item) here → NamesFirst (IsBehindBelow items others (k + 1)) (sooner_of first here)
  below_more k item first here at f g =
      first_same (Either (IsBehindBelow items others k) (IsItemBehind others item)) (IsBehindBelow items others (k + 1)) (sooner_of first here)
      (λ p e. elim e [
        | inl b ↦ record { number = b.number; item = b.item; below = omega (arith, b.below); there = b.there; behind = b.behind }
        | inr b ↦ record { number = k; item = item; below = omega arith; there = at; behind = b }
      ])
      (λ p b. elim (cases_eq b.number k) [
        | inl same ↦ inr (subst (λ x. IsItemBehind others x p) (some_is b.item item (sym b.there ∙ ap (slice_get items) same ∙ at)) b.behind)
        | inr apart ↦ inl (record { number = b.number; item = b.item; below = omega (arith, b.below, apart); there = b.there; behind = b.behind })
      ])
      (sooner_first (IsBehindBelow items others k) (IsItemBehind others item) first here f g)
