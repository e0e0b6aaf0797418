-- The table of entries, item by item.
use Rattle.std.proofs.Common.{◌≡◌, ℕ, ◌+◌, ◌<◌, List, Bool, true, false, cond, Option, Some, None, inl, inr, refl, sym, ap, ◌∙◌, subst, arith}
use Rattle.std.specs.Prelude.{nat_eq, slice_get, ◌&&◌}
use Rattle.std.specs.Cmp.Lexicographic.{pointwise}
use Rattle.std.specs.HashMap.{get_by}
use Rattle.std.proofs.lemmas.Slice.Eq.{bytes_eq-Decides}
use Rattle.std.proofs.lemmas.Bool.{and_parts, and_from, eqb-true, eq-eqb, cases_eq, both_ways, cond_both}
use Rattle.argot_names_rules.specs.Files.{IsBefore}
use Rattle.argot_names_tops.specs.declared.named.Named.{Named}
use Rattle.argot_names_tops.specs.declared.entries.Entry.{Entry}
use Rattle.argot_files.specs.Places.{place_of}
use Rattle.argot_names_tops.specs.Entries.{Key, Entries, is_key, found_at, IsOf, is_before, entry_with, noted, IsAt, IsEntry, IsEntryOf, found, missing, AreEntries}
use Rattle.argot_names_tops.proofs.Before.{before_by, not_before, never_before, before_through}

some_is : {A : Type 0} (x y : A) → Some x ≡ Some y → x ≡ y
some_is x y e = cc

abbrev same_key : ℕ → List ℕ → ℕ → List ℕ → Bool
same_key s a t b = nat_eq s t && pointwise nat_eq a b

key_same : (s t : ℕ) (a b : List ℕ) → same_key s a t b ≡ true → (s ≡ t) × (a ≡ b)
key_same s t a b e =
    let p = and_parts (nat_eq s t) (pointwise nat_eq a b) e in
    (eqb-true s t p.0, (bytes_eq-Decides a b).0 p.1)

same_by : (s t : ℕ) (a b : List ℕ) → s ≡ t → a ≡ b → same_key s a t b ≡ true
same_by s t a b e f = and_from (nat_eq s t) (pointwise nat_eq a b) (eq-eqb s t e) ((bytes_eq-Decides a b).1 f)

pub note_step : (m n : Entries) (item : Named) (number : ℕ) (value : Entry) → value ≡ entry_with (found_at m item.scope item.name.now) number item.place
    → ((q : Key) → get_by (is_key q.0 q.1.now) n ≡ cond (same_key item.scope item.name.now q.0 q.1.now) (Some value) (get_by (is_key q.0 q.1.now) m))
    → (scope : ℕ) (name : List ℕ) → found_at n scope name ≡ noted (found_at m scope name) item number scope name
note_step m n item number value is updates scope name =
    updates (scope, record { ref_ptr = (0, 0); now = name }) ∙ by (same_key item.scope item.name.now scope name) refl
  where
    by : (b : Bool) → same_key item.scope item.name.now scope name ≡ b
        → cond b (Some value) (found_at m scope name) ≡ cond b (Some (entry_with (found_at m scope name) number item.place)) (found_at m scope name)
    by true e =
        let k = key_same item.scope scope item.name.now name e in
        let same : found_at m item.scope item.name.now ≡ found_at m scope name = ap (λ s. found_at m s item.name.now) k.0 ∙ ap (found_at m scope) k.1 in
        ap (λ x. Some x) (is ∙ ap (λ o. entry_with o number item.place) same)
    by false e = refl

module _ (items : List Named) (count scope : ℕ) (name : List ℕ) (item : Named) (there : slice_get items count ≡ Some item) where
  -- an item before the next number is one before this number, or this one
  last_is : (k : ℕ) (n : Named) → k ≡ count → IsAt items scope name k n → n ≡ item
  last_is k n e a = some_is n item (sym a.there ∙ ap (slice_get items) e ∙ there)

  -- the item declares another name
  kept : (o : Option Entry) → IsEntryOf items count scope name o → (IsOf scope name item → ⊥) → IsEntryOf items (count + 1) scope name o
  kept _ (missing none) other =
      missing (λ k n low a. elim (cases_eq k count) [
        | inl same ↦ other (subst (IsOf scope name) (last_is k n same a) a.is)
        | inr apart ↦ none k n (omega (arith, low, apart)) a
      ])
  kept _ (found {e = e} i) other =
      found (record {
        one = i.one;
        below = omega (arith, i.below);
        is = i.is;
        first = i.first;
        early = i.early;
        earliest = i.earliest;
        early_below = omega (arith, i.early_below);
        early_is = i.early_is;
        early_place = i.early_place;
        no_earlier = λ k n low a b. elim (cases_eq k count) [
          | inl same ↦ other (subst (IsOf scope name) (last_is k n same a) a.is)
          | inr apart ↦ i.no_earlier k n (omega (arith, low, apart)) a b
        ];
      })

  here : IsOf scope name item → IsAt items scope name count item
  here is = record { there = there; is = is }

  -- it is the first one
  begun : ((k : ℕ) (n : Named) → k < count → IsAt items scope name k n → ⊥) → IsOf scope name item → IsEntry items (count + 1) scope name (record { first = count; place = item.place })
  begun none is =
      record {
        one = item;
        below = omega arith;
        is = here is;
        first = λ k n low a. none k n low a;
        early = count;
        earliest = item;
        early_below = omega arith;
        early_is = here is;
        early_place = refl;
        no_earlier = λ k n low a b. elim (cases_eq k count) [
          | inl same ↦ never_before (place_of item.place) (subst (λ x. IsBefore (place_of x.place) (place_of item.place)) (last_is k n same a) b)
          | inr apart ↦ none k n (omega (arith, low, apart)) a
        ];
      }

  -- it is one more, and stands before the others
  sooner : (e : Entry) → IsEntry items count scope name e → IsOf scope name item → IsBefore (place_of item.place) (place_of e.place) → IsEntry items (count + 1) scope name (record { first = e.first; place = item.place })
  sooner e i is before =
      record {
        one = i.one;
        below = omega (arith, i.below);
        is = i.is;
        first = i.first;
        early = count;
        earliest = item;
        early_below = omega arith;
        early_is = here is;
        early_place = refl;
        no_earlier = λ k n low a b. elim (cases_eq k count) [
          | inl same ↦ never_before (place_of item.place) (subst (λ x. IsBefore (place_of x.place) (place_of item.place)) (last_is k n same a) b)
          | inr apart ↦ i.no_earlier k n (omega (arith, low, apart)) a (before_through (place_of n.place) (place_of item.place) (place_of e.place) b before)
        ];
      }

  -- it is one more, and doesn't
  later : (e : Entry) → IsEntry items count scope name e → (IsBefore (place_of item.place) (place_of e.place) → ⊥) → IsEntry items (count + 1) scope name e
  later e i not =
      record {
        one = i.one;
        below = omega (arith, i.below);
        is = i.is;
        first = i.first;
        early = i.early;
        earliest = i.earliest;
        early_below = omega (arith, i.early_below);
        early_is = i.early_is;
        early_place = i.early_place;
        no_earlier = λ k n low a b. elim (cases_eq k count) [
          | inl same ↦ not (subst (λ x. IsBefore (place_of x.place) (place_of e.place)) (last_is k n same a) b)
          | inr apart ↦ i.no_earlier k n (omega (arith, low, apart)) a b
        ];
      }

  added : (o : Option Entry) → IsEntryOf items count scope name o → IsOf scope name item → IsEntry items (count + 1) scope name (entry_with o count item.place)
  added _ (missing none) is = begun none is
  added _ (found {e = e} i) is =
      cond_both (is_before item.place e.place) (record { first = e.first; place = item.place }) e (IsEntry items (count + 1) scope name)
      (λ yes. sooner e i is (before_by item.place e.place yes))
      (λ no. later e i (not_before item.place e.place no))

  pub entry_more : (o : Option Entry) → IsEntryOf items count scope name o → IsEntryOf items (count + 1) scope name (noted o item count scope name)
  entry_more o i =
      cond_both (same_key item.scope item.name.now scope name) (Some (entry_with o count item.place)) o (IsEntryOf items (count + 1) scope name)
      (λ yes. let k = key_same item.scope scope item.name.now name yes in found (added o i (record { scope_is = k.0; name_is = k.1 })))
      (λ no. kept o i (λ is. both_ways (same_key item.scope item.name.now scope name) no (same_by item.scope scope item.name.now name is.scope_is is.name_is)))

pub entries_none : (items : List Named) (m : Entries) → ((scope : ℕ) (name : List ℕ) → found_at m scope name ≡ None) → AreEntries items 0 m
entries_none items m none scope name = subst (IsEntryOf items 0 scope name) (sym (none scope name)) (missing (λ k n low a. omega (arith, low)))

pub entries_more : (items : List Named) (count : ℕ) (item : Named) (m n : Entries) → slice_get items count ≡ Some item → AreEntries items count m
    → ((scope : ℕ) (name : List ℕ) → found_at n scope name ≡ noted (found_at m scope name) item count scope name) → AreEntries items (count + 1) n
entries_more items count item m n there are new scope name =
    subst (IsEntryOf items (count + 1) scope name) (sym (new scope name)) (entry_more items count scope name item there (found_at m scope name) (are scope name))
