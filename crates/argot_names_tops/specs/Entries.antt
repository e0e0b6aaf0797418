-- For each scope and name the first item that declares it, and its earliest place.
use Rattle.std.specs.Prelude.{◌≡◌, ℕ, ◌<◌, nat_eq, nat_lt, Bool, List, Option, Some, None, ◌&&◌, ◌||◌, if◌then◌else◌, slice_get}
use Rattle.std.specs.Cmp.Lexicographic.{pointwise}
use Rattle.std.specs.declared.hash.FoldHasher.{FoldHasher}
use Rattle.std.specs.declared.hash.BuildHasherDefault.{BuildHasherDefault}
use Rattle.std.specs.HashMap.{get_by}
use Rattle.std.specs.Borrow.{Bor}
use Rattle.indexmap.specs.IndexMap.{IndexMap}
use Rattle.argot_names_rules.specs.Files.{IsBefore}
use Rattle.argot_names_tops.specs.declared.named.Named.{Named}
use Rattle.argot_files.specs.declared.place.Place.{Place}
use Rattle.argot_names_tops.specs.declared.entries.Entry.{Entry}
use Rattle.argot_files.specs.Places.{place_of}

abbrev pub Key : Type 0
Key = ℕ × Bor (List ℕ)

abbrev pub Entries : Type 0
Entries = IndexMap Key Entry (BuildHasherDefault FoldHasher)

abbrev pub is_key : ℕ → List ℕ → Key → Bool
is_key scope name k = nat_eq scope k.0 && pointwise nat_eq name k.1.now

abbrev pub found_at : Entries → ℕ → List ℕ → Option Entry
found_at m scope name = get_by (is_key scope name) m

-- the item declares the name in the scope
pub record IsOf (scope : ℕ) (name : List ℕ) (n : Named) : Type 0 where
  pub scope_is : n.scope ≡ scope
  pub name_is : n.name.now ≡ name

-- the one stands before the other, computed
abbrev pub is_before : Place → Place → Bool
is_before a b = nat_lt a.file b.file || (nat_eq a.file b.file && nat_lt a.offset b.offset)

-- an entry, or none, with one item more
abbrev pub entry_with : Option Entry → ℕ → Place → Entry
entry_with None number place = record { first = number; place = place }
entry_with (Some e) number place = if is_before place e.place then record { first = e.first; place = place } else e

-- a look-up after an item is put down
abbrev pub noted : Option Entry → Named → ℕ → ℕ → List ℕ → Option Entry
noted old item number scope name = if nat_eq item.scope scope && pointwise nat_eq item.name.now name then Some (entry_with old number item.place) else old

-- item k declares the name in the scope
pub record IsAt (items : List Named) (scope : ℕ) (name : List ℕ) (k : ℕ) (n : Named) : Type 0 where
  pub there : slice_get items k ≡ Some n
  pub is : IsOf scope name n

-- the entry is that of the items before this number
pub record IsEntry (items : List Named) (count scope : ℕ) (name : List ℕ) (e : Entry) : Type 0 where
  pub one : Named
  pub below : e.first < count
  pub is : IsAt items scope name e.first one
  pub first : (k : ℕ) (n : Named) → k < e.first → IsAt items scope name k n → ⊥
  pub early : ℕ
  pub earliest : Named
  pub early_below : early < count
  pub early_is : IsAt items scope name early earliest
  pub early_place : earliest.place ≡ e.place
  pub no_earlier : (k : ℕ) (n : Named) → k < count → IsAt items scope name k n → IsBefore (place_of n.place) (place_of e.place) → ⊥

-- and there is none where no item declares the name
pub data IsEntryOf (items : List Named) (count scope : ℕ) (name : List ℕ) : Option Entry → Type 0 where
  found : {e : Entry} → IsEntry items count scope name e → IsEntryOf items count scope name (Some e)
  missing : ((k : ℕ) (n : Named) → k < count → IsAt items scope name k n → ⊥) → IsEntryOf items count scope name None

abbrev pub AreEntries : List Named → ℕ → Entries → Type 0
AreEntries items count m = (scope : ℕ) (name : List ℕ) → IsEntryOf items count scope name (found_at m scope name)

-- the item is the first one that declares the name in the scope
pub record IsFirstItem (items : List Named) (scope : ℕ) (name : List ℕ) (item : Named) : Type 0 where
  pub number : ℕ
  pub is : IsAt items scope name number item
  pub first : (k : ℕ) (n : Named) → k < number → IsAt items scope name k n → ⊥
