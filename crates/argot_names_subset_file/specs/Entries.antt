-- Sets of what entries name.
use Rattle.std.specs.Prelude.{◌≡◌, ◌↔◌, ℕ, nat_eq, Bool, true, ◌&&◌, List}
use Rattle.std.specs.Cmp.Lexicographic.{pointwise}
use Rattle.std.specs.HashSet.{contains_by}
use Rattle.std.specs.declared.hash.FoldHasher.{FoldHasher}
use Rattle.std.specs.declared.hash.BuildHasherDefault.{BuildHasherDefault}
use Rattle.indexmap.specs.IndexSet.{IndexSet}
use Rattle.argot_tree.specs.declared.entries.Entry.{Entry}
use Rattle.argot_names_rules.specs.Subset.{HasEntry}
use Rattle.argot_names_subset_file.specs.declared.entries.Key.{Key}

abbrev pub Keys : Type 0
Keys = IndexSet Key (BuildHasherDefault FoldHasher)

-- the key has these parts
abbrev pub is_key : Key → (package_ receiver name : List ℕ) → Bool
is_key k p r n = pointwise nat_eq p k.package.now && (pointwise nat_eq r k.receiver.now && pointwise nat_eq n k.name.now)

-- the set has a key with these parts
abbrev pub has_key : Keys → (package_ receiver name : List ℕ) → Bool
has_key keys p r n = contains_by (λ k. is_key k p r n) keys

-- the same, from the other side
abbrev pub names : Key → (package_ receiver name : List ℕ) → Bool
names k p r n = pointwise nat_eq k.package.now p && (pointwise nat_eq k.receiver.now r && pointwise nat_eq k.name.now n)

-- what the entry names
pub record IsKeyOf (entry : Entry) (k : Key) : Type 0 where
  pub package_is : k.«package».now ≡ entry.«package»
  pub receiver_is : k.receiver.now ≡ entry.receiver
  pub name_is : k.name.now ≡ entry.name

-- the set has what the entries name
abbrev pub AreKeysOf : Keys → List Entry → Type 0
AreKeysOf keys entries = (p r n : List ℕ) → has_key keys p r n ≡ true ↔ HasEntry entries p r n
