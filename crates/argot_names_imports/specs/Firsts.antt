-- The first file of each package.
use Rattle.std.specs.Prelude.{◌≡◌, ℕ, ◌<◌, nat_eq, List, Option, Some, None, slice_get, if◌then◌else◌}
use Rattle.std.specs.Cmp.Lexicographic.{pointwise}
use Rattle.std.specs.declared.hash.FoldHasher.{FoldHasher}
use Rattle.std.specs.declared.hash.BuildHasherDefault.{BuildHasherDefault}
use Rattle.std.specs.HashMap.{get_by}
use Rattle.std.specs.Borrow.{Bor}
use Rattle.indexmap.specs.IndexMap.{IndexMap}
use Rattle.argot_names_imports.specs.declared.firsts.Sort.{Sort}
use Rattle.argot_names_imports.specs.Keys.{key_of}

-- numbers by bytes
abbrev pub Numbers : Type 0
Numbers = IndexMap (Bor (List ℕ)) ℕ (BuildHasherDefault FoldHasher)

abbrev pub found_at : Numbers → List ℕ → Option ℕ
found_at m bytes = get_by (λ k. pointwise nat_eq bytes k.now) m

-- a look-up after a file is put down as the first at a key, where none is
abbrev pub noted : Option ℕ → Option (List ℕ) → ℕ → List ℕ → Option ℕ
noted (Some first) key file q = Some first
noted None None file q = None
noted None (Some key) file q = if pointwise nat_eq key q then Some file else None

-- the first of the files below a number that is known by this key
pub data IsFirstBelow (sort : Sort) (paths : List (List ℕ)) (count : ℕ) (key : List ℕ) : Option ℕ → Type 0 where
  found : {file : ℕ} {path : List ℕ} → file < count → slice_get paths file ≡ Some path → key_of sort path ≡ Some key
      → ((other : ℕ) (before : List ℕ) → other < file → slice_get paths other ≡ Some before → key_of sort before ≡ Some key → ⊥) → IsFirstBelow sort paths count key (Some file)
  missing : ((other : ℕ) (before : List ℕ) → other < count → slice_get paths other ≡ Some before → key_of sort before ≡ Some key → ⊥) → IsFirstBelow sort paths count key None

-- the table has the first file of each key
abbrev pub AreFirsts : Sort → List (List ℕ) → ℕ → Numbers → Type 0
AreFirsts sort paths count m = (key : List ℕ) → IsFirstBelow sort paths count key (found_at m key)
