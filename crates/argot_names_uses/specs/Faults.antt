-- Names and members of packages that stand for nothing, by the lists of a file.
use Rattle.std.specs.Prelude.{◌≡◌, ◌≢◌, ◌<◌, ◌≤◌, ℕ, List, Option, Some, None, codes, slice_get}
use Rattle.argot_names_rules.specs.declared.package_key.PackageKey.{PackageKey}
use Rattle.argot_names_rules.specs.Files.{SourceFiles, read_of, text_at}
use Rattle.argot_names_rules.specs.Packages.{IsLeftOut}
use Rattle.argot_names_rules.specs.Faults.{IsUnresolved}
use Rattle.argot_names_rules.specs.Scopes.{MeansNothing}
use Rattle.argot_names_rules.specs.Uses.{IsKey, IsOfPackage, IsMember, IsPassedOver}
use Rattle.argot_names_blocks.specs.declared.bindings.Lookup.{Lookup}
use Rattle.argot_names_blocks.specs.declared.lookup.QualifiedName.{QualifiedName}
use Rattle.argot_names_scopes.specs.Again.{start_of}
use Rattle.argot_names_tops.specs.declared.meaning.Meaning.{Meaning}
use Rattle.argot_names_tops.specs.declared.meaning.Meaning.TheVariants as meanings

abbrev pub IsNothing : Meaning → Type 0
IsNothing meaning = meaning ≡ meanings.Nothing

-- no declaration is in scope for the name, which begins at this offset
pub record IsLoneFault (h : SourceFiles) (home : PackageKey) (file : ℕ) (l : Lookup) (offset : ℕ) : Type 0 where
  pub no_key : IsKey (read_of h file).nodes l.node → ⊥
  pub named : text_at (read_of h file) l.token ≢ codes "_"
  pub nothing : MeansNothing h home file l.token (text_at (read_of h file) l.token)
  pub heeded : IsPassedOver (read_of h file).nodes l.token → ⊥
  pub begins : start_of (slice_get (read_of h file).tokens l.token) ≡ Some offset

-- the package before the dot doesn't export the member, which begins at this offset
pub record IsMemberFault (h : SourceFiles) (home : PackageKey) (file : ℕ) (d : QualifiedName) (offset : ℕ) : Type 0 where
  pub path : List ℕ
  pub of_package : IsOfPackage h home file d.token path
  pub known : IsLeftOut path → ⊥
  pub none : (other declared : ℕ) → IsMember h path (text_at (read_of h file) d.member) other declared → ⊥
  pub heeded : IsPassedOver (read_of h file).nodes d.token → ⊥
  pub begins : start_of (slice_get (read_of h file).tokens d.member) ≡ Some offset

-- of the first items the one that stands first
pub record IsFirstOf (Holds : ℕ → ℕ → Type 0) (count : ℕ) (result : Option ℕ) : Type 0 where
  pub there : (x : ℕ) → result ≡ Some x → (k : ℕ) × (k < count) × Holds k x
  pub first : (x y k : ℕ) → result ≡ Some x → k < count → Holds k y → x ≤ y
  pub none : (y k : ℕ) → result ≡ None → k < count → Holds k y → ⊥

-- the first number that the claim holds of
pub record IsFirstNumber (Holds : ℕ → Type 0) (result : Option ℕ) : Type 0 where
  pub there : (x : ℕ) → result ≡ Some x → Holds x
  pub first : (x y : ℕ) → result ≡ Some x → Holds y → x ≤ y
  pub none : (y : ℕ) → result ≡ None → Holds y → ⊥

-- name k of the list stands for nothing, at this offset
abbrev pub LoneAt : SourceFiles → PackageKey → ℕ → List Lookup → ℕ → ℕ → Type 0
LoneAt h home file looked k offset = (l : Lookup) × (slice_get looked k ≡ Some l) × IsLoneFault h home file l offset

-- member k of the list isn't exported
abbrev pub MemberAt : SourceFiles → PackageKey → ℕ → List QualifiedName → ℕ → ℕ → Type 0
MemberAt h home file dotted k offset = (d : QualifiedName) × (slice_get dotted k ≡ Some d) × IsMemberFault h home file d offset

-- a name of the file at this offset isn't resolved
abbrev pub UnresolvedIn : SourceFiles → List ℕ → (file offset : ℕ) → Type 0
UnresolvedIn h main file offset = IsUnresolved h main (record { file = file; offset = offset })
