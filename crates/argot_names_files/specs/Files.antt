-- The files of a folder before they are read: their paths and bytes agree.
use Rattle.std.specs.Prelude.{◌≡◌, ℕ, ◌<◌, ◌-◌, ◌^◌, true, List, [], length, filter, Some, slice_get}
use Rattle.std.specs.List.{list_all}
use Rattle.argot_text.specs.declared.sources.Sources.{Sources}
use Rattle.argot_names_rules.specs.Lists.{IsOrdered}
use Rattle.argot_names_rules.specs.Agreeing.{is_numbered, is_assembly, PathBefore}

-- the bytes have room for offsets, and those of an assembly file are none
pub record Fits (path bytes : List ℕ) : Type 0 where
  pub short : length bytes < 2 ^ 32 - 1
  pub empty : is_assembly path ≡ true → bytes ≡ []

abbrev pub AreFitting : List (List ℕ) → List (List ℕ) → Type 0
AreFitting paths contents = (file : ℕ) (path bytes : List ℕ) → slice_get paths file ≡ Some path → slice_get contents file ≡ Some bytes → Fits path bytes

-- numbered paths in byte order, and the bytes of each
pub record Agree (paths contents : List (List ℕ)) : Type 0 where
  pub as_many : length paths ≡ length contents
  pub numbered : list_all is_numbered paths ≡ true
  pub ordered : IsOrdered PathBefore paths
  pub fitting : AreFitting paths contents

-- the bytes of each numbered path, in byte order of path, and the paths of the assembly files once more
pub record AreFiles (s : Sources) : Type 0 where
  pub agree : Agree s.paths s.contents
  pub assembly : s.assembly ≡ filter is_assembly s.paths
