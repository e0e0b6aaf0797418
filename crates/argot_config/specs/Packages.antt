-- Functions by the numbers of their packages' paths.
use Rattle.std.specs.Prelude.{◌≡◌, ℕ, List, [], Bool, Option, Some, None, length, map, slice_get}
use Rattle.std.specs.Borrow.{Bor}
use Rattle.argot_plain.specs.Code.{Code, IsFunction}
use Rattle.argot_plain.specs.declared.functions.Ident.{Ident}
use Rattle.argot_plain.specs.declared.functions.Function.{Function}
use Rattle.argot_config.specs.declared.packages.Packages.{Packages}
use Rattle.argot_config.specs.Looking.{Sought, is_found}

-- the path of a function's package; a function without a name has the empty one
abbrev pub path_of : Option Ident → List ℕ
path_of None = []
path_of (Some ident) = ident.package

-- number n of the paths is this one
pub record IsPath (paths : List (Bor (List ℕ))) (n : ℕ) (path : List ℕ) : Type 0 where
  pub key : Bor (List ℕ)
  pub at : slice_get paths n ≡ Some key
  pub is : key.now ≡ path

-- the first functions have the numbers of their paths
pub record AreNumbered (p : Code) (paths : List (Bor (List ℕ))) (count : ℕ) (numbers : List ℕ) : Type 0 where
  pub as_many : length numbers ≡ count
  pub each : (g n : ℕ) (fn : Function) → IsFunction p g fn → slice_get numbers g ≡ Some n → IsPath paths n (path_of fn.ident)

-- all have
abbrev pub ArePackages : Code → Packages → Type 0
ArePackages p packages = AreNumbered p packages.paths.keys (length p.functions) packages.numbers.items

-- for each path whether what is sought is found in it
abbrev pub found_in : Sought → List (Bor (List ℕ)) → List Bool
found_in s paths = map (λ path. is_found s path.now) paths
