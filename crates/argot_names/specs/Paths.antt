-- The paths of the library, in byte order.
use Rattle.std.specs.Prelude.{ℕ, List, [], ◌∷◌, codes}

abbrev pub library_paths : List (List ℕ)
library_paths = codes "errors" ∷ codes "fmt" ∷ codes "log" ∷ codes "os" ∷ codes "os/exec" ∷ codes "strconv" ∷ codes "strings" ∷ codes "sync" ∷ []
