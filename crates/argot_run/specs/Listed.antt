-- Which of the listed paths belong to a program.
use Rattle.std.specs.Prelude.{◌≡◌, ℕ, ◌==◌, nat_eq, Bool, true, false, not, ◌&&◌, ◌||◌, List, codes}
use Rattle.std.specs.List.{starts_with, ends_with, list_all, list_any, slice_split}
use Rattle.std.specs.Cmp.Lexicographic.{pointwise}

-- a part of a path that hides nothing: it doesn't begin with `_` or `.` and isn't `testdata`
abbrev pub is_open_part : List ℕ → Bool
is_open_part part =
    not (starts_with nat_eq part (codes "_")) && not (starts_with nat_eq part (codes ".")) && not (pointwise nat_eq part (codes "testdata"))

-- a path all of whose parts are such; a file's own name is never `testdata` where it ends in `.go` or `.s`
abbrev pub is_open_path : List ℕ → Bool
is_open_path path = list_all is_open_part (slice_split (λ b. b == 47) path)

-- a Go file that is no test
abbrev pub is_go_file : List ℕ → Bool
is_go_file path = ends_with nat_eq path (codes ".go") && not (ends_with nat_eq path (codes "_test.go"))

-- `go.mod`, a kept Go file or an assembly file
abbrev pub is_source : List ℕ → Bool
is_source path =
    pointwise nat_eq path (codes "go.mod") || (is_go_file path || ends_with nat_eq path (codes ".s")) && is_open_path path

-- a source that isn't `main.go`
abbrev pub is_other_source : List ℕ → Bool
is_other_source path = is_source path && not (pointwise nat_eq path (codes "main.go"))

-- no path is a source
abbrev pub HasNoSource : List (List ℕ) → Type 0
HasNoSource paths = list_any is_source paths ≡ false

-- some path is a source other than `main.go`
abbrev pub HasOthers : List (List ℕ) → Type 0
HasOthers paths = list_any is_other_source paths ≡ true

-- there is a source, and none but `main.go`
abbrev pub HasMainAlone : List (List ℕ) → Type 0
HasMainAlone paths = (list_any is_source paths ≡ true) × (list_any is_other_source paths ≡ false)
