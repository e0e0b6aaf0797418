-- The folder of the module that an import path names, whether or not it is there, computed.
use Rattle.std.specs.Prelude.{ℕ, nat_eq, Bool, true, List, [], ◌∷◌, codes, take, drop, length, Option, Some, None, if◌then◌else◌}
use Rattle.std.specs.Cmp.Lexicographic.{pointwise}

-- the path of a package that is left out
unfoldable pub left_out : List ℕ → Bool
left_out path =
    if pointwise nat_eq path (codes "unsafe") then true
    else (if pointwise nat_eq path (codes "reflect") then true
    else pointwise nat_eq path (codes "C"))

-- what follows a front
unfoldable pub behind_of : List ℕ → List ℕ → Option (List ℕ)
behind_of front text = if pointwise nat_eq (take (length front) text) front then Some (drop (length front) text) else None

-- the path names the folder at the top
unfoldable pub names_top : List ℕ → List ℕ → Bool
names_top [] path = pointwise nat_eq path (codes "main")
names_top (b ∷ bs) path = pointwise nat_eq path (b ∷ bs)

-- a folder that isn't below `stubs/`
abbrev pub own_of : List ℕ → Option (List ℕ) → Option (List ℕ)
own_of folder None = Some folder
own_of folder (Some rest) = None

-- a folder further in
abbrev pub further_of : Option (List ℕ) → Option (List ℕ)
further_of None = None
further_of (Some []) = None
further_of (Some (b ∷ bs)) = own_of (b ∷ bs) (behind_of (codes "stubs/") (b ∷ bs))

abbrev pub behind_slash : Option (List ℕ) → Option (List ℕ)
behind_slash None = None
behind_slash (Some rest) = behind_of (codes "/") rest

abbrev pub inner_of : List ℕ → List ℕ → Option (List ℕ)
inner_of module_ path = further_of (behind_slash (behind_of module_ path))

abbrev pub candidate_of : List ℕ → List ℕ → Option (List ℕ)
candidate_of module_ path = if names_top module_ path then Some [] else inner_of module_ path
