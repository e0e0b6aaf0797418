-- What files tell: pairs of a path and the bytes that stand there, and what a folder lists of them.
use Rattle.std.specs.Prelude.{◌≡◌, ℕ, ◌==◌, nat_eq, cond, List, [], ◌∷◌, ◌++◌, codes, Option, Some, None, IfSome, IsPermutation, IsSorted}
use Rattle.std.specs.List.{filter_map}
use Rattle.std.specs.Ordering.{nat_cmp}
use Rattle.std.specs.Cmp.Lexicographic.{pointwise, slice_cmp}

-- a path and the bytes of the file there
abbrev pub Entry : Type 0
Entry = List ℕ × List ℕ

-- what follows the first list in the second, if it begins so
abbrev pub after_prefix : List ℕ → List ℕ → Option (List ℕ)
after_prefix [] path = Some path
after_prefix (b ∷ prefix) [] = None
after_prefix (b ∷ prefix) (c ∷ path) = cond (b == c) (after_prefix prefix path) None

-- the path relative to the folder, if it lies below it
abbrev pub below : List ℕ → List ℕ → Option (List ℕ)
below dir path = after_prefix (dir ++ codes "/") path

-- the paths below the folder, relative to it, in the order of the entries
abbrev pub listing : List ℕ → List Entry → List (List ℕ)
listing dir entries = filter_map (λ entry. below dir entry.0) entries

-- the bytes at the path, if one is told
abbrev pub content : List ℕ → List Entry → Option (List ℕ)
content path [] = None
content path (entry ∷ entries) = cond (pointwise nat_eq path entry.0) (Some entry.1) (content path entries)

-- no path is told twice: none of them is told again behind itself
abbrev pub HasDistinctPaths : List Entry → Type 0
HasDistinctPaths [] = Unit {0}
HasDistinctPaths (entry ∷ entries) = (content entry.0 entries ≡ None) × HasDistinctPaths entries

-- the texts are what the folder lists, in byte order
pub record IsListing (dir : List ℕ) (entries : List Entry) (texts : List (List ℕ)) : Type 0 where
  pub same : IsPermutation (listing dir entries) texts
  pub ascending : IsSorted (slice_cmp nat_cmp) texts

-- the same, where the files tell
abbrev pub ListsTold : Option (List Entry) → List ℕ → List (List ℕ) → Type 0
ListsTold told dir texts = IfSome told (λ entries. IsListing dir entries texts)

-- the bytes are what stands at the path, where the files tell
abbrev pub ReadsTold : Option (List Entry) → List ℕ → List ℕ → Type 0
ReadsTold told path bytes = IfSome told (λ entries. content path entries ≡ Some bytes)
