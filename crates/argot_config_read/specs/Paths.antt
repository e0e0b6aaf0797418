-- Where a value stands in a configuration, as `problems[0].sinks[1].name`; the top itself is `.`.
use Rattle.std.specs.Prelude.{ℕ, List, ◌++◌, codes, decimal, bytes_eq, if◌then◌else◌}

-- the path of the top
abbrev pub top_path : List ℕ
top_path = codes "."

-- the path of the value at a key of the object at a path
unfoldable pub key_path : List ℕ → List ℕ → List ℕ
key_path path key = if bytes_eq path top_path then key else (path ++ codes ".") ++ key

-- the path of an item of the list at a path, counted from 0
unfoldable pub item_path : List ℕ → ℕ → List ℕ
item_path path i = ((path ++ codes "[") ++ decimal i) ++ codes "]"
