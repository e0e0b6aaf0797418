-- The names that are declared in every package (Go specification: Predeclared identifiers), and which of them are types.
use Rattle.std.specs.Prelude.{ℕ, ◌∷◌, [], ◌++◌, nat_eq, Bool, List, codes}
use Rattle.std.specs.List.{list_any}
use Rattle.std.specs.Cmp.Lexicographic.{pointwise}

-- the name is among these
abbrev pub is_among : List ℕ → List (List ℕ) → Bool
is_among name names = list_any (λ one. pointwise nat_eq name one) names

abbrev pub predeclared_types : List (List ℕ)
predeclared_types =
    codes "bool" ∷ codes "string" ∷ codes "int" ∷ codes "int8" ∷ codes "int16" ∷ codes "int32" ∷ codes "int64" ∷ codes "uint"
    ∷ codes "uint8" ∷ codes "uint16" ∷ codes "uint32" ∷ codes "uint64" ∷ codes "byte" ∷ codes "rune" ∷ codes "error" ∷ codes "any"
    ∷ codes "float32" ∷ codes "float64" ∷ codes "complex64" ∷ codes "complex128" ∷ codes "uintptr" ∷ codes "comparable" ∷ []

-- constants and `nil`
abbrev pub predeclared_values : List (List ℕ)
predeclared_values = codes "true" ∷ codes "false" ∷ codes "iota" ∷ codes "nil" ∷ []

abbrev pub predeclared_functions : List (List ℕ)
predeclared_functions =
    codes "append" ∷ codes "cap" ∷ codes "clear" ∷ codes "close" ∷ codes "copy" ∷ codes "delete" ∷ codes "len" ∷ codes "make"
    ∷ codes "max" ∷ codes "min" ∷ codes "new" ∷ codes "panic" ∷ codes "print" ∷ codes "println" ∷ codes "recover"
    ∷ codes "complex" ∷ codes "real" ∷ codes "imag" ∷ []

-- all of them, in the order in which they are numbered
abbrev pub predeclared : List (List ℕ)
predeclared = predeclared_types ++ (predeclared_values ++ predeclared_functions)
