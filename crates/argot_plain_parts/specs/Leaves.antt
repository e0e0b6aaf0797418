-- Tests of lists of leaf paths.
use Rattle.std.specs.Prelude.{◌&&◌, ◌++◌, not, Bool, true, false, Option, Some, None, List, [], ◌∷◌, ◌+◌, ◌==◌, ◌||◌, nat_lt, ℕ}
use Rattle.argot_plain.specs.Lists.{same_path, has_path, below, without_first}
use Rattle.argot_text.specs.declared.path.PathStep.{PathStep}
use Rattle.argot_text.specs.declared.path.PathStep.TheVariants.{Field, Element, Key, Value, Channel, Capture}

-- whether two lists have the same paths in the same order
abbrev pub same_paths : List (List PathStep) → List (List PathStep) → Bool
same_paths [] [] = true
same_paths (p ∷ ps) (q ∷ qs) = same_path p q && same_paths ps qs
same_paths _ _ = false

-- whether the empty path is the only one
abbrev pub is_root : List (List PathStep) → Bool
is_root ([] ∷ []) = true
is_root _ = false

abbrev pub is_of_element : List PathStep → Bool
is_of_element (Element ∷ p) = true
is_of_element _ = false

abbrev pub are_of_elements : List (List PathStep) → Bool
are_of_elements [] = true
are_of_elements (p ∷ ps) = is_of_element p && are_of_elements ps

abbrev pub is_of_capture : List PathStep → Bool
is_of_capture (Capture n ∷ p) = true
is_of_capture _ = false

abbrev pub are_of_captures : List (List PathStep) → Bool
are_of_captures [] = true
are_of_captures (p ∷ ps) = is_of_capture p && are_of_captures ps

-- whether the first list has the paths of the second without their first steps
abbrev pub same_elements : List (List PathStep) → List (List PathStep) → Bool
same_elements [] [] = true
same_elements (p ∷ ps) (q ∷ qs) = same_path p (without_first q) && same_elements ps qs
same_elements _ _ = false

-- whether each of the paths stands behind the front in the whole list
abbrev pub are_joined : List PathStep → List (List PathStep) → List (List PathStep) → Bool
are_joined front [] whole = true
are_joined front (q ∷ qs) whole = has_path (front ++ q) whole && are_joined front qs whole

-- whether no path of the list stands in it again
abbrev pub no_path_twice : List (List PathStep) → Bool
no_path_twice [] = true
no_path_twice (q ∷ qs) = not (has_path q qs) && no_path_twice qs

abbrev pub is_next : Option (List PathStep) → List (List PathStep) → Bool
is_next None ts = true
is_next (Some q) [] = false
is_next (Some q) (t ∷ ts) = same_path q t

abbrev pub behind_next : Option (List PathStep) → List (List PathStep) → List (List PathStep)
behind_next None ts = ts
behind_next (Some q) [] = []
behind_next (Some q) (t ∷ ts) = ts

-- whether the second list has what is left of the paths of the first below the path
abbrev pub same_below : List PathStep → List (List PathStep) → List (List PathStep) → Bool
same_below path [] [] = true
same_below path [] (t ∷ ts) = false
same_below path (q ∷ qs) ts = is_next (below path q) ts && same_below path qs (behind_next (below path q) ts)

-- where a step stands among the steps of one path's place, as types list their leaves
abbrev pub rank : PathStep → ℕ
rank (Field n) = n
rank Element = 4294967296
rank Key = 4294967297
rank Value = 4294967298
rank Channel = 4294967299
rank (Capture n) = 4294967300 + n

-- whether a path stands before another, by its first step that differs
abbrev pub path_before : List PathStep → List PathStep → Bool
path_before [] [] = false
path_before [] (t ∷ q) = true
path_before (s ∷ p) [] = false
path_before (s ∷ p) (t ∷ q) = nat_lt (rank s) (rank t) || ((rank s == rank t) && path_before p q)

abbrev pub before_first : List PathStep → List (List PathStep) → Bool
before_first p [] = true
before_first p (q ∷ qs) = path_before p q

-- whether each path stands before the next
abbrev pub are_ascending : List (List PathStep) → Bool
are_ascending [] = true
are_ascending (q ∷ qs) = before_first q qs && are_ascending qs
