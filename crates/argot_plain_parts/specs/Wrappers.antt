-- Tests of wrappers.
use Rattle.std.specs.Prelude.{ℕ, ◌==◌, ◌&&◌, ◌||◌, not, Bool, true, false, Option, Some, None, List, [], ◌∷◌, slice_get, is_none, nat_eq}
use Rattle.std.specs.Cmp.Lexicographic.{pointwise}
use Rattle.argot_plain.specs.declared.functions.Function.{Function}
use Rattle.argot_plain_parts.specs.Parts.{is_wrapper}

abbrev pub can_wrap : Option Function → Bool
can_wrap None = false
can_wrap (Some fn) = is_wrapper fn.role && is_none fn.external

-- whether two methods are of two types or names, or have the same function
abbrev pub agree : (ℕ × List ℕ × ℕ) → (ℕ × List ℕ × ℕ) → Bool
agree x y = not (x.0 == y.0) || not (pointwise nat_eq x.1 y.1) || (x.2 == y.2)

abbrev pub agrees : (ℕ × List ℕ × ℕ) → List (ℕ × List ℕ × ℕ) → Bool
agrees x [] = true
agrees x (y ∷ ys) = agree x y && agrees x ys

abbrev pub methods_fit : List Function → List (ℕ × List ℕ × ℕ) → Bool
methods_fit fns [] = true
methods_fit fns (x ∷ xs) = can_wrap (slice_get fns x.2) && agrees x xs && methods_fit fns xs
