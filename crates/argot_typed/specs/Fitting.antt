-- What it means that the numbers in a table of types fit it.
use Rattle.std.specs.Prelude.{ℕ, zero, suc, ◌^◌, ◌<◌, List, [], ◌∷◌, length, ⊤}
use Rattle.std.specs.List.{AllByRecursion, Contains}
use Rattle.argot_typed.specs.declared.shape.Shape.{Shape}
use Rattle.argot_typed.specs.Parts.{shape_at, field_count, parts_of, held_by, unnamed_parts_of}

-- each walk by parts from t on ends before k steps
abbrev pub Ends : (ℕ → List ℕ) → ℕ → ℕ → Type 0
Ends parts zero t = ⊥
Ends parts (suc k) t = AllByRecursion (λ p. Ends parts k p) (parts t)

-- a walk by parts leads from t to u in one step or more
pub data Leads (parts : ℕ → List ℕ) : ℕ → ℕ → Type 0 where
  one : {t u : ℕ} → Contains (parts t) u → Leads parts t u
  more : {t u v : ℕ} → Contains (parts t) u → Leads parts u v → Leads parts t v

-- Each number is below the table's length, and a step can number each field. No walk leads back that goes by no declared type, and none that goes through
-- names, arrays and structs alone: a walk that leads back never ends, and any other meets a type once at most.
pub record AreFit (shapes : List Shape) : Type 0 where
  pub in_range : (t : ℕ) → t < length shapes → AllByRecursion (λ p. p < length shapes) (parts_of (shape_at shapes t))
  pub named : (t : ℕ) → t < length shapes → Ends (λ u. unnamed_parts_of (shape_at shapes u)) (length shapes) t
  pub fields : (t : ℕ) → t < length shapes → field_count (shape_at shapes t) < 2 ^ 32
  pub held : (t : ℕ) → t < length shapes → Ends (λ u. held_by (shape_at shapes u)) (length shapes) t

-- each type stands behind its parts, the first at number n
abbrev pub IsOrderedFrom : ℕ → List Shape → Type 0
IsOrderedFrom n [] = ⊤
IsOrderedFrom n (s ∷ ss) = AllByRecursion (λ p. p < n) (parts_of s) × (field_count s < 2 ^ 32) × IsOrderedFrom (suc n) ss

abbrev pub IsOrdered : List Shape → Type 0
IsOrdered shapes = IsOrderedFrom 0 shapes
