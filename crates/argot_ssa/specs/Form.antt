-- The rows of a function or of a program in order, what they say of one place and register, and when that is exactly the
-- definitions that reach.
use Rattle.std.specs.Prelude.{◌≡◌, ℕ, ◌<◌, ◌↔◌, ◌==◌, ◌&&◌, ◌||◌, Bool, nat_lt, cond, List, [], ◌∷◌, map, ⊤}
use Rattle.argot_links.specs.Members.{IsAscending}
use Rattle.argot_plain.specs.Lists.{In}
use Rattle.argot_plain.specs.Code.{Code, IsFunction, IsIn}
use Rattle.argot_plain.specs.declared.functions.Function.{Function}
use Rattle.argot_facts.specs.Reaching.{IsDefinition}
use Rattle.argot_ssa.specs.Paths.{Row, IsFound}

-- by place, then by register, then by definition
pub data Before (a b : Row) : Type 0 where
  by_place : a.0 < b.0 → Before a b
  by_register : a.0 ≡ b.0 → a.1 < b.1 → Before a b
  by_definition : a.0 ≡ b.0 → a.1 ≡ b.1 → a.2 < b.2 → Before a b

-- each row stands before all later ones, so that none stands twice
abbrev pub AreInOrder : List Row → Type 0
AreInOrder [] = ⊤
AreInOrder (x ∷ xs) = ((y : Row) → In y xs → Before x y) × AreInOrder xs

-- the definitions that the rows have for a place and a register, in the order of the rows
abbrev pub definitions : List Row → ℕ → ℕ → List ℕ
definitions [] i r = []
definitions (x ∷ xs) i r = cond ((x.0 == i) && (x.1 == r)) (x.2 ∷ definitions xs i r) (definitions xs i r)

-- exactly the definitions of the register that reach the place, which reads it, ascending
pub record IsReaching (p : Code) (i r : ℕ) (ds : List ℕ) : Type 0 where
  pub exact : (d : ℕ) → In d ds ↔ IsDefinition p d i r
  pub ascending : IsAscending ds

-- the form of the function g: for each of its places and each register exactly the definitions that reach
abbrev pub IsFormOf : Code → ℕ → List Row → Type 0
IsFormOf p g rows = (i r : ℕ) → IsIn p i g → IsReaching p i r (definitions rows i r)

-- a definition, a place and a register as a row
abbrev pub as_row : ℕ × ℕ × ℕ → Row
as_row t = (t.1, t.2, t.0)

-- exactly the triples of a definition, a place and a register of which the definition reaches the place, which reads the
-- register; ordered by place, register and definition
pub record AreDefs (p : Code) (ds : List (ℕ × ℕ × ℕ)) : Type 0 where
  pub exact : (d i r : ℕ) → In (d, i, r) ds ↔ IsDefinition p d i r
  pub in_order : AreInOrder (map as_row ds)

-- the definitions of the rows from the first one on, as long as they have this place and this register
abbrev pub run : List Row → ℕ → ℕ → List ℕ
run [] i r = []
run (x ∷ xs) i r = cond ((x.0 == i) && (x.1 == r)) (x.2 ∷ run xs i r) []

-- the row stands before all rows of the place and the register
abbrev pub stands_before : Row → ℕ → ℕ → Bool
stands_before x i r = nat_lt x.0 i || ((x.0 == i) && nat_lt x.1 r)

-- a row as a definition, a place and a register
abbrev pub as_triple : Row → ℕ × ℕ × ℕ
as_triple x = (x.2, x.0, x.1)

-- a row of one of the first n functions
pub record IsFoundIn (p : Code) (n : ℕ) (x : Row) : Type 0 where
  pub g : ℕ
  pub below : g < n
  pub fn : Function
  pub is : IsFunction p g fn
  pub found : IsFound p fn x
