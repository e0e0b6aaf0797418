-- Which definitions reach a place.
use Rattle.std.specs.Prelude.{ℕ}
use Rattle.argot_plain.specs.Lists.{In}
use Rattle.argot_plain.specs.Code.{Code, IsAt, Defines, Successor, reads}
use Rattle.argot_plain.specs.declared.instructions.Kind.{Kind}

-- a path of one or more successors leads from d to i, and no place strictly between defines r
pub data Reaches (p : Code) (d r : ℕ) : ℕ → Type 0 where
  next : {j : ℕ} → Successor p d j → Reaches p d r j
  on : {i j : ℕ} → Reaches p d r i → ((k : ℕ) → Defines p i k r → ⊥) → Successor p i j → Reaches p d r j

-- a definition of r at d, as its result j, reaches i
pub record DefinedAt (p : Code) (d j r i : ℕ) : Type 0 where
  pub defines : Defines p d j r
  pub reaches : Reaches p d r i

-- a definition at d reaches the place i, which reads r: what the analysis keeps of this
pub record IsDefinition (p : Code) (d i r : ℕ) : Type 0 where
  pub kind : Kind
  pub is : IsAt p i kind
  pub read : In r (reads kind)
  pub index : ℕ
  pub defined : DefinedAt p d index r i
