-- How places are cut into blocks and blocks are numbered. Where a block ends sooner than it has to is a question of cost: the
-- numbers are right wherever two places beside each other have one number only where the first goes straight on.
use Rattle.std.specs.Prelude.{◌≡◌, ◌⊎◌, ℕ, ◌+◌, ◌<◌, ◌≤◌, Bool, List, Option, Some, None, length, slice_get}
use Rattle.argot_plain.specs.Code.{Code, IsAt, IsFunction}
use Rattle.argot_plain.specs.Lists.{In}
use Rattle.argot_plain.specs.declared.functions.Function.{Function}
use Rattle.argot_plain.specs.declared.instructions.Kind.{Kind}
use Rattle.argot_plain.specs.declared.instructions.Kind.TheVariants.{Goto, Branch}
use Rattle.argot_facts.specs.Marked.{IsSet}
use Rattle.argot_control.specs.Blocks.{GoesStraightOn}

-- new has the flags of old, and those of the numbers with the property beside them, as far as there are flags
pub record Marks (A : ℕ → Type 0) (old new : List Bool) : Type 0 where
  pub count : length new ≡ length old
  pub kept : (m : ℕ) → IsSet old m → IsSet new m
  pub there : (m : ℕ) → A m → m < length old → IsSet new m

-- the instruction names the place as one to which it goes on
abbrev pub LeadsTo : Kind → ℕ → Type 0
LeadsTo (Goto target) m = m ≡ target
LeadsTo (Branch targets) m = In m targets
LeadsTo kind m = ⊥

-- some instruction does
abbrev pub IsTarget : Code → ℕ → Type 0
IsTarget p m = (k : ℕ) × (kind : Kind) × IsAt p k kind × LeadsTo kind m

-- the place is the exit of some function
abbrev pub IsExit : Code → ℕ → Type 0
IsExit p m = (h : ℕ) × (fn : Function) × IsFunction p h fn × (m ≡ fn.exit)

-- the flags of all exits and targets are set
pub record AreEntered (p : Code) (flags : List Bool) : Type 0 where
  pub count : length flags ≡ length p.instrs
  pub exits : (m : ℕ) → IsExit p m → m < length flags → IsSet flags m
  pub targets : (m : ℕ) → IsTarget p m → m < length flags → IsSet flags m

-- at the place i stands an instruction that goes straight on to a place without a flag
pub record GoesOnWithin (p : Code) (flags : List Bool) (i : ℕ) : Type 0 where
  pub kind : Kind
  pub at : IsAt p i kind
  pub straight : GoesStraightOn kind
  pub within : i + 1 < length flags
  pub apart : IsSet flags (i + 1) → ⊥

-- new has flags of old and of numbers with the property, and no others
pub record Chooses (A : ℕ → Type 0) (old new : List Bool) : Type 0 where
  pub count : length new ≡ length old
  pub only : (m : ℕ) → IsSet new m → IsSet old m ⊎ A m

-- the first numbers of such a list, and the one that comes next
pub record AreNumberedSoFar (flags : List Bool) (numbers : List ℕ) (next : ℕ) : Type 0 where
  pub most : next ≤ length numbers
  pub low : (i a : ℕ) → slice_get numbers i ≡ Some a → a ≤ i
  pub rising : (i a b : ℕ) → slice_get numbers i ≡ Some a → slice_get numbers (i + 1) ≡ Some b → a ≤ b
  pub same : (i a : ℕ) → slice_get numbers i ≡ Some a → slice_get numbers (i + 1) ≡ Some a → IsSet flags i
  pub last : (i a : ℕ) → i + 1 ≡ length numbers → slice_get numbers i ≡ Some a → (a ≤ next) × (next ≡ a → IsSet flags i)

-- a number for each flag: they begin at 0 and rise by one behind each flag that isn't set
pub record AreNumbered (flags : List Bool) (numbers : List ℕ) : Type 0 where
  pub count : length numbers ≡ length flags
  pub low : (i a : ℕ) → slice_get numbers i ≡ Some a → a ≤ i
  pub rising : (i a b : ℕ) → slice_get numbers i ≡ Some a → slice_get numbers (i + 1) ≡ Some b → a ≤ b
  pub same : (i a : ℕ) → slice_get numbers i ≡ Some a → slice_get numbers (i + 1) ≡ Some a → IsSet flags i

abbrev pub number_or : Option ℕ → ℕ → ℕ
number_or None n = n
number_or (Some a) n = a

-- the number of a place by such a list; behind the last place each has a number of its own
abbrev pub block_in : List ℕ → ℕ → ℕ
block_in numbers i = number_or (slice_get numbers i) (length numbers + i)
