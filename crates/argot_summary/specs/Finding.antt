-- Facts as they are found.
use Rattle.std.specs.Prelude.{◌≡◌, ℕ, ◌<◌, ◌≤◌, List, Some, length, slice_get}
use Rattle.argot_facts.specs.Summed.{AreApart}
use Rattle.argot_facts.specs.declared.summaries.Same.{Same}
use Rattle.argot_summary.specs.Buckets.{slot_of, IsListed}
use Rattle.argot_summary.specs.declared.faults.SummaryFault.{SummaryFault}
use Rattle.argot_summary.specs.declared.faults.SummaryFault.TheVariants.{Pairs, Memory}
use Rattle.argot_summary.specs.declared.finding.Found.{Found}

-- the fact of this number isn't that from p to n
abbrev pub IsOther : List Same → ℕ → ℕ → ℕ → Type 0
IsOther fs i p n = (f : Same) → slice_get fs i ≡ Some f → f.from ≡ p → f.to ≡ n → ⊥

-- no fact from p to n stands here
abbrev pub HasNone : List Same → ℕ → ℕ → Type 0
HasNone fs p n = (i : ℕ) (f : Same) → slice_get fs i ≡ Some f → f.from ≡ p → f.to ≡ n → ⊥

-- the fact is among these
pub record Stands (fs : List Same) (p n : ℕ) : Type 0 where
  pub at : ℕ
  pub fact : Same
  pub is : slice_get fs at ≡ Some fact
  pub from : fact.from ≡ p
  pub to : fact.to ≡ n

-- with a rank of at most k
pub record IsThere (fs : List Same) (p n k : ℕ) : Type 0 where
  pub at : ℕ
  pub fact : Same
  pub is : slice_get fs at ≡ Some fact
  pub from : fact.from ≡ p
  pub to : fact.to ≡ n
  pub rank : fact.rank ≤ k

-- no fact stands twice, and each is in its list
pub record IsWell (v : Found) : Type 0 where
  pub distinct : AreApart v.facts.items
  pub members : (i : ℕ) (f : Same) → slice_get v.facts.items i ≡ Some f
      → IsListed v.members.lists (slot_of f.from f.to v.heads) i
  pub inside : (h i : ℕ) → IsListed v.members.lists h i → i < length v.facts.items
  pub heads : length v.members.lists ≡ v.heads
  pub some : 0 < v.heads
  pub used : v.members.used ≡ length v.facts.items

-- no rank is greater
abbrev pub IsLow : List Same → ℕ → Type 0
IsLow fs k = (i : ℕ) (f : Same) → slice_get fs i ≡ Some f → f.rank ≤ k

-- the first of the new facts are the old ones
pub record Keeps (old new : List Same) : Type 0 where
  pub longer : length old ≤ length new
  pub each : (i : ℕ) (f : Same) → slice_get old i ≡ Some f → slice_get new i ≡ Some f
  pub back : (i : ℕ) (f : Same) → i < length old → slice_get new i ≡ Some f → slice_get old i ≡ Some f

-- and nothing but x is new
pub record Adds (old new : List Same) (x : Same) : Type 0 where
  pub keeps : Keeps old new
  pub only : (i : ℕ) (f : Same) → length old ≤ i → slice_get new i ≡ Some f → f ≡ x

-- the limit is passed, where that is the fault
abbrev pub IsMany : List Same → SummaryFault → Type 0
IsMany fs Pairs = 16777216 < length fs
IsMany fs Memory = Unit {0}
