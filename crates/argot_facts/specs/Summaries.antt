-- Summary facts, the rounds in which they are found, and the facts from which a trace unfolds; over any set of nodes and edges.
use Rattle.std.specs.Prelude.{ℕ, suc, ◌<◌}
use Rattle.argot_facts.specs.declared.graphs.EdgeKind.{EdgeKind}
use Rattle.argot_facts.specs.declared.graphs.EdgeKind.TheVariants.{Plain, Call, Return, Reset}

-- how a node reaches others: Up where no call is open, Down behind one
pub data Way : Type 0 where
  Up : Way
  Down : Way

module _ {N : Type 0} (E : N → EdgeKind → N → Type 0) where
  -- data at the node p, in which a call edge ends, reaches n within the function and what it calls and comes back from; found
  -- within r rounds
  pub data SameWithin : N → ℕ → N → Type 0 where
    same_start : {p : N} {r c : ℕ} → (m : N) → E m (Call c) p → SameWithin p r p
    same_plain : {p : N} {r : ℕ} {n : N} → (m : N) → SameWithin p r m → E m Plain n → SameWithin p (suc r) n
    same_over : {p : N} {r : ℕ} {n : N} → (m q l : N) → (c : ℕ) → SameWithin p r m → E m (Call c) q → SameWithin q r l → E l (Return c) n → SameWithin p (suc r) n

  -- found at any round
  pub record IsSame (p n : N) : Type 0 where
    pub rounds : ℕ
    pub within : SameWithin p rounds n

  -- and first in that one
  pub record HasRank (p n : N) (r : ℕ) : Type 0 where
    pub within : SameWithin p r n
    pub least : (k : ℕ) → k < r → SameWithin p k n → ⊥

  pub data ReachesWithin (s : N) : Way → ℕ → N → Type 0 where
    up_start : {r : ℕ} → ReachesWithin s Up r s
    up_plain : {r : ℕ} {n : N} → (m : N) → ReachesWithin s Up r m → E m Plain n → ReachesWithin s Up (suc r) n
    up_return : {r c : ℕ} {n : N} → (m : N) → ReachesWithin s Up r m → E m (Return c) n → ReachesWithin s Up (suc r) n
    up_reset : {r : ℕ} {n : N} → (m : N) → ReachesWithin s Up r m → E m Reset n → ReachesWithin s Up (suc r) n
    up_over : {r : ℕ} {n : N} → (m q l : N) → (c : ℕ) → ReachesWithin s Up r m → E m (Call c) q → IsSame q l → E l (Return c) n → ReachesWithin s Up (suc r) n
    up_again : {r : ℕ} {n : N} → (m : N) → ReachesWithin s Down r m → E m Reset n → ReachesWithin s Up (suc r) n
    down_call : {r c : ℕ} {n : N} → (m : N) → ReachesWithin s Up r m → E m (Call c) n → ReachesWithin s Down (suc r) n
    down_plain : {r : ℕ} {n : N} → (m : N) → ReachesWithin s Down r m → E m Plain n → ReachesWithin s Down (suc r) n
    down_on : {r c : ℕ} {n : N} → (m : N) → ReachesWithin s Down r m → E m (Call c) n → ReachesWithin s Down (suc r) n
    down_over : {r : ℕ} {n : N} → (m q l : N) → (c : ℕ) → ReachesWithin s Down r m → E m (Call c) q → IsSame q l → E l (Return c) n → ReachesWithin s Down (suc r) n

  -- first in this round
  pub record ReachRank (s : N) (w : Way) (n : N) (r : ℕ) : Type 0 where
    pub within : ReachesWithin s w r n
    pub least : (k : ℕ) → k < r → ReachesWithin s w k n → ⊥
