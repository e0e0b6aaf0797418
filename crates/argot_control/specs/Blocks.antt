-- Blocks: runs of places that control enters at the first one alone.
use Rattle.std.specs.Prelude.{◌≡◌, ◌≢◌, ◌⊎◌, ℕ, ◌+◌, ◌<◌, ◌≤◌, List, None}
use Rattle.argot_plain.specs.Code.{Code, IsAt, IsFunction, IsIn}
use Rattle.argot_plain.specs.Lists.{In}
use Rattle.argot_plain.specs.declared.functions.Function.{Function}
use Rattle.argot_plain.specs.declared.instructions.Kind.{Kind}
use Rattle.argot_plain.specs.declared.instructions.Kind.TheVariants.{Call, RunDefers, Leave, Goto, Branch, Panic}
use Rattle.argot_facts.specs.Follows.{DirectlyFollowsBy}
use Rattle.argot_facts.specs.Refers.{Fact, IsLive, IsLivePlaceIn}

-- the place j is the exit of the function of i, which is live and has a body
pub record IsExitOf (p : Code) (F : Fact → Type 0) (i j : ℕ) : Type 0 where
  pub function : ℕ
  pub fn : Function
  pub inside : IsIn p i function
  pub live : F (IsLive function)
  pub is : IsFunction p function fn
  pub body : fn.external ≡ None
  pub exit : j ≡ fn.exit

-- control goes from the place i to the next one and to its function's exit alone, and to the next one from i alone
pub record IsInner (p : Code) (F : Fact → Type 0) (i : ℕ) : Type 0 where
  pub next : DirectlyFollowsBy p F i (i + 1)
  pub alone : (k : ℕ) → DirectlyFollowsBy p F k (i + 1) → k ≡ i
  pub out : (j : ℕ) → DirectlyFollowsBy p F i j → (j ≡ i + 1) ⊎ IsExitOf p F i j
  pub stays : (g : ℕ) → IsIn p i g → IsIn p (i + 1) g

-- numbers of blocks, which rise with the places; two places beside each other have one number only where the first is inner
pub record AreBlocks (p : Code) (F : Fact → Type 0) (block : ℕ → ℕ) : Type 0 where
  pub rising : (i : ℕ) → block i ≤ block (i + 1)
  pub inner : (i : ℕ) → block (i + 1) ≡ block i → IsInner p F i

-- the place begins its block
abbrev pub IsHead : (ℕ → ℕ) → ℕ → Type 0
IsHead block j = (k : ℕ) → j ≡ k + 1 → block j ≡ block k → ⊥

-- control goes from a place of the block x to the first one of the block y at once
pub record LeadsOn (p : Code) (F : Fact → Type 0) (block : ℕ → ℕ) (x y : ℕ) : Type 0 where
  pub from : ℕ
  pub to : ℕ
  pub goes : DirectlyFollowsBy p F from to
  pub is_from : block from ≡ x
  pub is_to : block to ≡ y
  pub head : IsHead block to

-- and by one or more such steps
pub data IsRow (p : Code) (F : Fact → Type 0) (block : ℕ → ℕ) (x : ℕ) : ℕ → Type 0 where
  leads : {y : ℕ} → LeadsOn p F block x y → IsRow p F block x y
  leads_on : {y z : ℕ} → IsRow p F block x y → LeadsOn p F block y z → IsRow p F block x z

-- the place b stands behind a in one block, or the block of a leads to that of b
abbrev pub IsBehind : Code → (Fact → Type 0) → (ℕ → ℕ) → ℕ → ℕ → Type 0
IsBehind p F block a b = ((block a ≡ block b) × (a < b)) ⊎ IsRow p F block (block a) (block b)

-- an instruction of this kind goes on to the next place, and calls nothing
abbrev pub GoesStraightOn : Kind → Type 0
GoesStraightOn (Call to callee args) = ⊥
GoesStraightOn RunDefers = ⊥
GoesStraightOn (Leave from) = ⊥
GoesStraightOn (Goto target) = ⊥
GoesStraightOn (Branch targets) = ⊥
GoesStraightOn (Panic from) = ⊥
GoesStraightOn kind = Unit {0}

-- at the place i of a live function stands such an instruction, and the next place is no exit and no target of a Goto or Branch
pub record IsStraightOn (p : Code) (F : Fact → Type 0) (i : ℕ) : Type 0 where
  pub kind : Kind
  pub at : IsAt p i kind
  pub straight : GoesStraightOn kind
  pub live : IsLivePlaceIn p F i
  pub no_exit : (g : ℕ) (fn : Function) → IsFunction p g fn → i + 1 ≢ fn.exit
  pub no_goto : (k target : ℕ) → IsAt p k (Goto target) → target ≢ i + 1
  pub no_branch : (k target : ℕ) (targets : List ℕ) → IsAt p k (Branch targets) → In target targets → target ≢ i + 1
