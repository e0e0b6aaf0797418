-- Edges by the nodes from which they lead and by their calls.
use Rattle.std.specs.Prelude.{◌≡◌, ◌⊎◌, ℕ, ◌+◌, ◌<◌, ◌≤◌, ◌^◌, Bool, true, false, List, Some, length, slice_get, slice_index_or}
use Rattle.argot_facts.specs.declared.graphs.Edge.{Edge}
use Rattle.argot_facts.specs.declared.graphs.EdgeKind.TheVariants.{Call, Return}
use Rattle.argot_summary.specs.Buckets.{slot_of, IsListed}
use Rattle.argot_summary.specs.declared.net.Net.{Net}

-- edges lead between nodes
abbrev pub AreEnds : List Edge → ℕ → Type 0
AreEnds es nodes = (k : ℕ) (e : Edge) → slice_get es k ≡ Some e → (e.from < nodes) × (e.to < nodes)

-- the nodes from which they lead rise
abbrev pub AreRising : List Edge → Type 0
AreRising es = (k j : ℕ) (e f : Edge) → k ≤ j → slice_get es k ≡ Some e → slice_get es j ≡ Some f → e.from ≤ f.from

abbrev pub start : List ℕ → ℕ → ℕ
start starts a = slice_index_or starts a 0

-- the edges before x lead from nodes before a, the others from a on
pub record IsStart (es : List Edge) (a x : ℕ) : Type 0 where
  pub inside : x ≤ length es
  pub before : (k : ℕ) (e : Edge) → slice_get es k ≡ Some e → k < x → e.from < a
  pub behind : (k : ℕ) (e : Edge) → slice_get es k ≡ Some e → x ≤ k → a ≤ e.from

pub record AreStarts (es : List Edge) (nodes : ℕ) (starts : List ℕ) : Type 0 where
  pub count : length starts ≡ nodes + 1
  pub each : (a : ℕ) → a < length starts → IsStart es a (start starts a)

-- what is new is k, up to the place a
pub record AreFilled (old new : List ℕ) (a k : ℕ) : Type 0 where
  pub longer : length old ≤ length new
  pub past : a < length new
  pub least : (length new ≤ a + 1) ⊎ (length new ≡ length old)
  pub kept : (j : ℕ) → j < length old → start new j ≡ start old j
  pub filled : (j : ℕ) → length old ≤ j → j < length new → start new j ≡ k

pub record HasCalls (es : List Edge) (heads : ℕ) (lists : List (List ℕ)) : Type 0 where
  pub count : length lists ≡ heads
  pub each : (k c : ℕ) (e : Edge) → slice_get es k ≡ Some e → e.kind ≡ Call c → IsListed lists (slot_of e.to c heads) k
  pub inside : (h k : ℕ) → IsListed lists h k → k < length es

pub record HasReturns (es : List Edge) (heads : ℕ) (lists : List (List ℕ)) : Type 0 where
  pub count : length lists ≡ heads
  pub each : (k c : ℕ) (e : Edge) → slice_get es k ≡ Some e → e.kind ≡ Return c
      → IsListed lists (slot_of e.from c heads) k
  pub inside : (h k : ℕ) → IsListed lists h k → k < length es

pub record HasBacks (es : List Edge) (nodes : ℕ) (backs : List Bool) : Type 0 where
  pub count : length backs ≡ nodes
  pub each : (k c : ℕ) (e : Edge) → slice_get es k ≡ Some e → e.kind ≡ Return c
      → slice_index_or backs e.from false ≡ true

-- the edge k isn't the return from l to the call at c
abbrev pub IsNoReturn : List Edge → ℕ → ℕ → ℕ → Type 0
IsNoReturn es k l c = (e : Edge) → slice_get es k ≡ Some e → e.from ≡ l → e.kind ≡ Return c → ⊥

-- the edge k isn't the call at c to q
abbrev pub IsNoCall : List Edge → ℕ → ℕ → ℕ → Type 0
IsNoCall es k q c = (e : Edge) → slice_get es k ≡ Some e → e.to ≡ q → e.kind ≡ Call c → ⊥

pub record IsNet (x : Net) : Type 0 where
  pub few : length x.edges.now < 2 ^ 32
  pub ends : AreEnds x.edges.now x.nodes
  pub some : 0 < x.heads
  pub starts : AreStarts x.edges.now x.nodes x.starts.items
  pub backs : HasBacks x.edges.now x.nodes x.backs.items
  pub calls : HasCalls x.edges.now x.heads x.calls.lists
  pub returns : HasReturns x.edges.now x.heads x.returns.lists
