-- What the steps of a round keep and do.
use Rattle.std.specs.Prelude.{◌≡◌, ℕ, ◌<◌, ◌≤◌, List, Some, length, slice_get}
use Rattle.argot_facts.specs.Summaries.{SameWithin}
use Rattle.argot_facts.specs.declared.graphs.EdgeKind.{EdgeKind}
use Rattle.argot_facts.specs.declared.graphs.EdgeKind.TheVariants.{Plain, Call, Return, Reset}
use Rattle.argot_facts.specs.declared.summaries.Same.{Same}
use Rattle.argot_links.specs.Chained.{Chained}
use Rattle.argot_facts.specs.Reached.{IsEdgeIn}
use Rattle.argot_summary.specs.Buckets.{IsListed}
use Rattle.argot_summary.specs.Finding.{IsThere, IsWell, IsLow, Keeps}
use Rattle.argot_summary.specs.Netted.{IsNet}
use Rattle.argot_summary.specs.declared.finding.Found.{Found}
use Rattle.argot_summary.specs.declared.follow.Published.{Published}
use Rattle.argot_summary.specs.declared.net.Net.{Net}

abbrev pub Edged : Net → ℕ → EdgeKind → ℕ → Type 0
Edged x = IsEdgeIn x.edges.now

abbrev pub IsWithin : Net → ℕ → ℕ → ℕ → Type 0
IsWithin x p r n = SameWithin (IsEdgeIn x.edges.now) p r n

-- facts between nodes
abbrev pub AreInside : List Same → ℕ → Type 0
AreInside fs nodes = (i : ℕ) (f : Same) → slice_get fs i ≡ Some f → (f.from < nodes) × (f.to < nodes)

-- facts of at most the rank k, each of which stands by the rules
pub record IsState (x : Net) (v : Found) (k : ℕ) : Type 0 where
  pub well : IsWell v
  pub low : IsLow v.facts.items k
  pub sound : (i : ℕ) (f : Same) → slice_get v.facts.items i ≡ Some f → IsWithin x f.from f.rank f.to
  pub inside : AreInside v.facts.items x.nodes

-- nothing is new but facts of the rank k
pub record Grows (x : Net) (v w : Found) (k : ℕ) : Type 0 where
  pub state : IsState x w k
  pub keeps : Keeps v.facts.items w.facts.items
  pub late : (i : ℕ) (f : Same) → length v.facts.items ≤ i → slice_get w.facts.items i ≡ Some f → f.rank ≡ k

-- the first facts stand in lists by the node in which they end
pub record AreEnding (nodes : ℕ) (fs : List Same) (count : ℕ) (c : Chained) : Type 0 where
  pub heads : length c.lists ≡ nodes
  pub used : c.used ≤ count
  pub each : (i : ℕ) (f : Same) → i < count → slice_get fs i ≡ Some f → IsListed c.lists f.to i
  pub only : (m i : ℕ) (f : Same) → IsListed c.lists m i → slice_get fs i ≡ Some f → f.to ≡ m
  pub inside : (m i : ℕ) → IsListed c.lists m i → i < count

-- and, where data leads back from there, by the node of the parameter
pub record AreStarting (x : Net) (fs : List Same) (count : ℕ) (c : Chained) : Type 0 where
  pub heads : length c.lists ≡ x.nodes
  pub used : c.used ≤ count
  pub each : (i d n : ℕ) (f : Same) → i < count → slice_get fs i ≡ Some f → Edged x f.to (Return d) n
      → IsListed c.lists f.from i
  pub only : (q i : ℕ) (f : Same) → IsListed c.lists q i → slice_get fs i ≡ Some f → f.from ≡ q
  pub inside : (q i : ℕ) → IsListed c.lists q i → i < count

pub record IsPublished (x : Net) (fs : List Same) (u : Published) : Type 0 where
  pub count : u.count ≤ length fs
  pub ending : AreEnding x.nodes fs u.count u.ending
  pub starting : AreStarting x fs u.count u.starting

-- the first facts have lower ranks
abbrev pub AreOlder : List Same → ℕ → ℕ → Type 0
AreOlder fs count k = (i : ℕ) (f : Same) → i < count → slice_get fs i ≡ Some f → f.rank < k

pub record IsReady (x : Net) (v : Found) (u : Published) (k : ℕ) : Type 0 where
  pub net : IsNet x
  pub published : IsPublished x v.facts.items u
  pub older : AreOlder v.facts.items u.count k
  pub state : IsState x v k

-- what the fact f gives along an edge of this kind to b, with the first facts, is there
abbrev pub IsDone : Net → List Same → ℕ → Same → ℕ → EdgeKind → ℕ → Type 0
IsDone x fs count f k Plain b = IsThere fs f.from b k
IsDone x fs count f k (Call c) b = (j n : ℕ) (g : Same) → j < count → slice_get fs j ≡ Some g → g.from ≡ b
    → Edged x g.to (Return c) n → IsThere fs f.from n k
IsDone x fs count f k (Return c) b = (m i : ℕ) (g : Same) → Edged x m (Call c) f.from → i < count
    → slice_get fs i ≡ Some g → g.to ≡ m → IsThere fs g.from b k
IsDone x fs count f k Reset b = Unit {0}

-- and so for each fact from this number on
abbrev pub AreDone : Net → List Same → ℕ → ℕ → ℕ → Type 0
AreDone x fs count first k = (i b : ℕ) (f : Same) (kind : EdgeKind) → first ≤ i → i < count → slice_get fs i ≡ Some f
    → Edged x f.to kind b → IsDone x fs count f k kind b
