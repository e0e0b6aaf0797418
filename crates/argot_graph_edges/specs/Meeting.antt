-- Writes that meet reads of the same location, level by level.
use Rattle.std.specs.Prelude.{◌≡◌, ◌⊎◌, ℕ, ◌<◌, Bool, List, Some, slice_get}
use Rattle.argot_links.specs.Runs.{run}
use Rattle.argot_plain.specs.Lists.{In}
use Rattle.argot_facts.specs.Marked.{IsSet}
use Rattle.argot_facts.specs.Pointing.{Pointing}
use Rattle.argot_facts.specs.declared.graphs.Edge.{Edge}
use Rattle.argot_facts.specs.declared.graphs.EdgeKind.TheVariants.{Reset}
use Rattle.argot_facts.specs.declared.nodes.Node.{Node}
use Rattle.argot_facts.specs.declared.pointing.Loc.{Loc}

-- the first numbers are below n
abbrev pub IsBelow : ℕ → List (ℕ × ℕ) → Type 0
IsBelow n pairs = (w : ℕ × ℕ) → In w pairs → w.0 < n

-- by these tables what is written at the place w to an object of the site may still be there at i
abbrev pub MayMeetIn : List Bool → List (ℕ × ℕ) → ℕ → ℕ → ℕ → Type 0
MayMeetIn escaping control s w i = IsSet escaping s ⊎ In {A = ℕ × ℕ} (w, i) control

-- a reset from the node number w to the node number r, whose places may meet
pub record MeetOf (ns : List Node) (escaping : List Bool) (control : List (ℕ × ℕ)) (s w r : ℕ) (e : Edge) : Type 0 where
  pub write : Node
  pub read : Node
  pub is_write : slice_get ns w ≡ Some write
  pub is_read : slice_get ns r ≡ Some read
  pub meet : MayMeetIn escaping control s write.place read.place
  pub edge : e ≡ record { from = w; to = r; kind = Reset }

-- to some of these reads
abbrev pub MeetsOf : List Node → List Bool → List (ℕ × ℕ) → ℕ → List ℕ → ℕ → Edge → Type 0
MeetsOf ns escaping control s reads w e = (r : ℕ) × In r reads × MeetOf ns escaping control s w r e

-- from some of these writes
abbrev pub MeetsOfAll : List Node → List Bool → List (ℕ × ℕ) → ℕ → List ℕ → List ℕ → Edge → Type 0
MeetsOfAll ns escaping control s reads writes e = (w : ℕ) × In w writes × MeetsOf ns escaping control s reads w e

-- at the location number z, and at some location
abbrev pub MeetsAt : Pointing → List Bool → List (ℕ × ℕ) → List (List ℕ) → List (List ℕ) → ℕ → Edge → Type 0
MeetsAt x escaping control writes reads z e = (l : Loc) × (slice_get x.locations z ≡ Some l) × MeetsOfAll x.nodes escaping control l.site (run reads z) (run writes z) e

abbrev pub MeetsAtAll : Pointing → List Bool → List (ℕ × ℕ) → List (List ℕ) → List (List ℕ) → Edge → Type 0
MeetsAtAll x escaping control writes reads e = (z : ℕ) × MeetsAt x escaping control writes reads z e
