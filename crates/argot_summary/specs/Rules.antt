-- What the steps of a round ask of the rules, and what they find.
use Rattle.std.specs.Prelude.{◌≡◌, ℕ, ◌<◌, List, Some, slice_get}
use Rattle.argot_facts.specs.declared.graphs.Edge.{Edge}
use Rattle.argot_facts.specs.declared.graphs.EdgeKind.{EdgeKind}
use Rattle.argot_facts.specs.declared.graphs.EdgeKind.TheVariants.{Call, Return}
use Rattle.argot_facts.specs.declared.summaries.Same.{Same}
use Rattle.argot_summary.specs.Finding.{IsThere}
use Rattle.argot_summary.specs.Stepping.{Edged, IsWithin, Grows, IsReady, IsDone, AreDone}
use Rattle.argot_summary.specs.declared.finding.Found.{Found}
use Rattle.argot_summary.specs.declared.follow.Round.{Round}
use Rattle.argot_summary.specs.declared.follow.Side.{Side}

-- the facts are those of a round
abbrev pub InRound : Round → Found → Type 0
InRound r v = IsReady r.net.now v r.published.now r.rank

-- the round adds facts of its own rank
abbrev pub Finds : Round → Found → Found → Type 0
Finds r v w = Grows r.net.now v w r.rank

-- by the rules p reaches what comes back from there to the call
abbrev pub ComesBack : Round → ℕ → Side → Type 0
ComesBack r p exit = (n : ℕ) → Edged r.net.now exit.node (Return exit.call) n → IsWithin r.net.now p r.rank n

-- and that is found
abbrev pub HasBack : Round → List Same → ℕ → Side → Type 0
HasBack r fs p exit = (n : ℕ) → Edged r.net.now exit.node (Return exit.call) n → IsThere fs p n r.rank

-- as far as the edge k shows it
abbrev pub HasBackAt : Round → List Same → ℕ → Side → ℕ → Type 0
HasBackAt r fs p exit k = (e : Edge) → slice_get r.net.now.edges.now k ≡ Some e → e.from ≡ exit.node
    → e.kind ≡ Return exit.call → IsThere fs p e.to r.rank

-- by the rules p reaches what comes back from behind the entry
abbrev pub ReachesOver : Round → ℕ → Side → Type 0
ReachesOver r p entry = (l n k : ℕ) → IsWithin r.net.now entry.node k l → k < r.rank
    → Edged r.net.now l (Return entry.call) n → IsWithin r.net.now p r.rank n

-- and that is found, for the facts of earlier rounds
abbrev pub HasOver : Round → List Same → ℕ → Side → Type 0
HasOver r fs p entry = (j n : ℕ) (g : Same) → j < r.published.now.count → slice_get fs j ≡ Some g
    → g.from ≡ entry.node → Edged r.net.now g.to (Return entry.call) n → IsThere fs p n r.rank

-- by the rules whatever reaches m reaches n
abbrev pub Passes : Round → ℕ → ℕ → Type 0
Passes r m n = (p k : ℕ) → IsWithin r.net.now p k m → k < r.rank → IsWithin r.net.now p r.rank n

-- and that is found, for the facts of earlier rounds
abbrev pub HasPassed : Round → List Same → ℕ → ℕ → Type 0
HasPassed r fs m n = (i : ℕ) (g : Same) → i < r.published.now.count → slice_get fs i ≡ Some g
    → g.to ≡ m → IsThere fs g.from n r.rank

-- by the rules whatever reaches a node from which the call leads to the entry reaches n
abbrev pub PassesUp : Round → Side → ℕ → Type 0
PassesUp r entry n = (p m j : ℕ) → IsWithin r.net.now p j m → j < r.rank
    → Edged r.net.now m (Call entry.call) entry.node → IsWithin r.net.now p r.rank n

-- and that is found, for the facts of earlier rounds
abbrev pub HasPassedUp : Round → List Same → Side → ℕ → Type 0
HasPassedUp r fs entry n = (m i : ℕ) (g : Same) → Edged r.net.now m (Call entry.call) entry.node
    → i < r.published.now.count → slice_get fs i ≡ Some g → g.to ≡ m → IsThere fs g.from n r.rank

-- as far as the edge k shows it
abbrev pub HasPassedUpAt : Round → List Same → Side → ℕ → ℕ → Type 0
HasPassedUpAt r fs entry n k = (e : Edge) → slice_get r.net.now.edges.now k ≡ Some e → e.to ≡ entry.node
    → e.kind ≡ Call entry.call → (i : ℕ) (g : Same) → i < r.published.now.count → slice_get fs i ≡ Some g
    → g.to ≡ e.from → IsThere fs g.from n r.rank

-- what the fact gives along an edge of this kind to b is found
abbrev pub HasGiven : Round → List Same → Same → EdgeKind → ℕ → Type 0
HasGiven r fs fact kind b = IsDone r.net.now fs r.published.now.count fact r.rank kind b

-- along the edge k
abbrev pub HasGivenAt : Round → List Same → Same → ℕ → Type 0
HasGivenAt r fs fact k = (e : Edge) → slice_get r.net.now.edges.now k ≡ Some e → HasGiven r fs fact e.kind e.to

-- along every edge
abbrev pub HasGivenAll : Round → List Same → Same → Type 0
HasGivenAll r fs fact = (kind : EdgeKind) (b : ℕ) → Edged r.net.now fact.to kind b → HasGiven r fs fact kind b

-- from the fact of this number on
abbrev pub HasGivenFrom : Round → List Same → ℕ → Type 0
HasGivenFrom r fs first = AreDone r.net.now fs r.published.now.count first r.rank
