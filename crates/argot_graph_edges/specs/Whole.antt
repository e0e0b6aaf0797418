-- All edges.
use Rattle.std.specs.Prelude.{◌≡◌, ◌⊎◌, ◌↔◌, ℕ, ◌<◌, true, false, List, length}
use Rattle.argot_links.specs.Runs.{run}
use Rattle.argot_plain.specs.Code.{Code}
use Rattle.argot_plain.specs.Lists.{In}
use Rattle.argot_plain.specs.declared.problems.Problem.{Problem}
use Rattle.argot_facts.specs.Exact.{AreEscapingBy, AreFollowingBy}
use Rattle.argot_facts.specs.Graphs.{IsNumberedBy}
use Rattle.argot_facts.specs.Handed.{FactsOf}
use Rattle.argot_facts.specs.Pointing.{Pointing}
use Rattle.argot_facts.specs.Reaching.{DefinedAt}
use Rattle.argot_facts.specs.declared.graphs.Edge.{Edge}
use Rattle.argot_points_rules.specs.declared.rules.Owned.{Owned}
use Rattle.argot_graph_edges.specs.Drawn.{RulesDrawn}
use Rattle.argot_graph_edges.specs.Inward.{OfFunctions as Argued}
use Rattle.argot_graph_edges.specs.Meeting.{MeetsAtAll}
use Rattle.argot_graph_edges.specs.Operating.{OfFunctions as Computed}
use Rattle.argot_graph_edges.specs.Outward.{OfExternals}
use Rattle.argot_graph_edges.specs.Adding.{AreMany}
use Rattle.argot_graph_edges.specs.declared.arguments.Writes.{Writes}
use Rattle.argot_graph_edges.specs.declared.meets.Order.{Order}
use Rattle.argot_graph_edges.specs.declared.sketch.Sketch.{Sketch}

-- by the rules, the instructions that compute, or the calls of externals
abbrev pub Drawn : Code → Pointing → Problem → List Owned → List (ℕ × ℕ × ℕ) → Edge → Type 0
Drawn p x pr rules ds e = (RulesDrawn p x pr rules e ⊎ Computed p x.nodes ds x.live e) ⊎ OfExternals p x pr e

-- through an object, to a read or to an argument
abbrev pub Met : Code → Pointing → Problem → Writes → List (List ℕ) → Edge → Type 0
Met p x pr writes reads e = MeetsAtAll x writes.order.now.escaping.now writes.order.now.control.now writes.runs.now reads e ⊎ Argued p x pr writes e

-- an edge of the problem, by what the tables of points-to have
abbrev pub IsEdgeOf : Code → Pointing → Problem → Edge → Type 0
IsEdgeOf p x pr e = IsNumberedBy p (DefinedAt p) (FactsOf p x) pr x.nodes e.from e.kind e.to

-- the runs have the pairs with a property, for numbers below the count
abbrev pub RunsAre : ℕ → (ℕ × ℕ → Type 0) → List (List ℕ) → Type 0
RunsAre count A runs = (z n : ℕ) → z < count → In n (run runs z) ↔ A (z, n)

-- and there are so many
pub record AreRuns (A : ℕ × ℕ → Type 0) (count : ℕ) (runs : List (List ℕ)) : Type 0 where
  pub long : length runs ≡ count
  pub are : RunsAre count A runs

-- exactly the escaping sites and control order, by what the tables of points-to have
pub record IsOrderOf (p : Code) (x : Pointing) (order : Order) : Type 0 where
  pub escaping : AreEscapingBy p (FactsOf p x) order.escaping.now
  pub following : AreFollowingBy p (FactsOf p x) order.control.now

-- all edges, or many of them where the sketch is full
pub record IsSketchOf (p : Code) (x : Pointing) (pr : Problem) (s : Sketch) : Type 0 where
  pub only : (e : Edge) → In e s.edges.items → IsEdgeOf p x pr e
  pub there : s.full ≡ false → (e : Edge) → IsEdgeOf p x pr e → In e s.edges.items
  pub many : s.full ≡ true → AreMany s.edges.items
