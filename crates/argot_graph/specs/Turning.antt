-- A graph whose edges are those of another, each turned round.
use Rattle.std.specs.Prelude.{◌≡◌, ◌↔◌}
use Rattle.argot_plain.specs.Lists.{In}
use Rattle.argot_facts.specs.Graphs.{Drawn, turned_kind}
use Rattle.argot_facts.specs.declared.graphs.Edge.{Edge}

-- from the end to the start, a call for a return and a return for a call
abbrev pub turned : Edge → Edge
turned e = record { from = e.to; to = e.from; kind = turned_kind e.kind }

-- the same nodes, and exactly the turned edges
pub record IsTurned (old new : Drawn) : Type 0 where
  pub nodes : new.nodes ≡ old.nodes
  pub each : (e : Edge) → In e new.edges ↔ In (turned e) old.edges
