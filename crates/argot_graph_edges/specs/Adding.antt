-- Edges that are added to a sketch, as long as there aren't too many.
use Rattle.std.specs.Prelude.{◌≡◌, ◌⊎◌, ◌<◌, true, false, List, length}
use Rattle.argot_plain.specs.Lists.{In}
use Rattle.argot_facts.specs.Exact.{most_edges}
use Rattle.argot_facts.specs.Graphs.{EdgeBefore, IsOrdered}
use Rattle.argot_facts.specs.declared.graphs.Edge.{Edge}
use Rattle.argot_graph_edges.specs.declared.sketch.Sketch.{Sketch}

-- each stands once, and there are more than the limit
pub record AreMany (edges : List Edge) : Type 0 where
  pub ordered : IsOrdered EdgeBefore edges
  pub many : most_edges < length edges

-- new has the edges of old and those with the property, and no others; where it is full, it has only some, which are many
pub record Adds (R : Edge → Type 0) (old new : Sketch) : Type 0 where
  pub only : (e : Edge) → In e new.edges.items → In e old.edges.items ⊎ R e
  pub kept : new.full ≡ false → (e : Edge) → In e old.edges.items → In e new.edges.items
  pub there : new.full ≡ false → (e : Edge) → R e → In e new.edges.items
  pub full : new.full ≡ false → old.full ≡ false
  pub many : (old.full ≡ true → AreMany old.edges.items) → new.full ≡ true → AreMany new.edges.items

-- the same edges
pub record IsKept (old new : Sketch) : Type 0 where
  pub only : (e : Edge) → In e new.edges.items → In e old.edges.items
  pub kept : (e : Edge) → In e old.edges.items → In e new.edges.items
  pub many : new.full ≡ true → AreMany new.edges.items
