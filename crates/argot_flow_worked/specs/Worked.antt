-- The nodes and edges of the worked graph.
use Rattle.std.specs.Prelude.{ℕ, List, [], ◌∷◌}
use Rattle.argot_facts.specs.declared.graphs.Edge.{Edge}
use Rattle.argot_facts.specs.declared.graphs.EdgeKind.{EdgeKind}
use Rattle.argot_facts.specs.declared.graphs.EdgeKind.TheVariants.{Plain, Call, Return}
use Rattle.argot_facts.specs.declared.nodes.Node.{Node}

abbrev pub leaf : ℕ → Node
leaf a = record { place = 0; index = 0; leaf = a }

abbrev pub four_nodes : List Node
four_nodes = leaf 0 ∷ leaf 1 ∷ leaf 2 ∷ leaf 3 ∷ []

abbrev pub edge : ℕ → ℕ → EdgeKind → Edge
edge a b k = record { from = a; to = b; kind = k }

-- into the function by the call at 5, through it, and back to that call; a call at 6 comes back nowhere
abbrev pub call_edges : List Edge
call_edges = edge 0 1 (Call 5) ∷ edge 1 2 Plain ∷ edge 2 3 (Return 5) ∷ edge 3 1 (Call 6) ∷ []
