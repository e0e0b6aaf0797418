-- Where the arguments of points come from.
use Rattle.std.specs.Prelude.{ℕ}
use Rattle.argot_plain.specs.Code.{Code}
use Rattle.argot_plain.specs.Counts.{traced_back}
use Rattle.argot_plain.specs.Nodes.{Mark}
use Rattle.argot_plain.specs.declared.problems.Problem.{Problem}
use Rattle.argot_facts.specs.Flows.{IsArgument}
use Rattle.argot_facts.specs.Graphs.{IsMarked, IsEdge}
use Rattle.argot_facts.specs.Lists.{Joins}
use Rattle.argot_facts.specs.declared.graphs.EdgeKind.{EdgeKind}
use Rattle.argot_facts.specs.declared.nodes.Node.{Node}

-- no edge leads to the node
abbrev pub IsFirst : Code → Problem → Node → Type 0
IsFirst p pr n = (a : Node) (kind : EdgeKind) → IsEdge p pr a kind n → ⊥

-- a node that nothing leads to is joined to the argument k of the point t
pub record IsOrigin (p : Code) (pr : Problem) (n : Node) (t k : ℕ) : Type 0 where
  pub first : IsFirst p (traced_back pr) n
  pub end : Mark
  pub argument : IsArgument p (traced_back pr) t k end
  pub to : Node
  pub is_to : IsMarked p to end
  pub joins : Joins (IsEdge p (traced_back pr)) n to
