-- What is handed on and handed back, target by target.
use Rattle.std.specs.Prelude.{◌≡◌, ℕ, false, List, length, slice_get}
use Rattle.argot_plain.specs.Code.{Code, kind_of}
use Rattle.argot_plain.specs.Counts.{cleans}
use Rattle.argot_plain.specs.Lists.{In}
use Rattle.argot_plain.specs.declared.problems.Problem.{Problem}
use Rattle.argot_facts.specs.Pointing.{Pointing}
use Rattle.argot_facts.specs.declared.graphs.Edge.{Edge}
use Rattle.argot_facts.specs.declared.graphs.EdgeKind.{EdgeKind}
use Rattle.argot_facts.specs.declared.graphs.EdgeKind.TheVariants.{Return as Returns}
use Rattle.argot_facts.specs.declared.nodes.Node.{Node}
use Rattle.argot_graph_edges.specs.Rows.{IsNumberedAs, Just, Becomes, HandsBack, Entering, Returning, entering}
use Rattle.argot_graph_edges.specs.declared.handing.Value.{Value}

-- the value enters the target g
pub record EntersAt (p : Code) (x : Pointing) (i : ℕ) (v : Value) (g : ℕ) (e : Edge) : Type 0 where
  pub parameter : Node
  pub becomes : Becomes p i g v.index v.path.now parameter
  pub is : IsNumberedAs x.nodes (Just v.node (entering (kind_of (slice_get p.instrs i)) i) parameter) e

-- and each target of the place
abbrev pub Entered : Code → Pointing → Problem → ℕ → Value → Edge → Type 0
Entered p x pr i v = IsNumberedAs x.nodes (Entering p x pr i v.index v.path.now v.node)

-- what g hands back becomes the value
pub record BackAt (p : Code) (x : Pointing) (pr : Problem) (i : ℕ) (v : Value) (g : ℕ) (e : Edge) : Type 0 where
  pub passes : cleans p pr i g ≡ false
  pub value : Node
  pub back : HandsBack p g v.index v.path.now value
  pub is : IsNumberedAs x.nodes (Just value (Returns i) v.node) e

abbrev pub HandedBack : Code → Pointing → Problem → ℕ → Value → Edge → Type 0
HandedBack p x pr i v = IsNumberedAs x.nodes (Returning p x pr i v.index v.path.now v.node)
