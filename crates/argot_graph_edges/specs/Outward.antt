-- The edges of calls of externals, level by level: nodes of results, nodes of arguments, places.
use Rattle.std.specs.Prelude.{◌≡◌, ℕ, ◌+◌, ◌<◌, ◌≤◌, true, false, List, Some, length, slice_get}
use Rattle.argot_plain.specs.Code.{Code, IsAt, IsFunction, arguments}
use Rattle.argot_plain.specs.Counts.{cleans}
use Rattle.argot_plain.specs.Lists.{In}
use Rattle.argot_plain.specs.declared.functions.Function.{Function}
use Rattle.argot_plain.specs.declared.instructions.Callee.{Callee}
use Rattle.argot_plain.specs.declared.instructions.Kind.TheVariants.{Call}
use Rattle.argot_plain.specs.declared.problems.Problem.{Problem}
use Rattle.argot_facts.specs.Pointing.{Pointing}
use Rattle.argot_facts.specs.declared.graphs.Edge.{Edge}
use Rattle.argot_facts.specs.declared.graphs.EdgeKind.TheVariants.{Plain}
use Rattle.argot_facts.specs.declared.nodes.Node.{Node}

-- the target is an external whose entry flows, and doesn't clean
pub record FlowsAt (p : Code) (pr : Problem) (i g : ℕ) : Type 0 where
  pub fn : Function
  pub is : IsFunction p g fn
  pub flows : fn.external ≡ Some true
  pub passes : cleans p pr i g ≡ false

-- and so is some target of the place
abbrev pub FlowsOut : Code → Pointing → Problem → ℕ → Type 0
FlowsOut p x pr i = (g : ℕ) × In (i, g) x.targets × FlowsAt p pr i g

-- the node is one of the place, of an argument behind n results
abbrev pub IsArgumentOf : ℕ → ℕ → ℕ → Node → Type 0
IsArgumentOf i n count a = (a.place ≡ i) × ((k : ℕ) × (k < count) × (a.index ≡ n + k))

-- or of one of the results
abbrev pub IsResultOf : ℕ → ℕ → Node → Type 0
IsResultOf i n a = (a.place ≡ i) × (a.index < n)

-- a plain edge to the node number m, where it is one of a result
abbrev pub ToResult : List Node → ℕ → ℕ → ℕ → ℕ → Edge → Type 0
ToResult ns from i n m e = (a : Node) × (slice_get ns m ≡ Some a) × IsResultOf i n a × (e ≡ record { from = from; to = m; kind = Plain })

abbrev pub ToResults : List Node → ℕ → ℕ → ℕ → ℕ → ℕ → Edge → Type 0
ToResults ns from i n first last e = (m : ℕ) × (first ≤ m) × (m < last) × ToResult ns from i n m e

-- from the node number m, where it is one of an argument
abbrev pub FromArgument : List Node → ℕ → ℕ → ℕ → ℕ → ℕ → ℕ → Edge → Type 0
FromArgument ns i n count first last m e = (a : Node) × (slice_get ns m ≡ Some a) × IsArgumentOf i n count a × ToResults ns m i n first last e

abbrev pub FromArguments : List Node → ℕ → ℕ → ℕ → ℕ → ℕ → Edge → Type 0
FromArguments ns i n count first last e = (m : ℕ) × (first ≤ m) × (m < last) × FromArgument ns i n count first last m e

-- the edge leads from a node of an argument to one of a result, at a place that calls such an external
pub record OfExternal (p : Code) (x : Pointing) (pr : Problem) (i : ℕ) (e : Edge) : Type 0 where
  pub to : List ℕ
  pub callee : Callee
  pub args : List ℕ
  pub at : IsAt p i (Call to callee args)
  pub out : FlowsOut p x pr i
  pub from : Node
  pub is_from : slice_get x.nodes e.from ≡ Some from
  pub argument : IsArgumentOf i (length to) (length (arguments callee args)) from
  pub end : Node
  pub is_to : slice_get x.nodes e.to ≡ Some end
  pub result : IsResultOf i (length to) end
  pub plain : e.kind ≡ Plain

abbrev pub OfExternals : Code → Pointing → Problem → Edge → Type 0
OfExternals p x pr e = (i : ℕ) × OfExternal p x pr i e
