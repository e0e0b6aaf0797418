-- The flows and escapes of a program under a problem.
use Rattle.std.specs.Prelude.{◌≡◌, ℕ, ◌+◌, ◌<◌, Bool, true, List, length}
use Rattle.argot_plain.specs.Code.{Code, IsAt, Hands, arguments}
use Rattle.argot_plain.specs.Counts.{is_source, is_sink, is_source_place}
use Rattle.argot_plain.specs.Nodes.{Mark, mark, IsNode}
use Rattle.argot_plain.specs.declared.instructions.Callee.{Callee}
use Rattle.argot_plain.specs.declared.instructions.Kind.{Kind}
use Rattle.argot_plain.specs.declared.instructions.Kind.TheVariants.{Call}
use Rattle.argot_plain.specs.declared.problems.Problem.{Problem}
use Rattle.argot_text.specs.declared.path.PathStep.{PathStep}
use Rattle.argot_facts.specs.Edges.{WritesBy}
use Rattle.argot_facts.specs.Escapes.{EscapesBy}
use Rattle.argot_facts.specs.Graphs.{IsMarked, IsEdgeBy}
use Rattle.argot_facts.specs.Lists.{Joins}
use Rattle.argot_facts.specs.Reaching.{DefinedAt}
use Rattle.argot_facts.specs.Refers.{Fact, Holds, Targets}
use Rattle.argot_facts.specs.declared.nodes.Node.{Node}

-- by these facts a result node of the source place s: a Call of a source, or a place that the problem names and that has a result
-- of index 0. A place without one is the source of nothing
pub data IsSourceBy (p : Code) (F : Fact → Type 0) (pr : Problem) : ℕ → Mark → Type 0 where
  by_call : {s k : ℕ} {q : List PathStep} → (to args : List ℕ) → (callee : Callee) → (target : ℕ) → (takes : Bool)
      → IsAt p s (Call to callee args) → F (Targets s target takes) → is_source p pr s target ≡ true → k < length to → IsSourceBy p F pr s (mark s k q)
  by_place : {s : ℕ} {q : List PathStep} → is_source_place pr s ≡ true → IsNode p (mark s 0 q) → IsSourceBy p F pr s (mark s 0 q)

-- a node of the argument k of the sink place t
pub data IsArgumentBy (p : Code) (F : Fact → Type 0) (pr : Problem) : ℕ → ℕ → Mark → Type 0 where
  is_argument : {t k : ℕ} {q : List PathStep} → (kind : Kind) → (callee : Callee) → (args : List ℕ) → (n target : ℕ) → (takes : Bool)
      → IsAt p t kind → Hands kind callee args n → F (Targets t target takes) → is_sink p pr t target ≡ true → k < length (arguments callee args)
      → IsArgumentBy p F pr t k (mark t (n + k) q)

-- a realizable list joins the source to the argument
pub record FlowBy (p : Code) (D : ℕ → ℕ → ℕ → ℕ → Type 0) (F : Fact → Type 0) (pr : Problem) (s t k : ℕ) : Type 0 where
  pub start : Mark
  pub end : Mark
  pub source : IsSourceBy p F pr s start
  pub argument : IsArgumentBy p F pr t k end
  pub from : Node
  pub to : Node
  pub is_from : IsMarked p from start
  pub is_to : IsMarked p to end
  pub joins : Joins (IsEdgeBy p D F pr) from to

-- a realizable list joins the source to a write of the escaping site
pub record EscapeOfBy (p : Code) (D : ℕ → ℕ → ℕ → ℕ → Type 0) (F : Fact → Type 0) (pr : Problem) (s site : ℕ) : Type 0 where
  pub escapes : EscapesBy p F site
  pub start : Mark
  pub end : Mark
  pub path : List PathStep
  pub source : IsSourceBy p F pr s start
  pub writes : WritesBy p D F end site path
  pub from : Node
  pub to : Node
  pub is_from : IsMarked p from start
  pub is_to : IsMarked p to end
  pub joins : Joins (IsEdgeBy p D F pr) from to

-- by the definitions and facts of the program
abbrev pub IsSource : Code → Problem → ℕ → Mark → Type 0
IsSource p = IsSourceBy p (Holds p)

abbrev pub IsArgument : Code → Problem → ℕ → ℕ → Mark → Type 0
IsArgument p = IsArgumentBy p (Holds p)

abbrev pub Flow : Code → Problem → ℕ → ℕ → ℕ → Type 0
Flow p = FlowBy p (DefinedAt p) (Holds p)

abbrev pub EscapeOf : Code → Problem → ℕ → ℕ → Type 0
EscapeOf p = EscapeOfBy p (DefinedAt p) (Holds p)
