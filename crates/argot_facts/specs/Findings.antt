-- What is found of a program under a list of problems, as lists in the order in which it is reported.
use Rattle.std.specs.Prelude.{◌≡◌, ◌↔◌, ℕ, ◌<◌, ◌≤◌, Bool, true, List, [], ◌∷◌, Some, map, slice_get}
use Rattle.argot_plain.specs.Code.{Code, IsSiteOf}
use Rattle.argot_plain.specs.Counts.{traced_back}
use Rattle.argot_plain.specs.Lists.{In}
use Rattle.argot_plain.specs.declared.problems.Problem.{Problem}
use Rattle.argot_plain.specs.declared.sites.Site.{Site}
use Rattle.argot_facts.specs.Escapes.{Escapes}
use Rattle.argot_facts.specs.Flows as flowing
use Rattle.argot_facts.specs.Graphs.{IsNumbered, IsOrdered, Turned}
use Rattle.argot_facts.specs.Lists.{Joins}
use Rattle.argot_facts.specs.Origins.{IsOrigin}
use Rattle.argot_facts.specs.Refers.{Holds, IsLivePlace, Targets}
use Rattle.argot_facts.specs.Traces.{IsTraceOf, IsTraceTo, IsArgumentNumber, hop}
use Rattle.argot_facts.specs.declared.findings.EscapePair.{EscapePair}
use Rattle.argot_facts.specs.declared.findings.Flow.{Flow}
use Rattle.argot_facts.specs.declared.findings.Hop.{Hop}
use Rattle.argot_facts.specs.declared.findings.HopKind.{HopKind}
use Rattle.argot_facts.specs.declared.findings.HopKind.TheVariants as drawn
use Rattle.argot_facts.specs.declared.findings.Origin.{Origin}
use Rattle.argot_facts.specs.declared.nodes.Node.{Node}

-- the problem of this number
abbrev pub IsProblem : List Problem → ℕ → Problem → Type 0
IsProblem problems n pr = slice_get problems n ≡ Some pr

-- flows by problem, source, sink and argument
pub data FlowBefore (a b : Flow) : Type 0 where
  by_problem : a.problem < b.problem → FlowBefore a b
  by_source : a.problem ≡ b.problem → a.source < b.source → FlowBefore a b
  by_sink : a.problem ≡ b.problem → a.source ≡ b.source → a.sink < b.sink → FlowBefore a b
  by_argument : a.problem ≡ b.problem → a.source ≡ b.source → a.sink ≡ b.sink → a.arg < b.arg → FlowBefore a b

-- the flow is one of its problem
pub record IsFlowOf (p : Code) (problems : List Problem) (f : Flow) : Type 0 where
  pub problem : Problem
  pub is_problem : IsProblem problems f.problem problem
  pub flows : flowing.Flow p problem f.source f.sink f.arg

-- exactly the flows of all problems, in order, each with its trace over the numbers of these nodes
pub record AreFlows (p : Code) (problems : List Problem) (ns : List Node) (found : List (Flow × List Hop)) : Type 0 where
  pub ordered : IsOrdered FlowBefore (map (λ f. f.0) found)
  pub each : (f : Flow) → In f (map (λ f. f.0) found) ↔ IsFlowOf p problems f
  pub traces : (f : Flow) (trace : List Hop) (problem : Problem) → In (f, trace) found → IsProblem problems f.problem problem
      → IsTraceOf p problem ns (IsNumbered p problem ns) f.source f.sink f.arg trace

-- escapes by problem, source and site
pub data EscapeBefore (a b : EscapePair) : Type 0 where
  by_problem : a.problem < b.problem → EscapeBefore a b
  by_source : a.problem ≡ b.problem → a.source < b.source → EscapeBefore a b
  by_site : a.problem ≡ b.problem → a.source ≡ b.source → a.site < b.site → EscapeBefore a b

-- the escape is one of its problem, which asks for escapes
pub record IsEscapeOf (p : Code) (problems : List Problem) (e : EscapePair) : Type 0 where
  pub problem : Problem
  pub is_problem : IsProblem problems e.problem problem
  pub asks : problem.escapes ≡ true
  pub escapes : flowing.EscapeOf p problem e.source e.site

-- exactly the escapes of the problems that ask for them, in order
pub record AreEscapes (p : Code) (problems : List Problem) (found : List EscapePair) : Type 0 where
  pub ordered : IsOrdered EscapeBefore found
  pub each : (e : EscapePair) → In e found ↔ IsEscapeOf p problems e

-- the kind of a hop whose edge is walked the other way
abbrev pub walked_back : HopKind → HopKind
walked_back drawn.Start = drawn.Start
walked_back drawn.Plain = drawn.Plain
walked_back drawn.Call = drawn.Return
walked_back drawn.Return = drawn.Call
walked_back drawn.Reset = drawn.Reset

-- the hops read backwards, before these: each edge leads on from where it led to
abbrev pub backwards_onto : List Hop → List Hop → List Hop
backwards_onto [] done = done
backwards_onto (h ∷ []) done = hop drawn.Start h.node ∷ done
backwards_onto (h ∷ (next ∷ hops)) done = backwards_onto (next ∷ hops) (hop (walked_back next.kind) h.node ∷ done)

-- the trace from the origin at the node number n to the argument k of the point t: that of the turned edges from the first node of
-- the argument which is joined to the origin by them, read backwards
pub record IsTraceBack (p : Code) (pr : Problem) (ns : List Node) (n t k : ℕ) (trace : List Hop) : Type 0 where
  pub start : ℕ
  pub argument : IsArgumentNumber p (traced_back pr) ns t k start
  pub found : List Hop
  pub unfolds : IsTraceTo (Turned (IsNumbered p (traced_back pr) ns)) start n found
  pub first : (b : ℕ) → IsArgumentNumber p (traced_back pr) ns t k b → Joins (Turned (IsNumbered p (traced_back pr) ns)) b n → start ≤ b
  pub is : trace ≡ backwards_onto found []

-- origins by problem, point, argument and node
pub data OriginBefore (a b : Origin) : Type 0 where
  by_problem : a.problem < b.problem → OriginBefore a b
  by_point : a.problem ≡ b.problem → a.point < b.point → OriginBefore a b
  by_argument : a.problem ≡ b.problem → a.point ≡ b.point → a.arg < b.arg → OriginBefore a b
  by_node : a.problem ≡ b.problem → a.point ≡ b.point → a.arg ≡ b.arg → a.node < b.node → OriginBefore a b

-- the origin is one of its problem, at the node of this number
pub record IsOriginOf (p : Code) (problems : List Problem) (ns : List Node) (o : Origin) : Type 0 where
  pub problem : Problem
  pub is_problem : IsProblem problems o.problem problem
  pub node : Node
  pub is_node : slice_get ns o.node ≡ Some node
  pub origin : IsOrigin p problem node o.point o.arg

-- exactly the origins of all problems, in order, each with its trace
pub record AreOrigins (p : Code) (problems : List Problem) (ns : List Node) (found : List (Origin × List Hop)) : Type 0 where
  pub ordered : IsOrdered OriginBefore (map (λ o. o.0) found)
  pub each : (o : Origin) → In o (map (λ o. o.0) found) ↔ IsOriginOf p problems ns o
  pub traces : (o : Origin) (trace : List Hop) (problem : Problem) → In (o, trace) found → IsProblem problems o.problem problem
      → IsTraceBack p problem ns o.node o.point o.arg trace

-- a site of an instruction of a live function that escapes
pub record IsEscapingSite (p : Code) (s : ℕ) : Type 0 where
  pub place : ℕ
  pub site : Site
  pub is : IsSiteOf p place s site
  pub live : IsLivePlace p place
  pub escapes : Escapes p s

-- exactly these, ascending
pub record AreEscapingSites (p : Code) (found : List ℕ) : Type 0 where
  pub ordered : IsOrdered (λ (a b : ℕ). a < b) found
  pub each : (s : ℕ) → In s found ↔ IsEscapingSite p s

-- a call and one of its targets, by place and then by function
pub data TargetBefore (a b : ℕ × ℕ) : Type 0 where
  by_place : a.0 < b.0 → TargetBefore a b
  by_function : a.0 ≡ b.0 → a.1 < b.1 → TargetBefore a b

-- exactly the calls with their targets, in order
pub record AreTargets (p : Code) (found : List (ℕ × ℕ)) : Type 0 where
  pub ordered : IsOrdered TargetBefore found
  pub each : (i target : ℕ) → In (i, target) found ↔ ((takes : Bool) × Holds p (Targets i target takes))
