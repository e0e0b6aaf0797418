-- Traces: the edge list that parents unfold to.
use Rattle.std.specs.Prelude.{◌≡◌, ℕ, ◌<◌, ◌≤◌, List, [], ◌∷◌, ◌++◌, Some, slice_get}
use Rattle.argot_plain.specs.Code.{Code}
use Rattle.argot_plain.specs.Nodes.{Mark}
use Rattle.argot_plain.specs.declared.problems.Problem.{Problem}
use Rattle.argot_facts.specs.Flows.{IsSource, IsArgument}
use Rattle.argot_facts.specs.Graphs.{IsMarked}
use Rattle.argot_facts.specs.Lists.{Joins}
use Rattle.argot_facts.specs.Parents.{Use, use_start, use_call, use_plain, use_return, use_reset, use_on, use_over, use_again, SameParent, WayParent}
use Rattle.argot_facts.specs.Summaries.{Way, Up, Down, ReachRank}
use Rattle.argot_facts.specs.declared.findings.Hop.{Hop}
use Rattle.argot_facts.specs.declared.findings.HopKind.{HopKind}
use Rattle.argot_facts.specs.declared.findings.HopKind.TheVariants as drawn
use Rattle.argot_facts.specs.declared.graphs.EdgeKind.{EdgeKind}
use Rattle.argot_facts.specs.declared.nodes.Node.{Node}

abbrev pub hop : HopKind → ℕ → Hop
hop kind node = record { kind = kind; node = node }

module _ (E : ℕ → EdgeKind → ℕ → Type 0) where
  -- the hops behind p that lead to n within the function and what it calls
  pub data SameHops : ℕ → ℕ → List Hop → Type 0 where
    same_start : {p : ℕ} → SameParent E p p use_start → SameHops p p []
    same_plain : {p n m : ℕ} {hs : List Hop} → SameParent E p n (use_plain m) → SameHops p m hs → SameHops p n (hs ++ hop drawn.Plain n ∷ [])
    same_over : {p n m q l c : ℕ} {hs ks : List Hop} → SameParent E p n (use_over m q l c) → SameHops p m hs → SameHops q l ks
        → SameHops p n (hs ++ hop drawn.Call q ∷ ks ++ hop drawn.Return n ∷ [])

  -- the kind of the edge by which a rule with one premise comes to its node
  pub data HopOf : Use → HopKind → Type 0 where
    call_hop : {m : ℕ} → HopOf (use_call m) drawn.Call
    plain_hop : {m : ℕ} → HopOf (use_plain m) drawn.Plain
    return_hop : {m : ℕ} → HopOf (use_return m) drawn.Return
    reset_hop : {m : ℕ} → HopOf (use_reset m) drawn.Reset
    on_hop : {m : ℕ} → HopOf (use_on m) drawn.Call
    again_hop : {m : ℕ} → HopOf (use_again m) drawn.Reset

  -- the node of the premise
  pub data ComesFrom : Use → ℕ → Type 0 where
    from_call : {m : ℕ} → ComesFrom (use_call m) m
    from_plain : {m : ℕ} → ComesFrom (use_plain m) m
    from_return : {m : ℕ} → ComesFrom (use_return m) m
    from_reset : {m : ℕ} → ComesFrom (use_reset m) m
    from_on : {m : ℕ} → ComesFrom (use_on m) m
    from_again : {m : ℕ} → ComesFrom (use_again m) m

  -- the hops behind s that lead to n in this way
  pub data WayHops (s : ℕ) : Way → ℕ → List Hop → Type 0 where
    way_start : WayParent E s s Up use_start Up → WayHops s Up s []
    way_hop : {w before : Way} {n m : ℕ} {kind : HopKind} {hs : List Hop} → (u : Use) → WayParent E s n w u before → ComesFrom u m → HopOf u kind
        → WayHops s before m hs → WayHops s w n (hs ++ hop kind n ∷ [])
    way_over : {w before : Way} {n m q l c : ℕ} {hs ks : List Hop} → WayParent E s n w (use_over m q l c) before → WayHops s before m hs → SameHops q l ks
        → WayHops s w n (hs ++ hop drawn.Call q ∷ ks ++ hop drawn.Return n ∷ [])

  -- the way of lesser rank to n, Up where both have the same
  pub data BetterWay (s n : ℕ) : Way → Type 0 where
    up_alone : {r : ℕ} → ReachRank E s Up n r → ((k : ℕ) → ReachRank E s Down n k → ⊥) → BetterWay s n Up
    down_alone : {r : ℕ} → ReachRank E s Down n r → ((k : ℕ) → ReachRank E s Up n k → ⊥) → BetterWay s n Down
    up_first : {r k : ℕ} → ReachRank E s Up n r → ReachRank E s Down n k → r ≤ k → BetterWay s n Up
    down_first : {r k : ℕ} → ReachRank E s Up n r → ReachRank E s Down n k → k < r → BetterWay s n Down

  -- the trace from s to n
  pub record IsTraceTo (s n : ℕ) (trace : List Hop) : Type 0 where
    pub way : Way
    pub better : BetterWay s n way
    pub hops : List Hop
    pub unfolds : WayHops s way n hops
    pub is : trace ≡ hop drawn.Start s ∷ hops

-- the node number a is a result node of the source place s
pub record IsSourceNumber (p : Code) (pr : Problem) (ns : List Node) (s a : ℕ) : Type 0 where
  pub node : Node
  pub is : slice_get ns a ≡ Some node
  pub named : Mark
  pub marked : IsMarked p node named
  pub source : IsSource p pr s named

-- the node number b is one of the argument k of the sink place t
pub record IsArgumentNumber (p : Code) (pr : Problem) (ns : List Node) (t k b : ℕ) : Type 0 where
  pub node : Node
  pub is : slice_get ns b ≡ Some node
  pub named : Mark
  pub marked : IsMarked p node named
  pub argument : IsArgument p pr t k named

-- the trace of the flow from s to the argument k of t, in a graph with these nodes and edges: from the first result node that is
-- joined to a node of the argument, to the first such node
pub record IsTraceOf (p : Code) (pr : Problem) (ns : List Node) (E : ℕ → EdgeKind → ℕ → Type 0) (s t k : ℕ) (trace : List Hop) : Type 0 where
  pub start : ℕ
  pub end : ℕ
  pub source : IsSourceNumber p pr ns s start
  pub argument : IsArgumentNumber p pr ns t k end
  pub unfolds : IsTraceTo E start end trace
  pub first : (a b : ℕ) → IsSourceNumber p pr ns s a → IsArgumentNumber p pr ns t k b → Joins E a b → start ≤ a
  pub first_end : (b : ℕ) → IsArgumentNumber p pr ns t k b → Joins E start b → end ≤ b
