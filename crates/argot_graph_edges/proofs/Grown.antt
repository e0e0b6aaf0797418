-- Where one family of facts has those of another, it has its edges.
use Rattle.std.proofs.Common.{◌≡◌, ℕ, true, List, inl, inr}
use Rattle.argot_plain.specs.Code.{Code}
use Rattle.argot_plain.specs.Nodes.{Mark}
use Rattle.argot_plain.specs.declared.problems.Problem.{Problem}
use Rattle.argot_text.specs.declared.path.PathStep.{PathStep}
use Rattle.argot_facts.specs.Edges.{MovesBy, WritesBy, IsReadBy, ReachableBy, MayMeetBy, direct, through}
use Rattle.argot_facts.specs.Edges.MovesBy.{plain, grown, call, go, return, external, by_object, by_argument}
use Rattle.argot_facts.specs.Edges.WritesBy.{by_write, by_grow}
use Rattle.argot_facts.specs.Edges.IsReadBy.{by_read, by_grow as read_by_grow}
use Rattle.argot_facts.specs.Graphs.{IsEdgeBy, IsNumberedBy, IsGraphBy, Drawn}
use Rattle.argot_facts.specs.Refers.{Fact, IsLivePlaceIn}
use Rattle.argot_facts.specs.declared.graphs.EdgeKind.{EdgeKind}
use Rattle.argot_facts.specs.declared.nodes.Node.{Node}
use Rattle.argot_facts.proofs.Growing.{escapes_grows, follows_grows}

module _ (p : Code) (D : ℕ → ℕ → ℕ → ℕ → Type 0) (F G : Fact → Type 0) (f : (x : Fact) → F x → G x) where
  live : (i : ℕ) → IsLivePlaceIn p F i → IsLivePlaceIn p G i
  live i l = record { function = l.function; is_in = l.is_in; is_live = f _ l.is_live }

  writes : (m : Mark) (s : ℕ) (path : List PathStep) → WritesBy p D F m s path → WritesBy p D G m s path
  writes _ s _ (by_write {i = i} d j at from l is def refers ok) = by_write d j at from (live i l) is def (f _ refers) ok
  writes _ s _ (by_grow {i = i} to at items l is refers ok) = by_grow to at items (live i l) is (f _ refers) ok

  reads : (m : Mark) (s : ℕ) (path : List PathStep) → IsReadBy p D F m s path → IsReadBy p D G m s path
  reads _ s _ (by_read {i = i} d j to at qs l is def refers ok) = by_read d j to at qs (live i l) is def (f _ refers) ok
  reads _ s _ (read_by_grow {i = i} d j to at items l is def refers ok) = read_by_grow d j to at items (live i l) is def (f _ refers) ok

  reaches : (i k s : ℕ) → ReachableBy p F i k s → ReachableBy p G i k s
  reaches i k s (direct q path refers) = direct q path (f _ refers)
  reaches i k s (through o q path r refers) = through o q path (reaches i k o r) (f _ refers)

  meets : (s w i : ℕ) → MayMeetBy p F s w i → MayMeetBy p G s w i
  meets s w i (inl e) = inl (escapes_grows p F G f e)
  meets s w i (inr r) = inr (follows_grows p F G f r)

  module _ (pr : Problem) where
    pub moves : (m : Mark) (kind : EdgeKind) (n : Mark) → MovesBy p D F pr m kind n → MovesBy p D G pr m kind n
    moves _ _ _ (plain {i = i} r kind l is takes def) = plain r kind (live i l) is takes def
    moves _ _ _ (grown {i = i} to at items l is) = grown to at items (live i l) is
    moves _ _ _ (call k target n takes kind callee args fn is likewise hands t param of) = call k target n takes kind callee args fn is likewise hands (f _ t) param of
    moves _ _ _ (go target takes callee args fn is t param of) = go target takes callee args fn is (f _ t) param of
    moves _ _ _ (return target takes to args callee fn is t of body low passes) = return target takes to args callee fn is (f _ t) of body low passes
    moves _ _ _ (external k target takes to args callee fn is t of flows passes low within) = external k target takes to args callee fn is (f _ t) of flows passes low within
    moves m _ n (by_object s path w r may) = by_object s path (writes m s path w) (reads n s path r) (meets s m.place n.place may)
    moves m _ _ (by_argument {i = i} k s target n at takes path kind callee args is hands t looks low leaf reach w read may) =
        by_argument k s target n at takes path kind callee args is hands (f _ t) looks low leaf (reaches i _ s reach) (writes m s path w) read (meets s m.place at may)

    pub edge : (a : Node) (kind : EdgeKind) (b : Node) → IsEdgeBy p D F pr a kind b → IsEdgeBy p D G pr a kind b
    edge a kind b e = record { from = e.from; to = e.to; is_from = e.is_from; is_to = e.is_to; moves = moves e.from kind e.to e.moves }

    pub numbered : (ns : List Node) (a : ℕ) (kind : EdgeKind) (b : ℕ) → IsNumberedBy p D F pr ns a kind b → IsNumberedBy p D G pr ns a kind b
    numbered ns a kind b e = record { from = e.from; to = e.to; is_from = e.is_from; is_to = e.is_to; edge = edge e.from kind e.to e.edge }

-- a graph by the one is one by the other, where they have the same facts
pub graph_as : (p : Code) (D : ℕ → ℕ → ℕ → ℕ → Type 0) (F G : Fact → Type 0) → ((x : Fact) → F x → G x) → ((x : Fact) → G x → F x) → (pr : Problem) (d : Drawn) → IsGraphBy p D F pr d → IsGraphBy p D G pr d
graph_as p D F G f g pr d h = record {
  nodes = h.nodes;
  each = λ e. (
    λ m. numbered p D F G f pr d.nodes e.from e.kind e.to ((h.each e).0 m),
    λ n. (h.each e).1 (numbered p D G F g pr d.nodes e.from e.kind e.to n),
  );
}
