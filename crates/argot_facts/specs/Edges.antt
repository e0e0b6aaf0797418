-- The edges of a program under a problem, row by row: over any relation that says which definitions reach which places, and
-- any family of facts of points-to; and the program's own.
use Rattle.std.specs.Prelude.{◌≡◌, ◌⊎◌, ℕ, ◌+◌, ◌<◌, Bool, true, false, List, [], ◌++◌, Some, None, length}
use Rattle.argot_plain.specs.Code.{Code, IsAt, IsFunction, IsIn, Hands, arguments, param_of}
use Rattle.argot_plain.specs.Counts.{cleans}
use Rattle.argot_plain.specs.Leak.{LooksInside}
use Rattle.argot_plain.specs.Machine.{is_path_of, element}
use Rattle.argot_plain.specs.Nodes.{Mark, mark, HasLeaf, IsNode}
use Rattle.argot_plain.specs.declared.functions.Function.{Function}
use Rattle.argot_plain.specs.declared.instructions.Callee.{Callee}
use Rattle.argot_plain.specs.declared.instructions.Kind.{Kind}
use Rattle.argot_plain.specs.declared.instructions.Kind.TheVariants.{Read, Write, Grow, Call, Go, Defer}
use Rattle.argot_plain.specs.declared.problems.Problem.{Problem}
use Rattle.argot_text.specs.declared.path.PathStep.{PathStep}
use Rattle.argot_facts.specs.Copies.{Takes}
use Rattle.argot_facts.specs.Escapes.{EscapesBy}
use Rattle.argot_facts.specs.Follows.{FollowsBy}
use Rattle.argot_facts.specs.Reaching.{DefinedAt}
use Rattle.argot_facts.specs.Refers.{Fact, Holds, IsLivePlaceIn, Targets, NodeRefers, PlaceRefers, loc}
use Rattle.argot_facts.specs.declared.graphs.EdgeKind.{EdgeKind}
use Rattle.argot_facts.specs.declared.graphs.EdgeKind.TheVariants.{Plain, Call as Enters, Return as Returns, Reset}

-- by these definitions and facts n is a node by which the location (s, path) is written
pub data WritesBy (p : Code) (D : ℕ → ℕ → ℕ → ℕ → Type 0) (F : Fact → Type 0) : Mark → ℕ → List PathStep → Type 0 where
  by_write : {s i : ℕ} {base q : List PathStep} → (d j at from : ℕ) → IsLivePlaceIn p F i → IsAt p i (Write at from) → D d j at i
      → F (NodeRefers (mark d j []) (loc s base)) → is_path_of p s (base ++ q) ≡ true → WritesBy p D F (mark i 0 q) s (base ++ q)
  by_grow : {s i : ℕ} {base q : List PathStep} → (to at : ℕ) → (items : List ℕ) → IsLivePlaceIn p F i → IsAt p i (Grow to at items)
      → F (NodeRefers (mark i 0 []) (loc s base)) → is_path_of p s (element base q) ≡ true → WritesBy p D F (mark i 1 q) s (element base q)

-- and by which it is read
pub data IsReadBy (p : Code) (D : ℕ → ℕ → ℕ → ℕ → Type 0) (F : Fact → Type 0) : Mark → ℕ → List PathStep → Type 0 where
  by_read : {s i : ℕ} {base q : List PathStep} → (d j to at : ℕ) → (qs : List (List PathStep)) → IsLivePlaceIn p F i → IsAt p i (Read to at qs) → D d j at i
      → F (NodeRefers (mark d j []) (loc s base)) → is_path_of p s (base ++ q) ≡ true → IsReadBy p D F (mark i 0 q) s (base ++ q)
  by_grow : {s i : ℕ} {base q : List PathStep} → (d j to at : ℕ) → (items : List ℕ) → IsLivePlaceIn p F i → IsAt p i (Grow to at items) → D d j at i
      → F (NodeRefers (mark d j []) (loc s base)) → is_path_of p s (element base q) ≡ true → IsReadBy p D F (mark i 2 q) s (element base q)

-- a site that what stands at the index k of the place i refers to, or that a location of such a site does
pub data ReachableBy (p : Code) (F : Fact → Type 0) (i k : ℕ) : ℕ → Type 0 where
  direct : {s : ℕ} → (q path : List PathStep) → F (NodeRefers (mark i k q) (loc s path)) → ReachableBy p F i k s
  through : {s : ℕ} → (o : ℕ) → (q path : List PathStep) → ReachableBy p F i k o → F (PlaceRefers (loc o q) (loc s path)) → ReachableBy p F i k s

-- what is written at the place w to an object of the site may still be there at the place i
abbrev pub MayMeetBy : Code → (Fact → Type 0) → ℕ → ℕ → ℕ → Type 0
MayMeetBy p F s w i = EscapesBy p F s ⊎ FollowsBy p F w i

-- where the handed values of the place i are read: at i, or for a Defer at its function's exit
pub data ReadAt (p : Code) (i : ℕ) : ℕ → Type 0 where
  at_call : (to args : List ℕ) → (callee : Callee) → IsAt p i (Call to callee args) → ReadAt p i i
  at_go : (args : List ℕ) → (callee : Callee) → IsAt p i (Go callee args) → ReadAt p i i
  at_exit : (h : ℕ) → (args : List ℕ) → (callee : Callee) → (fn : Function) → IsAt p i (Defer callee args) → IsIn p i h → IsFunction p h fn → ReadAt p i fn.exit

-- an instruction whose handed values enter its target as calls do: a Call or a Defer
pub data CallsLikewise : Kind → Type 0 where
  a_call : {to args : List ℕ} {callee : Callee} → CallsLikewise (Call to callee args)
  a_defer : {args : List ℕ} {callee : Callee} → CallsLikewise (Defer callee args)

-- the rows, by marks
pub data MovesBy (p : Code) (D : ℕ → ℕ → ℕ → ℕ → Type 0) (F : Fact → Type 0) (pr : Problem) : Mark → EdgeKind → Mark → Type 0 where
  plain : {d j i k : ℕ} {q q' : List PathStep} → (r : ℕ) → (kind : Kind)
      → IsLivePlaceIn p F i → IsAt p i kind → Takes pr kind r q k q' → D d j r i → MovesBy p D F pr (mark d j q) Plain (mark i k q')
  -- the elements that a Grow copies stand with its items
  grown : {i : ℕ} {q : List PathStep} → (to at : ℕ) → (items : List ℕ) → IsLivePlaceIn p F i → IsAt p i (Grow to at items) → MovesBy p D F pr (mark i 2 q) Plain (mark i 1 q)
  -- a handed value to its parameter, by a Call or Defer
  call : {i j : ℕ} {q : List PathStep} → (k target n : ℕ) → (takes : Bool) → (kind : Kind) → (callee : Callee) → (args : List ℕ) → (fn : Function)
      → IsAt p i kind → CallsLikewise kind → Hands kind callee args n → F (Targets i target takes) → param_of takes (length (arguments callee args)) k ≡ Some j → IsFunction p target fn
      → MovesBy p D F pr (mark i (n + k) q) (Enters i) (mark fn.entry j q)
  -- and by a Go
  go : {i k j : ℕ} {q : List PathStep} → (target : ℕ) → (takes : Bool) → (callee : Callee) → (args : List ℕ) → (fn : Function)
      → IsAt p i (Go callee args) → F (Targets i target takes) → param_of takes (length (arguments callee args)) k ≡ Some j → IsFunction p target fn
      → MovesBy p D F pr (mark i k q) Reset (mark fn.entry j q)
  -- what a Leave hands back to its result, but from a sanitizer that is no source
  return : {i k : ℕ} {q : List PathStep} → (target : ℕ) → (takes : Bool) → (to args : List ℕ) → (callee : Callee) → (fn : Function)
      → IsAt p i (Call to callee args) → F (Targets i target takes) → IsFunction p target fn → fn.external ≡ None → k < length to → cleans p pr i target ≡ false
      → MovesBy p D F pr (mark fn.leave k q) (Returns i) (mark i k q)
  -- an argument of an external whose entry flows to each result leaf, but of a sanitizer that is no source
  external : {i j : ℕ} {q q' : List PathStep} → (k target : ℕ) → (takes : Bool) → (to args : List ℕ) → (callee : Callee) → (fn : Function)
      → IsAt p i (Call to callee args) → F (Targets i target takes) → IsFunction p target fn → fn.external ≡ Some true → cleans p pr i target ≡ false
      → k < length (arguments callee args) → j < length to
      → MovesBy p D F pr (mark i (length to + k) q) Plain (mark i j q')
  -- a write of a location to a read of it
  by_object : {m n : Mark} → (s : ℕ) → (path : List PathStep) → WritesBy p D F m s path → IsReadBy p D F n s path → MayMeetBy p F s m.place n.place → MovesBy p D F pr m Reset n
  -- a write of an object that an argument of a sink or an external reaches to leaf 0 of the argument
  by_argument : {m : Mark} {i : ℕ} {q : List PathStep} → (k s target n at : ℕ) → (takes : Bool) → (path : List PathStep) → (kind : Kind) → (callee : Callee) → (args : List ℕ)
      → IsAt p i kind → Hands kind callee args n → F (Targets i target takes) → LooksInside p pr i target → k < length (arguments callee args) → HasLeaf p i (n + k) 0 q
      → ReachableBy p F i (n + k) s → WritesBy p D F m s path → ReadAt p i at → MayMeetBy p F s m.place at
      → MovesBy p D F pr m Reset (mark i (n + k) q)

-- an edge: such a row whose ends are nodes of the program
pub record MarkEdgeBy (p : Code) (D : ℕ → ℕ → ℕ → ℕ → Type 0) (F : Fact → Type 0) (pr : Problem) (m : Mark) (kind : EdgeKind) (n : Mark) : Type 0 where
  pub from : IsNode p m
  pub to : IsNode p n
  pub moves : MovesBy p D F pr m kind n

-- by the definitions and facts of the program
abbrev pub Writes : Code → Mark → ℕ → List PathStep → Type 0
Writes p = WritesBy p (DefinedAt p) (Holds p)

abbrev pub IsRead : Code → Mark → ℕ → List PathStep → Type 0
IsRead p = IsReadBy p (DefinedAt p) (Holds p)

abbrev pub Reachable : Code → ℕ → ℕ → ℕ → Type 0
Reachable p = ReachableBy p (Holds p)

abbrev pub MayMeet : Code → ℕ → ℕ → ℕ → Type 0
MayMeet p = MayMeetBy p (Holds p)

abbrev pub Moves : Code → Problem → Mark → EdgeKind → Mark → Type 0
Moves p = MovesBy p (DefinedAt p) (Holds p)

abbrev pub MarkEdge : Code → Problem → Mark → EdgeKind → Mark → Type 0
MarkEdge p = MarkEdgeBy p (DefinedAt p) (Holds p)
