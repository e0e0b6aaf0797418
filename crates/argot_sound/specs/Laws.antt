-- The laws that hold in each state of a run.
use Rattle.std.specs.Prelude.{◌≡◌, ◌⊎◌, ℕ, Bool, true, false, List, [], ◌∷◌, Some, None, length, slice_get}
use Rattle.argot_plain.specs.Lists.{In, has_element}
use Rattle.argot_plain.specs.Code.{Code, IsAt, IsFunction, IsIn, IsEntry, Defines, GoesTo, arguments}
use Rattle.argot_plain.specs.Machine.{Labelling, Datum, Ref, Object, Cell, Slot, Found, Deferred, Frame, State}
use Rattle.argot_plain.specs.Nodes.{Mark, mark, IsNode}
use Rattle.argot_plain.specs.declared.functions.Function.{Function}
use Rattle.argot_plain.specs.declared.instructions.Callee.{Callee}
use Rattle.argot_plain.specs.declared.instructions.Kind.TheVariants.{Call, Defer}
use Rattle.argot_text.specs.declared.path.PathStep.{PathStep}
use Rattle.argot_facts.specs.Edges.{MarkEdge, Writes}
use Rattle.argot_facts.specs.Escapes.{Escapes}
use Rattle.argot_facts.specs.Flows.{IsSource}
use Rattle.argot_facts.specs.Follows.{Follows}
use Rattle.argot_facts.specs.Lists.{Leads, open_calls}
use Rattle.argot_facts.specs.Reaching.{Reaches}
use Rattle.argot_facts.specs.Refers.{Holds, IsLive, Targets, NodeRefers, PlaceRefers, loc}
use Rattle.argot_facts.specs.declared.graphs.EdgeKind.{EdgeKind}

-- each frame with those below it
abbrev pub EachFrame : (Frame → List Frame → Type 0) → List Frame → Type 0
EachFrame P [] = Unit {0}
EachFrame P (f ∷ rest) = P f rest × EachFrame P rest

-- a cell of a frame or of one of its records
pub data InFrame (c : Cell) (f : Frame) : Type 0 where
  in_register : In c f.cells → InFrame c f
  in_record : (d : Deferred) → In d f.records → In c d.cells → InFrame c f

-- defined: where the frame doesn't panic, an atom in a register was last put at a node of that register whose place is a definition
-- that reaches the frame's place, or it is a parameter and the frame stands at the first place
abbrev pub Stands : Code → ℕ → ℕ → ℕ → Type 0
Stands p d r i = Reaches p d r i ⊎ ((d ≡ i) × (g : ℕ) × IsEntry p i g)

pub record IsDefined (p : Code) (i : ℕ) (c : Cell) : Type 0 where
  pub leaf : c.atom.put.leaf ≡ c.leaf
  pub defines : Defines p c.atom.put.place c.atom.put.index c.register
  pub stands : Stands p c.atom.put.place c.register i

pub record FrameDefined (p : Code) (f : Frame) (rest : List Frame) : Type 0 where
  pub each : f.panics ≡ false → (c : Cell) → In c f.cells → IsDefined p f.place c

-- single: at a leaf that doesn't lead to elements a register holds one content at most, and so does what a record keeps for
-- one index
pub record IsSingle (cells : List Cell) : Type 0 where
  pub each : (c d : Cell) → In c cells → In d cells → c.register ≡ d.register → c.leaf ≡ d.leaf → has_element c.leaf ≡ false → c ≡ d

pub record FrameSingle (f : Frame) (rest : List Frame) : Type 0 where
  pub registers : IsSingle f.cells
  pub records : (d : Deferred) → In d f.records → IsSingle d.cells

-- what goes on to the function h, of the value by which the callee is found, selects h
pub record AllGo (p : Code) (callee : Callee) (args : List ℕ) (cells : List Cell) (h : ℕ) : Type 0 where
  pub each : (c : Cell) → In c cells → (o : Object) (path : List PathStep) → c.atom.value ≡ Ref o path → GoesTo p callee args c.register o.site h

-- covered, for frames and records: their functions have bodies and are live; the callee of each frame is a target of its call site
pub data IsCalledAt (p : Code) (f g : Frame) : Type 0 where
  by_call : (to args : List ℕ) → (callee : Callee) → (takes : Bool) → f.site ≡ g.place → g.panics ≡ false → IsAt p g.place (Call to callee args) → Holds p (Targets g.place f.function takes) → IsCalledAt p f g
  by_record : (args : List ℕ) → (callee : Callee) → (takes : Bool) → (fn : Function) → IsFunction p g.function fn → g.place ≡ fn.exit → IsIn p f.site g.function → IsAt p f.site (Defer callee args) → Holds p (Targets f.site f.function takes) → IsCalledAt p f g

abbrev pub IsCalledFrom : Code → Frame → List Frame → Type 0
IsCalledFrom p f [] = Unit {0}
IsCalledFrom p f (g ∷ rest) = IsCalledAt p f g

pub record RecordCovered (p : Code) (g : ℕ) (d : Deferred) : Type 0 where
  pub place : IsIn p d.place g
  pub args : List ℕ
  pub callee : Callee
  pub is : IsAt p d.place (Defer callee args)
  pub targets : (h : ℕ) (takes : Bool) → d.target ≡ Found h takes → Holds p (Targets d.place h takes)
  pub chosen : (h : ℕ) (takes : Bool) → d.target ≡ Found h takes → AllGo p callee args d.cells h
  pub count : d.count ≡ length (arguments callee args)
  pub each : (c : Cell) → In c d.cells → c.atom.put ≡ mark d.place c.register c.leaf

pub record FrameCovered (p : Code) (f : Frame) (rest : List Frame) : Type 0 where
  pub place : IsIn p f.place f.function
  pub body : (fn : Function) → IsFunction p f.function fn → fn.external ≡ None
  pub live : Holds p (IsLive f.function)
  pub called : IsCalledFrom p f rest
  pub records : (d : Deferred) → In d f.records → RecordCovered p f.function d

-- covered, for references, and owned: the mark is that of a node; what the value refers to, that node refers to; and its site
-- escapes, or this goroutine made the object
pub record IsOwned (p : Code) (g : ℕ) (n : Mark) (v : Datum) : Type 0 where
  pub node : IsNode p n
  pub each : (o : Object) (path : List PathStep) → v ≡ Ref o path → Holds p (NodeRefers n (loc o.site path)) × (Escapes p o.site ⊎ (o.maker ≡ g))

pub record FrameOwned (p : Code) (g : ℕ) (f : Frame) (rest : List Frame) : Type 0 where
  pub each : (c : Cell) → InFrame c f → IsOwned p g c.atom.put c.atom.value

-- joined
abbrev pub call_sites : Frame → List Frame → List ℕ
call_sites f [] = f.site ∷ []
call_sites f (g ∷ rest) = f.site ∷ call_sites g rest

-- the first list begins the second one
abbrev pub IsPrefix : List ℕ → List ℕ → Type 0
IsPrefix [] ys = Unit {0}
IsPrefix (x ∷ xs) [] = ⊥
IsPrefix (x ∷ xs) (y ∷ ys) = (x ≡ y) × IsPrefix xs ys

-- the label begins at a result node of a source, or at a mark of its own
abbrev pub IsBegun : Code → Labelling → Mark → Type 0
IsBegun p l s = IsSource p l.problem s.place s ⊎ (l.begins s ≡ true)

-- a realizable list, whose open calls are these, joins the label to the node
pub record IsJoined (p : Code) (l : Labelling) (s : Mark) (calls : List ℕ) (n : Mark) : Type 0 where
  pub begun : IsBegun p l s
  pub kinds : List EdgeKind
  pub leads : Leads (MarkEdge p l.problem) s kinds n
  pub realizable : open_calls kinds ≡ Some calls

-- and the open calls are the last ones of these
pub record IsJoinedWithin (p : Code) (l : Labelling) (s : Mark) (sites : List ℕ) (n : Mark) : Type 0 where
  pub calls : List ℕ
  pub joined : IsJoined p l s calls n
  pub suffix : IsPrefix calls sites

pub record FrameJoined (p : Code) (l : Labelling) (f : Frame) (rest : List Frame) : Type 0 where
  pub each : (c : Cell) → InFrame c f → (s : Mark) → In s c.atom.labels → IsJoinedWithin p l s (call_sites f rest) c.atom.put

pub record GoroutineLaws (p : Code) (l : Labelling) (g : ℕ) (frames : List Frame) : Type 0 where
  pub are_defined : EachFrame (FrameDefined p) frames
  pub single : EachFrame FrameSingle frames
  pub covered : EachFrame (FrameCovered p) frames
  pub owned : EachFrame (FrameOwned p g) frames
  pub joined : EachFrame (FrameJoined p l) frames

-- ordered: the place is followed by that of the top frame
abbrev pub TopFollows : Code → ℕ → List Frame → Type 0
TopFollows p w [] = Unit {0}
TopFollows p w (f ∷ rest) = Follows p w f.place

-- what a slot's location is, and what its atom refers to: the site escapes, or the maker of this object made it
pub record SlotOwned (p : Code) (s : Slot) : Type 0 where
  pub node : IsNode p s.atom.put
  pub written : Writes p s.atom.put s.object.site s.path
  pub each : (o : Object) (path : List PathStep) → s.atom.value ≡ Ref o path → Holds p (PlaceRefers (loc s.object.site s.path) (loc o.site path)) × (Escapes p o.site ⊎ (o.maker ≡ s.object.maker))

-- the site escapes, or the place at which the atom was last put is followed by that of the maker's top frame
abbrev pub IsOrdered : Code → List (List Frame) → Slot → Type 0
IsOrdered p gs x = Escapes p x.object.site ⊎ ((frames : List Frame) × (slice_get gs x.object.maker ≡ Some frames) × TopFollows p x.atom.put.place frames)

pub record SlotLaws (p : Code) (l : Labelling) (goroutines : List (List Frame)) (s : Slot) : Type 0 where
  pub owned : SlotOwned p s
  pub ordered : IsOrdered p goroutines s
  pub joined : (m : Mark) → In m s.atom.labels → (calls : List ℕ) × IsJoined p l m calls s.atom.put

pub record Laws (p : Code) (l : Labelling) (s : State) : Type 0 where
  pub goroutine : (g : ℕ) (frames : List Frame) → slice_get s.goroutines g ≡ Some frames → GoroutineLaws p l g frames
  pub slot : (x : Slot) → In x s.slots → SlotLaws p l s.goroutines x
