-- Soundness over every interleaving.
use Rattle.std.specs.Prelude.{◌≡◌, ◌≢◌, ◌↔◌, ℕ, Bool, true, false, List, ◌∷◌, Some, slice_get}
use Rattle.argot_plain.specs.Lists.{In, has_element}
use Rattle.argot_plain.specs.Code.{Code}
use Rattle.argot_plain.specs.Leak.{Leak, LabelReaches, Touches, labelled, traced}
use Rattle.argot_plain.specs.Machine.{Cell, Labelling, Object, Slot, Frame, View, State}
use Rattle.argot_plain.specs.Nodes.{Mark}
use Rattle.argot_plain.specs.Step.{Acts, Run}
use Rattle.argot_plain.specs.WellFormed.{WellFormed}
use Rattle.argot_plain.specs.Counts.{traced_back}
use Rattle.argot_plain.specs.declared.problems.Problem.{Problem}
use Rattle.argot_facts.specs.Escapes.{Escapes}
use Rattle.argot_facts.specs.Flows.{Flow, EscapeOf}
use Rattle.argot_facts.specs.Graphs.{IsMarked}
use Rattle.argot_facts.specs.Origins.{IsFirst, IsOrigin}
use Rattle.argot_facts.specs.declared.nodes.Node.{Node}

-- for each program, problem and run, each leak is a flow
abbrev pub EachLeakIsAFlow : Type 0
EachLeakIsAFlow =
    (p : Code) (pr : Problem) → WellFormed p → (n : ℕ) (x : State) → Run p (labelled pr) n x
    → (s t k : ℕ) → Leak p pr x s t k → Flow p pr s t k

-- an object that two goroutines touch, in one run at two times or in two runs, escapes
abbrev pub EachSharedObjectEscapes : Type 0
EachSharedObjectEscapes =
    (p : Code) (pr : Problem) → WellFormed p → (n m : ℕ) (x y : State) → Run p (labelled pr) n x → Run p (labelled pr) m y
    → (g h : ℕ) (o : Object) → g ≢ h → Touches p (labelled pr) x g o → Touches p (labelled pr) y h o → Escapes p o.site

-- and where an atom of an object of an escaping site bears the label of a source, source and site are an escape
abbrev pub EachLabelThereIsAnEscape : Type 0
EachLabelThereIsAnEscape =
    (p : Code) (pr : Problem) → WellFormed p → (n : ℕ) (x : State) → Run p (labelled pr) n x
    → (slot : Slot) → In slot x.slots → Escapes p slot.object.site → (l : Mark) → In l slot.atom.labels → EscapeOf p pr l.place slot.object.site

-- the marks at which labels begin are those to which no edge leads
abbrev pub BeginsWhereNothingLeads : Code → Problem → (Mark → Bool) → Type 0
BeginsWhereNothingLeads p pr begins = (m : Mark) → (begins m ≡ true) ↔ ((n : Node) → IsMarked p n m → IsFirst p (traced_back pr) n)

-- where labels begin at the nodes to which no edge leads, each label at a point is an origin
abbrev pub EachLabelAtAPointIsAnOrigin : Type 0
EachLabelAtAPointIsAnOrigin =
    (p : Code) (pr : Problem) (begins : Mark → Bool) → WellFormed p → BeginsWhereNothingLeads p pr begins
    → (n : ℕ) (x : State) → Run p (traced pr begins) n x
    → (l : Mark) (t k : ℕ) → LabelReaches p (traced pr begins) x l t k → (node : Node) × IsMarked p node l × IsOrigin p pr node t k

-- at a leaf that doesn't lead to elements each register of each frame holds one content at most; so a function that a
-- reference or a box means is entered with the content that chose it
abbrev pub EachRegisterHoldsOneContent : Type 0
EachRegisterHoldsOneContent =
    (p : Code) (l : Labelling) → WellFormed p → (n : ℕ) (x : State) → Run p l n x
    → (g : ℕ) (frames : List Frame) → slice_get x.goroutines g ≡ Some frames → (f : Frame) → In f frames
    → (c d : Cell) → In c f.cells → In d f.cells
    → c.register ≡ d.register → c.leaf ≡ d.leaf → has_element c.leaf ≡ false → c ≡ d

-- the goroutine g, whose frames these are, has a step
abbrev pub HasStep : Code → Labelling → State → ℕ → List Frame → Type 0
HasStep p l x g frames = (v : View) × (started : List (List Frame)) × (ended : Bool) × Acts p l g x.slots x.fresh frames v started ended

-- each goroutine that hasn't ended has a step, in each state of each run
abbrev pub EachLiveGoroutineHasAStep : Type 0
EachLiveGoroutineHasAStep =
    (p : Code) (l : Labelling) → WellFormed p → (n : ℕ) (x : State) → Run p l n x → x.ended ≡ false
    → (g : ℕ) (f : Frame) (rest : List Frame) → slice_get x.goroutines g ≡ Some (f ∷ rest) → HasStep p l x g (f ∷ rest)
