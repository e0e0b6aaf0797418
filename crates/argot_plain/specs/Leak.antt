-- What a leak is, and which goroutines touch an object.
use Rattle.std.specs.Prelude.{◌≡◌, ℕ, ◌<◌, length, List, [], ◌∷◌, ◌++◌, Some, None, slice_get, Bool, true, false}
use Rattle.argot_plain.specs.Lists.{In}
use Rattle.argot_plain.specs.Code.{Code, IsAt, IsFunction, IsSiteOf, leaves, element_leaves, arguments}
use Rattle.argot_plain.specs.Counts.{is_sink, traced_back}
use Rattle.argot_plain.specs.Machine.{Labelling, Ref, Content, Object, Cell, Found, Deferred, Frame, State, value_at, is_leaf_of, element}
use Rattle.argot_plain.specs.Nodes.{Mark}
use Rattle.argot_plain.specs.Outside.{Resolves, Reached, ArgumentBears}
use Rattle.argot_plain.specs.Step.{handing}
use Rattle.argot_plain.specs.declared.functions.Function.{Function}
use Rattle.argot_plain.specs.declared.instructions.Callee.{Callee}
use Rattle.argot_plain.specs.declared.instructions.Kind.TheVariants.{Read, Write, Grow, Call, Go, RunDefers}
use Rattle.argot_plain.specs.declared.problems.Problem.{Problem}
use Rattle.argot_plain.specs.declared.sites.Site.{Site}
use Rattle.argot_text.specs.declared.path.PathStep.{PathStep}

-- the top frame f of the goroutine g is about to enter the function h, which the instruction at the place t names; n arguments
-- stand first among these handed values
pub data Enters (p : Code) (l : Labelling) (x : State) (g : ℕ) : ℕ → ℕ → ℕ → List Cell → Type 0 where
  by_call : {h : ℕ} → (f : Frame) → (rest : List Frame) → (to : List ℕ) → (callee : Callee) → (args : List ℕ) → (takes : Bool)
      → slice_get x.goroutines g ≡ Some (f ∷ rest) → f.panics ≡ false → IsAt p f.place (Call to callee args) → Resolves p f.cells callee (Found h takes)
      → Enters p l x g f.place h (length (arguments callee args)) (handing p l f (length to) callee args)
  by_go : {h : ℕ} → (f : Frame) → (rest : List Frame) → (callee : Callee) → (args : List ℕ) → (takes : Bool)
      → slice_get x.goroutines g ≡ Some (f ∷ rest) → f.panics ≡ false → IsAt p f.place (Go callee args) → Resolves p f.cells callee (Found h takes)
      → Enters p l x g f.place h (length (arguments callee args)) (handing p l f 0 callee args)
  by_record : {h : ℕ} → (f : Frame) → (rest : List Frame) → (d : Deferred) → (ds : List Deferred) → (takes : Bool)
      → slice_get x.goroutines g ≡ Some (f ∷ rest) → IsAt p f.place RunDefers → f.records ≡ d ∷ ds → d.target ≡ Found h takes
      → Enters p l x g d.place h d.count d.cells

-- the label is on what the argument k of a sink reaches, which a goroutine is about to enter at the place t
pub record LabelReaches (p : Code) (l : Labelling) (x : State) (s : Mark) (t k : ℕ) : Type 0 where
  pub goroutine : ℕ
  pub sink : ℕ
  pub count : ℕ
  pub cells : List Cell
  pub enters : Enters p l x goroutine t sink count cells
  pub is_one : is_sink p l.problem t sink ≡ true
  pub within : k < count
  pub bears : ArgumentBears k cells x.slots s

abbrev pub no_mark : Mark → Bool
no_mark n = false

-- labels under a problem
abbrev pub labelled : Problem → Labelling
labelled pr = record { problem = pr; begins = no_mark }

-- labels where data is traced back
abbrev pub traced : Problem → (Mark → Bool) → Labelling
traced pr begins = record { problem = traced_back pr; begins = begins }

-- the label of the source s is on what the argument k of a sink reaches, which a goroutine is about to enter at the place t
pub record Leak (p : Code) (pr : Problem) (x : State) (s t k : ℕ) : Type 0 where
  pub label : Mark
  pub place : label.place ≡ s
  pub reaches : LabelReaches p (labelled pr) x label t k

-- the target h looks at what its arguments reach: a sink or an external
pub data LooksInside (p : Code) (pr : Problem) (i h : ℕ) : Type 0 where
  a_sink : is_sink p pr i h ≡ true → LooksInside p pr i h
  an_external : (fn : Function) → (flows : Bool) → IsFunction p h fn → fn.external ≡ Some flows → LooksInside p pr i h

-- the goroutine g is about to read or write a leaf of the object, or to enter a sink or an external that reaches it; a goroutine
-- that a Go of a sink starts touches what its arguments reach as well (a Go of an external starts none)
pub data Touches (p : Code) (l : Labelling) (x : State) : ℕ → Object → Type 0 where
  by_read : {g : ℕ} {o : Object} → (f : Frame) → (rest : List Frame) → (to at : ℕ) → (qs : List (List PathStep)) → (q base : List PathStep) → (y : Content)
      → slice_get x.goroutines g ≡ Some (f ∷ rest) → f.panics ≡ false → IsAt p f.place (Read to at qs) → In y (value_at at [] f.cells) → y.value ≡ Ref o base
      → In q qs → is_leaf_of p o.site (base ++ q) ≡ true → Touches p l x g o
  by_write : {g : ℕ} {o : Object} → (f : Frame) → (rest : List Frame) → (at from : ℕ) → (q base : List PathStep) → (y : Content)
      → slice_get x.goroutines g ≡ Some (f ∷ rest) → f.panics ≡ false → IsAt p f.place (Write at from) → In y (value_at at [] f.cells) → y.value ≡ Ref o base
      → In q (leaves p f.function from) → is_leaf_of p o.site (base ++ q) ≡ true → Touches p l x g o
  by_grow : {g : ℕ} {o : Object} → (f : Frame) → (rest : List Frame) → (to at : ℕ) → (items : List ℕ) → (s : ℕ) → (site : Site) → (q base : List PathStep) → (y : Content)
      → slice_get x.goroutines g ≡ Some (f ∷ rest) → f.panics ≡ false → IsAt p f.place (Grow to at items) → IsSiteOf p f.place s site → In y (value_at at [] f.cells) → y.value ≡ Ref o base
      → In q (element_leaves site) → is_leaf_of p o.site (element base q) ≡ true → Touches p l x g o
  -- the fresh copy
  by_grow_anew : {g : ℕ} → (f : Frame) → (rest : List Frame) → (to at : ℕ) → (items : List ℕ) → (s : ℕ) → (site : Site) → (q : List PathStep)
      → slice_get x.goroutines g ≡ Some (f ∷ rest) → f.panics ≡ false → IsAt p f.place (Grow to at items) → IsSiteOf p f.place s site
      → In q (element_leaves site) → Touches p l x g (record { site = s; maker = g; serial = x.fresh })
  by_entering : {g : ℕ} {o : Object} → (t h n k : ℕ) → (cells : List Cell) → (c : Cell) → Enters p l x g t h n cells → LooksInside p l.problem t h
      → k < n → In c cells → c.register ≡ k → Reached x.slots c.atom.value o → Touches p l x g o
  by_starting : {o : Object} → (g h k : ℕ) → (f : Frame) → (rest : List Frame) → (callee : Callee) → (args : List ℕ) → (takes : Bool) → (fn : Function) → (c : Cell)
      → slice_get x.goroutines g ≡ Some (f ∷ rest) → f.panics ≡ false → IsAt p f.place (Go callee args) → Resolves p f.cells callee (Found h takes) → is_sink p l.problem f.place h ≡ true
      → IsFunction p h fn → fn.external ≡ None
      → k < length (arguments callee args) → In c (handing p l f 0 callee args) → c.register ≡ k → Reached x.slots c.atom.value o → Touches p l x (length x.goroutines) o
