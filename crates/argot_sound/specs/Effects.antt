-- The sorts of steps of a goroutine. All that a sort doesn't name stays but for the place of the top frame. An effect says of each
-- atom that may be new where its value and its labels come from.
use Rattle.std.specs.Prelude.{◌≡◌, ◌⊎◌, ℕ, ◌+◌, ◌<◌, Bool, true, false, List, [], ◌∷◌, ◌++◌, Some, None, length, slice_get}
use Rattle.argot_plain.specs.Lists.{In, member}
use Rattle.argot_plain.specs.Code.{Code, IsAt, IsFunction, IsSiteOf, Next, defined, arguments, param_of, element_leaves}
use Rattle.argot_plain.specs.Counts.{is_source, is_source_place, cleans}
use Rattle.argot_plain.specs.Machine.{Labelling, Datum, Ref, Object, Atom, Cell, Slot, Found, Deferred, Frame, View, is_leaf_of, is_path_of, is_of_type, element}
use Rattle.argot_plain.specs.Nodes.{Mark, mark, IsNode}
use Rattle.argot_plain.specs.Outside.{Resolves, SomeArgumentBears, IsResultSite}
use Rattle.argot_plain.specs.Puts.{variable, fresh_object}
use Rattle.argot_plain.specs.Step.{view, handing, leaving}
use Rattle.argot_plain.specs.declared.functions.Function.{Function}
use Rattle.argot_plain.specs.declared.functions.Ident.{Ident}
use Rattle.argot_plain.specs.declared.instructions.Callee.{Callee}
use Rattle.argot_plain.specs.declared.instructions.Kind.{Kind}
use Rattle.argot_plain.specs.declared.instructions.Kind.TheVariants.{New, Step, Read, Write, Grow, Global, Assert, Call, Go, Defer, RunDefers, Leave}
use Rattle.argot_plain.specs.declared.sites.Site.{Site}
use Rattle.argot_text.specs.declared.position.Pos.{Pos}
use Rattle.argot_text.specs.declared.path.PathStep.{PathStep}
use Rattle.argot_facts.specs.Copies.{Copies, Takes}

abbrev pub IsNoReference : Datum → Type 0
IsNoReference v = (o : Object) (path : List PathStep) → v ≡ Ref o path → ⊥

-- the register holds a reference to this place of the object
pub record RefersTo (r : ℕ) (cells : List Cell) (o : Object) (base : List PathStep) : Type 0 where
  pub cell : Cell
  pub held : In cell cells
  pub register : cell.register ≡ r
  pub leaf : cell.leaf ≡ []
  pub value : cell.atom.value ≡ Ref o base

-- the instruction finds, for its node (k, q), what stands at this path behind the register at, which refers to base
pub data FindsAt (p : Code) (kind : Kind) (i k at : ℕ) (base q : List PathStep) : List PathStep → Type 0 where
  by_read : (to : ℕ) → (qs : List (List PathStep)) → kind ≡ Read to at qs → k ≡ 0 → In q qs → FindsAt p kind i k at base q (base ++ q)
  by_grow : (to n : ℕ) → (items : List ℕ) → (site : Site) → kind ≡ Grow to at items → IsSiteOf p i n site → k ≡ 2 → In q (element_leaves site) → FindsAt p kind i k at base q (element base q)

pub record Finds (p : Code) (kind : Kind) (ss : List Slot) (f : Frame) (k : ℕ) (q : List PathStep) (slot : Slot) : Type 0 where
  pub at : ℕ
  pub object : Object
  pub base : List PathStep
  pub path : List PathStep
  pub refers : RefersTo at f.cells object base
  pub held : In slot ss
  pub same : slot.object ≡ object
  pub there : slot.path ≡ path
  pub finds : FindsAt p kind f.place k at base q path

-- the instruction calls the external h
pub record CallsOutside (p : Code) (kind : Kind) (f : Frame) : Type 0 where
  pub to : List ℕ
  pub callee : Callee
  pub args : List ℕ
  pub h : ℕ
  pub takes : Bool
  pub fn : Function
  pub flows : Bool
  pub is : kind ≡ Call to callee args
  pub resolves : Resolves p f.cells callee (Found h takes)
  pub function : IsFunction p h fn
  pub outside : fn.external ≡ Some flows

-- where a label comes from that the instruction puts at its node (k, q)
pub data Carries (p : Code) (l : Labelling) (kind : Kind) (ss : List Slot) (f : Frame) : ℕ → List PathStep → Mark → Type 0 where
  taken : {k : ℕ} {q : List PathStep} {s : Mark} → (from : Cell) → In from f.cells → In s from.atom.labels → Takes l.problem kind from.register from.leaf k q → Carries p l kind ss f k q s
  found_there : {k : ℕ} {q : List PathStep} {s : Mark} → (slot : Slot) → Finds p kind ss f k q slot → In s slot.atom.labels → Carries p l kind ss f k q s
  grown : {k : ℕ} {q : List PathStep} {s : Mark} → (to at : ℕ) → (items : List ℕ) → kind ≡ Grow to at items → k ≡ 1 → IsNode p (mark f.place 2 q) → Carries p l kind ss f 2 q s → Carries p l kind ss f k q s
  from_outside : {k : ℕ} {q : List PathStep} {s : Mark} → (c : CallsOutside p kind f) → k < length c.to → c.flows ≡ true → cleans p l.problem f.place c.h ≡ false
      → SomeArgumentBears (length (arguments c.callee c.args)) (handing p l f (length c.to) c.callee c.args) ss s → Carries p l kind ss f k q s
  -- a label of its own
  begins_outside : {k : ℕ} {q : List PathStep} {s : Mark} → (c : CallsOutside p kind f) → k < length c.to → is_source p l.problem f.place c.h ≡ true → s ≡ mark f.place k q → Carries p l kind ss f k q s
  begins_place : {k : ℕ} {q : List PathStep} {s : Mark} → is_source_place l.problem f.place ≡ true → k ≡ 0 → s ≡ mark f.place k q → Carries p l kind ss f k q s
  begins_there : {k : ℕ} {q : List PathStep} {s : Mark} → l.begins s ≡ true → s ≡ mark f.place k q → Carries p l kind ss f k q s

-- the instruction makes an object of the site n, for its node (k, q)
pub data Makes (p : Code) (kind : Kind) (f : Frame) (k : ℕ) (q : List PathStep) (n : ℕ) : Type 0 where
  by_new : (to : ℕ) → kind ≡ New to n → k ≡ 0 → q ≡ [] → Makes p kind f k q n
  by_grow : (to at : ℕ) → (items : List ℕ) → (site : Site) → kind ≡ Grow to at items → IsSiteOf p f.place n site → k ≡ 0 → q ≡ [] → Makes p kind f k q n
  by_outside : (t : ℕ) → (c : CallsOutside p kind f) → slice_get c.to k ≡ Some t → IsResultSite p f.function f.place k t q n → Makes p kind f k q n

-- where a value comes from that the goroutine g puts at the node (k, q)
pub data Brings (p : Code) (kind : Kind) (g : ℕ) (ss : List Slot) (f : Frame) : ℕ → List PathStep → Datum → Type 0 where
  no_reference : {k : ℕ} {q : List PathStep} {v : Datum} → IsNoReference v → Brings p kind g ss f k q v
  copied : {k : ℕ} {q : List PathStep} {v : Datum} → (from : Cell) → In from f.cells → v ≡ from.atom.value → Copies kind from.register from.leaf k q → Brings p kind g ss f k q v
  moved : {k : ℕ} {q : List PathStep} {v : Datum} → (to from : ℕ) → (path base : List PathStep) → (o : Object) → kind ≡ Step to from path → RefersTo from f.cells o base → is_path_of p o.site (base ++ path) ≡ true
      → k ≡ 0 → q ≡ [] → v ≡ Ref o (base ++ path) → Brings p kind g ss f k q v
  tested : {k : ℕ} {q : List PathStep} {v : Datum} → (to from target : ℕ) → (base : List PathStep) → (o : Object) → kind ≡ Assert to from target → RefersTo from f.cells o base → is_of_type p target (slice_get p.sites o.site) ≡ true
      → k ≡ 0 → q ≡ [] → v ≡ Ref o base → Brings p kind g ss f k q v
  made : {k : ℕ} {q : List PathStep} {v : Datum} → (n serial : ℕ) → Makes p kind f k q n → v ≡ fresh_object n g serial → Brings p kind g ss f k q v
  named : {k : ℕ} {q : List PathStep} {v : Datum} → (to m s : ℕ) → (ident : Ident) → (at : Pos) → kind ≡ Global to m → slice_get p.globals m ≡ Some (ident, at, s) → k ≡ 0 → q ≡ [] → v ≡ variable s → Brings p kind g ss f k q v
  found_there : {k : ℕ} {q : List PathStep} {v : Datum} → (slot : Slot) → Finds p kind ss f k q slot → v ≡ slot.atom.value → Brings p kind g ss f k q v
  grown : {k : ℕ} {q : List PathStep} {v : Datum} → (to at : ℕ) → (items : List ℕ) → kind ≡ Grow to at items → k ≡ 1 → Brings p kind g ss f 2 q v → Brings p kind g ss f k q v

-- the instruction at the place of f puts the atom at its node (k, q)
pub record Given (p : Code) (l : Labelling) (kind : Kind) (g : ℕ) (ss : List Slot) (f : Frame) (k : ℕ) (q : List PathStep) (a : Atom) : Type 0 where
  pub put : a.put ≡ mark f.place k q
  pub node : IsNode p (mark f.place k q)
  pub labels : (s : Mark) → In s a.labels → Carries p l kind ss f k q s
  pub value : Brings p kind g ss f k q a.value

-- and it stands in a register that the instruction defines
pub record Puts (p : Code) (l : Labelling) (kind : Kind) (g : ℕ) (ss : List Slot) (f : Frame) (c : Cell) : Type 0 where
  pub index : ℕ
  pub defines : slice_get (defined kind) index ≡ Some c.register
  pub given : Given p l kind g ss f index c.leaf c.atom

-- f holds c, and the instruction doesn't define its register
pub record Keeps (kind : Kind) (f : Frame) (c : Cell) : Type 0 where
  pub held : In c f.cells
  pub other : member c.register (defined kind) ≡ false

-- the path of the object where the instruction stores what it puts at its node (k, q)
pub data StoresAt (p : Code) (kind : Kind) (g : ℕ) (f : Frame) (k : ℕ) (q : List PathStep) : Object → List PathStep → Type 0 where
  by_write : {o : Object} → (at from : ℕ) → (base : List PathStep) → kind ≡ Write at from → RefersTo at f.cells o base → k ≡ 0 → StoresAt p kind g f k q o (base ++ q)
  by_grow : {o : Object} → (to at : ℕ) → (items : List ℕ) → (base : List PathStep) → kind ≡ Grow to at items → RefersTo at f.cells o base → k ≡ 1 → StoresAt p kind g f k q o (element base q)
  by_grow_anew : (to at n serial : ℕ) → (items : List ℕ) → (site : Site) → kind ≡ Grow to at items → IsSiteOf p f.place n site → k ≡ 1
      → StoresAt p kind g f k q (record { site = n; maker = g; serial = serial }) (element [] q)

-- the slot holds what the instruction stores
pub record Stores (p : Code) (l : Labelling) (kind : Kind) (g : ℕ) (ss : List Slot) (f : Frame) (s : Slot) : Type 0 where
  pub index : ℕ
  pub leaf : List PathStep
  pub given : Given p l kind g ss f index leaf s.atom
  pub stores : StoresAt p kind g f index leaf s.object s.path
  pub is_leaf : is_leaf_of p s.object.site s.path ≡ true

-- where a label comes from that the instruction hands on at its node (k, q): from a register, or it begins there
pub data Simply (p : Code) (l : Labelling) (kind : Kind) (f : Frame) (k : ℕ) (q : List PathStep) (s : Mark) : Type 0 where
  simply_taken : (from : Cell) → In from f.cells → In s from.atom.labels → Takes l.problem kind from.register from.leaf k q → Simply p l kind f k q s
  simply_begins : l.begins s ≡ true → s ≡ mark f.place k q → Simply p l kind f k q s

-- c is what the instruction hands on, by index behind n results
pub record HandsOn (p : Code) (l : Labelling) (kind : Kind) (g : ℕ) (ss : List Slot) (f : Frame) (n : ℕ) (c : Cell) : Type 0 where
  pub given : Given p l kind g ss f (n + c.register) c.leaf c.atom
  pub simply : (s : Mark) → In s c.atom.labels → Simply p l kind f (n + c.register) c.leaf s

-- the atom b is a, put at another mark
pub record Again (p : Code) (l : Labelling) (a b : Atom) : Type 0 where
  pub node : IsNode p b.put
  pub value : b.value ≡ a.value
  pub labels : (s : Mark) → In s b.labels → ((s ≡ b.put) × (l.begins s ≡ true)) ⊎ In s a.labels

-- c is a parameter of the function, from one of these handed values, of which n are arguments
pub record Entered (p : Code) (l : Labelling) (takes : Bool) (n : ℕ) (fn : Function) (cells : List Cell) (c : Cell) : Type 0 where
  pub from : Cell
  pub held : In from cells
  pub param : param_of takes n from.register ≡ Some c.register
  pub within : c.register < fn.params
  pub put : c.atom.put ≡ mark fn.entry c.register c.leaf
  pub leaf : c.leaf ≡ from.leaf
  pub again : Again p l from.atom c.atom

-- the cell is what stands at (k, q) among values that are handed back
pub record HandsBack (cells : List Cell) (k : ℕ) (q : List PathStep) (from : Cell) : Type 0 where
  pub held : In from cells
  pub index : from.register ≡ k
  pub leaf : from.leaf ≡ q

-- where a label of a result comes from, of the call at the place i that returns from the function h
pub data BackLabel (p : Code) (l : Labelling) (i h : ℕ) (cells : List Cell) (k : ℕ) (q : List PathStep) (s : Mark) : Type 0 where
  back_own : l.begins s ≡ true → s ≡ mark i k q → BackLabel p l i h cells k q s
  back_source : is_source p l.problem i h ≡ true → s ≡ mark i k q → BackLabel p l i h cells k q s
  back_handed : (from : Cell) → HandsBack cells k q from → In s from.atom.labels → cleans p l.problem i h ≡ false → BackLabel p l i h cells k q s

-- c is a result of the call at the place i, handed back by the function h among these values
pub record GivesBack (p : Code) (l : Labelling) (to : List ℕ) (i h : ℕ) (cells : List Cell) (c : Cell) : Type 0 where
  pub index : ℕ
  pub result : slice_get to index ≡ Some c.register
  pub put : c.atom.put ≡ mark i index c.leaf
  pub node : IsNode p (mark i index c.leaf)
  pub value : IsNoReference c.atom.value ⊎ ((from : Cell) × HandsBack cells index c.leaf from × (c.atom.value ≡ from.atom.value))
  pub labels : (s : Mark) → In s c.atom.labels → BackLabel p l i h cells index c.leaf s

-- the frame h is f, but for the place and what registers and records hold
pub record IsSame (f h : Frame) : Type 0 where
  pub function : h.function ≡ f.function
  pub site : h.site ≡ f.site
  pub panics : h.panics ≡ f.panics

-- and the records are the same
pub record IsSameFrame (f h : Frame) : Type 0 where
  pub same : IsSame f h
  pub records : h.records ≡ f.records

-- the frame h stands at the first place of its function, which has a body
pub record Begins (p : Code) (h : Frame) (fn : Function) (site : ℕ) : Type 0 where
  pub is : IsFunction p h.function fn
  pub body : fn.external ≡ None
  pub place : h.place ≡ fn.entry
  pub site_is : h.site ≡ site
  pub calm : h.panics ≡ false
  pub none : h.records ≡ []

-- the frame h is f that panics, with some of its records
pub record IsPanicking (p : Code) (f h : Frame) : Type 0 where
  pub fn : Function
  pub is : IsFunction p f.function fn
  pub place : h.place ≡ fn.exit
  pub function : h.function ≡ f.function
  pub site : h.site ≡ f.site
  pub records : (d : Deferred) → In d h.records → In d f.records
  pub cells : h.cells ≡ f.cells
  pub panics : h.panics ≡ true

pub data Effect (p : Code) (l : Labelling) (g : ℕ) : View → View → List (List Frame) → Type 0 where
  -- the top frame gets atoms at nodes of its place, or none
  put : {ss : List Slot} {n n' : ℕ} {f h : Frame} {rest : List Frame} → (kind : Kind) → IsAt p f.place kind → f.panics ≡ false → Next kind f.place h.place
      → IsSameFrame f h → ((c : Cell) → In c h.cells → Puts p l kind g ss f c ⊎ Keeps kind f c)
      → Effect p l g (view ss n (f ∷ rest)) (view ss n' (h ∷ rest)) []
  -- and leaves of one object get atoms
  store : {ss ss' : List Slot} {n n' : ℕ} {f h : Frame} {rest : List Frame} → (kind : Kind) → IsAt p f.place kind → f.panics ≡ false → Next kind f.place h.place
      → IsSameFrame f h → ((c : Cell) → In c h.cells → Puts p l kind g ss f c ⊎ Keeps kind f c) → ((s : Slot) → In s ss' → Stores p l kind g ss f s ⊎ In s ss)
      → Effect p l g (view ss n (f ∷ rest)) (view ss' n' (h ∷ rest)) []
  -- a new frame stands on top, by a Call
  enter : {ss : List Slot} {n n' : ℕ} {f h : Frame} {rest : List Frame} → (to args : List ℕ) → (callee : Callee) → (takes : Bool) → (fn : Function)
      → IsAt p f.place (Call to callee args) → f.panics ≡ false → Resolves p f.cells callee (Found h.function takes) → Begins p h fn f.place
      → ((c : Cell) → In c (handing p l f (length to) callee args) → HandsOn p l (Call to callee args) g ss f (length to) c)
      → ((c : Cell) → In c h.cells → Entered p l takes (length (arguments callee args)) fn (handing p l f (length to) callee args) c)
      → Effect p l g (view ss n (f ∷ rest)) (view ss n' (h ∷ f ∷ rest)) []
  -- or by a record, which is taken off
  enter_record : {ss : List Slot} {n n' : ℕ} {f f' h : Frame} {rest : List Frame} → (d : Deferred) → (takes : Bool) → (fn : Function)
      → IsAt p f.place RunDefers → IsSame f f' → f'.place ≡ f.place → f'.cells ≡ f.cells → f.records ≡ d ∷ f'.records → d.target ≡ Found h.function takes
      → Begins p h fn d.place → ((c : Cell) → In c h.cells → Entered p l takes d.count fn d.cells c)
      → Effect p l g (view ss n (f ∷ rest)) (view ss n' (h ∷ f' ∷ rest)) []
  -- a new goroutine with one frame
  start : {ss : List Slot} {n n' : ℕ} {f f' h : Frame} {rest : List Frame} → (args : List ℕ) → (callee : Callee) → (takes : Bool) → (fn : Function)
      → IsAt p f.place (Go callee args) → f.panics ≡ false → Resolves p f.cells callee (Found h.function takes) → Next (Go callee args) f.place f'.place → IsSameFrame f f' → f'.cells ≡ f.cells
      → Begins p h fn f.place → ((c : Cell) → In c (handing p l f 0 callee args) → HandsOn p l (Go callee args) g ss f 0 c)
      → ((c : Cell) → In c h.cells → Entered p l takes (length (arguments callee args)) fn (handing p l f 0 callee args) c)
      → Effect p l g (view ss n (f ∷ rest)) (view ss n' (f' ∷ rest)) ((h ∷ []) ∷ [])
  -- the top frame gets one record
  keep : {ss : List Slot} {n n' : ℕ} {f h : Frame} {rest : List Frame} → (args : List ℕ) → (callee : Callee) → (d : Deferred)
      → IsAt p f.place (Defer callee args) → f.panics ≡ false → Resolves p f.cells callee d.target → Next (Defer callee args) f.place h.place → IsSame f h → h.cells ≡ f.cells → h.records ≡ d ∷ f.records
      → d.place ≡ f.place → d.count ≡ length (arguments callee args) → d.cells ≡ handing p l f 0 callee args → ((c : Cell) → In c d.cells → HandsOn p l (Defer callee args) g ss f 0 c)
      → Effect p l g (view ss n (f ∷ rest)) (view ss n' (h ∷ rest)) []
  -- the top frame goes; the frame below may get atoms at nodes of its place
  leave : {ss : List Slot} {n n' : ℕ} {f e h : Frame} {rest : List Frame} → (from to args : List ℕ) → (callee : Callee)
      → IsAt p f.place (Leave from) → f.panics ≡ false → f.site ≡ e.place → IsAt p e.place (Call to callee args) → Next (Call to callee args) e.place h.place → IsSameFrame e h
      → ((c : Cell) → In c (leaving p l f from) → HandsOn p l (Leave from) g ss f 0 c)
      → ((c : Cell) → In c h.cells → GivesBack p l to e.place f.function (leaving p l f from) c ⊎ Keeps (Call to callee args) e c)
      → Effect p l g (view ss n (f ∷ e ∷ rest)) (view ss n' (h ∷ rest)) []
  leave_record : {ss : List Slot} {n n' : ℕ} {f e : Frame} {rest : List Frame} → (from : List ℕ)
      → IsAt p f.place (Leave from) → IsAt p e.place RunDefers → Effect p l g (view ss n (f ∷ e ∷ rest)) (view ss n' (e ∷ rest)) []
  leave_last : {ss : List Slot} {n n' : ℕ} {f : Frame} → Effect p l g (view ss n (f ∷ [])) (view ss n' []) []
  -- a record that was done in one step is taken off
  move : {ss : List Slot} {n n' : ℕ} {f h : Frame} {rest : List Frame} → IsAt p f.place RunDefers → IsSame f h → h.place ≡ f.place → h.cells ≡ f.cells
      → ((d : Deferred) → In d h.records → In d f.records) → Effect p l g (view ss n (f ∷ rest)) (view ss n' (h ∷ rest)) []
  -- whether frames panic and at which places they stand; a record that means nothing may be taken off
  unwind : {ss : List Slot} {n n' : ℕ} {f h : Frame} {rest : List Frame} → IsPanicking p f h → Effect p l g (view ss n (f ∷ rest)) (view ss n' (h ∷ rest)) []
  unwind_drop : {ss : List Slot} {n n' : ℕ} {f e h : Frame} {rest : List Frame} → IsAt p f.place RunDefers → IsPanicking p e h → Effect p l g (view ss n (f ∷ e ∷ rest)) (view ss n' (h ∷ rest)) []
