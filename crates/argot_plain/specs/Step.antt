-- The steps of the machine, and its runs.
use Rattle.std.specs.Prelude.{◌≡◌, ℕ, suc, ◌+◌, ◌==◌, length, List, [], ◌∷◌, ◌++◌, Some, None, slice_get, slice_set, Bool, true, false}
use Rattle.argot_plain.specs.Lists.{In}
use Rattle.argot_plain.specs.Code.{Code, IsAt, IsFunction, IsSiteOf, leaves, element_leaves, defined, Next, arguments, handed_values}
use Rattle.argot_plain.specs.Machine.{Labelling, Ref, Content, content, Object, Cell, Slot, Target, Missing, Found, Deferred, Frame, View, State, put_cell, same_labels, value_at, kept, handed, to_params, handed_back, written, after_write, added, recopied}
use Rattle.argot_plain.specs.Outside.{Resolves, CarriesOn, ExternalGives, result_labels}
use Rattle.argot_plain.specs.Nodes.{Mark}
use Rattle.argot_plain.specs.Puts.{Gives, fresh_object}
use Rattle.argot_plain.specs.declared.functions.Function.{Function}
use Rattle.argot_plain.specs.declared.instructions.Callee.{Callee}
use Rattle.argot_plain.specs.declared.instructions.Kind.{Kind}
use Rattle.argot_plain.specs.declared.instructions.Kind.TheVariants.{Write, Grow, Call, Go, Defer, RunDefers, Leave}
use Rattle.argot_plain.specs.declared.sites.Site.{Site}
use Rattle.argot_text.specs.declared.path.PathStep.{PathStep}

-- the frame at j, with these cells in place of what those registers held
abbrev pub goes_on : Frame → List ℕ → List Cell → ℕ → Frame
goes_on f regs given j = record f { place = j; cells = given ++ kept regs f.cells }

-- the frame at j, whose register to got what is carried
abbrev pub gets : Labelling → Frame → ℕ → Content → ℕ → Frame
gets l f to x j = goes_on f (to ∷ []) (put_cell l same_labels to f.place 0 [] x ∷ []) j

abbrev pub at_place : Frame → ℕ → Frame
at_place f j = record f { place = j }

-- a frame that begins to panic
abbrev pub panicking : Frame → Function → Frame
panicking f fn = record f { place = fn.exit; panics = true; began = true }

abbrev pub with_records : Frame → List Deferred → Frame
with_records f ds = record f { records = ds }

-- a frame at the first place of the function h
abbrev pub first_frame : ℕ → Function → List Cell → ℕ → Frame
first_frame h fn cells site = record {
  function = h;
  place = fn.entry;
  cells = cells;
  records = [];
  site = site;
  panics = false;
  began = false;
}

abbrev pub view : List Slot → ℕ → List Frame → View
view slots fresh frames = record { slots = slots; fresh = fresh; frames = frames }

-- the object of the site s that the goroutine g makes with the number n
abbrev pub made : ℕ → ℕ → ℕ → Object
made s g n = record { site = s; maker = g; serial = n }

-- the handed values of the Call, Go or Defer at which the frame stands, behind n results
abbrev pub handing : Code → Labelling → Frame → ℕ → Callee → List ℕ → List Cell
handing p l f n callee args = handed p l f.function f.place n 0 (handed_values callee args) f.cells

-- the values that the Leave at which the frame stands hands back
abbrev pub leaving : Code → Labelling → Frame → List ℕ → List Cell
leaving p l f from = handed p l f.function f.place 0 0 from f.cells

-- the results that the Call at which e stands gets of the Leave at which f stands
abbrev pub resulting : Code → Labelling → Frame → Frame → List ℕ → List ℕ → List Cell
resulting p l f e to from =
    handed_back p l (result_labels p l e.place f.function) e.function e.place 0 to (leaving p l f from)

-- a frame of the function h for such a call
abbrev pub entering : Code → Labelling → Frame → ℕ → Callee → List ℕ → ℕ → Bool → Function → Frame
entering p l f n callee args h takes fn =
    first_frame h fn (to_params p l h takes (length (arguments callee args)) fn (handing p l f n callee args)) f.place

-- a frame of the function h for a deferred call
abbrev pub resuming : Code → Labelling → Deferred → ℕ → Bool → Function → Frame
resuming p l d h takes fn = first_frame h fn (to_params p l h takes d.count fn d.cells) d.place

-- the record of the Defer at which the frame stands
abbrev pub record_of : Code → Labelling → Frame → Callee → List ℕ → Target → Deferred
record_of p l f callee args target = record {
  place = f.place;
  target = target;
  count = length (arguments callee args);
  cells = handing p l f 0 callee args;
}

-- One step of the goroutine g, whose frames are given, the top one first, where the objects hold ss and the next object
-- gets the number n: the view afterwards, the goroutines that the step starts, and whether it ends the program. In each
-- rule f is the top frame, rest are the frames below it, e is a frame to which f goes back, and a frame goes on at j
pub data Acts (p : Code) (l : Labelling) (g : ℕ) (ss : List Slot) (n : ℕ)
    : List Frame → View → List (List Frame) → Bool → Type 0 where
  -- PUTS. An instruction that stays in its frame puts values into the registers that it defines
  act_puts : {f : Frame} {rest : List Frame} → (kind : Kind) → (given : List Cell) → (j : ℕ)
      → IsAt p f.place kind
      → f.panics ≡ false
      → Gives p l kind g f.function f.place ss n f.cells given
      → Next kind f.place j
      → Acts p l g ss n (f ∷ rest) (view ss (n + 1) (goes_on f (defined kind) given j ∷ rest)) [] false
  -- a Write puts the value of a register where a reference refers to
  act_stores : {f : Frame} {rest : List Frame}
      → (at from : ℕ) → (o : Object) → (base : List PathStep) → (x : Content) → (j : ℕ)
      → IsAt p f.place (Write at from)
      → f.panics ≡ false
      → In x (value_at at [] f.cells)
      → x.value ≡ Ref o base
      → Next (Write at from) f.place j
      → Acts p l g ss n (f ∷ rest)
      (view (after_write (written p l f.place from o base (leaves p f.function from) f.cells) ss) n
      (at_place f j ∷ rest)) [] false
  -- a Write of nothing, which goes on without a reference too
  act_stores_nothing : {f : Frame} {rest : List Frame} → (at from j : ℕ)
      → IsAt p f.place (Write at from)
      → f.panics ≡ false
      → leaves p f.function from ≡ []
      → Next (Write at from) f.place j
      → Acts p l g ss n (f ∷ rest) (view ss n (at_place f j ∷ rest)) [] false
  -- a Grow in place: the items stand with the elements of the slice
  act_grows : {f : Frame} {rest : List Frame}
      → (to at : ℕ) → (items : List ℕ) → (s : ℕ) → (site : Site)
      → (o : Object) → (base : List PathStep) → (x : Content) → (j : ℕ)
      → IsAt p f.place (Grow to at items)
      → f.panics ≡ false
      → IsSiteOf p f.place s site
      → In x (value_at at [] f.cells)
      → x.value ≡ Ref o base
      → Next (Grow to at items) f.place j
      → Acts p l g ss n (f ∷ rest)
      (view (added p l f.place o base items (element_leaves site) f.cells ++ ss) n
      (gets l f to x j ∷ rest)) [] false
  -- a Grow of nothing by nothing
  act_grows_nothing : {f : Frame} {rest : List Frame} → (to at : ℕ) → (x : Content) → (j : ℕ)
      → IsAt p f.place (Grow to at [])
      → f.panics ≡ false
      → In x (value_at at [] f.cells)
      → ((o : Object) (base : List PathStep) → x.value ≡ Ref o base → ⊥)
      → Next (Grow to at []) f.place j
      → Acts p l g ss n (f ∷ rest) (view ss n (gets l f to x j ∷ rest)) [] false
  -- a Grow in a fresh copy, which has the labels of the reference
  act_grows_anew : {f : Frame} {rest : List Frame}
      → (to at : ℕ) → (items : List ℕ) → (s : ℕ) → (site : Site) → (x : Content) → (j : ℕ)
      → IsAt p f.place (Grow to at items)
      → f.panics ≡ false
      → IsSiteOf p f.place s site
      → In x (value_at at [] f.cells)
      → Next (Grow to at items) f.place j
      → Acts p l g ss n (f ∷ rest)
      (view (added p l f.place (made s g n) [] items (element_leaves site) f.cells
      ++ recopied p l f.place (made s g n) x.value (element_leaves site) ss ++ ss) (n + 1)
      (gets l f to (content (fresh_object s g n) x.labels) j ∷ rest)) [] false
  -- CALLS. A Call of a function with a body pushes a frame. A function that is meant by a reference or a box is entered
  -- with the content that chose it: a register holds one content at most at a leaf that doesn't lead to elements
  act_enters : {f : Frame} {rest : List Frame}
      → (to : List ℕ) → (callee : Callee) → (args : List ℕ) → (h : ℕ) → (takes : Bool) → (fn : Function)
      → IsAt p f.place (Call to callee args)
      → f.panics ≡ false
      → Resolves p f.cells callee (Found h takes)
      → IsFunction p h fn
      → fn.external ≡ None
      → Acts p l g ss n (f ∷ rest) (view ss n (entering p l f (length to) callee args h takes fn ∷ f ∷ rest)) [] false
  -- a Call of an external is done in one step
  act_calls_outside : {f : Frame} {rest : List Frame}
      → (to : List ℕ) → (callee : Callee) → (args : List ℕ) → (h : ℕ) → (takes : Bool) → (fn : Function)
      → (flows : Bool) → (ls : List Mark) → (given : List Cell) → (j : ℕ)
      → IsAt p f.place (Call to callee args)
      → f.panics ≡ false
      → Resolves p f.cells callee (Found h takes)
      → IsFunction p h fn
      → fn.external ≡ Some flows
      → CarriesOn flows (length (arguments callee args)) (handing p l f (length to) callee args) ss ls
      → ExternalGives p l f.function f.place h g n ls 0 to given
      → Next (Call to callee args) f.place j
      → Acts p l g ss n (f ∷ rest) (view ss (n + 1) (goes_on f to given j ∷ rest)) [] false
  -- a Leave goes back to the Call below, and hands its results back
  act_leaves : {f e : Frame} {rest : List Frame} → (from to : List ℕ) → (callee : Callee) → (args : List ℕ) → (j : ℕ)
      → IsAt p f.place (Leave from)
      → f.panics ≡ false
      → f.site ≡ e.place
      → IsAt p e.place (Call to callee args)
      → Next (Call to callee args) e.place j
      → Acts p l g ss n (f ∷ e ∷ rest) (view ss n (goes_on e to (resulting p l f e to from) j ∷ rest)) [] false
  -- a Go of a function with a body starts a goroutine
  act_starts : {f : Frame} {rest : List Frame}
      → (callee : Callee) → (args : List ℕ) → (h : ℕ) → (takes : Bool) → (fn : Function) → (j : ℕ)
      → IsAt p f.place (Go callee args)
      → f.panics ≡ false
      → Resolves p f.cells callee (Found h takes)
      → IsFunction p h fn
      → fn.external ≡ None
      → Next (Go callee args) f.place j
      → Acts p l g ss n (f ∷ rest) (view ss n (at_place f j ∷ rest))
      ((entering p l f 0 callee args h takes fn ∷ []) ∷ []) false
  -- a Go of an external does nothing
  act_starts_outside : {f : Frame} {rest : List Frame}
      → (callee : Callee) → (args : List ℕ) → (h : ℕ) → (takes : Bool) → (fn : Function) → (flows : Bool) → (j : ℕ)
      → IsAt p f.place (Go callee args)
      → f.panics ≡ false
      → Resolves p f.cells callee (Found h takes)
      → IsFunction p h fn
      → fn.external ≡ Some flows
      → Next (Go callee args) f.place j
      → Acts p l g ss n (f ∷ rest) (view ss n (at_place f j ∷ rest)) [] false
  -- DEFERS AND EXITS. A Defer keeps a record of the deferred call: its target, and what it is handed
  act_keeps : {f : Frame} {rest : List Frame} → (callee : Callee) → (args : List ℕ) → (target : Target) → (j : ℕ)
      → IsAt p f.place (Defer callee args)
      → f.panics ≡ false
      → Resolves p f.cells callee target
      → Next (Defer callee args) f.place j
      → Acts p l g ss n (f ∷ rest)
      (view ss n (with_records (at_place f j) (record_of p l f callee args target ∷ f.records) ∷ rest)) [] false
  -- an exit, whether its frame panics or not, runs the deferred call that was kept last: of a function with a body
  act_runs : {f : Frame} {rest : List Frame}
      → (d : Deferred) → (ds : List Deferred) → (h : ℕ) → (takes : Bool) → (fn : Function)
      → IsAt p f.place RunDefers
      → f.records ≡ d ∷ ds
      → d.target ≡ Found h takes
      → IsFunction p h fn
      → fn.external ≡ None
      → Acts p l g ss n (f ∷ rest) (view ss n (resuming p l d h takes fn ∷ with_records f ds ∷ rest)) [] false
  -- of an external, which is done in one step
  act_runs_outside : {f : Frame} {rest : List Frame}
      → (d : Deferred) → (ds : List Deferred) → (h : ℕ) → (takes : Bool) → (fn : Function) → (flows : Bool)
      → IsAt p f.place RunDefers
      → f.records ≡ d ∷ ds
      → d.target ≡ Found h takes
      → IsFunction p h fn
      → fn.external ≡ Some flows
      → Acts p l g ss n (f ∷ rest) (view ss n (with_records f ds ∷ rest)) [] false
  -- or of nothing, which panics
  act_runs_nothing : {f : Frame} {rest : List Frame} → (d : Deferred) → (ds : List Deferred) → (fn : Function)
      → IsAt p f.place RunDefers
      → f.records ≡ d ∷ ds
      → d.target ≡ Missing
      → IsFunction p f.function fn
      → Acts p l g ss n (f ∷ rest) (view ss n (panicking (with_records f ds) fn ∷ rest)) [] false
  -- an exit without deferred calls goes on to the Leave
  act_exits : {f : Frame} {rest : List Frame} → (j : ℕ)
      → IsAt p f.place RunDefers
      → f.panics ≡ false
      → f.records ≡ []
      → Next RunDefers f.place j
      → Acts p l g ss n (f ∷ rest) (view ss n (at_place f j ∷ rest)) [] false
  -- the Leave of a deferred call goes back to the exit that ran it; what it hands back is dropped
  act_leaves_deferred : {f e : Frame} {rest : List Frame} → (from : List ℕ)
      → IsAt p f.place (Leave from)
      → f.panics ≡ false
      → IsAt p e.place RunDefers
      → Acts p l g ss n (f ∷ e ∷ rest) (view ss n (e ∷ rest)) [] false
  -- PANICS. At any place a frame may begin to panic: it goes to its exit, where its deferred calls run
  act_panics : {f : Frame} {rest : List Frame} → (fn : Function)
      → IsFunction p f.function fn
      → f.panics ≡ false
      → Acts p l g ss n (f ∷ rest) (view ss n (panicking f fn ∷ rest)) [] false
  -- a frame that panics at its exit, without deferred calls, goes, and the frame below panics
  act_drops : {f e : Frame} {rest : List Frame} → (fn : Function)
      → IsAt p f.place RunDefers
      → f.panics ≡ true
      → f.records ≡ []
      → IsFunction p e.function fn
      → Acts p l g ss n (f ∷ e ∷ rest) (view ss n (panicking e fn ∷ rest)) [] false
  -- ENDS. A panic of a goroutine's last frame ends the program
  act_drops_last : {f : Frame}
      → IsAt p f.place RunDefers
      → f.panics ≡ true
      → f.records ≡ []
      → Acts p l g ss n (f ∷ []) (view ss n []) [] true
  -- the Leave of a goroutine's last frame ends the goroutine, and with the first one the program
  act_ends : {f : Frame} → (from : List ℕ)
      → IsAt p f.place (Leave from)
      → f.panics ≡ false
      → Acts p l g ss n (f ∷ []) (view ss n []) [] (g == 0)

-- the state after a step of the goroutine g
abbrev pub after : State → ℕ → View → List (List Frame) → Bool → State
after s g v started ended = record {
  slots = v.slots;
  fresh = v.fresh;
  goroutines = slice_set s.goroutines g v.frames ++ started;
  ended = ended;
}

-- a step of any goroutine, while the program hasn't ended
pub data OneStep (p : Code) (l : Labelling) : State → State → Type 0 where
  one_step : {s : State} {v : View} {started : List (List Frame)} {ended : Bool} → (g : ℕ) → (frames : List Frame)
      → s.ended ≡ false
      → slice_get s.goroutines g ≡ Some frames
      → Acts p l g s.slots s.fresh frames v started ended
      → OneStep p l s (after s g v started ended)

-- the state in which a run begins: one goroutine with one frame of the entry
abbrev pub opening : Function → State
opening fn = record { slots = []; fresh = 1; goroutines = (first_frame 0 fn [] 0 ∷ []) ∷ []; ended = false }

-- a run of n steps, and the state that it leads to
pub data Run (p : Code) (l : Labelling) : ℕ → State → Type 0 where
  no_step : (fn : Function) → IsFunction p 0 fn → Run p l 0 (opening fn)
  then_step : {n : ℕ} {mid new : State} → Run p l n mid → OneStep p l mid new → Run p l (suc n) new
