-- What a callee means in a run, what an argument reaches, and what an external gives.
use Rattle.std.specs.Prelude.{◌≡◌, ◌↔◌, ℕ, ◌+◌, ◌<◌, List, [], ◌∷◌, ◌++◌, Some, slice_get, if◌then◌else◌, Bool, true, false}
use Rattle.argot_plain.specs.Lists.{In}
use Rattle.argot_plain.specs.Code.{Code, IsFunction, IsSiteOf, leaves}
use Rattle.argot_plain.specs.Counts.{is_source, cleans}
use Rattle.argot_plain.specs.Machine.{Labelling, Datum, Scalar, Ref, Object, Content, content, Atom, Cell, Slot, Change, Target, Missing, Found, value_at}
use Rattle.argot_plain.specs.Nodes.{Mark}
use Rattle.argot_plain.specs.Puts.{Fills, fresh_object}
use Rattle.argot_plain.specs.declared.functions.Function.{Function}
use Rattle.argot_plain.specs.declared.instructions.Callee.{Callee}
use Rattle.argot_plain.specs.declared.instructions.Callee.TheVariants.{Static, Value, Method}
use Rattle.argot_plain.specs.declared.sites.Site.{Site}
use Rattle.argot_text.specs.declared.path.PathStep.{PathStep}

-- a value by which a callee means the function h, and whether that takes the value as its first parameter
pub data Names (p : Code) : Callee → Datum → ℕ → Bool → Type 0 where
  -- the function that the object stands for
  by_value : {r h : ℕ} {o : Object} {path : List PathStep} {takes : Bool} → (site : Site) → (fn : Function)
      → slice_get p.sites o.site ≡ Some site → site.function ≡ Some h → IsFunction p h fn → takes ≡ fn.has_env → Names p (Value r) (Ref o path) h takes
  -- the wrapper of the box's type
  by_method : {r h : ℕ} {name : List ℕ} {o : Object} {path : List PathStep} → (site : Site)
      → slice_get p.sites o.site ≡ Some site → In (site.dynamic, name, h) p.methods → Names p (Method r name) (Ref o path) h false

-- the register by which a callee goes
pub data GoesBy : Callee → ℕ → Type 0 where
  goes_by_value : {r : ℕ} → GoesBy (Value r) r
  goes_by_method : {r : ℕ} {name : List ℕ} → GoesBy (Method r name) r

-- what a callee means where the registers hold these cells
pub data Resolves (p : Code) (cells : List Cell) : Callee → Target → Type 0 where
  by_number : {h : ℕ} → Resolves p cells (Static h) (Found h false)
  by_reference : {callee : Callee} {h : ℕ} {takes : Bool} → (r : ℕ) → (x : Content) → GoesBy callee r → In x (value_at r [] cells)
      → Names p callee x.value h takes → Resolves p cells callee (Found h takes)
  by_nothing : {callee : Callee} → (r : ℕ) → (x : Content) → GoesBy callee r → In x (value_at r [] cells)
      → ((h : ℕ) (takes : Bool) → Names p callee x.value h takes → ⊥) → Resolves p cells callee Missing

-- an object that a value refers to, or one that a reached object refers to, at any path
pub data Reached (slots : List Slot) (v : Datum) : Object → Type 0 where
  direct : {o : Object} → (path : List PathStep) → v ≡ Ref o path → Reached slots v o
  through : {o o' : Object} → (slot : Slot) → (path : List PathStep) → Reached slots v o → In slot slots → slot.object ≡ o
      → slot.atom.value ≡ Ref o' path → Reached slots v o'

-- the label is on the atom, or on an atom of an object that it reaches
pub data Bears (slots : List Slot) (a : Atom) (s : Mark) : Type 0 where
  itself : In s a.labels → Bears slots a s
  inside : (o : Object) → (slot : Slot) → Reached slots a.value o → In slot slots → slot.object ≡ o → In s slot.atom.labels → Bears slots a s

-- the label is on what the argument k of these handed values reaches
pub record ArgumentBears (k : ℕ) (cells : List Cell) (slots : List Slot) (s : Mark) : Type 0 where
  pub cell : Cell
  pub held : In cell cells
  pub at : cell.register ≡ k
  pub bears : Bears slots cell.atom s

-- the label is on what one of the first n handed values reaches
pub record SomeArgumentBears (n : ℕ) (cells : List Cell) (slots : List Slot) (s : Mark) : Type 0 where
  pub argument : ℕ
  pub within : argument < n
  pub bears : ArgumentBears argument cells slots s

-- the labels that an external carries on: where it flows, those of all that its arguments reach
abbrev pub CarriesOn : Bool → ℕ → List Cell → List Slot → List Mark → Type 0
CarriesOn true n cells slots ls = (s : Mark) → In s ls ↔ SomeArgumentBears n cells slots s
CarriesOn false n cells slots ls = ls ≡ []

-- the labels of the results of a call at the place i that returns from the function h
abbrev pub result_labels : Code → Labelling → ℕ → ℕ → Change
result_labels p l i h n ls = if is_source p l.problem i h then n ∷ ls else (if cleans p l.problem i h then [] else ls)

-- the site number n is that of the leaf q of result k, in the register t, of the Call at the place i of the function h
pub record IsResultSite (p : Code) (h i k t : ℕ) (q : List PathStep) (n : ℕ) : Type 0 where
  pub site : Site
  pub is : IsSiteOf p i n site
  pub result : site.result ≡ k
  pub leaf : slice_get (leaves p h t) site.leaf ≡ Some q

-- a result of an external is a reference to a fresh object where it has a site, else no reference
pub data ExternalValue (p : Code) (h i k t maker fresh : ℕ) (q : List PathStep) : Datum → Type 0 where
  fresh_one : (n : ℕ) → IsResultSite p h i k t q n → ExternalValue p h i k t maker fresh q (fresh_object n maker fresh)
  no_reference : ((n : ℕ) → IsResultSite p h i k t q n → ⊥) → ExternalValue p h i k t maker fresh q Scalar

-- what an external may give at a leaf of a result
abbrev pub MayGive : Code → ℕ → ℕ → ℕ → ℕ → ℕ → ℕ → List Mark → List PathStep → List Content → Type 0
MayGive p h i k t maker fresh ls q xs = (v : Datum) × ExternalValue p h i k t maker fresh q v × (xs ≡ content v ls ∷ [])

-- the results of the external target, called at the place i of the function h, from result k on
pub data ExternalGives (p : Code) (l : Labelling) (h i target maker fresh : ℕ) (ls : List Mark) : ℕ → List ℕ → List Cell → Type 0 where
  no_more : {k : ℕ} → ExternalGives p l h i target maker fresh ls k [] []
  one_more : {k t : ℕ} {ts : List ℕ} {cells rest : List Cell} → Fills l (result_labels p l i target) t i k (MayGive p h i k t maker fresh ls) (leaves p h t) cells
      → ExternalGives p l h i target maker fresh ls (k + 1) ts rest → ExternalGives p l h i target maker fresh ls k (t ∷ ts) (cells ++ rest)
