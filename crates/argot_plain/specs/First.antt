-- Plain code of the first form and its flows: the seven kinds that straight-line programs on texts need. Each register
-- holds a text, whose one leaf has the number 0: so a node is a place with an index.
use Rattle.std.specs.Prelude.{◌≡◌, ◌⊎◌, ℕ, ◌+◌, ◌<◌, ◌≤◌, List, [], ◌∷◌, length, Bool, true, false, not, ◌&&◌, Option, Some, None, slice_get, codes}
use Rattle.std.specs.Str.{bytes_eq}
use Rattle.argot_plain.specs.declared.first.Kind.{Kind}
use Rattle.argot_plain.specs.declared.first.Kind.TheVariants.{Op, Move, Call, RunDefers, Leave, Goto, Branch}

-- an instruction, with the offset of its position in the file
pub record Instr : Type 0 where
  pub kind : Kind
  pub at : ℕ

-- a function: its first place, the place of its RunDefers, its last place, and how many parameters and results it has
pub record Plain : Type 0 where
  pub name : List ℕ
  pub entry : ℕ
  pub exit : ℕ
  pub leave : ℕ
  pub params : ℕ
  pub results : ℕ

-- the functions, by number, and the instructions of all functions, by place
pub record Code : Type 0 where
  pub functions : List Plain
  pub instrs : List Instr

-- x stands in the list
abbrev pub Among : ℕ → List ℕ → Type 0
Among x xs = (k : ℕ) × (slice_get xs k ≡ Some x)

abbrev pub kind_in : Option Instr → Option Kind
kind_in None = None
kind_in (Some x) = Some x.kind

-- what stands at a place
abbrev pub kind_at : Code → ℕ → Option Kind
kind_at code i = kind_in (slice_get code.instrs i)

abbrev pub IsAt : Code → ℕ → Kind → Type 0
IsAt code i kind = kind_at code i ≡ Some kind

abbrev pub IsFunction : Code → ℕ → Plain → Type 0
IsFunction code h fn = slice_get code.functions h ≡ Some fn

-- where an instruction at a place goes on
abbrev pub GoesOn : Option Kind → ℕ → ℕ → Type 0
GoesOn None i j = ⊥
GoesOn (Some (Op to from)) i j = j ≡ i + 1
GoesOn (Some (Move to from)) i j = j ≡ i + 1
GoesOn (Some (Call to h args)) i j = j ≡ i + 1
GoesOn (Some RunDefers) i j = j ≡ i + 1
GoesOn (Some (Leave from)) i j = ⊥
GoesOn (Some (Goto target)) i j = j ≡ target
GoesOn (Some (Branch targets)) i j = Among j targets

abbrev pub Successor : Code → ℕ → ℕ → Type 0
Successor code i j = GoesOn (kind_at code i) i j

-- an instruction gives the register r as its result k
abbrev pub Gives : Option Kind → ℕ → ℕ → Type 0
Gives None k r = ⊥
Gives (Some (Op to from)) k r = (k ≡ 0) × (r ≡ to)
Gives (Some (Move to from)) k r = (k ≡ 0) × (r ≡ to)
Gives (Some (Call to h args)) k r = slice_get to k ≡ Some r
Gives (Some RunDefers) k r = ⊥
Gives (Some (Leave from)) k r = ⊥
Gives (Some (Goto target)) k r = ⊥
Gives (Some (Branch targets)) k r = ⊥

-- a function's first place gives its parameters
pub record IsParameter (code : Code) (i k r : ℕ) : Type 0 where
  pub number : ℕ
  pub function : Plain
  pub is_function : IsFunction code number function
  pub entry : function.entry ≡ i
  pub within : k < function.params
  pub same : r ≡ k

-- the place i defines the register r at its node k
abbrev pub Defines : Code → ℕ → ℕ → ℕ → Type 0
Defines code i k r = Gives (kind_at code i) k r ⊎ IsParameter code i k r

-- the definition of r at the node (d, k) reaches the place i: a path of one or more successors leads there, and no place strictly between defines r
pub data Reaches (code : Code) (d k r : ℕ) : ℕ → Type 0 where
  next : {i : ℕ} → Defines code d k r → Successor code d i → Reaches code d k r i
  onward : {m i : ℕ} → Reaches code d k r m → ((l : ℕ) → Defines code m l r → ⊥) → Successor code m i → Reaches code d k r i

-- the place i belongs to the function
abbrev pub IsIn : ℕ → Plain → Type 0
IsIn i fn = (fn.entry ≤ i) × (i ≤ fn.leave)

-- the live functions: the opening one, and those that a place of a live one calls
pub data Live (code : Code) : ℕ → Type 0 where
  opening : Live code 0
  called : {h : ℕ} → (f i : ℕ) → (fn : Plain) → (to args : List ℕ) → Live code f → IsFunction code f fn → IsIn i fn → IsAt code i (Call to h args) → Live code h

pub record IsLivePlace (code : Code) (i : ℕ) : Type 0 where
  pub number : ℕ
  pub function : Plain
  pub live : Live code number
  pub is_function : IsFunction code number function
  pub inside : IsIn i function

-- an instruction takes the register r to its node l: arguments stand behind the results
abbrev pub Takes : Option Kind → ℕ → ℕ → Type 0
Takes None l r = ⊥
Takes (Some (Op to from)) l r = (l ≡ 0) × Among r from
Takes (Some (Move to from)) l r = (l ≡ 0) × (r ≡ from)
Takes (Some (Call to h args)) l r = (n : ℕ) × (l ≡ length to + n) × (slice_get args n ≡ Some r)
Takes (Some RunDefers) l r = ⊥
Takes (Some (Leave from)) l r = slice_get from l ≡ Some r
Takes (Some (Goto target)) l r = ⊥
Takes (Some (Branch targets)) l r = ⊥

-- functions count by their names, compared whole; a source counts before a sanitizer
abbrev pub is_source : Plain → Bool
is_source fn = bytes_eq fn.name (codes "source")

abbrev pub is_sink : Plain → Bool
is_sink fn = bytes_eq fn.name (codes "sink")

abbrev pub cleans : Plain → Bool
cleans fn = bytes_eq fn.name (codes "sanitize") && not (is_source fn)

-- the kinds of edges; a call and a return have the place of the Call
pub data EdgeKind : Type 0 where
  Within : EdgeKind
  Enters : ℕ → EdgeKind
  Returns : ℕ → EdgeKind

-- an edge from the node (d, k) to the node (i, l)
pub data Edge (code : Code) : ℕ → ℕ → EdgeKind → ℕ → ℕ → Type 0 where
  -- a definition to a place that it reaches and that takes its register
  within : {d k i l : ℕ} → (r : ℕ) → IsLivePlace code i → Takes (kind_at code i) l r → Reaches code d k r i → Edge code d k Within i l
  -- an argument to its parameter
  enters : {i l e k : ℕ} → (to args : List ℕ) → (h : ℕ) → (fn : Plain) → IsLivePlace code i → IsAt code i (Call to h args) → IsFunction code h fn → l ≡ length to + k → k < length args → e ≡ fn.entry → Edge code i l (Enters i) e k
  -- what a Leave hands back to its result, but from a sanitizer that is no source
  returns : {x k i : ℕ} → (to args : List ℕ) → (h : ℕ) → (fn : Plain) → IsLivePlace code i → IsAt code i (Call to h args) → IsFunction code h fn → x ≡ fn.leave → k < length to → cleans fn ≡ false → Edge code x k (Returns i) i k

-- a realizable edge list joins the node (a, k) to (b, l) and leaves these calls open, the last one first
pub data Joins (code : Code) (a k : ℕ) : ℕ → ℕ → List ℕ → Type 0 where
  stay : Joins code a k a k []
  plain : {b l c m : ℕ} {calls : List ℕ} → Joins code a k b l calls → Edge code b l Within c m → Joins code a k c m calls
  call : {b l i c m : ℕ} {calls : List ℕ} → Joins code a k b l calls → Edge code b l (Enters i) c m → Joins code a k c m (i ∷ calls)
  return_last : {b l i c m : ℕ} {calls : List ℕ} → Joins code a k b l (i ∷ calls) → Edge code b l (Returns i) c m → Joins code a k c m calls
  return_free : {b l i c m : ℕ} → Joins code a k b l [] → Edge code b l (Returns i) c m → Joins code a k c m []

-- a live Call of a function that counts so
pub record Calls (code : Code) (counts : Plain → Bool) (i : ℕ) : Type 0 where
  pub to : List ℕ
  pub number : ℕ
  pub args : List ℕ
  pub function : Plain
  pub live : IsLivePlace code i
  pub is_at : IsAt code i (Call to number args)
  pub is_function : IsFunction code number function
  pub counted : counts function ≡ true

-- data of the source's Call at s reaches the argument k of the sink's Call at t
pub record IsFlow (code : Code) (s t k : ℕ) : Type 0 where
  pub source : Calls code is_source s
  pub result : ℕ
  pub has_result : result < length source.to
  pub sink : Calls code is_sink t
  pub has_argument : k < length sink.args
  pub calls : List ℕ
  pub joins : Joins code s result t (length sink.to + k) calls
