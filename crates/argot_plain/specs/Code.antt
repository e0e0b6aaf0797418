-- A program of plain code as contracts see it: its places, and what its instructions define, read, hand on and go on to.
--
-- One letter is one thing in all definitions over plain code: p a program, i and j places, h the function that a place is in,
-- target another function that it names, r a register, q the path of a leaf and a its number, k an index, s a site, and in
-- the machine g a goroutine and f a frame.
use Rattle.std.specs.Prelude.{◌≡◌, ℕ, ◌+◌, ◌<◌, ◌≤◌, ◌==◌, ◌++◌, Bool, true, false, Option, List, [], ◌∷◌, Some, None, map, nat_lt, slice_get, length, if◌then◌else◌}
use Rattle.argot_plain.specs.Lists.{In, without_first}
use Rattle.argot_plain.specs.declared.functions.Function.{Function}
use Rattle.argot_plain.specs.declared.functions.Ident.{Ident}
use Rattle.argot_plain.specs.declared.instructions.Callee.{Callee}
use Rattle.argot_plain.specs.declared.instructions.Callee.TheVariants.{Static, Value, Method}
use Rattle.argot_plain.specs.declared.instructions.Instr.{Instr}
use Rattle.argot_plain.specs.declared.instructions.Kind.{Kind}
use Rattle.argot_plain.specs.declared.instructions.Kind.TheVariants.{Op, Move, Join, New, Step, Read, Write, Grow, Global, Assert, Call, Go, Defer, Leave, Goto, Branch, Panic, Passed}
use Rattle.argot_plain.specs.declared.sites.Site.{Site}
use Rattle.argot_text.specs.declared.position.Pos.{Pos}
use Rattle.argot_text.specs.declared.path.PathStep.{PathStep}

-- the functions, places, sites, package variables (each with its name, position and site), methods (by dynamic type and
-- name), pairs of a dynamic type and a type that it is or implements, and files, each by its number
pub record Code : Type 0 where
  pub functions : List Function
  pub instrs : List Instr
  pub sites : List Site
  pub globals : List (Ident × Pos × ℕ)
  pub methods : List (ℕ × List ℕ × ℕ)
  pub implements : List (ℕ × ℕ)
  pub files : List (List ℕ)

abbrev pub kind_of : Option Instr → Option Kind
kind_of None = None
kind_of (Some x) = Some x.kind

-- the instruction at the place i is k
abbrev pub IsAt : Code → ℕ → Kind → Type 0
IsAt p i k = kind_of (slice_get p.instrs i) ≡ Some k

-- the function number h is fn
abbrev pub IsFunction : Code → ℕ → Function → Type 0
IsFunction p h fn = slice_get p.functions h ≡ Some fn

-- the place i is the first one of the function h
pub record IsEntry (p : Code) (i h : ℕ) : Type 0 where
  pub fn : Function
  pub is : IsFunction p h fn
  pub at : i ≡ fn.entry

-- the place i is one of the function h
pub record IsIn (p : Code) (i h : ℕ) : Type 0 where
  pub fn : Function
  pub is : IsFunction p h fn
  pub low : fn.entry ≤ i
  pub high : i ≤ fn.leave

-- the site number n is the site of the instruction at the place i; the sites of package variables are sites of none
pub record IsSiteOf (p : Code) (i n : ℕ) (site : Site) : Type 0 where
  pub is : slice_get p.sites n ≡ Some site
  pub behind : length p.globals ≤ n
  pub place : site.place ≡ i

abbrev pub leaves_in : Option Function → ℕ → List (List PathStep)
leaves_in None r = []
leaves_in (Some fn) r = paths_in (slice_get fn.registers r)
  where
    paths_in : Option (List (List PathStep)) → List (List PathStep)
    paths_in None = []
    paths_in (Some qs) = qs

-- the leaf paths of the register r of the function h
abbrev pub leaves : Code → ℕ → ℕ → List (List PathStep)
leaves p h r = leaves_in (slice_get p.functions h) r

-- the leaf paths of what a slice of the site holds in each element
abbrev pub element_leaves : Site → List (List PathStep)
element_leaves site = map without_first site.shape

-- the registers that an instruction of this kind defines, by the index of the result
abbrev pub defined : Kind → List ℕ
defined (Op to from) = to ∷ []
defined (Move to from path) = to ∷ []
defined (Join to parts) = to ∷ []
defined (New to site) = to ∷ []
defined (Step to from path) = to ∷ []
defined (Read to at leaves) = to ∷ []
defined (Grow to at items) = to ∷ []
defined (Global to global) = to ∷ []
defined (Assert to from target) = to ∷ []
defined (Call to callee args) = to
defined (Passed to callee) = to ∷ []
defined _ = []

-- the arguments of a call: the box by which a method is called is the first
abbrev pub arguments : Callee → List ℕ → List ℕ
arguments (Static h) args = args
arguments (Value r) args = args
arguments (Method r name) args = r ∷ args

-- the handed values: the arguments, and behind them the reference by which a function value is called
abbrev pub handed_values : Callee → List ℕ → List ℕ
handed_values (Static h) args = args
handed_values (Value r) args = args ++ r ∷ []
handed_values (Method r name) args = r ∷ args

-- the index of the handed value by which the callee is found: the reference by which a function value is called, the box
-- by which a method is
abbrev pub found_by : Callee → List ℕ → Option ℕ
found_by (Static h) args = None
found_by (Value r) args = Some (length args)
found_by (Method r name) args = Some 0

-- an object of the site s selects the function h for such a callee: it stands for h, or h is the wrapper of its type under
-- the method's name
pub data Selects (p : Code) (s h : ℕ) : Callee → Type 0 where
  by_value : {r : ℕ} → (site : Site)
      → slice_get p.sites s ≡ Some site
      → site.function ≡ Some h
      → Selects p s h (Value r)
  by_method : {r : ℕ} {name : List ℕ} → (site : Site)
      → slice_get p.sites s ≡ Some site
      → In (site.dynamic, name, h) p.methods
      → Selects p s h (Method r name)

-- where the handed value k refers to an object of the site s, it goes on to the function h: to any function, but where the
-- callee is found by this value to what the object selects
abbrev pub GoesTo : Code → Callee → List ℕ → ℕ → ℕ → ℕ → Type 0
GoesTo p callee args k s h = found_by callee args ≡ Some k → Selects p s h callee

-- a Call, Go or Defer with its callee, its written arguments and how many results stand before the handed values
pub data Hands : Kind → Callee → List ℕ → ℕ → Type 0 where
  by_call : {to args : List ℕ} {callee : Callee} → Hands (Call to callee args) callee args (length to)
  by_go : {args : List ℕ} {callee : Callee} → Hands (Go callee args) callee args 0
  by_defer : {args : List ℕ} {callee : Callee} → Hands (Defer callee args) callee args 0

abbrev pub parts_registers : List (List PathStep × ℕ) → List ℕ
parts_registers parts = map (λ x. x.1) parts

-- the registers that an instruction of this kind reads
abbrev pub reads : Kind → List ℕ
reads (Op to from) = from
reads (Move to from path) = from ∷ []
reads (Join to parts) = parts_registers parts
reads (Step to from path) = from ∷ []
reads (Read to at leaves) = at ∷ []
reads (Write at from) = at ∷ from ∷ []
reads (Grow to at items) = at ∷ items
reads (Assert to from target) = from ∷ []
reads (Call to callee args) = handed_values callee args
reads (Go callee args) = handed_values callee args
reads (Defer callee args) = handed_values callee args
reads (Leave from) = from
reads (Panic from) = from ∷ []
reads (Passed to callee) = to ∷ []
reads _ = []

-- the registers whose leaves the nodes of an instruction stand for, by index: what it defines, then what it hands on
abbrev pub node_registers : Kind → List ℕ
node_registers (Write at from) = from ∷ []
node_registers (Call to callee args) = to ++ handed_values callee args
node_registers (Go callee args) = handed_values callee args
node_registers (Defer callee args) = handed_values callee args
node_registers (Leave from) = from
node_registers kind = defined kind

-- the place i defines the register r as its result k; the first place of a function defines the parameters
pub data Defines (p : Code) (i k r : ℕ) : Type 0 where
  by_kind : (kind : Kind) → IsAt p i kind → slice_get (defined kind) k ≡ Some r → Defines p i k r
  by_entry : (h : ℕ) → (e : IsEntry p i h) → k < e.fn.params → r ≡ k → Defines p i k r

-- whether the reference by which a function is called is its first parameter
abbrev pub takes_reference : Callee → Function → Bool
takes_reference (Value r) fn = fn.has_env
takes_reference _ fn = false

-- the parameter of the handed value k, where there are n arguments: the reference is the first one where the target takes it
abbrev pub param_of : Bool → ℕ → ℕ → Option ℕ
param_of true n k = if k == n then Some 0 else Some (k + 1)
param_of false n k = if nat_lt k n then Some k else None

-- where an instruction of this kind at the place i may go on; a Goto that names itself stands in an external and goes nowhere
abbrev pub Next : Kind → ℕ → ℕ → Type 0
Next (Leave from) i j = ⊥
Next (Panic from) i j = ⊥
Next (Goto target) i j = (j ≡ target) × ((target == i) ≡ false)
Next (Branch targets) i j = (k : ℕ) × (slice_get targets k ≡ Some j)
Next _ i j = j ≡ i + 1

pub data Successor (p : Code) (i j : ℕ) : Type 0 where
  successor : (kind : Kind) → IsAt p i kind → Next kind i j → Successor p i j
