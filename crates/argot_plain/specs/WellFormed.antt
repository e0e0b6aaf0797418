-- When a program is well formed: one field for each thing that is asked.
use Rattle.std.specs.Prelude.{◌≡◌, ◌≢◌, ℕ, ◌+◌, ◌<◌, ◌≤◌, ◌++◌, Bool, true, false, Some, None, List, [], ◌∷◌, length, slice_get}
use Rattle.std.specs.List.{filter_map}
use Rattle.argot_plain.specs.Lists.{In, IsDistinct, below}
use Rattle.argot_plain.specs.Code.{Code, IsAt, IsFunction, IsEntry, IsIn, IsSiteOf, Successor, Hands, leaves, element_leaves, defined, reads}
use Rattle.argot_plain.specs.declared.functions.Function.{Function}
use Rattle.argot_plain.specs.declared.functions.Ident.{Ident}
use Rattle.argot_plain.specs.declared.functions.Role.TheVariants.{Own, Wrapper, Bound}
use Rattle.argot_plain.specs.declared.instructions.Callee.{Callee}
use Rattle.argot_plain.specs.declared.instructions.Callee.TheVariants.{Static, Value, Method}
use Rattle.argot_plain.specs.declared.instructions.Instr.{Instr}
use Rattle.argot_plain.specs.declared.instructions.Kind.{Kind}
use Rattle.argot_plain.specs.declared.instructions.Kind.TheVariants.{Op, Move, Join, New, Step, Read, Write, Grow, Global, Assert, Call, Go, Defer, RunDefers, Leave, Goto, Branch, Passed}
use Rattle.argot_plain.specs.declared.programs.Program.TheInside.{Inside}
use Rattle.argot_plain.specs.declared.sites.Site.{Site}
use Rattle.argot_text.specs.declared.position.Pos.{Pos}
use Rattle.argot_text.specs.declared.path.PathStep.{PathStep}
use Rattle.argot_text.specs.declared.path.PathStep.TheVariants.{Element, Capture}

-- the lists of a program
abbrev pub code_of : Inside → Code
code_of p = record {
  functions = p.functions;
  instrs = p.instrs;
  sites = p.sites;
  globals = p.globals;
  methods = p.methods;
  implements = p.implements;
  files = p.files;
}

-- the places of the functions are disjoint, stand in the order of the functions, begin at 0 and cover all places
pub record HasRanges (p : Code) : Type 0 where
  pub inside : (h : ℕ) (fn : Function) → IsFunction p h fn → (fn.entry ≤ fn.exit) × (fn.exit ≤ fn.leave) × (fn.leave < length p.instrs)
  pub first : (fn : Function) → IsFunction p 0 fn → fn.entry ≡ 0
  pub next : (h : ℕ) (fn after : Function) → IsFunction p h fn → IsFunction p (h + 1) after → after.entry ≡ fn.leave + 1
  pub last : (h : ℕ) (fn : Function) → IsFunction p h fn → h + 1 ≡ length p.functions → fn.leave + 1 ≡ length p.instrs

-- the function 0 is the entry
pub record HasEntry (p : Code) : Type 0 where
  pub fn : Function
  pub is : IsFunction p 0 fn
  pub body : fn.external ≡ None
  pub params : fn.params ≡ 0
  pub results : fn.results ≡ 0
  pub own : fn.role ≡ Own
  pub nameless : fn.ident ≡ None

-- an external has one place, a Goto that names itself
pub record IsExternal (p : Code) (fn : Function) : Type 0 where
  pub exit : fn.exit ≡ fn.entry
  pub leave : fn.leave ≡ fn.entry
  pub goto : IsAt p fn.entry (Goto fn.entry)
  pub own : fn.role ≡ Own

-- RunDefers stands at the exit of each function with a body and nowhere else
pub record RunsAtExit (p : Code) : Type 0 where
  pub stands : (h : ℕ) (fn : Function) → IsFunction p h fn → fn.external ≡ None → IsAt p fn.exit RunDefers
  pub alone : (i h : ℕ) (fn : Function) → IsAt p i RunDefers → IsIn p i h → IsFunction p h fn → i ≡ fn.exit

-- Leave stands at the leave of each function with a body and nowhere else
pub record LeavesAtLeave (p : Code) : Type 0 where
  pub stands : (h : ℕ) (fn : Function) → IsFunction p h fn → fn.external ≡ None → (from : List ℕ) × IsAt p fn.leave (Leave from)
  pub alone : (i h : ℕ) (from : List ℕ) (fn : Function) → IsAt p i (Leave from) → IsIn p i h → IsFunction p h fn → i ≡ fn.leave

-- only Reads stand between exit and leave, and no Goto or Branch leads there
pub record ReadsBehindExit (p : Code) : Type 0 where
  pub reads : (i h : ℕ) (fn : Function) → IsFunction p h fn → fn.exit < i → i < fn.leave → (to : ℕ) × (at : ℕ) × (qs : List (List PathStep)) × IsAt p i (Read to at qs)
  pub goto : (i h target : ℕ) (fn : Function) → IsFunction p h fn → IsIn p i h → IsAt p i (Goto target) → target ≤ fn.exit
  pub branch : (i h target : ℕ) (targets : List ℕ) (fn : Function) → IsFunction p h fn → IsIn p i h → IsAt p i (Branch targets) → In target targets → target ≤ fn.exit

-- the registers that places name are there, the parameters are the first ones, a Call names each result once, and the
-- leaf paths of a register are distinct
pub record HasRegisters (p : Code) : Type 0 where
  pub there : (i h r : ℕ) (kind : Kind) (fn : Function) → IsFunction p h fn → IsIn p i h → IsAt p i kind → In r (defined kind ++ reads kind) → r < length fn.registers
  pub params : (h : ℕ) (fn : Function) → IsFunction p h fn → fn.params ≤ length fn.registers
  pub once : (i : ℕ) (to args : List ℕ) (callee : Callee) → IsAt p i (Call to callee args) → IsDistinct to
  pub distinct : (h r : ℕ) → IsDistinct (leaves p h r)

abbrev pub callee_registers : Callee → List ℕ
callee_registers (Static h) = []
callee_registers (Value r) = r ∷ []
callee_registers (Method r name) = r ∷ []

-- the registers of an instruction that hold one reference each
abbrev pub reference_registers : Kind → List ℕ
reference_registers (New to site) = to ∷ []
reference_registers (Step to from path) = to ∷ from ∷ []
reference_registers (Read to at leaves) = at ∷ []
reference_registers (Write at from) = at ∷ []
reference_registers (Grow to at items) = to ∷ at ∷ []
reference_registers (Global to global) = to ∷ []
reference_registers (Assert to from target) = to ∷ from ∷ []
reference_registers (Call to callee args) = callee_registers callee
reference_registers (Go callee args) = callee_registers callee
reference_registers (Defer callee args) = callee_registers callee
reference_registers _ = []

-- such a register has one leaf, the empty path, and so has the parameter of a function that takes its reference
pub record HasReferences (p : Code) : Type 0 where
  pub each : (i h r : ℕ) (kind : Kind) → IsIn p i h → IsAt p i kind → In r (reference_registers kind) → leaves p h r ≡ [] ∷ []
  pub param : (h : ℕ) (fn : Function) → IsFunction p h fn → fn.has_env ≡ true → leaves p h 0 ≡ [] ∷ []

-- a Call, Go or Defer of the target in the function h hands it what its parameters are
pub record FitsStatic (p : Code) (h target : ℕ) (kind : Kind) (args : List ℕ) : Type 0 where
  pub fn : Function
  pub is : IsFunction p target fn
  pub count : length args ≡ fn.params
  pub params : (k r : ℕ) → slice_get args k ≡ Some r → leaves p h r ≡ leaves p target k
  pub no_env : fn.has_env ≡ false
  pub results : (to : List ℕ) (callee : Callee) → kind ≡ Call to callee args → length to ≡ fn.results
  pub result_leaves : (to from : List ℕ) (callee : Callee) (k r s : ℕ) → kind ≡ Call to callee args → fn.external ≡ None → IsAt p fn.leave (Leave from)
      → slice_get to k ≡ Some r → slice_get from k ≡ Some s → leaves p h r ≡ leaves p target s

-- the first sites are those of the package variables, in order
pub record HasGlobalSites (p : Code) : Type 0 where
  pub site : (k : ℕ) (ident : Ident) (at : Pos) (s : ℕ) → slice_get p.globals k ≡ Some (ident, at, s) → s ≡ k
  pub is : (k : ℕ) → k < length p.globals → (site : Site) × (slice_get p.sites k ≡ Some site) × (site.place ≡ 0) × (site.result ≡ 0) × (site.leaf ≡ 0) × (site.function ≡ None)

-- the instruction at i has this one site
pub record HasOneSite (p : Code) (i s : ℕ) : Type 0 where
  pub site : Site
  pub is : IsSiteOf p i s site
  pub alone : (n : ℕ) (other : Site) → IsSiteOf p i n other → n ≡ s
  pub result : site.result ≡ 0
  pub leaf : site.leaf ≡ 0

-- a Grow has one site, the leaves of which are those of elements
pub record GrowSite (p : Code) (i : ℕ) : Type 0 where
  pub number : ℕ
  pub one : HasOneSite p i number
  pub elements : (q : List PathStep) → In q one.site.shape → (rest : List PathStep) × (q ≡ Element ∷ rest)

-- an external that is called by number, or any function that a value stands for
pub data MayOwnSites (p : Code) : Callee → Type 0 where
  by_number : {h : ℕ} {fn : Function} {flows : Bool} → IsFunction p h fn → fn.external ≡ Some flows → MayOwnSites p (Static h)
  by_value : {r : ℕ} → MayOwnSites p (Value r)

-- a site of a Call names a leaf of one of its results
pub record CallSite (p : Code) (h : ℕ) (to : List ℕ) (callee : Callee) (site : Site) : Type 0 where
  pub owns : MayOwnSites p callee
  pub register : ℕ
  pub result : slice_get to site.result ≡ Some register
  pub leaf : site.leaf < length (leaves p h register)

-- the instructions that have sites
pub data MakesObjects : Kind → Type 0 where
  by_new : {to site : ℕ} → MakesObjects (New to site)
  by_grow : {to at : ℕ} {items : List ℕ} → MakesObjects (Grow to at items)
  by_call : {to args : List ℕ} {callee : Callee} → MakesObjects (Call to callee args)

-- one site stands before another, by place, then by result, then by leaf
pub data StandsBefore (a b : Site) : Type 0 where
  by_place : a.place < b.place → StandsBefore a b
  by_result : a.place ≡ b.place → a.result < b.result → StandsBefore a b
  by_leaf : a.place ≡ b.place → a.result ≡ b.result → a.leaf < b.leaf → StandsBefore a b

pub record HasSitesInOrder (p : Code) : Type 0 where
  pub makes : (n : ℕ) (site : Site) → slice_get p.sites n ≡ Some site → length p.globals ≤ n → (kind : Kind) × IsAt p site.place kind × MakesObjects kind
  pub order : (n : ℕ) (a b : Site) → slice_get p.sites n ≡ Some a → slice_get p.sites (n + 1) ≡ Some b → length p.globals ≤ n → StandsBefore a b

-- a site of a function value: a New, with the captures of the function
pub record FunctionSite (p : Code) (n h : ℕ) (site : Site) : Type 0 where
  pub to : ℕ
  pub new : IsAt p site.place (New to n)
  pub fn : Function
  pub is : IsFunction p h fn
  pub captures : (q : List PathStep) → In q site.shape → (k : ℕ) × (rest : List PathStep) × (q ≡ Capture k ∷ rest)
  pub none : fn.has_env ≡ false → site.shape ≡ []

-- a type and a name have at most one wrapper, which is a function of that role with a body
pub record HasWrappers (p : Code) : Type 0 where
  pub one : (type a b : ℕ) (name : List ℕ) → In (type, name, a) p.methods → In (type, name, b) p.methods → a ≡ b
  pub is : (type h : ℕ) (name : List ℕ) → In (type, name, h) p.methods → (fn : Function) × IsFunction p h fn × (fn.role ≡ Wrapper) × (fn.external ≡ None)

-- a wrapper may name the declared method that it calls
pub record Wraps (p : Code) (fn : Function) (h : ℕ) : Type 0 where
  pub role : fn.role ≡ Wrapper
  pub method : Function
  pub is : IsFunction p h method
  pub declared : (ident : Ident) × (method.ident ≡ Some ident)

-- bound-method functions take their reference; wrappers and declared functions don't
pub record HasEnvironments (p : Code) : Type 0 where
  pub bound : (h : ℕ) (fn : Function) → IsFunction p h fn → fn.role ≡ Bound → fn.has_env ≡ true
  pub wrapper : (h : ℕ) (fn : Function) → IsFunction p h fn → fn.role ≡ Wrapper → fn.has_env ≡ false
  pub declared : (h : ℕ) (fn : Function) (ident : Ident) → IsFunction p h fn → fn.ident ≡ Some ident → fn.has_env ≡ false

-- the numbers of functions, package variables, sites, places and files that are named are there
pub record HasNumbers (p : Code) : Type 0 where
  pub callee : (i h n : ℕ) (kind : Kind) (args : List ℕ) → IsAt p i kind → Hands kind (Static h) args n → h < length p.functions
  pub passed : (i to h : ℕ) → IsAt p i (Passed to h) → h < length p.functions
  pub global : (i to k : ℕ) → IsAt p i (Global to k) → k < length p.globals
  pub new : (i to s : ℕ) → IsAt p i (New to s) → s < length p.sites
  pub place : (n : ℕ) (site : Site) → slice_get p.sites n ≡ Some site → site.place < length p.instrs
  pub function : (n h : ℕ) (site : Site) → slice_get p.sites n ≡ Some site → site.function ≡ Some h → h < length p.functions
  pub instr_file : (i : ℕ) (x : Instr) → slice_get p.instrs i ≡ Some x → x.at.file < length p.files
  pub function_file : (h : ℕ) (fn : Function) → IsFunction p h fn → fn.at.file < length p.files
  pub global_file : (k s : ℕ) (ident : Ident) (at : Pos) → slice_get p.globals k ≡ Some (ident, at, s) → at.file < length p.files

-- the greatest numbers of functions and places, and of leaves of a register and of a site
pub record HasLimits (p : Code) : Type 0 where
  pub functions : length p.functions ≤ 65536
  pub instrs : length p.instrs ≤ 1048576
  pub leaves : (h r : ℕ) → length (leaves p h r) ≤ 4096
  -- a function value has a path for each variable that it captures, and of these there may be any number
  pub shapes : (n : ℕ) (site : Site) → slice_get p.sites n ≡ Some site → site.function ≡ None → length site.shape ≤ 8192

-- a Read or a Move
pub data IsReadOrMove : Kind → Type 0 where
  by_read : {to at : ℕ} {qs : List (List PathStep)} → IsReadOrMove (Read to at qs)
  by_move : {to from : ℕ} {path : List PathStep} → IsReadOrMove (Move to from path)

pub record WellFormed (p : Code) : Type 0 where
  pub ranges : HasRanges p
  pub entry_function : HasEntry p
  pub externals : (h : ℕ) (flows : Bool) (fn : Function) → IsFunction p h fn → fn.external ≡ Some flows → IsExternal p fn
  pub bodies : (h : ℕ) (fn : Function) → IsFunction p h fn → fn.external ≡ None → (fn.entry < fn.exit) × (fn.exit < fn.leave)
  -- a Goto to the next place stands at the first place of a body, and no place goes on there
  pub entry_goto : (h : ℕ) (fn : Function) → IsFunction p h fn → fn.external ≡ None → IsAt p fn.entry (Goto (fn.entry + 1))
  pub no_entry : (i j h : ℕ) → Successor p i j → IsEntry p j h → ⊥
  -- successors stay in the function
  pub stays : (i j h : ℕ) → Successor p i j → IsIn p i h → IsIn p j h
  pub runs_at_exit : RunsAtExit p
  pub leaves_at_leave : LeavesAtLeave p
  pub reads_behind_exit : ReadsBehindExit p
  pub registers : HasRegisters p
  pub references : HasReferences p
  pub op_leaf : (i h to : ℕ) (from : List ℕ) → IsIn p i h → IsAt p i (Op to from) → leaves p h to ≡ [] ∷ []
  -- the leaves of a moved value are those below the path
  pub move_leaves : (i h to from : ℕ) (path : List PathStep) → IsIn p i h → IsAt p i (Move to from path) → leaves p h to ≡ filter_map (below path) (leaves p h from)
  pub join_leaves : (i h to r : ℕ) (parts : List (List PathStep × ℕ)) (path q : List PathStep) → IsIn p i h → IsAt p i (Join to parts) → In (path, r) parts → In q (leaves p h r) → In (path ++ q) (leaves p h to)
  pub read_leaves : (i h to at : ℕ) (qs : List (List PathStep)) → IsIn p i h → IsAt p i (Read to at qs) → qs ≡ leaves p h to
  pub grow_leaves : (i h n to at r : ℕ) (items : List ℕ) (site : Site) → IsIn p i h → IsAt p i (Grow to at items) → IsSiteOf p i n site → In r items → leaves p h r ≡ element_leaves site
  pub static_fits : (i h target n : ℕ) (kind : Kind) (args : List ℕ) → IsIn p i h → IsAt p i kind → Hands kind (Static target) args n → FitsStatic p h target kind args
  pub leave_count : (i h : ℕ) (from : List ℕ) (fn : Function) → IsFunction p h fn → IsIn p i h → IsAt p i (Leave from) → length from ≡ fn.results
  pub global_sites : HasGlobalSites p
  pub new_site : (i to s : ℕ) → IsAt p i (New to s) → HasOneSite p i s
  pub grow_site : (i to at : ℕ) (items : List ℕ) → IsAt p i (Grow to at items) → GrowSite p i
  pub call_sites : (i h n : ℕ) (to args : List ℕ) (callee : Callee) (site : Site) → IsIn p i h → IsAt p i (Call to callee args) → IsSiteOf p i n site → CallSite p h to callee site
  pub no_other_site : HasSitesInOrder p
  pub site_function : (n h : ℕ) (site : Site) → slice_get p.sites n ≡ Some site → site.function ≡ Some h → FunctionSite p n h site
  pub site_shape : (n : ℕ) (site : Site) → slice_get p.sites n ≡ Some site → IsDistinct site.shape
  pub one_wrapper : HasWrappers p
  pub wraps : (h declared : ℕ) (fn : Function) → IsFunction p h fn → fn.wraps ≡ Some declared → Wraps p fn declared
  pub environments : HasEnvironments p
  pub identified : (h : ℕ) (fn : Function) (ident : Ident) → IsFunction p h fn → fn.ident ≡ Some ident → fn.role ≡ Own
  pub numbers : HasNumbers p
  -- only a Read or Move has tags
  pub tagged : (i : ℕ) (x : Instr) → slice_get p.instrs i ≡ Some x → x.tags ≢ [] → IsReadOrMove x.kind
  pub limits : HasLimits p
