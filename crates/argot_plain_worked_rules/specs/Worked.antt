-- What worked programs are made of, and what is said of them.
use Rattle.std.specs.Prelude.{◌≡◌, ℕ, ◌+◌, ◌<◌, Bool, true, false, List, [], ◌∷◌, Some, None, codes}
use Rattle.argot_plain.specs.Code.{Code}
use Rattle.argot_plain.specs.Counts.{is_sink}
use Rattle.argot_plain.specs.Leak.{Leak, Enters, labelled}
use Rattle.argot_plain.specs.Machine.{Labelling, Cell, State}
use Rattle.argot_plain.specs.Nodes.{Mark}
use Rattle.argot_plain.specs.Outside.{ArgumentBears}
use Rattle.argot_plain.specs.Step.{Run}
use Rattle.argot_plain.specs.declared.functions.Function.{Function}
use Rattle.argot_plain.specs.declared.functions.Role.TheVariants.{Own}
use Rattle.argot_plain.specs.declared.instructions.Callee.TheVariants.{Static}
use Rattle.argot_plain.specs.declared.instructions.Instr.{Instr}
use Rattle.argot_plain.specs.declared.instructions.Kind.{Kind}
use Rattle.argot_plain.specs.declared.instructions.Kind.TheVariants.{Branch, Call, Goto, Leave, Move, Op, RunDefers}
use Rattle.argot_plain.specs.declared.problems.Problem.{Problem}
use Rattle.argot_plain.specs.declared.sites.Site.{Site}
use Rattle.argot_text.specs.declared.position.Pos.{Pos}
use Rattle.argot_facts.specs.Flows.{Flow, EscapeOf}
use Rattle.argot_facts.specs.Graphs.{IsEdge}
use Rattle.argot_facts.specs.declared.graphs.EdgeKind.{EdgeKind}
use Rattle.argot_facts.specs.declared.nodes.Node.{Node}
use Rattle.argot_text.specs.declared.path.PathStep.{PathStep}

abbrev pub at_line : ℕ → Pos
at_line line = record { file = 0; line = line; col = 1 }

-- an instruction of this line
abbrev pub on : ℕ → Kind → Instr
on line kind = record { kind = kind; at = at_line line; tags = [] }

-- the leaf paths of a number, a text or a reference
abbrev pub one_leaf : List (List PathStep)
one_leaf = [] ∷ []

-- a declared function with a body, whose places are those from entry to leave
abbrev pub declared : List ℕ → ℕ → ℕ → ℕ → ℕ → ℕ → List (List (List PathStep)) → Function
declared name line entry exit params results registers = record {
  name = name;
  at = at_line line;
  entry = entry;
  exit = exit;
  leave = exit + 1;
  params = params;
  results = results;
  registers = registers;
  wraps = None;
  role = Own;
  ident = Some (record { «package» = codes "main"; receiver = []; name = name });
  has_env = false;
  external = None;
}

-- a declared function without a body, at its one place, whose results depend on its arguments or don't
abbrev pub outside : List ℕ → ℕ → ℕ → ℕ → ℕ → List (List (List PathStep)) → Bool → Function
outside name line place params results registers flows = record {
  name = name;
  at = at_line line;
  entry = place;
  exit = place;
  leave = place;
  params = params;
  results = results;
  registers = registers;
  wraps = None;
  role = Own;
  ident = Some (record { «package» = codes "main"; receiver = []; name = name });
  has_env = false;
  external = Some flows;
}

-- Each program begins alike: the functions 0 to 2 are the entry, which calls main, the function number 3, and
--   1 func source() string { return "secret" }
--   2 func sink(x string) {}
-- and the places of main stand from 14 on.
abbrev pub entry_function : Function
entry_function = record {
  name = codes "entry";
  at = at_line 3;
  entry = 0;
  exit = 3;
  leave = 4;
  params = 0;
  results = 0;
  registers = [];
  wraps = None;
  role = Own;
  ident = None;
  has_env = false;
  external = None;
}

abbrev pub source_function : Function
source_function = declared (codes "source") 1 5 9 0 1 (one_leaf ∷ one_leaf ∷ [])

abbrev pub sink_function : Function
sink_function = declared (codes "sink") 2 11 12 1 0 (one_leaf ∷ [])

abbrev pub with_opening : List Function → List Function
with_opening others = entry_function ∷ source_function ∷ sink_function ∷ others

abbrev pub behind_opening : List Instr → List Instr
behind_opening others =
    on 3 (Goto 1) ∷ on 3 (Branch (2 ∷ [])) ∷ on 3 (Call [] (Static 3) []) ∷ on 3 RunDefers ∷ on 3 (Leave [])
    ∷ on 1 (Goto 6) ∷ on 1 (Op 1 []) ∷ on 1 (Move 0 1 []) ∷ on 1 (Goto 9) ∷ on 1 RunDefers ∷ on 1 (Leave (0 ∷ []))
    ∷ on 2 (Goto 12) ∷ on 2 RunDefers ∷ on 2 (Leave []) ∷ others

-- a program of these functions, places and sites without package variables and methods
abbrev pub program : List Function → List Instr → List Site → Code
program functions instrs sites = record {
  functions = with_opening functions;
  instrs = behind_opening instrs;
  sites = sites;
  globals = [];
  methods = [];
  implements = [];
  files = codes "main.go" ∷ [];
}

-- the site of a place, which holds this
abbrev pub site_at : ℕ → List (List PathStep) → Site
site_at place shape = record { place = place; result = 0; leaf = 0; shape = shape; dynamic = 0; function = None }

-- source is a source and sink a sink
abbrev pub asked : Problem
asked = record { number = 0; name = codes "p"; sources = 1 ∷ []; sinks = 2 ∷ []; sanitizers = []; validators = []; points = []; source_places = []; escapes = false }

-- the state is one of a run
pub record IsReached (p : Code) (l : Labelling) (x : State) : Type 0 where
  pub steps : ℕ
  pub run : Run p l steps x

-- some run has a state in which the label of a source, at the place s, is on the argument k of a sink at the place t
abbrev pub Leaks : Code → Problem → ℕ → ℕ → ℕ → Type 0
Leaks p pr s t k = (x : State) × IsReached p (labelled pr) x × Leak p pr x s t k

-- some run leads to the end of the program
abbrev pub Ends : Code → Problem → Type 0
Ends p pr = (x : State) × IsReached p (labelled pr) x × (x.ended ≡ true)

-- no run has such a state
abbrev pub NeverLeaks : Code → Problem → ℕ → ℕ → ℕ → Type 0
NeverLeaks p pr s t k = (x : State) → IsReached p (labelled pr) x → Leak p pr x s t k → ⊥

-- a goroutine is about to enter a sink at the place t, and no label is on its argument k
pub record EntersClean (p : Code) (pr : Problem) (x : State) (t k : ℕ) : Type 0 where
  pub goroutine : ℕ
  pub sink : ℕ
  pub count : ℕ
  pub cells : List Cell
  pub enters : Enters p (labelled pr) x goroutine t sink count cells
  pub is_one : is_sink p pr t sink ≡ true
  pub within : k < count
  pub clean : (s : Mark) → ArgumentBears k cells x.slots s → ⊥

-- some run has such a state
abbrev pub ComesClean : Code → Problem → ℕ → ℕ → Type 0
ComesClean p pr t k = (x : State) × IsReached p (labelled pr) x × EntersClean p pr x t k

-- the node of a place and an index, at its first leaf
abbrev pub node : ℕ → ℕ → Node
node place index = record { place = place; index = index; leaf = 0 }

-- the relation has this edge between first leaves
abbrev pub HasEdge : Code → Problem → ℕ → ℕ → EdgeKind → ℕ → ℕ → Type 0
HasEdge p pr d j kind i k = IsEdge p pr (node d j) kind (node i k)

-- and none between these
abbrev pub HasNoEdge : Code → Problem → ℕ → ℕ → ℕ → ℕ → Type 0
HasNoEdge p pr d j i k = (kind : EdgeKind) → IsEdge p pr (node d j) kind (node i k) → ⊥

-- the relation has this flow, from the source place s to the argument k of the sink place t
abbrev pub HasFlow : Code → Problem → ℕ → ℕ → ℕ → Type 0
HasFlow p pr s t k = Flow p pr s t k

-- and none there
abbrev pub HasNoFlow : Code → Problem → ℕ → ℕ → ℕ → Type 0
HasNoFlow p pr s t k = Flow p pr s t k → ⊥

-- the relation has this escape, from the source place s to objects of the site
abbrev pub HasEscape : Code → Problem → ℕ → ℕ → Type 0
HasEscape p pr s site = EscapeOf p pr s site
