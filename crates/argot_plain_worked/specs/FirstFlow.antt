-- The plain code of the program
--   1 package main
--   2 func source() string { return "secret" }
--   3 func sink(x string) {}
--   4
--   5 func main() {
--   6     x := source()
--   7     sink(x)
--   8 }
use Rattle.std.specs.Prelude.{◌≡◌, ◌↔◌, ℕ, false, List, [], ◌∷◌, Option, Some, None, codes, length, map, replicate, slice_get, unwrap_or}
use Rattle.argot_plain.specs.Lists.{In}
use Rattle.argot_plain.specs.Code.{Code}
use Rattle.argot_plain.specs.Leak.{Leak, labelled}
use Rattle.argot_plain.specs.Machine.{State}
use Rattle.argot_plain.specs.Step.{Run}
use Rattle.argot_plain.specs.WellFormed.{WellFormed}
use Rattle.argot_plain.specs.declared.functions.Function.{Function}
use Rattle.argot_plain.specs.declared.functions.Ident.{Ident}
use Rattle.argot_plain.specs.declared.functions.Role.TheVariants.{Own}
use Rattle.argot_plain.specs.declared.instructions.Callee.TheVariants.{Static}
use Rattle.argot_plain.specs.declared.instructions.Instr.{Instr}
use Rattle.argot_plain.specs.declared.instructions.Kind.{Kind}
use Rattle.argot_plain.specs.declared.instructions.Kind.TheVariants.{Op, Move, Call, RunDefers, Leave, Goto, Branch}
use Rattle.argot_plain.specs.declared.problems.Problem.{Problem}
use Rattle.argot_text.specs.declared.position.Pos.{Pos}
use Rattle.argot_text.specs.declared.path.PathStep.{PathStep}
use Rattle.argot_facts.specs.Graphs.{AreNodes, IsEdge}
use Rattle.argot_facts.specs.declared.graphs.EdgeKind.{EdgeKind}
use Rattle.argot_facts.specs.declared.graphs.EdgeKind.TheVariants.{Plain, Call as Enters, Return}
use Rattle.argot_facts.specs.declared.nodes.Node.{Node}

abbrev pub at : ℕ → ℕ → Pos
at line col = record { file = 0; line = line; col = col }

abbrev pub instr : Pos → Kind → Instr
instr pos kind = record { kind = kind; at = pos; tags = [] }

abbrev pub ident : List ℕ → Option Ident
ident name = Some (record { «package» = codes "main"; receiver = []; name = name })

-- the only leaf of a text
abbrev pub one_leaf : List (List PathStep)
one_leaf = [] ∷ []

-- what no node or edge depends on: how a function is named and declared and where it stands, and how many registers it has that nothing uses
pub record Outline : Type 0 where
  pub name : List ℕ
  pub at : Pos
  pub ident : Option Ident
  pub spare : ℕ

-- the same of its four functions, and where its twenty instructions stand
pub record Look : Type 0 where
  pub entry : Outline
  pub source : Outline
  pub sink : Outline
  pub main : Outline
  pub place : ℕ → Pos

abbrev pub entry_function : Look → Function
entry_function l = record { name = l.entry.name; at = l.entry.at; entry = 0; exit = 3; leave = 4; params = 0; results = 0; registers = replicate l.entry.spare one_leaf; wraps = None; role = Own; ident = l.entry.ident; has_env = false; external = None }

abbrev pub source_function : Look → Function
source_function l = record { name = l.source.name; at = l.source.at; entry = 5; exit = 9; leave = 10; params = 0; results = 1; registers = one_leaf ∷ one_leaf ∷ replicate l.source.spare one_leaf; wraps = None; role = Own; ident = l.source.ident; has_env = false; external = None }

abbrev pub sink_function : Look → Function
sink_function l = record { name = l.sink.name; at = l.sink.at; entry = 11; exit = 12; leave = 13; params = 1; results = 0; registers = one_leaf ∷ replicate l.sink.spare one_leaf; wraps = None; role = Own; ident = l.sink.ident; has_env = false; external = None }

abbrev pub main_function : Look → Function
main_function l = record { name = l.main.name; at = l.main.at; entry = 14; exit = 18; leave = 19; params = 0; results = 0; registers = one_leaf ∷ one_leaf ∷ replicate l.main.spare one_leaf; wraps = None; role = Own; ident = l.main.ident; has_env = false; external = None }

abbrev pub program_of : Look → Code
program_of l = record {
  functions = entry_function l ∷ source_function l ∷ sink_function l ∷ main_function l ∷ [];
  instrs = instr (l.place 0) (Goto 1) ∷ instr (l.place 1) (Branch (2 ∷ [])) ∷ instr (l.place 2) (Call [] (Static 3) []) ∷ instr (l.place 3) RunDefers ∷ instr (l.place 4) (Leave [])
      ∷ instr (l.place 5) (Goto 6) ∷ instr (l.place 6) (Op 1 []) ∷ instr (l.place 7) (Move 0 1 []) ∷ instr (l.place 8) (Goto 9) ∷ instr (l.place 9) RunDefers ∷ instr (l.place 10) (Leave (0 ∷ []))
      ∷ instr (l.place 11) (Goto 12) ∷ instr (l.place 12) RunDefers ∷ instr (l.place 13) (Leave [])
      ∷ instr (l.place 14) (Goto 15) ∷ instr (l.place 15) (Call (0 ∷ []) (Static 1) []) ∷ instr (l.place 16) (Move 1 0 []) ∷ instr (l.place 17) (Call [] (Static 2) (1 ∷ [])) ∷ instr (l.place 18) RunDefers ∷ instr (l.place 19) (Leave []) ∷ [];
  sites = [];
  globals = [];
  methods = [];
  implements = [];
  files = codes "main.go" ∷ [];
}

abbrev pub positions : List Pos
positions =
    at 5 6 ∷ at 5 6 ∷ at 5 6 ∷ at 5 6 ∷ at 5 6
    ∷ at 2 6 ∷ at 2 31 ∷ at 2 24 ∷ at 2 24 ∷ at 2 40 ∷ at 2 40
    ∷ at 3 6 ∷ at 3 22 ∷ at 3 22
    ∷ at 5 6 ∷ at 6 7 ∷ at 6 2 ∷ at 7 2 ∷ at 8 1 ∷ at 8 1 ∷ []

-- as it is written above
abbrev pub look : Look
look = record {
  entry = record { name = codes "entry"; at = at 5 6; ident = None; spare = 0 };
  source = record { name = codes "main.source"; at = at 2 6; ident = ident (codes "source"); spare = 0 };
  sink = record { name = codes "main.sink"; at = at 3 6; ident = ident (codes "sink"); spare = 0 };
  main = record { name = codes "main.main"; at = at 5 6; ident = ident (codes "main"); spare = 0 };
  place = λ i. unwrap_or (slice_get positions i) (at 0 0);
}

abbrev pub first_flow : Code
first_flow = program_of look

-- the problem that is asked without a configuration
abbrev pub asked : Problem
asked = record { number = 0; name = codes "default"; sources = 1 ∷ []; sinks = 2 ∷ []; sanitizers = []; validators = []; points = []; source_places = []; escapes = false }

-- some run leads to a state in which the label of the call at the place 15 is on argument 0 of the call at the place 17
abbrev pub ItLeaks : Type 0
ItLeaks = (n : ℕ) × (x : State) × Run first_flow (labelled asked) n x × Leak first_flow asked x 15 17 0

abbrev pub node : ℕ → ℕ → Node
node place index = record { place = place; index = index; leaf = 0 }

abbrev pub its_nodes : List Node
its_nodes = node 6 0 ∷ node 7 0 ∷ node 10 0 ∷ node 11 0 ∷ node 15 0 ∷ node 16 0 ∷ node 17 0 ∷ []

abbrev pub edge : ℕ → ℕ → EdgeKind → ℕ → ℕ → Node × EdgeKind × Node
edge a i kind b j = (node a i, kind, node b j)

abbrev pub its_edges : List (Node × EdgeKind × Node)
its_edges = edge 6 0 Plain 7 0 ∷ edge 7 0 Plain 10 0 ∷ edge 10 0 (Return 15) 15 0 ∷ edge 15 0 Plain 16 0 ∷ edge 16 0 Plain 17 0 ∷ edge 17 0 (Enters 17) 11 0 ∷ []

-- what its places do, one after another
abbrev pub its_kinds : List Kind
its_kinds =
    Goto 1 ∷ Branch (2 ∷ []) ∷ Call [] (Static 3) [] ∷ RunDefers ∷ Leave []
    ∷ Goto 6 ∷ Op 1 [] ∷ Move 0 1 [] ∷ Goto 9 ∷ RunDefers ∷ Leave (0 ∷ [])
    ∷ Goto 12 ∷ RunDefers ∷ Leave []
    ∷ Goto 15 ∷ Call (0 ∷ []) (Static 1) [] ∷ Move 1 0 [] ∷ Call [] (Static 2) (1 ∷ []) ∷ RunDefers ∷ Leave [] ∷ []

-- it has four functions and these twenty places
abbrev pub HasTwentyPlaces : Code → Type 0
HasTwentyPlaces p = (length p.functions ≡ 4) × (map (λ (x : Instr). x.kind) p.instrs ≡ its_kinds)

-- these are its nodes, in node order, and no more
abbrev pub HasSevenNodes : Code → Type 0
HasSevenNodes p = AreNodes p its_nodes

-- these are its edges, and no more
abbrev pub HasSixEdges : Code → Type 0
HasSixEdges p = (a : Node) (kind : EdgeKind) (b : Node) → IsEdge p asked a kind b ↔ In (a, kind, b) its_edges

-- and so of each program that does the same, whatever it looks like
abbrev pub ItHasTwentyPlaces : Type 0
ItHasTwentyPlaces = (l : Look) → HasTwentyPlaces (program_of l)

abbrev pub ItHasSevenNodes : Type 0
ItHasSevenNodes = (l : Look) → HasSevenNodes (program_of l)

abbrev pub ItHasSixEdges : Type 0
ItHasSixEdges = (l : Look) → HasSixEdges (program_of l)

-- the program is well formed
abbrev pub ItIsWellFormed : Type 0
ItIsWellFormed = WellFormed first_flow
