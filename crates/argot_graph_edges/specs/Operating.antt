-- The edges of computed values, level by level: leaves, definitions, registers, places and functions.
use Rattle.std.specs.Prelude.{◌≡◌, ℕ, ◌<◌, List, length}
use Rattle.argot_plain.specs.Code.{Code, IsAt, IsFunction, IsIn}
use Rattle.argot_plain.specs.Lists.{In}
use Rattle.argot_plain.specs.declared.functions.Function.{Function}
use Rattle.argot_plain.specs.declared.instructions.Kind.TheVariants.{Op}
use Rattle.argot_facts.specs.Numbers.{node, leaves_of}
use Rattle.argot_facts.specs.declared.graphs.Edge.{Edge}
use Rattle.argot_facts.specs.declared.graphs.EdgeKind.TheVariants.{Plain}
use Rattle.argot_facts.specs.declared.nodes.Node.{Node}
use Rattle.argot_points_rules.specs.Column.{definitions}
use Rattle.argot_graph_edges.specs.Rows.{IsNumberedAs, Just}

-- from one of so many leaves of the definition at x.0, by its result x.1
abbrev pub FromLeaves : List Node → ℕ × ℕ → ℕ → Node → Edge → Type 0
FromLeaves ns x count to e = (a : ℕ) × (a < count) × IsNumberedAs ns (Just (node x.0 x.1 a) Plain to) e

-- of one of these definitions
abbrev pub FromDefinitions : List Node → List (ℕ × ℕ) → ℕ → Node → Edge → Type 0
FromDefinitions ns found count to e = (x : ℕ × ℕ) × In x found × FromLeaves ns x count to e

-- of one of these registers of the function, to the result of the place i
abbrev pub FromRegisters : Code → List Node → Function → List (ℕ × ℕ × ℕ) → ℕ → List ℕ → Edge → Type 0
FromRegisters p ns fn ds i from e = (r : ℕ) × In r from × FromDefinitions ns (definitions p fn i r ds) (length (leaves_of fn r)) (node i 0 0) e

-- the place i computes its result from them
abbrev pub OfPlace : Code → List Node → Function → List (ℕ × ℕ × ℕ) → ℕ → Edge → Type 0
OfPlace p ns fn ds i e = (to : ℕ) × (from : List ℕ) × IsAt p i (Op to from) × FromRegisters p ns fn ds i from e

-- and is one of the function h
abbrev pub OfFunction : Code → List Node → List (ℕ × ℕ × ℕ) → ℕ → Edge → Type 0
OfFunction p ns ds h e = (i : ℕ) × (inside : IsIn p i h) × OfPlace p ns inside.fn ds i e

abbrev pub OfFunctions : Code → List Node → List (ℕ × ℕ × ℕ) → List ℕ → Edge → Type 0
OfFunctions p ns ds hs e = (h : ℕ) × In h hs × OfFunction p ns ds h e
