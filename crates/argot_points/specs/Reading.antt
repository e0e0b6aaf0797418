-- What tables have, as lists.
use Rattle.std.specs.Prelude.{◌≡◌, ◌↔◌, ℕ, ◌<◌, Bool, true, List, ◌++◌, Option, Some, None, length, slice_get}
use Rattle.argot_links.specs.Table.{has, row}
use Rattle.argot_plain.specs.Lists.{In}
use Rattle.argot_plain.specs.Code.{Code, IsAt, IsIn, Hands}
use Rattle.argot_plain.specs.declared.functions.Function.{Function}
use Rattle.argot_plain.specs.declared.instructions.Callee.{Callee}
use Rattle.argot_plain.specs.declared.instructions.Kind.{Kind}
use Rattle.argot_facts.specs.Findings.{TargetBefore}
use Rattle.argot_facts.specs.Pointing.{of_nodes, of_places}
use Rattle.argot_facts.specs.declared.pointing.Loc.{Loc}
use Rattle.argot_facts.specs.declared.pointing.Spot.{Spot}
use Rattle.argot_points_rules.specs.Column.{reference}
use Rattle.argot_points.specs.declared.system.System.{System}
use Rattle.argot_points.specs.declared.system.Tables.{Tables}
use Rattle.argot_points.specs.Found.{Found}
use Rattle.argot_points.specs.Meaning.{Aimed}
use Rattle.argot_points.specs.Solved.{Refers}

-- what nodes and then locations refer to
abbrev pub refers_of : System → Tables → List (Spot × Loc)
refers_of s t = of_nodes s.locations.items t.refers 0 s.nodes.items ++ of_places s.locations.items t.refers (length s.nodes.items) s.locations.items

abbrev pub found_of : System → Tables → Found
found_of s t = record { program = s.program.now; refers = refers_of s t; live = row t.live 0 }

-- by the tables g is a target of the place i, and takes the reference or doesn't
pub record HasTarget (s : System) (t : Tables) (i g : ℕ) (takes : Bool) : Type 0 where
  pub function : ℕ
  pub inside : IsIn s.program.now i function
  pub live : has t.live 0 function ≡ true
  pub kind : Kind
  pub at : IsAt s.program.now i kind
  pub callee : Callee
  pub args : List ℕ
  pub behind : ℕ
  pub hands : Hands kind callee args behind
  pub aimed : Aimed s (Refers t) i (reference i callee args behind) g takes

-- exactly the targets of the places before i, in order
pub record AreListed (s : System) (t : Tables) (i : ℕ) (found : List (ℕ × ℕ)) : Type 0 where
  pub order : (m n : ℕ) (a b : ℕ × ℕ) → m < n → slice_get found m ≡ Some a → slice_get found n ≡ Some b → TargetBefore a b
  pub each : (j g : ℕ) → In (j, g) found ↔ ((j < i) × ((takes : Bool) × HasTarget s t j g takes))

abbrev pub begins : Option Function → ℕ → ℕ
begins None n = n
begins (Some fn) n = fn.entry

-- the first place of the function h, or where the places end
abbrev pub start_of : Code → ℕ → ℕ
start_of p h = begins (slice_get p.functions h) (length p.instrs)

-- a function that the tables have as live has the place
pub record IsLivePlace (s : System) (t : Tables) (i : ℕ) : Type 0 where
  pub function : ℕ
  pub inside : IsIn s.program.now i function
  pub live : has t.live 0 function ≡ true
