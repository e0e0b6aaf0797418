-- Tables of what functions and places are under a problem.
use Rattle.std.specs.Prelude.{ℕ, Bool, ◌&&◌, not, Some, List, length}
use Rattle.argot_plain.specs.Code.{Code}
use Rattle.argot_plain.specs.Lists.{In}
use Rattle.argot_plain.specs.declared.problems.Problem.{Problem}
use Rattle.argot_graph_edges.specs.declared.tables.Tables.{Tables}
use Rattle.argot_roles.specs.Counting.{AreLeftOut, AreCounted, flag_at}
use Rattle.argot_roles.specs.Marking.{AreMarked}

pub record AreTables (p : Code) (pr : Problem) (t : Tables) : Type 0 where
  pub out : AreLeftOut p t.left_out.items
  pub sources : AreCounted p pr.sources t.sources.items
  pub sinks : AreCounted p pr.sinks t.sinks.items
  pub sanitizers : AreCounted p pr.sanitizers t.sanitizers.items
  pub validators : AreMarked (λ h. In h pr.validators) (length p.functions) t.validators.items

-- by the tables the target g counts as one of these at the place i
abbrev pub counts_in : Tables → List Bool → ℕ → ℕ → Bool
counts_in t flags i g = not (flag_at t.left_out.items (Some i)) && flag_at flags (Some g)

-- it is a sanitizer and no source
abbrev pub cleaned : Tables → ℕ → ℕ → Bool
cleaned t i g = counts_in t t.sanitizers.items i g && not (counts_in t t.sources.items i g)

-- it is a sink
abbrev pub sinks_at : Tables → ℕ → ℕ → Bool
sinks_at t i g = counts_in t t.sinks.items i g
