-- Tables of what counts as what under a problem.
use Rattle.std.specs.Prelude.{◌≡◌, ℕ, Bool, true, List, length}
use Rattle.argot_plain.specs.Code.{Code}
use Rattle.argot_plain.specs.Counts.{counts, is_source_place}
use Rattle.argot_plain.specs.Lists.{In}
use Rattle.argot_plain.specs.declared.problems.Problem.{Problem}
use Rattle.argot_facts.specs.Marked.{IsSet}
use Rattle.argot_facts.specs.Pointing.{Pointing}
use Rattle.argot_facts.specs.Refers.{Holds, Targets}
use Rattle.argot_roles.specs.Counting.{AreLeftOut, AreCounted}
use Rattle.argot_roles.specs.Marking.{AreMarked}
use Rattle.argot_flow_ends.specs.declared.roles.Roles.{Roles}

pub record AreRoles (p : Code) (pr : Problem) (roles : Roles) : Type 0 where
  pub out : AreLeftOut p roles.left_out.items
  pub sources : AreCounted p pr.sources roles.sources.items
  pub sinks : AreCounted p pr.sinks roles.sinks.items
  pub places : AreMarked (λ m. is_source_place pr m ≡ true) (length p.instrs) roles.places.items

-- by these tables of points-to a target of the place has its flag set
abbrev pub HasFlagged : Pointing → List Bool → ℕ → Type 0
HasFlagged x flags i = (h : ℕ) × In (i, h) x.targets × IsSet flags h

-- some target of the place counts as one of the list
pub record HasRole (p : Code) (list : List ℕ) (i : ℕ) : Type 0 where
  pub target : ℕ
  pub takes : Bool
  pub holds : Holds p (Targets i target takes)
  pub counted : counts p i target list ≡ true
