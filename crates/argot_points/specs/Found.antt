-- What is found of a program, and when that is exactly the points-to relation.
use Rattle.std.specs.Prelude.{◌≡◌, ◌↔◌, ℕ, ◌+◌, ◌<◌, Bool, Some, List, length, slice_get}
use Rattle.argot_plain.specs.Lists.{In}
use Rattle.argot_plain.specs.Code.{Code, IsAt, IsIn, Hands}
use Rattle.argot_plain.specs.declared.instructions.Callee.{Callee}
use Rattle.argot_plain.specs.declared.instructions.Callee.TheVariants.{Static, Value, Method}
use Rattle.argot_plain.specs.declared.instructions.Kind.{Kind}
use Rattle.argot_plain.specs.declared.sites.Site.{Site}
use Rattle.argot_facts.specs.Exact.{SpotRefers}
use Rattle.argot_facts.specs.Findings.{TargetBefore}
use Rattle.argot_facts.specs.Graphs.{IsOrdered}
use Rattle.argot_facts.specs.Numbers.{node}
use Rattle.argot_facts.specs.Refers.{Holds, IsLive, Targets}
use Rattle.argot_facts.specs.declared.pointing.Loc.{Loc}
use Rattle.argot_facts.specs.Pointing.{Pointing, FitsPoints, refers}
use Rattle.argot_facts.specs.declared.pointing.Spot.{Spot}
use Rattle.argot_facts.specs.declared.pointing.Spot.TheVariants as spot

-- a program, what spots are found to refer to, and the functions that are found to be live
pub record Found : Type 0 where
  pub program : Code
  pub refers : List (Spot × Loc)
  pub live : List ℕ

-- at the place i of a function that is found to be live stands a Call, Go or Defer, with the arguments behind n results
pub record Calls (v : Found) (i : ℕ) (callee : Callee) (args : List ℕ) (n : ℕ) : Type 0 where
  pub function : ℕ
  pub inside : IsIn v.program i function
  pub live : In function v.live
  pub kind : Kind
  pub at : IsAt v.program i kind
  pub hands : Hands kind callee args n

-- the function g is a target of the place i: by its number, or by what the handed reference is found to refer to, as the
-- function of an object or as the method of what a box holds
pub data IsTarget (v : Found) (i g : ℕ) : Type 0 where
  by_number : (n : ℕ) → (args : List ℕ) → Calls v i (Static g) args n → IsTarget v i g
  by_function : (r n : ℕ) → (args : List ℕ) → (l : Loc) → (site : Site) → Calls v i (Value r) args n → In (spot.Node (node i (n + length args) 0), l) v.refers
      → slice_get v.program.sites l.site ≡ Some site → site.function ≡ Some g → IsTarget v i g
  by_method : (r n : ℕ) → (name args : List ℕ) → (l : Loc) → (site : Site) → Calls v i (Method r name) args n → In (spot.Node (node i n 0), l) v.refers
      → slice_get v.program.sites l.site ≡ Some site → In (site.dynamic, name, g) v.program.methods → IsTarget v i g

-- no reference, live function or target is missed, and none is made up
pub record IsExact (v : Found) : Type 0 where
  pub refers : (a : Spot) (l : Loc) → In (a, l) v.refers ↔ SpotRefers v.program a l
  pub live : (g : ℕ) → In g v.live ↔ Holds v.program (IsLive g)
  pub targets : (i g : ℕ) → IsTarget v i g ↔ ((takes : Bool) × Holds v.program (Targets i g takes))

-- exactly the targets of what is found, in order
pub record AreTargetsOf (v : Found) (targets : List (ℕ × ℕ)) : Type 0 where
  pub order : IsOrdered TargetBefore targets
  pub each : (i g : ℕ) → In (i, g) targets ↔ IsTarget v i g
  pub places : (i g : ℕ) → In (i, g) targets → i < length v.program.instrs
  pub callees : (i g : ℕ) → In (i, g) targets → g < length v.program.functions

-- what is found, by number: live functions and targets in order, and none twice
pub record AreRead (v : Found) (x : Pointing) : Type 0 where
  pub fits : FitsPoints v.program x
  pub refers : refers x ≡ v.refers
  pub live : x.live ≡ v.live
  pub live_order : IsOrdered (λ (g h : ℕ). g < h) x.live
  pub targets_order : IsOrdered TargetBefore x.targets
  pub targets : (i g : ℕ) → In (i, g) x.targets ↔ IsTarget v i g
