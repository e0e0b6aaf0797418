-- Sites that are found by following references.
use Rattle.std.specs.Prelude.{◌≡◌, ◌⊎◌, ℕ, ◌+◌, ◌*◌, ◌<◌, ◌≤◌, Bool, true, List, [], ◌∷◌, Some, length, slice_get, if◌then◌else◌}
use Rattle.argot_links.specs.Members.{has as contains}
use Rattle.argot_links.specs.Table.{has}
use Rattle.argot_plain.specs.Code.{Code, IsAt, IsIn}
use Rattle.argot_plain.specs.Lists.{In}
use Rattle.argot_plain.specs.declared.functions.Ident.{Ident}
use Rattle.argot_plain.specs.declared.instructions.Callee.{Callee}
use Rattle.argot_plain.specs.declared.instructions.Kind.TheVariants.{Go}
use Rattle.argot_text.specs.declared.position.Pos.{Pos}
use Rattle.argot_facts.specs.Marked.{IsSet}
use Rattle.argot_facts.specs.Pointing.{Pointing, IsPlaceOf, place_row}
use Rattle.argot_facts.specs.declared.nodes.Node.{Node}
use Rattle.argot_facts.specs.declared.pointing.Loc.{Loc}
use Rattle.argot_escape.specs.declared.found.Found.{Found}

-- how many flags aren't set
abbrev pub unset : List Bool → ℕ
unset [] = 0
unset (b ∷ bs) = (if b then 0 else 1) + unset bs

-- how much is still to be done
abbrev pub room : Found → ℕ
room f = 2 * unset f.flags.items + length f.waiting.items

-- new has the sites of old, and just those with the property beside them; and those that are new wait
pub record Finds (W : ℕ → Type 0) (old new : Found) : Type 0 where
  pub count : length new.flags.items ≡ length old.flags.items
  pub size : new.waiting.size ≡ old.waiting.size
  pub kept : (m : ℕ) → IsSet old.flags.items m → IsSet new.flags.items m
  pub still : (m : ℕ) → contains old.waiting.items m ≡ true → contains new.waiting.items m ≡ true
  pub fresh : (m : ℕ) → IsSet new.flags.items m → IsSet old.flags.items m ⊎ (contains new.waiting.items m ≡ true)
  pub set : (m : ℕ) → contains new.waiting.items m ≡ true → (contains old.waiting.items m ≡ true) ⊎ IsSet new.flags.items m
  pub there : (m : ℕ) → W m → IsSet new.flags.items m
  pub only : (m : ℕ) → IsSet new.flags.items m → IsSet old.flags.items m ⊎ W m
  pub less : room new ≤ room old

-- there is a flag for the site of each location, and room for each to wait
pub record IsReady (ls : List Loc) (f : Found) : Type 0 where
  pub sites : (s y : ℕ) → IsPlaceOf ls s y → s < length f.flags.items
  pub size : f.waiting.size ≡ length f.flags.items

-- a location of these numbers is one of the site
abbrev pub AreAt : List Loc → List ℕ → ℕ → Type 0
AreAt ls ys m = (y : ℕ) × In y ys × IsPlaceOf ls m y

-- a location of the site s refers to one of the site m
pub record LeadsTo (x : Pointing) (s m : ℕ) : Type 0 where
  pub at : ℕ
  pub to : ℕ
  pub is_at : IsPlaceOf x.locations s at
  pub is_to : IsPlaceOf x.locations m to
  pub refers : has x.rows (place_row x at) to ≡ true

-- the location number z refers to one of the site m
pub record PlaceLeadsTo (x : Pointing) (z m : ℕ) : Type 0 where
  pub to : ℕ
  pub is_to : IsPlaceOf x.locations m to
  pub refers : has x.rows (place_row x z) to ≡ true

-- sites have the property, and so have those to which one leads that has it
pub data FoundBy (x : Pointing) (W : ℕ → Type 0) : ℕ → Type 0 where
  at_start : {m : ℕ} → W m → FoundBy x W m
  led_to : {m : ℕ} → (s : ℕ) → FoundBy x W s → LeadsTo x s m → FoundBy x W m

-- the node number n refers to a location of the site m
pub record RowLeadsTo (x : Pointing) (n m : ℕ) : Type 0 where
  pub to : ℕ
  pub is_to : IsPlaceOf x.locations m to
  pub refers : has x.rows n to ≡ true

-- the site m is that of one of these package variables, whose sites are the first
abbrev pub IsVariable : List (Ident × Pos × ℕ) → ℕ → Type 0
IsVariable globals m = m < length globals

-- a node of the place i refers to a location of the site m
pub record NodeLeadsTo (x : Pointing) (i m : ℕ) : Type 0 where
  pub number : ℕ
  pub node : Node
  pub is : slice_get x.nodes number ≡ Some node
  pub place : node.place ≡ i
  pub leads : RowLeadsTo x number m

-- at the place i stands a Go, and a node of it refers to a location of the site m
pub record GoLeadsTo (p : Code) (x : Pointing) (i m : ℕ) : Type 0 where
  pub callee : Callee
  pub args : List ℕ
  pub at : IsAt p i (Go callee args)
  pub leads : NodeLeadsTo x i m

-- the same at a place of this function
pub record FunctionLeadsTo (p : Code) (x : Pointing) (g m : ℕ) : Type 0 where
  pub place : ℕ
  pub inside : IsIn p place g
  pub leads : GoLeadsTo p x place m

-- and at one of these functions
abbrev pub FunctionsLeadTo : Code → Pointing → List ℕ → ℕ → Type 0
FunctionsLeadTo p x gs m = (g : ℕ) × In g gs × FunctionLeadsTo p x g m

-- a package variable's site, or one to which what a Go of a live function hands on refers
abbrev pub IsStart : Code → Pointing → ℕ → Type 0
IsStart p x m = IsVariable p.globals m ⊎ FunctionsLeadTo p x x.live m

-- each site to which one that is found leads is found, or the latter waits
abbrev pub AreLed : Pointing → Found → Type 0
AreLed x f = (s m : ℕ) → IsSet f.flags.items s → LeadsTo x s m → IsSet f.flags.items m ⊎ (contains f.waiting.items s ≡ true)

-- what waits is found
abbrev pub AreSet : Found → Type 0
AreSet f = (s : ℕ) → contains f.waiting.items s ≡ true → IsSet f.flags.items s

-- the node number n has the index k and refers to a location of the site m
abbrev pub AtLeadsTo : Pointing → ℕ → ℕ → ℕ → Type 0
AtLeadsTo x k n m = (a : Node) × (slice_get x.nodes n ≡ Some a) × (a.index ≡ k) × RowLeadsTo x n m

-- and so does one of the place i
abbrev pub IndexLeadsTo : Pointing → ℕ → ℕ → ℕ → Type 0
IndexLeadsTo x i k m = (n : ℕ) × (a : Node) × (slice_get x.nodes n ≡ Some a) × (a.place ≡ i) × (a.index ≡ k) × RowLeadsTo x n m
