-- Pairs of places such that control goes from the one to the other at once, as lists that a place and its targets give.
use Rattle.std.specs.Prelude.{◌≡◌, ◌↔◌, ◌⊎◌, ℕ, ◌+◌, Bool, List, [], ◌∷◌, Option, Some, None}
use Rattle.argot_plain.specs.Code.{Code, IsAt, IsFunction, IsIn, Successor}
use Rattle.argot_plain.specs.Lists.{In}
use Rattle.argot_plain.specs.declared.functions.Function.{Function}
use Rattle.argot_plain.specs.declared.instructions.Kind.{Kind}
use Rattle.argot_plain.specs.declared.instructions.Kind.TheVariants.{Call, Defer}
use Rattle.argot_facts.specs.Pointing.{Pointing}

-- new has the pairs of old and those with the property
abbrev pub Gains : (ℕ → ℕ → Type 0) → List (ℕ × ℕ) → List (ℕ × ℕ) → Type 0
Gains R old new = (a b : ℕ) → In (a, b) new ↔ (In (a, b) old ⊎ R a b)

-- of a Call at the place i of the function own, with this target: to its entry; and where that has a body, back behind the
-- Call, or to the exit of own
abbrev pub pairs_of_call : Option Bool → ℕ → Function → Function → List (ℕ × ℕ)
pairs_of_call None i own fn = (i, fn.entry) ∷ (fn.leave, i + 1) ∷ (fn.exit, own.exit) ∷ (fn.leave, own.exit) ∷ []
pairs_of_call (Some flows) i own fn = (i, fn.entry) ∷ []

-- of a Defer: the target runs at the exit of own, and goes back there
abbrev pub pairs_of_defer : Option Bool → Function → Function → List (ℕ × ℕ)
pairs_of_defer None own fn = (own.exit, fn.entry) ∷ (fn.exit, own.exit) ∷ (fn.leave, own.exit) ∷ []
pairs_of_defer (Some flows) own fn = (own.exit, fn.entry) ∷ []

abbrev pub pairs_of_use : Kind → ℕ → Function → Function → List (ℕ × ℕ)
pairs_of_use (Call to callee args) i own fn = pairs_of_call fn.external i own fn
pairs_of_use (Defer callee args) i own fn = pairs_of_defer fn.external own fn
pairs_of_use kind i own fn = []

-- the pair is one of those of the place i of the function h with this target
pub record UseLeads (p : Code) (h i target a b : ℕ) : Type 0 where
  pub kind : Kind
  pub own : Function
  pub fn : Function
  pub at : IsAt p i kind
  pub is_own : IsFunction p h own
  pub is : IsFunction p target fn
  pub pair : In (a, b) (pairs_of_use kind i own fn)

-- with one of its targets
abbrev pub TargetsLead : Code → Pointing → ℕ → ℕ → ℕ → ℕ → Type 0
TargetsLead p x h i a b = (target : ℕ) × In (i, target) x.targets × UseLeads p h i target a b

-- at one of the places of the function h
abbrev pub UsesLead : Code → Pointing → ℕ → ℕ → ℕ → Type 0
UsesLead p x h a b = (i : ℕ) × IsIn p i h × TargetsLead p x h i a b

-- the place a goes on to b
abbrev pub GoesOnAt : Code → ℕ → ℕ → ℕ → Type 0
GoesOnAt p i a b = (a ≡ i) × Successor p a b

-- the same at a place of the function h
abbrev pub GoesOnIn : Code → ℕ → ℕ → ℕ → Type 0
GoesOnIn p h a b = IsIn p a h × Successor p a b

-- a place of the function h, which has a body, and its exit
abbrev pub ExitsIn : Code → ℕ → ℕ → ℕ → Type 0
ExitsIn p h a b = IsIn p a h × (fn : Function) × IsFunction p h fn × (fn.external ≡ None) × (b ≡ fn.exit)

-- one of both, where h is live
abbrev pub LiveLeads : Code → Pointing → ℕ → ℕ → Type 0
LiveLeads p x a b = (h : ℕ) × In h x.live × (GoesOnIn p h a b ⊎ ExitsIn p h a b)

-- a pair of a live function, or of a use
abbrev pub Leads : Code → Pointing → ℕ → ℕ → Type 0
Leads p x a b = LiveLeads p x a b ⊎ ((h : ℕ) × UsesLead p x h a b)
