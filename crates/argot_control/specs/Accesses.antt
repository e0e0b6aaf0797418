-- Which instructions write and read memory, and flags for them.
use Rattle.std.specs.Prelude.{◌≡◌, ◌↔◌, ◌⊎◌, ℕ, ◌<◌, Bool, List, length}
use Rattle.argot_plain.specs.Code.{Code, IsAt, IsFunction, IsIn, arguments}
use Rattle.argot_plain.specs.declared.functions.Function.{Function}
use Rattle.argot_plain.specs.declared.instructions.Callee.{Callee}
use Rattle.argot_plain.specs.declared.instructions.Kind.{Kind}
use Rattle.argot_plain.specs.declared.instructions.Kind.TheVariants.{Read, Write, Grow, Call, Go, Defer}
use Rattle.argot_facts.specs.Marked.{IsSet}

-- an instruction of this kind writes what objects hold
abbrev pub Writes : Kind → Type 0
Writes (Write at from) = Unit {0}
Writes (Grow to at items) = Unit {0}
Writes kind = ⊥

-- it reads it, or hands on arguments
abbrev pub Reads : Kind → Type 0
Reads (Read to at qs) = Unit {0}
Reads (Grow to at items) = Unit {0}
Reads (Call to callee args) = 0 < length (arguments callee args)
Reads (Go callee args) = 0 < length (arguments callee args)
Reads kind = ⊥

-- at the place m stands an instruction of such a kind
abbrev pub StandsAt : Code → (Kind → Type 0) → ℕ → Type 0
StandsAt p K m = (kind : Kind) × IsAt p m kind × K kind

-- new has the flags of old and those of the numbers with the property
pub record GainsFlags (A : ℕ → Type 0) (old new : List Bool) : Type 0 where
  pub count : length new ≡ length old
  pub each : (m : ℕ) → IsSet new m ↔ (IsSet old m ⊎ A m)

-- at the place i of the function h stands a Defer, and m is the exit of the function
pub record DefersAt (p : Code) (h i m : ℕ) : Type 0 where
  pub callee : Callee
  pub args : List ℕ
  pub fn : Function
  pub at : IsAt p i (Defer callee args)
  pub is : IsFunction p h fn
  pub exit : m ≡ fn.exit

-- the same at some place of it
abbrev pub DefersIn : Code → ℕ → ℕ → Type 0
DefersIn p h m = (i : ℕ) × IsIn p i h × DefersAt p h i m
