-- Which places may come after which in one goroutine.
use Rattle.std.specs.Prelude.{◌≡◌, ℕ, Bool, List, None}
use Rattle.argot_plain.specs.Code.{Code, IsAt, IsFunction, IsIn, Successor}
use Rattle.argot_plain.specs.declared.functions.Function.{Function}
use Rattle.argot_plain.specs.declared.instructions.Callee.{Callee}
use Rattle.argot_plain.specs.declared.instructions.Kind.TheVariants.{Call, Defer}
use Rattle.argot_facts.specs.Refers.{Fact, Holds, IsLivePlaceIn, Targets}

-- by these facts the place i of the function h is a Call or a Defer of that target
pub data UsesBy (p : Code) (F : Fact → Type 0) (i h target : ℕ) : Type 0 where
  by_call : (to args : List ℕ) → (callee : Callee) → (takes : Bool) → IsIn p i h → IsAt p i (Call to callee args) → F (Targets i target takes) → UsesBy p F i h target
  by_defer : (args : List ℕ) → (callee : Callee) → (takes : Bool) → IsIn p i h → IsAt p i (Defer callee args) → F (Targets i target takes) → UsesBy p F i h target

-- by these facts control goes from the one place to the other at once. None begins at the place of an external, and each speaks
-- of places of live functions
pub data DirectlyFollowsBy (p : Code) (F : Fact → Type 0) : ℕ → ℕ → Type 0 where
  -- a place to its successors
  goes : {i j : ℕ} → IsLivePlaceIn p F i → Successor p i j → DirectlyFollowsBy p F i j
  -- a Call to the entry of each target
  calls : {i : ℕ} → (target : ℕ) → (to args : List ℕ) → (callee : Callee) → (takes : Bool) → (fn : Function) → IsAt p i (Call to callee args) → F (Targets i target takes) → IsFunction p target fn → DirectlyFollowsBy p F i fn.entry
  -- every place to its function's exit
  exits : {i : ℕ} → (h : ℕ) → (fn : Function) → IsLivePlaceIn p F i → IsIn p i h → IsFunction p h fn → fn.external ≡ None → DirectlyFollowsBy p F i fn.exit
  -- a Leave to the place after each Call that targets its function
  returns : {j : ℕ} → (i target : ℕ) → (to args : List ℕ) → (callee : Callee) → (takes : Bool) → (fn : Function) → IsFunction p target fn → fn.external ≡ None → IsAt p i (Call to callee args) → F (Targets i target takes) → Successor p i j → DirectlyFollowsBy p F fn.leave j
  -- an exit, and a Leave, to the exit of each function with a Call or Defer that targets it
  unwinds : (i h target : ℕ) → (own fn : Function) → UsesBy p F i h target → IsFunction p target fn → fn.external ≡ None → IsFunction p h own → DirectlyFollowsBy p F fn.exit own.exit
  returns_to_exit : (i h target : ℕ) → (own fn : Function) → UsesBy p F i h target → IsFunction p target fn → fn.external ≡ None → IsFunction p h own → DirectlyFollowsBy p F fn.leave own.exit
  -- an exit to the entry of each target of a Defer in that function
  runs : (i h target : ℕ) → (args : List ℕ) → (callee : Callee) → (takes : Bool) → (own fn : Function) → IsIn p i h → IsAt p i (Defer callee args) → F (Targets i target takes) → IsFunction p h own → IsFunction p target fn → DirectlyFollowsBy p F own.exit fn.entry

-- a path of at least one such pair leads from a to b
pub data FollowsBy (p : Code) (F : Fact → Type 0) (a : ℕ) : ℕ → Type 0 where
  one : {b : ℕ} → DirectlyFollowsBy p F a b → FollowsBy p F a b
  then : {b c : ℕ} → FollowsBy p F a b → DirectlyFollowsBy p F b c → FollowsBy p F a c

-- by the facts of the program
abbrev pub Uses : Code → ℕ → ℕ → ℕ → Type 0
Uses p = UsesBy p (Holds p)

abbrev pub DirectlyFollows : Code → ℕ → ℕ → Type 0
DirectlyFollows p = DirectlyFollowsBy p (Holds p)

abbrev pub Follows : Code → ℕ → ℕ → Type 0
Follows p = FollowsBy p (Holds p)
