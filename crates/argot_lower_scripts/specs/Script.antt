-- What lowering does for a node, in order: a script. It gives out registers, places and sites, writes instructions, and has the
-- code of the nodes below put in.
use Rattle.std.specs.Prelude.{ℕ, List, Option}
use Rattle.argot_plain.specs.declared.instructions.Kind.{Kind}
use Rattle.argot_plain.specs.declared.instructions.Tag.{Tag}
use Rattle.argot_text.specs.declared.path.PathStep.{PathStep}
use Rattle.argot_text.specs.declared.position.Pos.{Pos}

-- leaf paths
abbrev pub Leaves : Type 0
Leaves = List (List PathStep)

-- where a result of the function goes: into its register, or through the reference to its object that this register holds
pub data Outcome : Type 0 where
  InRegister : ℕ → Outcome
  InObject : ℕ → Outcome

-- a statement around that `break` may leave: the labels before it, the place behind it, and the place at which a loop's next
-- turn begins
pub record Enclosing : Type 0 where
  pub labels : List (List ℕ)
  pub breaks : ℕ
  pub continues : Option ℕ

-- where a statement may jump to: the function's exit, its results, the statements around it, innermost first, and the next
-- clause, where it stands in one
pub record Around : Type 0 where
  pub exit : ℕ
  pub outcomes : List Outcome
  pub enclosing : List Enclosing
  pub next_clause : Option ℕ

-- what is wanted of a node
pub data Task : Type 0 where
  -- its value, in one register
  Value : Task
  -- the same, where a place expression goes on behind it, so that the tags stand on a later Move
  Part : Task
  -- the reference to its place
  Reference : Task
  -- all results of a call; the value and the truth value of a map element, a receive or an assertion
  Results : Task
  -- what a statement does
  Statement : Around → Task

-- a site of the next instruction. A function goes by its name
pub record SiteOf : Type 0 where
  pub result : ℕ
  pub leaf : ℕ
  pub shape : Leaves
  pub dynamic : ℕ
  pub function : Option ℕ

-- what the whole program is asked for: a type was put into a box, an assertion names a type, a method value has a function,
-- one of the functions that no text declares is called
pub data Note : Type 0 where
  Boxed : ℕ → Note
  Asserted : ℕ → Note
  BoundMethod : ℕ → Note
  Called : ℕ → Note

-- A new register, a place, a site and what a part hands on are handed to what follows. A place is known by a label: the
-- targets of a Goto or Branch are labels, and a Static callee and the function of a Passed are names.
pub data Script : Type 0 where
  -- hands these registers on
  done : List ℕ → Script
  -- a new register with these leaves
  take : Leaves → (ℕ → Script) → Script
  -- an instruction, its position and its tags
  emit : Pos → List Tag → Kind → Script → Script
  -- the place that has been reached
  now : (ℕ → Script) → Script
  -- the place at which the first script ends
  until : (ℕ → Script) → (List ℕ → Script) → Script
  -- the code of a node below
  part : Task → ℕ → (List ℕ → Script) → Script
  -- a new site of the next instruction
  site : SiteOf → (ℕ → Script) → Script
  -- something that the whole program is asked for
  note : Note → Script → Script
  -- from here on the variable's register is this one
  sets : ℕ → ℕ → Script → Script
  -- the variable's register
  gets : ℕ → (ℕ → Script) → Script
