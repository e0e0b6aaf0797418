-- The rows of which rules say facts.
use Rattle.std.specs.Prelude.{ℕ, List, Option}
use Rattle.argot_check_asking.specs.Rules as asking
use Rattle.argot_check_types.specs.Facts.{Fact}
use Rattle.argot_check_types.specs.Known.{Method}

pub data Row : Type 0 where
  -- a node, by its number through all trees
  At : (node : ℕ) → Row
  -- a node of a list of constants, as a later specification repeats it
  CopyAt : (spec node : ℕ) → Row
  -- whether values of a declared type can be compared
  ComparableAt : (decl : ℕ) → Row

abbrev pub Rule : Type 0
Rule = asking.Rule Row Fact

-- what a rule sees of the program beside its parts
pub record Setting : Type 0 where
  -- the row that says what is under a declared type: its specification
  pub declaration : ℕ → Option Row
  -- the methods that are declared for it
  pub methods : ℕ → List Method
  -- the row of a method's signature, by the node of its declaration
  pub signature : ℕ → Row
  -- more than the embedded fields that any way to a field or method goes through
  pub depth : ℕ
  -- the package of the node whose rule it is
  pub home : Option ℕ
