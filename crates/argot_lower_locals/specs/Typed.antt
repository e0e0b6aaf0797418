-- What lowering is handed: the files of a folder, the typed program, and what typing found of selectors, of methods and of
-- blocks that end.
use Rattle.std.specs.Prelude.{ℕ, List, Option}
use Rattle.argot_names_rules.specs.Files.{SourceFiles}
use Rattle.argot_typed.specs.declared.program.TypedProgram.{TypedProgram}
use Rattle.argot_typed.specs.declared.shape.MethodShape.{MethodShape}

-- a field that is gone through: the type that has it, a declared one where it has a name, and its number in it
pub record FieldStep : Type 0 where
  pub of : ℕ
  pub field : ℕ

-- a method, and the type for which it is declared or the interface that lists it
pub record MethodOf : Type 0 where
  pub holder : ℕ
  pub method : MethodShape

-- what a name selects in a type: the fields that are gone through, embedded ones first. A selected field is the last of
-- them; a method stands behind all
pub record Selected : Type 0 where
  pub steps : List FieldStep
  pub method : Option MethodOf

-- a selector, but for those of a package's member
pub record Selection : Type 0 where
  pub node : ℕ
  pub selected : Selected

-- a type, and what selects each method of its method set, but for `_`
pub record MethodSet : Type 0 where
  pub of : ℕ
  pub methods : List Selected

-- the types of nodes are item by item those of the nodes, before any conversion. Types have one number where they are
-- identical. A name that is declared has the type of what it declares, a clause of a type switch that of its variable,
-- a literal without a type its element's, with the pointer
pub record Typed : Type 0 where
  pub files : SourceFiles
  pub program : TypedProgram
  pub selections : List Selection
  pub method_sets : List MethodSet
  -- blocks that are terminating
  pub ending : List ℕ
