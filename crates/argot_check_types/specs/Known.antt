-- What is known of declared types: relations on types look at nothing else.
use Rattle.std.specs.Prelude.{ℕ, Bool, List, Option, unwrap_or}
use Rattle.argot_check_types.specs.Types.{Ty, basic, named, untyped, nothing, under_basic}

-- a method that is declared for a type: its name, the package that can name it unless it is exported, the declaration's node,
-- and whether the receiver is a pointer
pub record Method : Type 0 where
  pub name : List ℕ
  pub home : Option ℕ
  pub node : ℕ
  pub pointer : Bool

pub record Known : Type 0 where
  -- the type under a declared one, by its declaration
  pub under : ℕ → Option Ty
  -- the methods of a declared type
  pub methods : ℕ → List Method
  -- the function type of a method, without its receiver, by its node
  pub signature : ℕ → Option Ty
  -- more than the embedded fields that any way to a field or method goes through
  pub depth : ℕ

-- the type under a type
abbrev pub under_in : Known → Ty → Ty
under_in known (basic b) = under_basic b
under_in known (named d) = unwrap_or (known.under d) nothing
under_in known t = t

-- the form of a value's type: that under it, and of an untyped one that under its default type
abbrev pub form_in : Known → Ty → Ty
form_in known (untyped b) = under_basic b
form_in known t = under_in known t
