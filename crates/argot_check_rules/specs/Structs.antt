-- Rule 24: the names of a struct's fields, other than `_`, are distinct; an embedded field has the name of its type. That an embedded
-- field is a type with a name, and no pointer, is looked at when all is typed.
use Rattle.std.specs.Prelude.{ℕ, Bool, true, false, not, ◌&&◌, ◌||◌, List, [], ◌∷◌, Option, if◌then◌else◌, codes}
use Rattle.argot_check_asking.specs.Rules.{AskAll, Say}
use Rattle.argot_check_types.specs.Types.{Ty, pointer, structure, field, nothing}
use Rattle.argot_check_types.specs.Identity.{same_text}
use Rattle.argot_check_types.specs.Facts.{Fact, kind, ill, type_in}
use Rattle.argot_check_rules.specs.Rows.{Row, Rule}
use Rattle.argot_check_rules.specs.Names.{Stands, kind_at}

-- how a field is written: with a name, or as a type name alone, behind a `*` or not
pub data Writing : Type 0 where
  WithName : Writing
  Embedded : Writing
  EmbeddedPointer : Writing

-- a field, by its name and the row of its type
pub record Field : Type 0 where
  pub name : List ℕ
  pub home : Option ℕ
  pub tag : List ℕ
  pub writing : Writing
  pub of : Row

abbrev pub field_rows : List Field → List Row
field_rows [] = []
field_rows (f ∷ fs) = f.of ∷ field_rows fs

abbrev pub is_embedded : Writing → Bool
is_embedded WithName = false
is_embedded Embedded = true
is_embedded EmbeddedPointer = true

abbrev pub field_type : Writing → Ty → Ty
field_type EmbeddedPointer t = pointer t
field_type w t = t

abbrev pub fields_by : List Field → List Fact → Ty
fields_by (f ∷ fs) (g ∷ gs) = field f.name f.home f.tag (is_embedded f.writing) (field_type f.writing (type_in g)) (fields_by fs gs)
fields_by _ _ = nothing

abbrev pub is_name_among : List ℕ → List (List ℕ) → Bool
is_name_among name [] = false
is_name_among name (n ∷ ns) = same_text name n || is_name_among name ns

-- no name but `_` stands twice
abbrev pub are_distinct : List (List ℕ) → Bool
are_distinct [] = true
are_distinct (n ∷ ns) = (same_text n (codes "_") || not (is_name_among n ns)) && are_distinct ns

abbrev pub field_names : List Field → List (List ℕ)
field_names [] = []
field_names (f ∷ fs) = f.name ∷ field_names fs

abbrev pub struct_fact : List Field → List Fact → Fact
struct_fact fs gs = if are_distinct (field_names fs) then kind (structure (fields_by fs gs)) else ill 24

abbrev pub struct_rule : Stands → List Field → Rule
struct_rule stands fs = AskAll (field_rows fs) (λ gs. Say (kind_at stands 24 (struct_fact fs gs)))
