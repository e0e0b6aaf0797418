-- Types. Rule 20: the name of a type. Rule 21: the length of an array is a whole constant from 0 to 2^63 - 1. Rules 23 to 26: a map,
-- a struct, an interface and all other types; where only a value may stand, a type is ill by the rule of its form. That a map's key can
-- be compared is looked at when all is typed.
use Rattle.std.specs.Prelude.{ℕ, ◌^◌, nat_lt, Bool, List, [], ◌∷◌, ◌++◌, Option, Some, None, if◌then◌else◌}
use Rattle.argot_typed.specs.declared.shape.Dir.{Dir}
use Rattle.argot_check_asking.specs.Rules.{Ask, AskBoth, AskAll, Say, Silent}
use Rattle.argot_check_types.specs.Types.{Ty, named, pointer, array, slice, mapping, channel, function, listed}
use Rattle.argot_check_types.specs.Constants.{count_in}
use Rattle.argot_check_types.specs.Facts.{Fact, kind, ill, type_in, constant_in}
use Rattle.argot_check_rules.specs.Rows.{Row, Rule}
use Rattle.argot_check_rules.specs.Names.{Stands, Meaning, DeclaredType, PredeclaredType, AliasType, LeftOut, kind_at}

-- the name of a type where only a type can stand
abbrev pub type_name_rule : Meaning → Rule
type_name_rule (DeclaredType d) = Say (kind (named d))
type_name_rule (PredeclaredType t) = Say (kind t)
type_name_rule (AliasType spec) = Ask spec (λ f. Say f)
type_name_rule LeftOut = Silent
type_name_rule m = Say (ill 20)

abbrev pub type_parens_rule : Row → Rule
type_parens_rule t = Ask t (λ f. Say f)

abbrev pub pointer_rule : Stands → Row → Rule
pointer_rule stands t = Ask t (λ f. Say (kind_at stands 26 (kind (pointer (type_in f)))))

abbrev pub slice_type_rule : Stands → Row → Rule
slice_type_rule stands t = Ask t (λ f. Say (kind_at stands 26 (kind (slice (type_in f)))))

abbrev pub channel_rule : Stands → Dir → Row → Rule
channel_rule stands dir t = Ask t (λ f. Say (kind_at stands 26 (kind (channel dir (type_in f)))))

abbrev pub array_of : Ty → Option ℕ → Fact
array_of t None = ill 21
array_of t (Some n) = if nat_lt n (2 ^ 63) then kind (array n t) else ill 21

abbrev pub array_rule : Stands → Row → Row → Rule
array_rule stands len of = AskBoth len of (λ f g. Say (kind_at stands 21 (array_of (type_in g) (count_in (constant_in f)))))

abbrev pub map_rule : Stands → Row → Row → Rule
map_rule stands key of = AskBoth key of (λ f g. Say (kind_at stands 23 (kind (mapping (type_in f) (type_in g)))))

abbrev pub function_type_rule : Stands → Row → Rule
function_type_rule stands signature = Ask signature (λ f. Say (kind_at stands 26 f))

-- a parameter or a result: its type, and whether it stands behind `...`
pub record Entry : Type 0 where
  pub of : Row
  pub variadic : Bool

abbrev pub entry_rows : List Entry → List Row
entry_rows [] = []
entry_rows (e ∷ es) = e.of ∷ entry_rows es

abbrev pub entry_type : Entry → Fact → Ty
entry_type e f = if e.variadic then slice (type_in f) else type_in f

-- the types of entries by the first of these answers
abbrev pub entry_types : List Entry → List Fact → List Ty
entry_types (e ∷ es) (f ∷ fs) = entry_type e f ∷ entry_types es fs
entry_types _ _ = []

-- the answers behind those of the entries
abbrev pub behind_entries : List Entry → List Fact → List Fact
behind_entries (e ∷ es) (f ∷ fs) = behind_entries es fs
behind_entries _ fs = fs

abbrev pub function_of : List Entry → List Entry → Bool → List Fact → Ty
function_of ps rs variadic fs = function (listed (entry_types ps fs)) (listed (entry_types rs (behind_entries ps fs))) variadic

-- a signature says its function type
abbrev pub signature_rule : List Entry → List Entry → Bool → Rule
signature_rule ps rs variadic = AskAll (entry_rows ps ++ entry_rows rs) (λ fs. Say (kind (function_of ps rs variadic fs)))
