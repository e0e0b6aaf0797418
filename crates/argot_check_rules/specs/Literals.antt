-- Literals. Rule 2: a literal is as it should be. Rule 3: the names of a function literal's parameters and results, other
-- than `_`, are distinct, and where there are results its body is terminating. Rule 4: a composite literal has, for a
-- struct, all fields in order or named ones, each once and never `_`; for an array or a slice constant indexes, distinct
-- and within the length; for a map keys; and each value fits.
use Rattle.std.specs.Prelude.{ℕ, zero, suc, ◌-◌, ◌^◌, max, nat_lt, ◌==◌, pos, Bool, true, false, not, ◌&&◌, ◌||◌, List, [], ◌∷◌, ◌++◌, Option, Some, None, if◌then◌else◌, codes}
use Rattle.argot_consts.specs.declared.constants.Const.TheVariants.{Whole, Text}
use Rattle.argot_check_asking.specs.Rules.{Ask, AskAll, Say}
use Rattle.argot_check_types.specs.Types.{int, string, int32, Ty, array, slice, mapping, structure, function, untyped, field, nothing, int_type}
use Rattle.argot_check_types.specs.Identity.{same_text}
use Rattle.argot_check_types.specs.Constants.{count_in}
use Rattle.argot_check_types.specs.Facts.{Plain, Fact, value, expects, lost, ill, wide, plain, constant_value, type_in, constant_in, is_any_busy}
use Rattle.argot_check_types.specs.Members.{is_seen_by}
use Rattle.argot_check_rules.specs.Rows.{Row, Rule, Setting}
use Rattle.argot_check_rules.specs.Stages.{Pair, asks_all_fit}
use Rattle.argot_check_rules.specs.Expected.{Source, Form, NoForm, OpenForm, ClosedForm, asks_expected}

-- a token that is a literal
pub data Token : Type 0 where
  WholeToken : (value : ℕ) → Token
  RuneToken : (value : ℕ) → Token
  TextToken : (bytes : ℕ) → Token
  -- with a point, an exponent or an `i`: left out
  OtherToken : Token

abbrev pub literal_fact : Token → Fact
literal_fact (WholeToken n) = if nat_lt n (2 ^ 127) then value (constant_value (untyped int) (Whole (pos n))) else wide
literal_fact (RuneToken n) = value (constant_value (untyped int32) (Whole (pos n)))
literal_fact (TextToken n) = value (constant_value (untyped string) (Text n))
literal_fact OtherToken = lost

abbrev pub literal_rule : Token → Rule
literal_rule token = Say (literal_fact token)

abbrev pub results_in : Ty → Ty
results_in (function params results variadic) = results
results_in _ = nothing

abbrev pub has_types : Ty → Bool
has_types nothing = false
has_types t = true

-- a function literal: whether the names are distinct, and whether the body is terminating
abbrev pub function_fact : Bool → Bool → Ty → Fact
function_fact distinct ends t = if distinct && (ends || not (has_types (results_in t))) then value (plain t) else ill 3

abbrev pub function_literal_rule : Row → Bool → Bool → Rule
function_literal_rule signature distinct ends = Ask signature (λ f. Say (function_fact distinct ends (type_in f)))

-- the key of an item: a lone name, with the row that it has as an expression; another expression; elements in braces
pub data Key : Type 0 where
  NoKey : Key
  NameKey : (name : List ℕ) → Row → Key
  ValueKey : Row → Key
  ElemsKey : Row → Key

-- an item: its key, the row of its value, and whether that is elements in braces
pub record Item : Type 0 where
  pub key : Key
  pub value : Row
  pub elided : Bool

-- the rows of keys and values that are typed by themselves: in a struct no lone name as a key, and no elements in braces
abbrev pub asks_key : Bool → Key → List Row
asks_key struct NoKey = []
asks_key true (ValueKey row) = row ∷ []
asks_key true key = []
asks_key false (NameKey name row) = row ∷ []
asks_key false (ValueKey row) = row ∷ []
asks_key false (ElemsKey row) = row ∷ []

abbrev pub asks_value : Bool → Item → List Row
asks_value struct i = if struct && i.elided then [] else i.value ∷ []

abbrev pub asks_items : Bool → List Item → List Row
asks_items struct [] = []
asks_items struct (i ∷ is) = asks_key struct i.key ++ (asks_value struct i ++ asks_items struct is)

-- an item with what its key and its value were found to be
pub record Told : Type 0 where
  pub item : Item
  pub key : Option Fact
  pub value : Option Fact

-- the first of the answers, where a row was asked; and those behind it
abbrev pub first_answer : List Row → List Fact → Option Fact
first_answer (row ∷ rows) (f ∷ fs) = Some f
first_answer _ _ = None

abbrev pub other_answers : List Row → List Fact → List Fact
other_answers (row ∷ rows) (f ∷ fs) = fs
other_answers _ fs = fs

abbrev pub told_items : Bool → List Item → List Fact → List Told
told_items struct [] fs = []
told_items struct (i ∷ is) fs =
    let behind_key = other_answers (asks_key struct i.key) fs in
    record { item = i; key = first_answer (asks_key struct i.key) fs; value = first_answer (asks_value struct i) behind_key }
    ∷ told_items struct is (other_answers (asks_value struct i) behind_key)

-- what the value of an item was found to be
abbrev pub fact_or_lost : Option Fact → Fact
fact_or_lost None = lost
fact_or_lost (Some f) = f

-- the fields of a struct in order
pub record Named : Type 0 where
  pub name : List ℕ
  pub home : Option ℕ
  pub of : Ty

abbrev pub named_fields : Ty → List Named
named_fields (field name home tag embedded of rest) = record { name = name; home = home; of = of } ∷ named_fields rest
named_fields _ = []

-- the type of the field of that name that the package can name; `_` names none
abbrev pub field_named : Option ℕ → List ℕ → List Named → Option Ty
field_named looks name [] = None
field_named looks name (f ∷ fs) =
    if same_text f.name name && (is_seen_by f.home looks && not (same_text name (codes "_"))) then Some f.of else field_named looks name fs

abbrev pub field_at : ℕ → List Named → Option Ty
field_at n [] = None
field_at zero (f ∷ fs) = Some f.of
field_at (suc n) (f ∷ fs) = field_at n fs

-- values of fields in order: the pairs that have to fit, if there are as many values as fields
abbrev pub ordered_pairs : List Told → List Named → Option (List Pair)
ordered_pairs [] [] = Some []
ordered_pairs (i ∷ is) (f ∷ fs) =
    if i.item.elided then None else elim (ordered_pairs is fs) [ None ↦ None | Some ps ↦ Some (record { it = fact_or_lost i.value; of = f.of } ∷ ps) ]
ordered_pairs _ _ = None

abbrev pub key_name : Key → Option (List ℕ)
key_name (NameKey name row) = Some name
key_name _ = None

abbrev pub is_text_among : List ℕ → List (List ℕ) → Bool
is_text_among name [] = false
is_text_among name (n ∷ ns) = same_text name n || is_text_among name ns

-- the value of a named field
abbrev pub keyed_pair : Option ℕ → List Named → Told → Option Pair
keyed_pair looks fields i =
    if i.item.elided then None
    else elim (key_name i.item.key) [ None ↦ None | Some name ↦ elim (field_named looks name fields) [ None ↦ None | Some t ↦ Some (record { it = fact_or_lost i.value; of = t }) ] ]

abbrev pub is_told_before : List (List ℕ) → Key → Bool
is_told_before before key = elim (key_name key) [ None ↦ false | Some name ↦ is_text_among name before ]

abbrev pub and_name : Key → List (List ℕ) → List (List ℕ)
and_name key before = elim (key_name key) [ None ↦ before | Some name ↦ name ∷ before ]

-- values of named fields: no name twice
abbrev pub keyed_pairs : Option ℕ → List Named → List (List ℕ) → List Told → Option (List Pair)
keyed_pairs looks fields before [] = Some []
keyed_pairs looks fields before (i ∷ is) =
    if is_told_before before i.item.key then None
    else elim (keyed_pair looks fields i) [ None ↦ None | Some p ↦ elim (keyed_pairs looks fields (and_name i.item.key before) is) [ None ↦ None | Some ps ↦ Some (p ∷ ps) ] ]

abbrev pub has_key : Key → Bool
has_key NoKey = false
has_key key = true

abbrev pub has_some_key : List Told → Bool
has_some_key [] = false
has_some_key (i ∷ is) = has_key i.item.key || has_some_key is

-- the pairs of a struct: all fields in order or none, or named ones. A value without a key among named ones has no name
abbrev pub struct_pairs : Option ℕ → List Named → List Told → Option (List Pair)
struct_pairs looks fields [] = Some []
struct_pairs looks fields items = if has_some_key items then keyed_pairs looks fields [] items else ordered_pairs items fields

-- the index of an item: the constant of its key, which is whole and not negative, or one more than the last one's
abbrev pub index_of : ℕ → Told → Option ℕ
index_of at i = elim i.key [ None ↦ (if has_key i.item.key then None else Some at) | Some f ↦ count_in (constant_in f) ]

abbrev pub indexes : ℕ → List Told → Option (List ℕ)
indexes at [] = Some []
indexes at (i ∷ is) = elim (index_of at i) [ None ↦ None | Some n ↦ elim (indexes (suc n) is) [ None ↦ None | Some ns ↦ Some (n ∷ ns) ] ]

abbrev pub is_number_among : ℕ → List ℕ → Bool
is_number_among n [] = false
is_number_among n (m ∷ ms) = n == m || is_number_among n ms

-- distinct, below the length where there is one, and such that the length has 63 bits
abbrev pub are_indexes : Option ℕ → List ℕ → Bool
are_indexes None [] = true
are_indexes (Some len) [] = true
are_indexes None (n ∷ ns) = nat_lt n (2 ^ 63 - 1) && (not (is_number_among n ns) && are_indexes None ns)
are_indexes (Some len) (n ∷ ns) = nat_lt n len && (nat_lt n (2 ^ 63 - 1) && (not (is_number_among n ns) && are_indexes (Some len) ns))

abbrev pub least_length : List ℕ → ℕ
least_length [] = 0
least_length (n ∷ ns) = max (suc n) (least_length ns)

abbrev pub pairs_of : Ty → List Told → List Pair
pairs_of of [] = []
pairs_of of (i ∷ is) = record { it = fact_or_lost i.value; of = of } ∷ pairs_of of is

-- of a map both keys and values have to fit; an item without a key has none that could
abbrev pub map_pairs : Ty → Ty → List Told → List Pair
map_pairs key of [] = []
map_pairs key of (i ∷ is) = record { it = fact_or_lost i.key; of = key } ∷ record { it = fact_or_lost i.value; of = of } ∷ map_pairs key of is

-- a composite literal of the type
abbrev pub composite_of : Bool → List Fact → Ty → Fact
composite_of b fs t = if b then value (record { of = t; constant = None; way = Plain; busy = is_any_busy fs }) else ill 4

abbrev pub struct_literal : Setting → Ty → List Fact → Option (List Pair) → Rule
struct_literal s t fs None = Say (ill 4)
struct_literal s t fs (Some ps) = asks_all_fit s ps (λ b. Say (composite_of b fs t))

-- the type of a literal with these indexes
abbrev pub open_type : Ty → List ℕ → Ty
open_type of ns = array (least_length ns) of

-- elements with indexes: the length that bounds them, if there is one, and the literal's type by the indexes
abbrev pub indexed_literal : Setting → Ty → Option ℕ → (List ℕ → Ty) → List Fact → List Told → Rule
indexed_literal s of len t fs items =
    asks_all_fit s (pairs_of of items) (λ b. Say (elim (indexes 0 items) [ None ↦ ill 4 | Some ns ↦ composite_of (b && are_indexes len ns) fs (t ns) ]))

-- the literal, by the form of its type
abbrev pub composite_by : Setting → List Item → Form → Rule
composite_by s items NoForm = Say lost
composite_by s items (OpenForm of) = AskAll (asks_items false items) (λ fs. indexed_literal s of None (open_type of) fs (told_items false items fs))
composite_by s items (ClosedForm t (structure fields)) = AskAll (asks_items true items) (λ fs. struct_literal s t fs (struct_pairs s.home (named_fields fields) (told_items true items fs)))
composite_by s items (ClosedForm t (array len of)) = AskAll (asks_items false items) (λ fs. indexed_literal s of (Some len) (λ ns. t) fs (told_items false items fs))
composite_by s items (ClosedForm t (slice of)) = AskAll (asks_items false items) (λ fs. indexed_literal s of None (λ ns. t) fs (told_items false items fs))
composite_by s items (ClosedForm t (mapping key of)) = AskAll (asks_items false items) (λ fs. asks_all_fit s (map_pairs key of (told_items false items fs)) (λ b. Say (composite_of b fs t)))
composite_by s items (ClosedForm t u) = Say (ill 4)

-- a composite literal, with its type or, inside another one, without
abbrev pub composite_rule : Setting → Source → List Item → Rule
composite_rule s source items = asks_expected s source (composite_by s items)

-- what an item expects of its key and its value: its number, and the name that is its key if that is a lone name
pub data Position : Type 0 where
  Numbered : ℕ → Position
  Keyed : Option (List ℕ) → Position

abbrev pub field_expected : Option ℕ → List Named → Position → Option Ty
field_expected looks fields (Numbered n) = field_at n fields
field_expected looks fields (Keyed None) = None
field_expected looks fields (Keyed (Some name)) = field_named looks name fields

abbrev pub item_fact : Option ℕ → Position → Form → Fact
item_fact looks at (OpenForm of) = expects (Some int_type) (Some of)
item_fact looks at (ClosedForm t (array len of)) = expects (Some int_type) (Some of)
item_fact looks at (ClosedForm t (slice of)) = expects (Some int_type) (Some of)
item_fact looks at (ClosedForm t (mapping key of)) = expects (Some key) (Some of)
item_fact looks at (ClosedForm t (structure fields)) = expects None (field_expected looks (named_fields fields) at)
item_fact looks at form = expects None None

abbrev pub item_rule : Setting → Source → Position → Rule
item_rule s source at = asks_expected s source (λ form. Say (item_fact s.home at form))
