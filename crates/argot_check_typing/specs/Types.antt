-- Types as their rules see them: entries of signatures, fields of structs, methods of interfaces.
use Rattle.std.specs.Prelude.{ℕ, Bool, true, false, ◌||◌, List, [], ◌∷◌, ◌++◌, Option, Some, None, if◌then◌else◌}
use Rattle.argot_tree.specs.declared.node_kind.NodeKind.{NodeKind}
use Rattle.argot_tree.specs.declared.node_kind.NodeKind.TheVariants as nodes
use Rattle.argot_check_rules.specs.Rows.{Row}
use Rattle.argot_check_rules.specs.Typexpr.{Entry}
use Rattle.argot_check_rules.specs.Structs as structs
use Rattle.argot_check_rules.specs.Interfaces as interfaces
use Rattle.argot_check_source.specs.Code.{Code, kind_at, children, is_of, child_of, package_of, text_of, text_behind, is_params}
use Rattle.argot_check_source.specs.Names.{home_of}
use Rattle.argot_check_source.specs.LiteralValues.{text_value}
use Rattle.argot_check_source.specs.Methods.{last_child}
use Rattle.argot_check_typing.specs.Positions.{row_of, rows_of}

abbrev pub is_lone : NodeKind → Bool
is_lone nodes.LoneParam = true
is_lone _ = false

abbrev pub is_variadic : NodeKind → Bool
is_variadic nodes.VariadicParam = true
is_variadic nodes.NamedVariadic = true
is_variadic _ = false

-- the type of an entry among entries: a name alone has that of the next entry with one, also where `...` stands there
abbrev pub entry_of : Code → Option ℕ → List ℕ → List Entry
entry_of c copy [] = []
entry_of c copy (e ∷ es) =
    if is_of c is_lone e then entry_of c copy es
    else elim (last_child (children c e)) [ None ↦ [] | Some t ↦ record { of = row_of copy t; variadic = is_of c is_variadic e } ∷ [] ]

abbrev pub entries_of : Code → Option ℕ → List ℕ → List Entry
entries_of c copy [] = []
entries_of c copy (e ∷ es) = entry_of c copy (e ∷ es) ++ entries_of c copy es

abbrev pub has_variadic : Code → List ℕ → Bool
has_variadic c [] = false
has_variadic c (e ∷ es) = is_of c is_variadic e || has_variadic c es

abbrev pub parameter_entries : Code → Option ℕ → Option ℕ → List Entry
parameter_entries c copy None = []
parameter_entries c copy (Some list) = entries_of c copy (children c list)

-- results are a list, or one type
abbrev pub result_entries : Code → Option ℕ → Option ℕ → List Entry
result_entries c copy None = []
result_entries c copy (Some r) = if is_of c is_params r then entries_of c copy (children c r) else record { of = row_of copy r; variadic = false } ∷ []

abbrev pub is_variadic_list : Code → Option ℕ → Bool
is_variadic_list c None = false
is_variadic_list c (Some list) = has_variadic c (children c list)

-- Structs -----------------------------------------------------------------------------------------------------------

abbrev pub is_tag : NodeKind → Bool
is_tag nodes.Tag = true
is_tag _ = false

-- the text behind a field; none is an empty one
abbrev pub tag_of : Code → ℕ → List ℕ
tag_of c field = elim (child_of c is_tag field) [ None ↦ [] | Some t ↦ text_value (text_of c t) ]

abbrev pub is_qualified : NodeKind → Bool
is_qualified nodes.QualifiedType = true
is_qualified _ = false

-- the name of an embedded field is that of its type, behind the package's
abbrev pub type_text : Code → ℕ → List ℕ
type_text c t = if is_of c is_qualified t then text_behind c 2 t else text_of c t

abbrev pub field_of : Code → Option ℕ → ℕ → structs.Writing → List ℕ → ℕ → structs.Field
field_of c copy field writing name t =
    record { name = name; home = home_of (package_of c field) name; tag = tag_of c field; writing = writing; of = row_of copy t }

abbrev pub named_fields : Code → Option ℕ → ℕ → List ℕ → ℕ → List structs.Field
named_fields c copy field [] t = []
named_fields c copy field (n ∷ ns) t = field_of c copy field structs.WithName (text_of c n) t ∷ named_fields c copy field ns t

abbrev pub embedded_field : Code → Option ℕ → ℕ → structs.Writing → List ℕ → List structs.Field
embedded_field c copy field writing [] = []
embedded_field c copy field writing (t ∷ ns) = field_of c copy field writing (type_text c t) t ∷ []

abbrev pub plain_field : Code → Option ℕ → ℕ → List ℕ → List structs.Field
plain_field c copy field (names ∷ t ∷ ns) = named_fields c copy field (children c names) t
plain_field c copy field ns = []

abbrev pub fields_by_kind : Code → Option ℕ → ℕ → NodeKind → List structs.Field
fields_by_kind c copy field nodes.EmbeddedField = embedded_field c copy field structs.Embedded (children c field)
fields_by_kind c copy field nodes.EmbeddedPointer = embedded_field c copy field structs.EmbeddedPointer (children c field)
fields_by_kind c copy field _ = plain_field c copy field (children c field)

-- the fields of a struct, each name for itself
abbrev pub fields_of : Code → Option ℕ → List ℕ → List structs.Field
fields_of c copy [] = []
fields_of c copy (f ∷ fs) = (elim (kind_at c f) [ None ↦ [] | Some kind ↦ fields_by_kind c copy f kind ]) ++ fields_of c copy fs

-- Interfaces --------------------------------------------------------------------------------------------------------

abbrev pub is_method : NodeKind → Bool
is_method nodes.Method = true
is_method _ = false

abbrev pub written_by : Code → Option ℕ → ℕ → List ℕ → List interfaces.Written
written_by c copy method (name ∷ signature ∷ ns) =
    record { name = text_of c name; home = home_of (package_of c method) (text_of c name); signature = row_of copy signature } ∷ []
written_by c copy method ns = []

-- the methods that an interface writes, and the types that it embeds
abbrev pub written_methods : Code → Option ℕ → List ℕ → List interfaces.Written
written_methods c copy [] = []
written_methods c copy (e ∷ es) = (if is_of c is_method e then written_by c copy e (children c e) else []) ++ written_methods c copy es

abbrev pub embedded_rows : Code → Option ℕ → List ℕ → List Row
embedded_rows c copy [] = []
embedded_rows c copy (e ∷ es) = (if is_of c is_method e then [] else rows_of copy (children c e)) ++ embedded_rows c copy es
