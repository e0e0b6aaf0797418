-- Rows by nodes, what a rule sees of the program beside its parts, and where an expression stands.
use Rattle.std.specs.Prelude.{ℕ, zero, suc, ◌==◌, Bool, true, false, ◌&&◌, ◌||◌, List, [], ◌∷◌, length, Option, Some, None, unwrap_or, if◌then◌else◌, codes, is_some}
use Rattle.argot_tree.specs.declared.node_kind.NodeKind.{NodeKind}
use Rattle.argot_tree.specs.declared.node_kind.NodeKind.TheVariants as nodes
use Rattle.argot_check_rules.specs.Rows.{Row, At, CopyAt, Setting}
use Rattle.argot_check_rules.specs.Names.{Stands, AsValue, AsEither, AsCallee, AsQualifier}
use Rattle.argot_check_source.specs.Code.{Code, kind_at, children, parent_of, is_of, head_of, tail_of, stripped, is_name_use}
use Rattle.argot_check_source.specs.Names.{use_of, is_predeclared, declarer_of}
use Rattle.argot_check_source.specs.Functions.{signature_of}
use Rattle.argot_check_source.specs.Methods.{is_type_spec, methods_of}

-- the row of a node: its own, or that of the copy that a specification makes of it
abbrev pub row_of : Option ℕ → ℕ → Row
row_of None n = At n
row_of (Some spec) n = CopyAt spec n

abbrev pub rows_of : Option ℕ → List ℕ → List Row
rows_of copy [] = []
rows_of copy (n ∷ ns) = row_of copy n ∷ rows_of copy ns

-- a declared type is told about by its specification
abbrev pub spec_row : Code → Option ℕ → Option Row
spec_row c None = None
spec_row c (Some spec) = if is_of c is_type_spec spec then Some (At spec) else None

abbrev pub declaration_row : Code → ℕ → Option Row
declaration_row c d = spec_row c (declarer_of c d)

abbrev pub signature_row : Code → ℕ → Row
signature_row c n = At (unwrap_or (signature_of c n) (length c.nodes))

abbrev pub setting_of : Code → Option ℕ → Setting
setting_of c «package» =
    record {
      declaration = declaration_row c;
      methods = methods_of c;
      signature = signature_row c;
      depth = suc (length c.nodes);
      home = «package»;
    }

-- Where an expression stands ----------------------------------------------------------------------------------------

-- what the grammar has as a type
abbrev pub is_type_form : NodeKind → Bool
is_type_form nodes.TypeName = true
is_type_form nodes.QualifiedType = true
is_type_form nodes.TypeParens = true
is_type_form nodes.PointerType = true
is_type_form nodes.ArrayType = true
is_type_form nodes.SliceType = true
is_type_form nodes.OpenArrayType = true
is_type_form nodes.MapType = true
is_type_form nodes.ChanType = true
is_type_form nodes.SendType = true
is_type_form nodes.ReceiveType = true
is_type_form nodes.FuncType = true
is_type_form nodes.StructType = true
is_type_form nodes.InterfaceType = true
is_type_form _ = false

abbrev pub is_selected_name : NodeKind → Bool
is_selected_name nodes.SelectedName = true
is_selected_name _ = false

abbrev pub is_type_switch : NodeKind → Bool
is_type_switch nodes.TypeSwitch = true
is_type_switch _ = false

-- the node of a selector behind its dot
abbrev pub selected_name : Code → ℕ → Option ℕ
selected_name c selector = head_of (tail_of (children c selector))

-- the selected name stands for a declaration: the selector names a member of a package
abbrev pub is_member_of_package : Code → ℕ → Bool
is_member_of_package c selector = elim (selected_name c selector) [ None ↦ false | Some m ↦ is_some (use_of c m) ]

abbrev pub is_first : Code → ℕ → ℕ → Bool
is_first c parent n = elim (head_of (children c parent)) [ None ↦ false | Some m ↦ m == n ]

abbrev pub is_second : Code → ℕ → ℕ → Bool
is_second c parent n = elim (head_of (tail_of (children c parent))) [ None ↦ false | Some m ↦ m == n ]

-- what is called, parentheses aside, is the predeclared `new` or `make`
abbrev pub takes_type : Code → ℕ → Bool
takes_type c callee = is_of c is_name_use (stripped c callee) && (is_predeclared c (codes "new") (stripped c callee) || is_predeclared c (codes "make") (stripped c callee))

abbrev pub calls_with_type : Code → ℕ → Bool
calls_with_type c call = elim (head_of (children c call)) [ None ↦ false | Some f ↦ takes_type c f ]

abbrev pub grandparent : Code → ℕ → Option ℕ
grandparent c n = elim (parent_of c n) [ None ↦ None | Some p ↦ parent_of c p ]

abbrev pub is_in_type_switch : Code → ℕ → Bool
is_in_type_switch c values = elim (grandparent c values) [ None ↦ false | Some s ↦ is_of c is_type_switch s ]

abbrev pub stands_in_call : Code → ℕ → ℕ → Stands
stands_in_call c call n = if is_first c call n then AsCallee else if is_second c call n && calls_with_type c call then AsEither else AsValue

abbrev pub stands_in_selector : Code → ℕ → ℕ → Stands
stands_in_selector c selector n = if is_member_of_package c selector then AsQualifier else AsEither

-- below a parent of this kind; inside parentheses as these stand
abbrev pub stands_below : (ℕ → Stands) → Code → ℕ → ℕ → NodeKind → Stands
stands_below outer c n p nodes.Parens = outer p
stands_below outer c n p nodes.Deref = AsEither
stands_below outer c n p nodes.Selector = stands_in_selector c p n
stands_below outer c n p nodes.Call = stands_in_call c p n
stands_below outer c n p nodes.SpreadCall = stands_in_call c p n
stands_below outer c n p nodes.Values = if is_in_type_switch c p then AsEither else AsValue
stands_below outer c n p _ = if is_of c is_type_form n then AsEither else AsValue

abbrev pub stands_by : (ℕ → Stands) → Code → ℕ → Option ℕ → Stands
stands_by outer c n None = AsValue
stands_by outer c n (Some p) = elim (kind_at c p) [ None ↦ AsValue | Some kind ↦ stands_below outer c n p kind ]

-- inside at most so many parentheses
abbrev pub stands_within : Code → ℕ → ℕ → Stands
stands_within c zero n = AsValue
stands_within c (suc k) n = stands_by (stands_within c k) c n (parent_of c n)

unfoldable pub stands_at : Code → ℕ → Stands
stands_at c n = stands_within c (length c.nodes) n
