-- Which kinds of nodes have a role.
use Rattle.std.proofs.Common.{◌≡◌, true, refl}
use Rattle.argot_tree.specs.declared.node_kind.NodeKind.{NodeKind}
use Rattle.argot_tree.specs.declared.node_kind.NodeKind.TheVariants as nodes
use Rattle.argot_names_rules.specs.Bindings.{specifies_values, specifies_type, has_signature, names_parameter}
use Rattle.argot_names_blocks.specs.declared.roles.Role.TheVariants as roles
use Rattle.argot_names_rules.specs.Uses.{defines_expressions}
use Rattle.argot_names_blocks.specs.Roles.{role_of}
use Rattle.argot_names_blocks.specs.Looking.{by_define, is_func_decl}
use Rattle.argot_files.specs.declared.keys.Key.TheVariants as keys
use Rattle.argot_files.specs.Keys.{key_of, is_braces, is_named_guard, is_declared, is_values}

pub values_role : (kind : NodeKind) → specifies_values kind ≡ true → role_of kind ≡ roles.Values
values_role nodes.ConstSpec e = refl
values_role nodes.VarSpec e = refl
values_role kind e = absurd (cc)

pub are_values : (kind : NodeKind) → role_of kind ≡ roles.Values → specifies_values kind ≡ true
are_values nodes.ConstSpec e = refl
are_values nodes.VarSpec e = refl
are_values kind e = absurd (cc)

pub kind_role : (kind : NodeKind) → specifies_type kind ≡ true → role_of kind ≡ roles.Kind
kind_role nodes.TypeSpec e = refl
kind_role nodes.AliasSpec e = refl
kind_role kind e = absurd (cc)

pub are_kind : (kind : NodeKind) → role_of kind ≡ roles.Kind → specifies_type kind ≡ true
are_kind nodes.TypeSpec e = refl
are_kind nodes.AliasSpec e = refl
are_kind kind e = absurd (cc)

pub function_role : (kind : NodeKind) → has_signature kind ≡ true → role_of kind ≡ roles.Function
function_role nodes.FuncDecl e = refl
function_role nodes.FuncLiteral e = refl
function_role kind e = absurd (cc)

pub are_function : (kind : NodeKind) → role_of kind ≡ roles.Function → has_signature kind ≡ true
are_function nodes.FuncDecl e = refl
are_function nodes.FuncLiteral e = refl
are_function kind e = absurd (cc)

pub entry_role : (kind : NodeKind) → names_parameter kind ≡ true → role_of kind ≡ roles.Entry
entry_role nodes.NamedParam e = refl
entry_role nodes.LoneParam e = refl
entry_role nodes.NamedVariadic e = refl
entry_role kind e = absurd (cc)

pub are_entry : (kind : NodeKind) → role_of kind ≡ roles.Entry → names_parameter kind ≡ true
are_entry nodes.NamedParam e = refl
are_entry nodes.LoneParam e = refl
are_entry nodes.NamedVariadic e = refl
are_entry kind e = absurd (cc)

pub only_define : (kind : NodeKind) → role_of kind ≡ roles.Define → kind ≡ nodes.Define
only_define nodes.Define e = refl
only_define kind e = absurd (cc)

pub only_range_define : (kind : NodeKind) → role_of kind ≡ roles.RangeDefine → kind ≡ nodes.DefineRange
only_range_define nodes.DefineRange e = refl
only_range_define kind e = absurd (cc)

pub only_receive_define : (kind : NodeKind) → role_of kind ≡ roles.ReceiveDefine → kind ≡ nodes.DefineCase
only_receive_define nodes.DefineCase e = refl
only_receive_define kind e = absurd (cc)

pub only_entries : (kind : NodeKind) → role_of kind ≡ roles.Entries → kind ≡ nodes.NamedParams
only_entries nodes.NamedParams e = refl
only_entries kind e = absurd (cc)

pub only_signature : (kind : NodeKind) → role_of kind ≡ roles.Signature → kind ≡ nodes.Signature
only_signature nodes.Signature e = refl
only_signature kind e = absurd (cc)

pub only_names : (kind : NodeKind) → role_of kind ≡ roles.Names → kind ≡ nodes.Names
only_names nodes.Names e = refl
only_names kind e = absurd (cc)

pub only_expressions : (kind : NodeKind) → role_of kind ≡ roles.Expressions → kind ≡ nodes.Exprs
only_expressions nodes.Exprs e = refl
only_expressions kind e = absurd (cc)

pub only_type_switch : (kind : NodeKind) → role_of kind ≡ roles.TypeSwitch → kind ≡ nodes.TypeSwitch
only_type_switch nodes.TypeSwitch e = refl
only_type_switch kind e = absurd (cc)

pub only_case : (kind : NodeKind) → role_of kind ≡ roles.Case → kind ≡ nodes.Case
only_case nodes.Case e = refl
only_case kind e = absurd (cc)

pub only_default : (kind : NodeKind) → role_of kind ≡ roles.Default → kind ≡ nodes.Default
only_default nodes.Default e = refl
only_default kind e = absurd (cc)

pub only_declared : (kind : NodeKind) → role_of kind ≡ roles.Declared → kind ≡ nodes.DeclName
only_declared nodes.DeclName e = refl
only_declared kind e = absurd (cc)

pub only_used : (kind : NodeKind) → role_of kind ≡ roles.Used → kind ≡ nodes.NameUse
only_used nodes.NameUse e = refl
only_used kind e = absurd (cc)

pub only_typed : (kind : NodeKind) → role_of kind ≡ roles.Typed → kind ≡ nodes.TypeName
only_typed nodes.TypeName e = refl
only_typed kind e = absurd (cc)

pub only_qualified : (kind : NodeKind) → role_of kind ≡ roles.Qualified → kind ≡ nodes.QualifiedType
only_qualified nodes.QualifiedType e = refl
only_qualified kind e = absurd (cc)

pub only_selector : (kind : NodeKind) → role_of kind ≡ roles.Selector → kind ≡ nodes.Selector
only_selector nodes.Selector e = refl
only_selector kind e = absurd (cc)

pub only_selected : (kind : NodeKind) → role_of kind ≡ roles.Selected → kind ≡ nodes.SelectedName
only_selected nodes.SelectedName e = refl
only_selected kind e = absurd (cc)

pub only_keyed : (kind : NodeKind) → role_of kind ≡ roles.Keyed → kind ≡ nodes.KeyedItem
only_keyed nodes.KeyedItem e = refl
only_keyed kind e = absurd (cc)

pub only_dotted : (kind : NodeKind) → role_of kind ≡ roles.DotImport → kind ≡ nodes.DotSpec
only_dotted nodes.DotSpec e = refl
only_dotted kind e = absurd (cc)

pub only_path : (kind : NodeKind) → role_of kind ≡ roles.Path → kind ≡ nodes.ImportPath
only_path nodes.ImportPath e = refl
only_path kind e = absurd (cc)

pub body_key : (kind : NodeKind) → has_signature kind ≡ true → key_of kind ≡ keys.Body
body_key nodes.FuncDecl e = refl
body_key nodes.FuncLiteral e = refl
body_key kind e = absurd (cc)

pub braces_kind : (kind : NodeKind) → is_braces kind ≡ true → kind ≡ nodes.Block
braces_kind nodes.Block e = refl
braces_kind kind e = absurd (cc)

pub named_guard_kind : (kind : NodeKind) → is_named_guard kind ≡ true → kind ≡ nodes.NamedGuard
named_guard_kind nodes.NamedGuard e = refl
named_guard_kind kind e = absurd (cc)

pub declared_kind : (kind : NodeKind) → is_declared kind ≡ true → kind ≡ nodes.DeclName
declared_kind nodes.DeclName e = refl
declared_kind kind e = absurd (cc)

pub values_kind : (kind : NodeKind) → is_values kind ≡ true → kind ≡ nodes.Values
values_kind nodes.Values e = refl
values_kind kind e = absurd (cc)

pub defines_role : (kind : NodeKind) → defines_expressions kind ≡ true → by_define (role_of kind) ≡ true
defines_role nodes.DefineRange e = refl
defines_role nodes.DefineCase e = refl
defines_role kind e = absurd (cc)

pub are_defining : (kind : NodeKind) → by_define (role_of kind) ≡ true → defines_expressions kind ≡ true
are_defining nodes.DefineRange e = refl
are_defining nodes.DefineCase e = refl
are_defining kind e = absurd (cc)

pub func_decl_kind : (kind : NodeKind) → is_func_decl kind ≡ true → kind ≡ nodes.FuncDecl
func_decl_kind nodes.FuncDecl e = refl
func_decl_kind kind e = absurd (cc)
