-- The plain code of a typed program.
use Rattle.std.specs.Prelude.{◌≡◌, ℕ, ◌+◌, ◌<◌, ◌≤◌, ◌==◌, ◌&&◌, ◌||◌, Bool, true, false, List, [], ◌∷◌, length, replicate, Option, Some, None, option_map, slice_get, bytes_eq}
use Rattle.std.specs.List.{list_any, list_all}
use Rattle.argot_plain.specs.Code.{Code, IsAt, IsFunction}
use Rattle.argot_plain.specs.declared.functions.Function.{Function}
use Rattle.argot_plain.specs.declared.functions.Ident.{Ident}
use Rattle.argot_plain.specs.declared.instructions.Kind.TheVariants.{RunDefers}
use Rattle.argot_text.specs.declared.position.Pos.{Pos}
use Rattle.argot_tree.specs.declared.entries.Entry.{Entry}
use Rattle.argot_typed.specs.declared.shape.MethodShape.{MethodShape}
use Rattle.argot_names_rules.specs.Lists.{In, IsListOf}
use Rattle.argot_lower_scripts.specs.Script.{Note, Boxed, Asserted}
use Rattle.argot_lower_scripts.specs.Says.{Finished, At, Says}
use Rattle.argot_lower_locals.specs.Typed.{Typed, MethodOf, MethodSet, Selected}
use Rattle.argot_lower_locals.specs.Nodes.{written}
use Rattle.argot_lower_locals.specs.Types.{form, leaves, methods_of, is_interface}
use Rattle.argot_lower_locals.specs.Names.{decl_name, decl_node, decl_path}
use Rattle.argot_lower_locals.specs.Globals.{is_text_before, is_decl_before, is_package_variable, decl_type, decl_leaves}
use Rattle.argot_lower_rows.specs.Calls.{method_name}
use Rattle.argot_lower_rows.specs.Heads.{name_position}
use Rattle.argot_lower_rows.specs.Table.{row}
use Rattle.argot_lower_program.specs.Functions.{Origin, WrapperOf, number_in, function_position, printed_name, script_of, root_node, param_count, result_count, role_of, ident, has_reference, wrapped, flow_of, main_anchor}
use Rattle.argot_lower_program.specs.Orders.{IsOrder}

-- the one place of a function at which RunDefers stands
pub record IsExit (code : Code) (fn : Function) : Type 0 where
  pub low : fn.entry ≤ fn.exit
  pub high : fn.exit < fn.leave
  pub is : IsAt code fn.exit RunDefers
  pub only : (i : ℕ) → fn.entry ≤ i → i ≤ fn.leave → IsAt code i RunDefers → i ≡ fn.exit

-- where a function ends: behind its Leave. A function without a body has one place
pub data IsClosed (code : Code) (fn : Function) (end : ℕ) : Option Bool → Type 0 where
  with_body : end ≡ fn.leave + 1 → IsExit code fn → IsClosed code fn end None
  without : {flow : Bool} → end ≡ fn.entry + 1 → fn.exit ≡ fn.entry → fn.leave ≡ fn.entry → IsClosed code fn end (Some flow)

-- the function of this number is the one that is made from this, and its code reaches from one place up to another
pub record IsWritten (t : Typed) (entries : List Entry) (f : Finished) (order : List Origin) (g : ℕ) (o : Origin) (a b : At) : Type 0 where
  pub fn : Function
  pub is : IsFunction f.code g fn
  pub handed_on : List ℕ
  pub says : Says (row t) f g (root_node o) (script_of t order o) handed_on a b
  pub entry_is : fn.entry ≡ a.place
  pub closed : IsClosed f.code fn b.place (flow_of t entries o)
  pub registers_are : length fn.registers ≡ b.register
  pub name_is : fn.name ≡ printed_name t o
  pub at_is : fn.at ≡ function_position t o
  pub params_are : fn.params ≡ param_count t o
  pub results_are : fn.results ≡ result_count t o
  pub wraps_is : fn.wraps ≡ option_map f.number (wrapped t o)
  pub role_is : fn.role ≡ role_of o
  pub ident_is : fn.ident ≡ ident t o
  pub env_is : fn.has_env ≡ has_reference t o
  pub external_is : fn.external ≡ flow_of t entries o

-- behind a function: registers are numbered anew
abbrev pub anew : At → At
anew a = record { place = a.place; label = a.label; register = 0; site = a.site; note = a.note; homes = a.homes }

-- the functions of an order from a number on, each behind the one before
pub data AreWritten (t : Typed) (entries : List Entry) (f : Finished) (order : List Origin) : ℕ → List Origin → At → At → Type 0 where
  none : {g : ℕ} {a : At} → AreWritten t entries f order g [] a a
  one : {g : ℕ} {o : Origin} {os : List Origin} {a b c : At} → IsWritten t entries f order g o a b → AreWritten t entries f order (g + 1) os (anew b) c → AreWritten t entries f order g (o ∷ os) a c

-- the package variables in order: each has its name, its position, and the site of its object, which has the same number
abbrev pub variable_ident : Typed → ℕ → Ident
variable_ident t d = record { «package» = decl_path t d; receiver = []; name = decl_name t d }

abbrev pub global_items : Typed → ℕ → List ℕ → List (Ident × Pos × ℕ)
global_items t k [] = []
global_items t k (d ∷ ds) = (variable_ident t d, name_position t (written t (main_anchor t)) (decl_node t d), k) ∷ global_items t (k + 1) ds

pub record HasVariableSite (t : Typed) (code : Code) (k d : ℕ) : Type 0 where
  pub is : slice_get code.sites k ≡ Some (record { place = 0; result = 0; leaf = 0; shape = decl_leaves t d; dynamic = decl_type t d; function = None })

pub record AreGlobals (t : Typed) (code : Code) (variables : List ℕ) : Type 0 where
  pub ordered : IsListOf (λ (d e : ℕ). is_decl_before t d e ≡ true) (λ (d : ℕ). is_package_variable t d ≡ true) variables
  pub items : code.globals ≡ global_items t 0 variables
  pub sites : (k d : ℕ) → slice_get variables k ≡ Some d → HasVariableSite t code k d

-- the wrapper of a type and a method's name
pub data IsMethodItem (t : Typed) (order : List Origin) : ℕ × List ℕ × ℕ → Type 0 where
  method_item : {x g : ℕ} {s : Selected} {m : MethodOf} → slice_get order g ≡ Some (WrapperOf x s) → s.method ≡ Some m → IsMethodItem t order (x, method_name t m.method, g)

-- by type, then by the bytes of the name
pub data MethodBefore (a b : ℕ × List ℕ × ℕ) : Type 0 where
  by_type : a.0 < b.0 → MethodBefore a b
  by_name : a.0 ≡ b.0 → is_text_before a.1 b.1 ≡ true → MethodBefore a b

abbrev pub is_same_package : Option ℕ → Option ℕ → Bool
is_same_package None None = true
is_same_package (Some p) (Some q) = p == q
is_same_package _ _ = false

abbrev pub is_same_method : MethodShape → Option MethodOf → Bool
is_same_method m None = false
is_same_method m (Some n) = bytes_eq m.name n.method.name && (is_same_package m.«package» n.method.«package» && (m.of.0 == n.method.of.0))

abbrev pub has_method : List MethodSet → ℕ → MethodShape → Bool
has_method [] x m = false
has_method (set ∷ sets) x m = list_any (λ (s : Selected). (set.of == x) && is_same_method m s.method) set.methods || has_method sets x m

-- the type has each method of the interface, with an identical signature
abbrev pub implements : Typed → ℕ → ℕ → Bool
implements t x w = is_interface (form t w) && list_all (has_method t.method_sets x) (methods_of (form t w))

-- a type that is put into a box, and a type that an assertion names, where they are the same or the first implements the second
pub data IsImplementation (t : Typed) (notes : List Note) : ℕ × ℕ → Type 0 where
  same : {x : ℕ} → In (Boxed x) notes → In (Asserted x) notes → IsImplementation t notes (x, x)
  by_methods : {x w : ℕ} → In (Boxed x) notes → In (Asserted w) notes → implements t x w ≡ true → IsImplementation t notes (x, w)

pub data PairBefore (a b : ℕ × ℕ) : Type 0 where
  by_first : a.0 < b.0 → PairBefore a b
  by_second : a.0 ≡ b.0 → a.1 < b.1 → PairBefore a b

-- where the code of the first function begins: behind the sites of the package variables, and no variable has a register yet
abbrev pub beginning : Typed → List ℕ → At
beginning t variables = record { place = 0; label = 0; register = 0; site = length variables; note = 0; homes = replicate (length t.program.packages.decls) 0 }

-- the code has what is stated, in its order, and nothing else
pub record IsPlainCode (t : Typed) (entries : List Entry) (code : Code) : Type 0 where
  pub order : List Origin
  pub places : List ℕ
  pub notes : List Note
  pub variables : List ℕ
  pub end : At
  pub in_order : IsOrder t notes order
  pub globals_are : AreGlobals t code variables
  pub written_are : AreWritten t entries (record { code = code; number = number_in order; places = places; notes = notes }) order 0 order (beginning t variables) end
  pub functions_end : length code.functions ≡ length order
  pub instrs_end : length code.instrs ≡ end.place
  pub sites_end : length code.sites ≡ end.site
  pub labels_end : length places ≡ end.label
  pub notes_end : length notes ≡ end.note
  pub methods_are : IsListOf MethodBefore (IsMethodItem t order) code.methods
  pub implements_are : IsListOf PairBefore (IsImplementation t notes) code.implements
  pub files_are : code.files ≡ t.files.sources.paths

-- the three limits of plain code
abbrev pub HasFewLeaves : Typed → Type 0
HasFewLeaves t = (x : ℕ) → x < length t.program.table → length (leaves t x) ≤ 4096

abbrev pub HasFewFunctions : Code → Type 0
HasFewFunctions code = length code.functions ≤ 65536

abbrev pub HasFewInstructions : Code → Type 0
HasFewInstructions code = length code.instrs ≤ 1048576
