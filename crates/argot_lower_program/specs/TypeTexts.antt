-- The text of a type: Go's syntax with the paths of packages. It decides between wrappers of one method.
use Rattle.std.specs.Prelude.{ℕ, zero, suc, Bool, true, List, [], ◌∷◌, ◌++◌, codes, length, decimal, Option, Some, None, slice_get, unwrap_or, if◌then◌else◌}
use Rattle.argot_text.specs.declared.position.Pos.{Pos}
use Rattle.argot_typed.specs.declared.shape.Dir.{Dir}
use Rattle.argot_typed.specs.declared.shape.Dir.TheVariants as ways
use Rattle.argot_typed.specs.declared.shape.FieldShape.{FieldShape}
use Rattle.argot_typed.specs.declared.shape.MethodShape.{MethodShape}
use Rattle.argot_typed.specs.declared.shape.Shape.{Shape}
use Rattle.argot_typed.specs.declared.shape.Shape.TheVariants.{Named, Pointer, Array, Slice, Map, Struct, Func, Interface, Chan}
use Rattle.argot_typed.specs.Parts.{numbers_of}
use Rattle.argot_lower_locals.specs.Typed.{Typed}
use Rattle.argot_lower_locals.specs.Nodes.{written}
use Rattle.argot_lower_locals.specs.Types.{shape, element_of}
use Rattle.argot_lower_locals.specs.Names.{decl_name, decl_node, decl_path, is_in_function}

abbrev pub file_path : Typed → ℕ → List ℕ
file_path t file = unwrap_or (slice_get t.files.sources.paths file) []

-- path, line and column
abbrev pub position_text : Typed → Pos → List ℕ
position_text t p = file_path t p.file ++ codes ":" ++ decimal p.line ++ codes ":" ++ decimal p.col

-- of a type that is declared in a function: `@` and where its name stands
abbrev pub place_text : Typed → ℕ → List ℕ
place_text t n = if is_in_function t n then codes "@" ++ position_text t (written t n) else []

abbrev pub named_text : Typed → ℕ → Option ℕ → List ℕ
named_text t d None = decl_name t d
named_text t d (Some n) = decl_path t d ++ codes "." ++ decl_name t d ++ place_text t n

abbrev pub joined : List ℕ → List (List ℕ) → List ℕ
joined between [] = []
joined between (x ∷ []) = x
joined between (x ∷ y ∷ ys) = x ++ between ++ joined between (y ∷ ys)

abbrev pub param_texts : (ℕ → List ℕ) → Typed → Bool → List ℕ → List (List ℕ)
param_texts again t variadic [] = []
param_texts again t true (x ∷ []) = (codes "..." ++ again (element_of (shape t x))) ∷ []
param_texts again t variadic (x ∷ xs) = again x ∷ param_texts again t variadic xs

abbrev pub each_text : (ℕ → List ℕ) → List ℕ → List (List ℕ)
each_text again [] = []
each_text again (x ∷ xs) = again x ∷ each_text again xs

abbrev pub results_text : (ℕ → List ℕ) → List ℕ → List ℕ
results_text again [] = []
results_text again (x ∷ []) = codes " " ++ again x
results_text again (x ∷ y ∷ ys) = codes " (" ++ joined (codes ", ") (each_text again (x ∷ y ∷ ys)) ++ codes ")"

-- parameters and results
abbrev pub signature_text : (ℕ → List ℕ) → Typed → Shape → List ℕ
signature_text again t (Func params results variadic) =
    codes "(" ++ joined (codes ", ") (param_texts again t variadic (numbers_of params)) ++ codes ")" ++ results_text again (numbers_of results)
signature_text again t _ = []

abbrev pub tag_text : List ℕ → List ℕ
tag_text [] = []
tag_text (b ∷ bs) = codes " \"" ++ (b ∷ bs) ++ codes "\""

abbrev pub field_text : (ℕ → List ℕ) → FieldShape → List ℕ
field_text again f = (if f.embedded then [] else f.name ++ codes " ") ++ again f.of.0 ++ tag_text f.tag

abbrev pub field_texts : (ℕ → List ℕ) → List FieldShape → List (List ℕ)
field_texts again [] = []
field_texts again (f ∷ fs) = field_text again f ∷ field_texts again fs

abbrev pub method_texts : (ℕ → List ℕ) → Typed → List MethodShape → List (List ℕ)
method_texts again t [] = []
method_texts again t (m ∷ ms) = (m.name ++ signature_text again t (shape t m.of.0)) ∷ method_texts again t ms

abbrev pub struct_text : List (List ℕ) → List ℕ
struct_text [] = codes "struct{}"
struct_text (x ∷ xs) = codes "struct{ " ++ joined (codes "; ") (x ∷ xs) ++ codes " }"

abbrev pub interface_text : List (List ℕ) → List ℕ
interface_text [] = codes "interface{}"
interface_text (x ∷ xs) = codes "interface{ " ++ joined (codes "; ") (x ∷ xs) ++ codes " }"

-- a channel that is only received from stands in parentheses behind `chan`
abbrev pub channel_text : List ℕ → Dir → Shape → List ℕ
channel_text of ways.Both (Chan ways.Receive other) = codes "chan (" ++ of ++ codes ")"
channel_text of ways.Both s = codes "chan " ++ of
channel_text of ways.Send s = codes "chan<- " ++ of
channel_text of ways.Receive s = codes "<-chan " ++ of

abbrev pub text_of_shape : (ℕ → List ℕ) → Typed → Shape → List ℕ
text_of_shape again t (Named decl under methods) = named_text t decl (decl_node t decl)
text_of_shape again t (Pointer to) = codes "*" ++ again to.0
text_of_shape again t (Array len of) = codes "[" ++ decimal len ++ codes "]" ++ again of.0
text_of_shape again t (Slice of) = codes "[]" ++ again of.0
text_of_shape again t (Map key value) = codes "map[" ++ again key.0 ++ codes "]" ++ again value.0
text_of_shape again t (Chan dir of) = channel_text (again of.0) dir (shape t of.0)
text_of_shape again t (Func params results variadic) = codes "func" ++ signature_text again t (Func params results variadic)
text_of_shape again t (Struct fields) = struct_text (field_texts again fields)
text_of_shape again t (Interface methods) = interface_text (method_texts again t methods)
text_of_shape again t _ = []

abbrev pub text_within : ℕ → Typed → ℕ → List ℕ
text_within zero t x = []
text_within (suc k) t x = text_of_shape (text_within k t) t (shape t x)

abbrev pub type_text : Typed → ℕ → List ℕ
type_text t x = text_within (length t.program.table) t x
