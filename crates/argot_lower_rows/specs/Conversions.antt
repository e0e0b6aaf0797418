-- Conversions. An implicit one has an instruction only where an interface is wanted: a box where the value's type is none.
use Rattle.std.specs.Prelude.{ℕ, ◌+◌, ◌==◌, Bool, true, false, not, ◌||◌, List, [], ◌∷◌, if◌then◌else◌}
use Rattle.argot_text.specs.declared.path.PathStep.TheVariants.{Element}
use Rattle.argot_text.specs.declared.position.Pos.{Pos}
use Rattle.argot_plain.specs.declared.instructions.Callee.TheVariants.{Static}
use Rattle.argot_plain.specs.declared.instructions.Kind.TheVariants.{Op, Move, Step, Write, Call}
use Rattle.argot_typed.specs.declared.shape.Shape.{Shape}
use Rattle.argot_typed.specs.declared.shape.Shape.TheVariants.{Chars, Whole, Array, Slice, Interface}
use Rattle.argot_lower_scripts.specs.Script.{Script, take, note, Boxed, Called}
use Rattle.argot_lower_scripts.specs.Words.{scalar, answer, does, one, plain, new, load, value}
use Rattle.argot_lower_locals.specs.Typed.{Typed}
use Rattle.argot_lower_locals.specs.Nodes.{written, node_count}
use Rattle.argot_lower_locals.specs.Types.{shape, form, leaves, value_type, is_interface, is_any}
use Rattle.argot_lower_locals.specs.Names.{is_nil}
use Rattle.argot_lower_rows.specs.Sites.{variable_site, parts_site}

-- what a value is wanted as: as it is, as this type, as `any`
pub data Wanted : Type 0 where
  AsItIs : Wanted
  AsType : ℕ → Wanted
  AsAny : Wanted

abbrev pub wants_interface : Typed → Wanted → Bool
wants_interface t AsItIs = false
wants_interface t (AsType x) = is_interface (form t x)
wants_interface t AsAny = true

abbrev pub is_wanted : Typed → ℕ → Wanted → Bool
is_wanted t v AsItIs = true
is_wanted t v (AsType x) = v == x
is_wanted t v AsAny = is_any (shape t v)

-- r := New (a box), Write r a
abbrev pub boxed : Typed → Pos → ℕ → ℕ → (ℕ → Script) → Script
boxed t p v a k = note (Boxed v) (new p (variable_site t v) (λ r. does p (Write r a) (k r)))

-- a value of the type v, converted at a place of the text
abbrev pub converted : Typed → Pos → ℕ → Wanted → ℕ → (ℕ → Script) → Script
converted t p v w a k =
    if not (wants_interface t w) || is_wanted t v w then k a
    else (if is_interface (form t v) then one p (λ r. Move r a []) k
    else boxed t p v a k)

-- the value a of a node, converted at the node as it is written
abbrev pub converted_from : Typed → ℕ → Wanted → ℕ → (ℕ → Script) → Script
converted_from t n w a k = if is_nil t n then k a else converted t (written t n) (value_type t n) w a k

-- the value of a node below, converted
abbrev pub value_as : Typed → ℕ → Wanted → (ℕ → Script) → Script
value_as t n w k = value n (λ a. converted_from t n w a k)

-- the values of nodes, each wanted as this type
abbrev pub values_as : Typed → Wanted → List ℕ → (List ℕ → Script) → Script
values_as t w [] k = k []
values_as t w (n ∷ ns) k = value_as t n w (λ a. values_as t w ns (λ rs. k (a ∷ rs)))

-- registers of these types, converted from left to right at one place of the text
abbrev pub all_converted : Typed → Pos → List ℕ → List Wanted → List ℕ → (List ℕ → Script) → Script
all_converted t p (v ∷ vs) (w ∷ ws) (a ∷ rest) k = converted t p v w a (λ b. all_converted t p vs ws rest (λ bs. k (b ∷ bs)))
all_converted t p _ _ _ k = k []

-- the names of the functions that no text declares: those of `print` and `println`, and the one that makes a text of a slice
abbrev pub print_name : Typed → ℕ
print_name t = node_count t

abbrev pub println_name : Typed → ℕ
println_name t = node_count t + 1

abbrev pub text_name : Typed → ℕ
text_name t = node_count t + 2

-- what an explicit conversion does with a value, by the forms of its type and of the wanted one
pub data Change : Type 0 where
  Computes : Change
  MakesSlice : Change
  MakesText : Change
  LoadsArray : Change
  Boxes : Change
  Keeps : Change

-- texts and whole numbers are told apart by their forms alone
abbrev pub change_of : Shape → Shape → Change
change_of (Interface methods) (Interface others) = Keeps
change_of v (Interface methods) = Boxes
change_of (Whole bits signed) (Whole others also) = Computes
change_of (Whole bits signed) Chars = Computes
change_of Chars (Slice of) = MakesSlice
change_of (Slice of) Chars = MakesText
change_of (Slice of) (Array len others) = LoadsArray
change_of v w = Keeps

-- an explicit conversion of the value a of the node x, to the type w
abbrev pub changed : Typed → Pos → ℕ → ℕ → ℕ → Change → (ℕ → Script) → Script
changed t p x w a Computes k = one p (λ r. Op r (a ∷ [])) k
changed t p x w a MakesSlice k =
    new p (parts_site t w) (λ r.
    one p (λ q. Step q r (Element ∷ [])) (λ q.
    one p (λ o. Op o (a ∷ [])) (λ o.
    does p (Write q o) (
    k r))))
changed t p x w a MakesText k = take scalar (λ r. note (Called (text_name t)) (does p (Call (r ∷ []) (Static (text_name t)) (a ∷ [])) (k r)))
changed t p x w a LoadsArray k = load p (leaves t w) [] a k
changed t p x w a Boxes k = boxed t (written t x) (value_type t x) a k
changed t p x w a Keeps k = plain p (leaves t w) (λ r. Move r a []) k

-- T(x)
abbrev pub conversion_row : Typed → Pos → ℕ → ℕ → Script
conversion_row t p x w = value x (λ a. if is_nil t x then answer a else changed t p x w a (change_of (form t (value_type t x)) (form t w)) answer)
