-- Selectors of fields, one field at a time, and what a method takes as its receiver.
use Rattle.std.specs.Prelude.{ℕ, Bool, true, false, not, ◌&&◌, ◌||◌, List, [], ◌∷◌, ◌++◌, if◌then◌else◌}
use Rattle.argot_plain.specs.declared.instructions.Kind.TheVariants.{Move, Step}
use Rattle.argot_plain.specs.declared.instructions.Tag.{Tag}
use Rattle.argot_text.specs.declared.path.PathStep.{PathStep}
use Rattle.argot_text.specs.declared.path.PathStep.TheVariants.{Field}
use Rattle.argot_text.specs.declared.position.Pos.{Pos}
use Rattle.argot_lower_scripts.specs.Script.{Part, Reference, Script, part}
use Rattle.argot_lower_scripts.specs.Words.{scalar, first, answer, make, plain, one, load, value}
use Rattle.argot_lower_locals.specs.Typed.{Typed, FieldStep, MethodOf}
use Rattle.argot_lower_locals.specs.Nodes.{at}
use Rattle.argot_lower_locals.specs.Types.{form, leaves, leaves_at, value_type, value_form, step_type, element_of, is_pointer, is_interface}
use Rattle.argot_lower_locals.specs.Variables.{is_pointer_step}
use Rattle.argot_lower_locals.specs.Places.{has_place, field_tag, tags, start_tags}

-- a walk is at a reference or at a value
pub data Going : Type 0 where
  AtReference : Going
  AtValue : Going

-- where a walk from x starts: behind a pointer, at the place of x, or at its value
abbrev pub start : ℕ → Bool → Bool → (Going → ℕ → Script) → Script
start x pointer placed k =
    if pointer then value x (λ a. k AtReference a)
    else (if placed then part Reference x (λ rs. k AtReference (first rs))
    else part Part x (λ rs. k AtValue (first rs)))

abbrev pub started : Typed → ℕ → (Going → ℕ → Script) → Script
started t x k = start x (is_pointer (value_form t x)) (has_place t x) k

-- the path of one field
abbrev pub to_field : FieldStep → List PathStep
to_field s = Field s.field ∷ []

-- along the fields: a Step at a reference, a Move at a value; a pointer that isn't the last of them is read, and the walk goes
-- on at its reference. `inner`: the place expression goes on behind the last field
abbrev pub walk : Typed → Pos → Bool → List Tag → List FieldStep → Going → ℕ → (Going → ℕ → Script) → Script
walk t p inner tags [] going a k = k going a
walk t p inner tags (s ∷ []) AtReference a k = one p (λ r. Step r a (to_field s)) (λ b. k AtReference b)
walk t p inner tags (s ∷ []) AtValue a k =
    make p (leaves t (step_type t s)) (if inner then [] else tags ++ field_tag t s ∷ []) (λ r. Move r a (to_field s)) (λ b. k AtValue b)
walk t p inner tags (s ∷ q ∷ ss) AtReference a k =
    one p (λ r. Step r a (to_field s)) (λ b.
    if is_pointer_step t s then load p scalar (tags ++ field_tag t s ∷ []) b (λ c. walk t p inner [] (q ∷ ss) AtReference c k)
    else walk t p inner (tags ++ field_tag t s ∷ []) (q ∷ ss) AtReference b k)
walk t p inner tags (s ∷ q ∷ ss) AtValue a k =
    if is_pointer_step t s then make p (leaves t (step_type t s)) (tags ++ field_tag t s ∷ []) (λ r. Move r a (to_field s)) (λ b. walk t p inner [] (q ∷ ss) AtReference b k)
    else plain p (leaves t (step_type t s)) (λ r. Move r a (to_field s)) (λ b. walk t p inner (tags ++ field_tag t s ∷ []) (q ∷ ss) AtValue b k)

-- at the end of a walk to a field: a reference is read, a value is the answer
abbrev pub at_end : Typed → ℕ → Going → ℕ → Script
at_end t n AtReference a = load (at t n) (leaves_at t n) (tags t n) a answer
at_end t n AtValue a = answer a

-- x.f
abbrev pub selector_row : Typed → ℕ → Bool → ℕ → List FieldStep → Script
selector_row t n inner x steps = started t x (λ going a. walk t (at t n) inner (start_tags t x) steps going a (at_end t n))

-- the reference to x.f
abbrev pub selector_reference_row : Typed → ℕ → ℕ → List FieldStep → Script
selector_reference_row t n x steps = started t x (λ going a. walk t (at t n) false (start_tags t x) steps going a (λ _ b. answer b))

-- a declared method with a pointer receiver
abbrev pub takes_pointer : Typed → MethodOf → Bool
takes_pointer t m = m.method.pointer && not (is_interface (form t m.holder))

abbrev pub is_last : List FieldStep → Bool
is_last [] = true
is_last (s ∷ ss) = false

-- what a method takes, along the embedded fields from a value of this type; here the last embedded pointer is followed too
abbrev pub received : Typed → Pos → MethodOf → List Tag → List FieldStep → ℕ → Going → ℕ → (ℕ → Script) → Script
received t p m tags [] x AtReference a k = if takes_pointer t m then k a else load p (leaves t x) tags a k
received t p m tags [] x AtValue a k = k a
received t p m tags (s ∷ ss) x AtReference a k =
    one p (λ r. Step r a (to_field s)) (λ b.
    if is_pointer_step t s then load p scalar (tags ++ field_tag t s ∷ []) b (λ c. received t p m [] ss (element_of (form t (step_type t s))) AtReference c k)
    else received t p m (tags ++ field_tag t s ∷ []) ss (step_type t s) AtReference b k)
received t p m tags (s ∷ ss) x AtValue a k =
    make p (leaves t (step_type t s)) (if is_pointer_step t s || is_last ss then tags ++ field_tag t s ∷ [] else []) (λ r. Move r a (to_field s)) (λ b.
    if is_pointer_step t s then received t p m [] ss (element_of (form t (step_type t s))) AtReference b k
    else received t p m (tags ++ field_tag t s ∷ []) ss (step_type t s) AtValue b k)

-- from a value, behind it where it is a pointer
abbrev pub received_from : Typed → Pos → MethodOf → List FieldStep → ℕ → ℕ → (ℕ → Script) → Script
received_from t p m steps x a k =
    if is_pointer (form t x) then received t p m [] steps (element_of (form t x)) AtReference a k
    else received t p m [] steps x AtValue a k

-- the receiver of x.m: where no embedded field is gone through, x itself or the reference to its place; else the walk
abbrev pub receiver : Typed → ℕ → ℕ → List FieldStep → MethodOf → (ℕ → Script) → Script
receiver t n x steps m k =
    if is_last steps && is_interface (form t m.holder) then value x k
    else (if is_pointer (value_form t x) then value x (λ a. received_from t (at t n) m steps (value_type t x) a k)
    else (if is_last steps then (if takes_pointer t m then part Reference x (λ rs. k (first rs)) else value x k)
    else started t x (λ going a. received t (at t n) m (tags t x) steps (value_type t x) going a k)))
