-- Loops.
use Rattle.std.specs.Prelude.{ℕ, Bool, false, not, ◌&&◌, List, [], ◌∷◌, filter_map, Option, Some, None, if◌then◌else◌}
use Rattle.argot_plain.specs.declared.instructions.Kind.TheVariants.{Op, Move, New, Write, Goto}
use Rattle.argot_text.specs.declared.path.PathStep.TheVariants.{Element, Key, Value}
use Rattle.argot_text.specs.declared.position.Pos.{Pos}
use Rattle.argot_tree.specs.declared.node_kind.NodeKind.{NodeKind}
use Rattle.argot_tree.specs.declared.node_kind.NodeKind.TheVariants as nodes
use Rattle.argot_typed.specs.declared.shape.Shape.{Shape}
use Rattle.argot_typed.specs.declared.shape.Shape.TheVariants.{Chars, Whole, Pointer, Array, Map, Chan}
use Rattle.argot_lower_scripts.specs.Script.{Around, Statement, Script, now, until, part, site, gets}
use Rattle.argot_lower_scripts.specs.Words.{nothing, does, one, plain, load, load_at, or_at, go_on, value}
use Rattle.argot_lower_locals.specs.Typed.{Typed}
use Rattle.argot_lower_locals.specs.Nodes.{kind, kids, at, written}
use Rattle.argot_lower_locals.specs.Types.{form, leaves, value_type, value_form, element_of}
use Rattle.argot_lower_locals.specs.Names.{declaration_at}
use Rattle.argot_lower_locals.specs.Variables.{is_object, assigned_registers, is_assigned_in}
use Rattle.argot_lower_locals.specs.Places.{held}
use Rattle.argot_lower_locals.specs.Globals.{decl_type, decl_leaves, int_type, rune_type, has_turn_variables}
use Rattle.argot_lower_rows.specs.Sites.{variable_site}
use Rattle.argot_lower_rows.specs.Operators.{from_channel}
use Rattle.argot_lower_rows.specs.Places.{Place, Through, place, declare_local, temporary, store}
use Rattle.argot_lower_rows.specs.Assignments.{is_several}
use Rattle.argot_lower_rows.specs.Around.{in_loop}

-- the condition: a = value c; Branch next end. Without one: Goto next
abbrev pub tested : Pos → Option ℕ → ℕ → Script → Script
tested p None end c = go_on p c
tested p (Some n) end c = value n (λ _. or_at p end c)

-- an object of a variable that a node declares
pub record NewObject : Type 0 where
  pub node : ℕ
  pub decl : ℕ

abbrev pub new_object_of : Typed → ℕ → Option ℕ → Option NewObject
new_object_of t n None = None
new_object_of t n (Some d) = if is_object t d then Some (record { node = n; decl = d }) else None

-- the objects that these names declare, in order
abbrev pub new_objects : Typed → List ℕ → List NewObject
new_objects t names = filter_map (λ n. new_object_of t n (declaration_at t n)) names

-- for the next turn: v := Read n; n = New, again its register; Write n v
abbrev pub renewed : Typed → List NewObject → Script → Script
renewed t [] c = c
renewed t (o ∷ os) c =
    gets o.decl (λ h.
    load (at t o.node) (decl_leaves t o.decl) [] h (λ v.
    site (variable_site t (decl_type t o.decl)) (λ s.
    does (at t o.node) (New h s) (
    does (at t o.node) (Write h v) (
    renewed t os c)))))

abbrev pub names_by : Typed → NodeKind → List ℕ → List ℕ
names_by t nodes.Define (xs ∷ es ∷ []) = kids t xs
names_by t _ _ = []

-- the names that the `:=` of a loop's head declares
abbrev pub names_of_head : Typed → List ℕ → List ℕ
names_of_head t (n ∷ []) = names_by t (kind t n) (kids t n)
names_of_head t _ = []

-- the variables of the head that each turn has anew
abbrev pub turn_objects : Typed → ℕ → List NewObject
turn_objects t head = if has_turn_variables t then new_objects t (names_of_head t (kids t head)) else []

-- top: condition; A; cont: the next turn's variables; post; Goto top; end:
abbrev pub loop : Typed → ℕ → Around → Option ℕ → List NewObject → (Script → Script) → ℕ → Script
loop t n w c turns post body =
    now (λ top.
    until (λ end.
    tested (written t n) c end (
    until (λ again.
    part (Statement (in_loop t n end again w)) body (λ _.
    nothing)) (λ _.
    renewed t turns (
    post (
    does (written t n) (Goto top) nothing))))) (λ _.
    nothing))

abbrev pub no_post : Script → Script
no_post c = c

abbrev pub posted : Around → ℕ → Script → Script
posted w n c = part (Statement w) n (λ _. c)

-- for c { A }, for { A }
abbrev pub while_row : Typed → ℕ → Around → List ℕ → Script
while_row t n w (body ∷ []) = loop t n w None [] no_post body
while_row t n w (c ∷ body ∷ []) = loop t n w (Some c) [] no_post body
while_row t n w _ = nothing

-- for init; c; post { A }
abbrev pub for_row : Typed → ℕ → Around → List ℕ → Script
for_row t n w (init ∷ post ∷ body ∷ []) = part (Statement w) init (λ _. loop t n w None (turn_objects t init) (posted w post) body)
for_row t n w (init ∷ c ∷ post ∷ body ∷ []) = part (Statement w) init (λ _. loop t n w (Some c) (turn_objects t init) (posted w post) body)
for_row t n w _ = nothing

abbrev pub is_kept_by : Typed → ℕ → Option ℕ → Bool
is_kept_by t n None = false
is_kept_by t n (Some d) = is_assigned_in t n d

-- what is ranged over; where it stands in the register of a variable that the loop assigns, it is moved to a temporary
abbrev pub ranged : Typed → ℕ → ℕ → (ℕ → Script) → Script
ranged t n x k = if is_kept_by t n (held t x) then temporary t x k else value x k

abbrev pub declare_objects : Typed → List NewObject → Script → Script
declare_objects t [] c = c
declare_objects t (o ∷ os) c = declare_local t (at t o.node) o.decl (λ _. declare_objects t os c)

abbrev pub place_declared : Typed → List ℕ → ℕ → Option ℕ → (Place → Script) → Script
place_declared t among n None k = place t among n k
place_declared t among n (Some d) k = if is_object t d then gets d (λ q. k (Through q)) else place t among n k

-- the places of a loop's left operands: an object that is declared there stands already
abbrev pub places_of_range : Typed → List ℕ → List ℕ → (List Place → Script) → Script
places_of_range t among [] k = k []
places_of_range t among (n ∷ ns) k = place_declared t among n (declaration_at t n) (λ q. places_of_range t among ns (λ qs. k (q ∷ qs)))

-- a value of a turn, and its type
pub record Given : Type 0 where
  pub register : ℕ
  pub of : ℕ

abbrev pub key_type : Typed → ℕ → Shape → ℕ
key_type t x (Map key value) = key.0
key_type t x (Whole bits signed) = value_type t x
key_type t x _ = int_type t

-- the key of a turn
abbrev pub key_given : Typed → Pos → ℕ → ℕ → Shape → (Given → Script) → Script
key_given t p x r (Map key value) k = load_at p (leaves t key.0) r Key (λ a. k (record { register = a; of = key.0 }))
key_given t p x r s k = one p (λ o. Op o []) (λ a. k (record { register = a; of = key_type t x s }))

abbrev pub value_given_as : ℕ → (Given → Script) → ℕ → Script
value_given_as x k a = k (record { register = a; of = x })

-- the value of a turn
abbrev pub value_given : Typed → Pos → ℕ → Shape → (Given → Script) → Script
value_given t p r Chars k = one p (λ o. Op o (r ∷ [])) (value_given_as (rune_type t) k)
value_given t p r (Array len of) k = plain p (leaves t of.0) (λ v. Move v r (Element ∷ [])) (value_given_as of.0 k)
value_given t p r (Map key value) k = load_at p (leaves t value.0) r Value (value_given_as value.0 k)
value_given t p r (Pointer to) k = load_at p (leaves t (element_of (form t to.0))) r Element (value_given_as (element_of (form t to.0)) k)
value_given t p r s k = load_at p (leaves t (element_of s)) r Element (value_given_as (element_of s) k)

-- what a turn gives for so many left operands; a channel is received from always
abbrev pub turn_given : Typed → Pos → ℕ → ℕ → List ℕ → Shape → (List Given → Script) → Script
turn_given t p x r lefts (Chan dir of) k = from_channel p (leaves t of.0) r (λ a. k (record { register = a; of = of.0 } ∷ []))
turn_given t p x r [] s k = k []
turn_given t p x r (n ∷ []) s k = key_given t p x r s (λ a. k (a ∷ []))
turn_given t p x r (n ∷ m ∷ ns) s k = key_given t p x r s (λ a. value_given t p r s (λ b. k (a ∷ b ∷ [])))

-- into the places, each converted at its left operand
abbrev pub stores_given : Typed → List ℕ → List Place → List Given → Script → Script
stores_given t (n ∷ ns) (q ∷ qs) (g ∷ gs) c = store t (at t n) n q g.of g.register (stores_given t ns qs gs c)
stores_given t _ _ _ c = c

-- the objects that a `range` declares before its loop, and those that each turn has anew
abbrev pub objects_before : Typed → Bool → List ℕ → List NewObject
objects_before t define lefts = if define && not (has_turn_variables t) then new_objects t lefts else []

abbrev pub objects_in : Typed → Bool → List ℕ → List NewObject
objects_in t define lefts = if define && has_turn_variables t then new_objects t lefts else []

abbrev pub among_lefts : Typed → Bool → List ℕ → List ℕ
among_lefts t define lefts = if not define && is_several lefts then assigned_registers t lefts else []

-- for k, v = range x { A }
abbrev pub range_row : Typed → ℕ → Around → Bool → List ℕ → ℕ → ℕ → Script
range_row t n w define lefts x body =
    ranged t n x (λ r.
    declare_objects t (objects_before t define lefts) (
    now (λ top.
    until (λ end.
    or_at (written t n) end (
    declare_objects t (objects_in t define lefts) (
    places_of_range t (among_lefts t define lefts) lefts (λ qs.
    turn_given t (written t n) x r lefts (value_form t x) (λ gs.
    stores_given t lefts qs gs (
    part (Statement (in_loop t n end top w)) body (λ _.
    does (written t n) (Goto top) nothing))))))) (λ _.
    nothing))))
