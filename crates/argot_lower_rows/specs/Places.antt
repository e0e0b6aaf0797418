-- Places that are assigned: their operands, loads and stores.
use Rattle.std.specs.Prelude.{ℕ, zero, suc, Bool, false, List, [], ◌∷◌, ◌++◌, codes, map, Option, Some, None, bytes_eq, if◌then◌else◌}
use Rattle.argot_plain.specs.declared.instructions.Kind.TheVariants as kinds
use Rattle.argot_text.specs.declared.path.PathStep.{PathStep}
use Rattle.argot_text.specs.declared.path.PathStep.TheVariants.{Field, Key, Value}
use Rattle.argot_text.specs.declared.position.Pos.{Pos}
use Rattle.argot_tree.specs.declared.node_kind.NodeKind.{NodeKind}
use Rattle.argot_tree.specs.declared.node_kind.NodeKind.TheVariants as nodes
use Rattle.argot_lower_scripts.specs.Script.{Reference, Script, take, part, sets, gets}
use Rattle.argot_lower_scripts.specs.Words.{first, does, make, one, plain, new, load as loaded, load_at, put_at, value}
use Rattle.argot_lower_locals.specs.Typed.{Typed, FieldStep, Selected}
use Rattle.argot_lower_locals.specs.Nodes.{holds, kind, kids, strip, at, written, text_of, node_count}
use Rattle.argot_lower_locals.specs.Types.{leaves_at, value_type, value_form, key_of, is_map}
use Rattle.argot_lower_locals.specs.Names.{Meaning, Global, meaning_of, declaration_at, selected}
use Rattle.argot_lower_locals.specs.Variables.{Root, root, is_object}
use Rattle.argot_lower_locals.specs.Places.{has_place, held, tags}
use Rattle.argot_lower_locals.specs.Globals.{decl_type, decl_leaves, global_number}
use Rattle.argot_lower_rows.specs.Sites.{variable_site}
use Rattle.argot_lower_rows.specs.Conversions.{Wanted, AsItIs, AsType, converted, converted_from}

-- nothing is kept; a register; a part of a register; what a reference refers to; the value of a map at a key
pub data Place : Type 0 where
  Blank : Place
  Whole : ℕ → Place
  Below : ℕ → List PathStep → Place
  Through : ℕ → Place
  Entry : ℕ → ℕ → Place

-- the value of a node below, moved to a register of its own: a = value e; r := Move a, at e as it is written
abbrev pub temporary : Typed → ℕ → (ℕ → Script) → Script
temporary t n k = value n (λ a. plain (written t n) (leaves_at t n) (λ r. kinds.Move r a []) k)

abbrev pub is_held_among : List ℕ → Option ℕ → Bool
is_held_among among None = false
is_held_among among (Some d) = holds d among

-- the value of an operand, kept apart where it stands in the register of a variable that the statement assigns
abbrev pub kept : Typed → List ℕ → ℕ → (ℕ → Script) → Script
kept t among n k = if is_held_among among (held t n) then temporary t n k else value n k

-- a variable from its declaration on: an object is made at its name, a register is taken
abbrev pub declare_local : Typed → Pos → ℕ → (Place → Script) → Script
declare_local t p d k =
    if is_object t d then new p (variable_site t (decl_type t d)) (λ r. sets d r (k (Through r)))
    else take (decl_leaves t d) (λ r. sets d r (k (Whole r)))

abbrev pub declare_by : Typed → Pos → ℕ → Meaning → (Place → Script) → Script
declare_by t p d (Global g) k = one p (λ r. kinds.Global r (global_number t d)) (λ r. k (Through r))
declare_by t p d _ k = declare_local t p d k

abbrev pub declare : Typed → Pos → ℕ → (Place → Script) → Script
declare t p d k = declare_by t p d (meaning_of t d) k

abbrev pub path_of_steps : List FieldStep → List PathStep
path_of_steps steps = map (λ (s : FieldStep). Field s.field) steps

abbrev pub path_of_selected : Option Selected → List PathStep
path_of_selected None = []
path_of_selected (Some s) = path_of_steps s.steps

abbrev pub path_by : Typed → (ℕ → List PathStep) → ℕ → NodeKind → List ℕ → List PathStep
path_by t again n nodes.Parens (x ∷ []) = again x
path_by t again n nodes.Selector (x ∷ m ∷ []) = again x ++ path_of_selected (selected t n)
path_by t again n _ _ = []

abbrev pub path_within : ℕ → Typed → ℕ → List PathStep
path_within zero t n = []
path_within (suc k) t n = path_by t (path_within k t) n (kind t n) (kids t n)

-- the fields by which an expression is a part of its variable
abbrev pub path_in_root : Typed → ℕ → List PathStep
path_in_root t n = path_within (node_count t) t n

abbrev pub part_of : ℕ → List PathStep → Place
part_of r [] = Whole r
part_of r (s ∷ ss) = Below r (s ∷ ss)

-- a register variable, or a part of it by fields
abbrev pub register_place : Typed → ℕ → Option Root → (Place → Script) → Script
register_place t n None k = k Blank
register_place t n (Some found) k = gets found.decl (λ r. k (part_of r (path_in_root t n)))

abbrev pub other_place : Typed → ℕ → (Place → Script) → Script
other_place t n k = if has_place t n then part Reference n (λ rs. k (Through (first rs))) else register_place t n (root t n) k

abbrev pub named_place : Typed → ℕ → Option ℕ → (Place → Script) → Script
named_place t n None k = other_place t n k
named_place t n (Some d) k = declare t (at t n) d k

abbrev pub is_blank : Typed → ℕ → Bool
is_blank t n = bytes_eq (text_of t n) (codes "_")

abbrev pub map_place : Typed → List ℕ → ℕ → ℕ → (Place → Script) → Script
map_place t among x i k = kept t among x (λ m. kept t among i (λ a. converted_from t i (AsType (key_of (value_form t x))) a (λ b. k (Entry m b))))

-- the place of an operand, parentheses passed over: `_`, a name that is declared here, an element of a map, what a pointer leads
-- to, what has a place, a part of a register variable
abbrev pub place_by : Typed → List ℕ → ℕ → NodeKind → List ℕ → (Place → Script) → Script
place_by t among n nodes.DeclName _ k = if is_blank t n then k Blank else named_place t n (declaration_at t n) k
place_by t among n nodes.NameUse _ k = if is_blank t n then k Blank else named_place t n (declaration_at t n) k
place_by t among n nodes.Index (x ∷ i ∷ []) k = if is_map (value_form t x) then map_place t among x i k else other_place t n k
place_by t among n nodes.Deref (x ∷ []) k = kept t among x (λ a. k (Through a))
place_by t among n _ _ k = other_place t n k

abbrev pub place : Typed → List ℕ → ℕ → (Place → Script) → Script
place t among n k = place_by t among (strip t n) (kind t (strip t n)) (kids t (strip t n)) k

-- the places of operands, from left to right
abbrev pub places : Typed → List ℕ → List ℕ → (List Place → Script) → Script
places t among [] k = k []
places t among (n ∷ ns) k = place t among n (λ q. places t among ns (λ qs. k (q ∷ qs)))

-- what is stored is wanted as the place's type; `_` takes it as it is
abbrev pub wanted_by : Typed → ℕ → Place → Wanted
wanted_by t n Blank = AsItIs
wanted_by t n _ = AsType (value_type t n)

-- a converted value into a place
abbrev pub put_to : Pos → Place → ℕ → Script → Script
put_to p Blank a c = c
put_to p (Whole r) a c = does p (kinds.Move r a []) c
put_to p (Below r path) a c = does p (kinds.Join r (([], r) ∷ (path, a) ∷ [])) c
put_to p (Through q) a c = does p (kinds.Write q a) c
put_to p (Entry m k) a c = put_at p m Key k (put_at p m Value a c)

-- a value of the type v into the place of an operand, converted at a place of the text
abbrev pub store : Typed → Pos → ℕ → Place → ℕ → ℕ → Script → Script
store t p n q v a c = converted t p v (wanted_by t n q) a (λ b. put_to (at t n) q b c)

-- converted values into the places of operands, from left to right
abbrev pub stores : Typed → List ℕ → List Place → List ℕ → Script → Script
stores t (n ∷ ns) (q ∷ qs) (a ∷ rest) c = put_to (at t n) q a (stores t ns qs rest c)
stores t _ _ _ c = c

-- what stands in the place of an operand
abbrev pub load : Typed → ℕ → Place → (ℕ → Script) → Script
load t n Blank k = k 0
load t n (Whole r) k = k r
load t n (Below r path) k = make (at t n) (leaves_at t n) (tags t n) (λ o. kinds.Move o r path) k
load t n (Through q) k = loaded (at t n) (leaves_at t n) (tags t n) q k
load t n (Entry m k) c = load_at (at t n) (leaves_at t n) m Value c
