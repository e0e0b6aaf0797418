-- Fields and methods by name, also through embedded fields, and method sets (Go specification: Struct types, Method sets,
-- Selectors).
use Rattle.std.specs.Prelude.{ℕ, zero, suc, Bool, true, false, not, ◌&&◌, ◌||◌, ◌==◌, List, [], ◌∷◌, ◌++◌, map, Option, Some, None, option_map, if◌then◌else◌, codes}
use Rattle.argot_check_types.specs.Types.{Ty, named, pointer, structure, interface, field, method, behind_pointer, is_pointer}
use Rattle.argot_check_types.specs.Identity.{same_text, identical}
use Rattle.argot_check_types.specs.Known.{Method, Known, under_in}

-- a name, and the package that looks for it
pub record Wanted : Type 0 where
  pub name : List ℕ
  pub home : Option ℕ

-- the package can name what has this home
abbrev pub is_seen_by : Option ℕ → Option ℕ → Bool
is_seen_by None looks = true
is_seen_by (Some home) (Some looks) = home == looks
is_seen_by (Some home) None = false

abbrev pub is_wanted : Wanted → List ℕ → Option ℕ → Bool
is_wanted w name home = same_text w.name name && is_seen_by home w.home

-- a field that is gone through or selected: the type that has it (of a pointer the type behind it), and its number there
pub record Step : Type 0 where
  pub of : Ty
  pub field : ℕ

pub data Member : Type 0 where
  -- a field of this type
  a_field : (of : Ty) → Member
  -- a method that is declared for the holder
  a_method : (it : Method) → (holder : Ty) → Member
  -- a method of the interface that the holder is, of this function type
  an_interface_method : (of holder : Ty) → Member

-- a field or method, the fields on the way to it, itself as the last where it is a field, and whether the way goes through
-- a pointer
pub record Found : Type 0 where
  pub steps : List Step
  pub member : Member
  pub through : Bool

-- fields of that name, among fields the first of which has the number n
abbrev pub fields_found : Wanted → Ty → ℕ → Ty → List Found
fields_found w t n (field name home tag embedded of rest) =
    (if is_wanted w name home then record { steps = record { of = t; field = n } ∷ []; member = a_field of; through = false } ∷ [] else [])
    ++ fields_found w t (suc n) rest
fields_found w t n _ = []

-- methods of that name, of a declared type and of an interface
abbrev pub declared_found : Wanted → Ty → List Method → List Found
declared_found w t [] = []
declared_found w t (m ∷ ms) =
    (if is_wanted w m.name m.home then record { steps = []; member = a_method m t; through = false } ∷ [] else [])
    ++ declared_found w t ms

abbrev pub interface_found : Wanted → Ty → Ty → List Found
interface_found w t (method name home of rest) =
    (if is_wanted w name home then record { steps = []; member = an_interface_method of t; through = false } ∷ [] else [])
    ++ interface_found w t rest
interface_found w t _ = []

abbrev pub methods_of : Known → Ty → List Method
methods_of known (named d) = known.methods d
methods_of known _ = []

-- fields and methods that the form of a type has
abbrev pub form_found : Wanted → Ty → Ty → List Found
form_found w t (structure fields) = fields_found w t 0 fields
form_found w t (interface methods) = interface_found w t methods
form_found w t _ = []

-- those of the type itself
abbrev pub own_found : Known → Wanted → Ty → List Found
own_found known w t = declared_found w t (methods_of known t) ++ form_found w t (under_in known t)

-- an embedded field: the step to it, its type behind a pointer or none, and whether there is one
pub record Embedded : Type 0 where
  pub step : Step
  pub of : Ty
  pub pointer : Bool

abbrev pub embedded_fields : Ty → ℕ → Ty → List Embedded
embedded_fields t n (field name home tag true of rest) = record { step = record { of = t; field = n }; of = behind_pointer of; pointer = is_pointer of } ∷ embedded_fields t (suc n) rest
embedded_fields t n (field name home tag false of rest) = embedded_fields t (suc n) rest
embedded_fields t n _ = []

abbrev pub embedded_by : Ty → Ty → List Embedded
embedded_by t (structure fields) = embedded_fields t 0 fields
embedded_by t _ = []

abbrev pub embedded_in : Known → Ty → List Embedded
embedded_in known t = embedded_by t (under_in known t)

-- what is found in an embedded field, seen from outside
abbrev pub seen_through : Embedded → Found → Found
seen_through e f = record { steps = e.step ∷ f.steps; member = f.member; through = e.pointer || f.through }

abbrev pub found_through : (Ty → List Found) → List Embedded → List Found
found_through inside [] = []
found_through inside (e ∷ es) = map (seen_through e) (inside e.of) ++ found_through inside es

-- all of that name at one depth: behind so many embedded fields. What two ways lead to stands there twice
abbrev pub found_at : Known → Wanted → ℕ → Ty → List Found
found_at known w zero t = own_found known w t
found_at known w (suc depth) t = found_through (found_at known w depth) (embedded_in known t)

-- the one that is found, if there is exactly one
abbrev pub the_one : List Found → Option Found
the_one (f ∷ []) = Some f
the_one _ = None

-- at the least depth, from one on, at which there is any
abbrev pub least_found : Known → Wanted → Ty → (more depth : ℕ) → Option Found
least_found known w t zero depth = None
least_found known w t (suc more) depth = elim (found_at known w depth t) [ [] ↦ least_found known w t more (suc depth) | f ∷ fs ↦ the_one (f ∷ fs) ]

abbrev pub found_in : Known → Wanted → Ty → Option Found
found_in known w t = least_found known w t known.depth 0

-- no field or method is selected through a pointer to such a type
abbrev pub is_opaque : Ty → Bool
is_opaque (pointer t) = true
is_opaque (interface t) = true
is_opaque _ = false

abbrev pub by_pointer : Found → Found
by_pointer f = record f { through = true }

abbrev pub found_behind : Known → Wanted → Ty → Option Found
found_behind known w t = if is_opaque (under_in known t) then None else option_map by_pointer (found_in known w t)

abbrev pub is_field : Member → Bool
is_field (a_field of) = true
is_field _ = false

abbrev pub field_alone : Option Found → Option Found
field_alone None = None
field_alone (Some f) = if is_field f.member then Some f else None

-- a declared pointer type has the fields behind it, and no methods
abbrev pub selected_by : Known → Wanted → Ty → Ty → Option Found
selected_by known w t (pointer to) = field_alone (found_behind known w to)
selected_by known w t _ = found_in known w t

-- what a selector of that name selects in a type
abbrev pub selected : Known → Wanted → Ty → Option Found
selected known w (pointer t) = found_behind known w t
selected known w t = selected_by known w t (under_in known t)

-- a selected method is in the method set where its receiver can be had: it is no pointer, or one was gone through
abbrev pub is_in_set : Member → Bool → Bool
is_in_set (a_field of) through = false
is_in_set (a_method it holder) through = not it.pointer || through
is_in_set (an_interface_method of holder) through = true

-- the method of that name in the method set of a type; `_` is in none
abbrev pub method_found : Known → Wanted → Ty → Option Found
method_found known w t = elim (selected known w t) [ None ↦ None | Some f ↦ if is_in_set f.member f.through && not (same_text w.name (codes "_")) then Some f else None ]

-- the method has this function type
abbrev pub is_of_type : Known → Ty → Member → Bool
is_of_type known t (a_field of) = false
is_of_type known t (a_method it holder) = elim (known.signature it.node) [ None ↦ false | Some u ↦ identical u t ]
is_of_type known t (an_interface_method of holder) = identical of t

abbrev pub has_method : Known → Ty → List ℕ → Option ℕ → Ty → Bool
has_method known t name home of = elim (method_found known (record { name = name; home = home }) t) [ None ↦ false | Some f ↦ is_of_type known of f.member ]

-- the method set has each of these methods of an interface
abbrev pub implements : Known → Ty → Ty → Bool
implements known t (method name home of rest) = has_method known t name home of && implements known t rest
implements known t _ = true

-- the declared methods that a type has for those of an interface
abbrev pub declared_by : Member → List Method
declared_by (a_method it holder) = it ∷ []
declared_by _ = []

abbrev pub declared_in : Option Found → List Method
declared_in None = []
declared_in (Some f) = declared_by f.member

abbrev pub methods_for : Known → Ty → Ty → List Method
methods_for known t (method name home of rest) = declared_in (selected known (record { name = name; home = home }) t) ++ methods_for known t rest
methods_for known t _ = []
