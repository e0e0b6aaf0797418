-- What rules ask by type: what is under a type, under what is embedded in it, whether it can be compared, the signatures
-- of methods, and whether a value fits a type.
use Rattle.std.specs.Prelude.{ℕ, zero, suc, Bool, true, false, ◌&&◌, ◌==◌, List, [], ◌∷◌, ◌++◌, map, Option, Some, None, if◌then◌else◌}
use Rattle.argot_check_asking.specs.Rules.{AskMaybe, AskAll, Say, each}
use Rattle.argot_check_types.specs.Types.{Ty, basic, named, structure, interface, untyped, field, nothing, under_basic, behind_pointer}
use Rattle.argot_check_types.specs.Facts.{Value, Fact, value, under, comparable, type_in}
use Rattle.argot_check_types.specs.Known.{Method, Known}
use Rattle.argot_check_types.specs.Members.{methods_for}
use Rattle.argot_check_types.specs.Comparable.{held_in, is_comparable_form}
use Rattle.argot_check_types.specs.Assignable.{fits}
use Rattle.argot_check_rules.specs.Rows.{Row, ComparableAt, Rule, Setting}

-- the row that says what is under a type
abbrev pub declaration_of : Setting → Ty → Option Row
declaration_of s (named d) = s.declaration d
declaration_of s t = None

-- and what it says; nothing where there is no such row
abbrev pub under_in_fact : Fact → Ty
under_in_fact (under t) = t
under_in_fact _ = nothing

abbrev pub under_by : Ty → Option Fact → Ty
under_by (basic b) a = under_basic b
under_by (named d) None = nothing
under_by (named d) (Some f) = under_in_fact f
under_by t a = t

-- goes on with the type under a type
abbrev pub asks_under : Setting → Ty → (Ty → Rule) → Rule
asks_under s t k = AskMaybe (declaration_of s t) (λ a. k (under_by t a))

-- goes on with the types under several, which are asked at once
abbrev pub declarations_of : Setting → List Ty → List Row
declarations_of s [] = []
declarations_of s (t ∷ ts) = elim (declaration_of s t) [ None ↦ declarations_of s ts | Some row ↦ row ∷ declarations_of s ts ]

abbrev pub head_fact : List Fact → Option Fact
head_fact [] = None
head_fact (f ∷ fs) = Some f

abbrev pub behind_head : List Fact → List Fact
behind_head [] = []
behind_head (f ∷ fs) = fs

abbrev pub unders_by : Setting → List Ty → List Fact → List Ty
unders_by s [] fs = []
unders_by s (t ∷ ts) fs =
    elim (declaration_of s t) [ None ↦ under_by t None ∷ unders_by s ts fs | Some row ↦ under_by t (head_fact fs) ∷ unders_by s ts (behind_head fs) ]

abbrev pub asks_all_under : Setting → List Ty → (List Ty → Rule) → Rule
asks_all_under s ts k = AskAll (declarations_of s ts) (λ fs. k (unders_by s ts fs))

-- with that, and with the type under what it points to, where it is a pointer
abbrev pub asks_behind : Setting → Ty → (Ty → Ty → Rule) → Rule
asks_behind s t k = asks_under s t (λ u. asks_under s (behind_pointer u) (λ w. k u w))

-- with the form of a value's type; an untyped one has that of its default type
abbrev pub form_by : Ty → Ty
form_by (untyped b) = under_basic b
form_by t = t

abbrev pub asks_form : Setting → Ty → (Ty → Rule) → Rule
asks_form s t k = asks_under s t (λ u. k (form_by u))

-- that a type stands under a declared one
pub record Under : Type 0 where
  pub decl : ℕ
  pub of : Ty

abbrev pub under_fact : Ty → Ty → List Under
under_fact (named d) u = record { decl = d; of = u } ∷ []
under_fact t u = []

abbrev pub under_among : List Under → ℕ → Option Ty
under_among [] d = None
under_among (u ∷ us) d = if u.decl == d then Some u.of else under_among us d

-- the function type of a method
pub record Signed : Type 0 where
  pub node : ℕ
  pub of : Ty

abbrev pub signed_by : List Method → List Fact → List Signed
signed_by (m ∷ ms) (f ∷ fs) = record { node = m.node; of = type_in f } ∷ signed_by ms fs
signed_by _ _ = []

abbrev pub signed_among : List Signed → ℕ → Option Ty
signed_among [] n = None
signed_among (m ∷ ms) n = if m.node == n then Some m.of else signed_among ms n

-- what is known by these answers
abbrev pub known_by : Setting → List Under → List Signed → Known
known_by s us ms = record { under = under_among us; methods = s.methods; signature = signed_among ms; depth = s.depth }

-- the types of embedded fields, behind a pointer or none
abbrev pub embedded_types : Ty → List Ty
embedded_types (structure fields) = embedded_types fields
embedded_types (field name home tag true of rest) = behind_pointer of ∷ embedded_types rest
embedded_types (field name home tag false of rest) = embedded_types rest
embedded_types _ = []

-- what is under a type, under what that points to, and under all that is embedded there, through so many fields
abbrev pub asks_within : Setting → ℕ → Ty → (List Under → Rule) → Rule
asks_within s zero t k = k []
asks_within s (suc n) t k =
    asks_behind s t (λ u w. each (asks_within s n) (embedded_types w) (λ us. k (under_fact t u ++ (under_fact (behind_pointer u) w ++ us))))

-- goes on with what is under a type, behind a pointer or none, and under all that is embedded in it
abbrev pub asks_embedded : Setting → Ty → (List Under → Rule) → Rule
asks_embedded s t k = asks_within s s.depth (behind_pointer t) k

-- goes on with the function types of methods
abbrev pub asks_signatures : Setting → List Method → (List Signed → Rule) → Rule
asks_signatures s ms k = AskAll (map (λ m. s.signature m.node) ms) (λ fs. k (signed_by ms fs))

-- goes on with all that tells whether a type has the methods of an interface
abbrev pub asks_methods : Setting → Ty → Ty → (Known → Rule) → Rule
asks_methods s t methods k =
    asks_embedded s t (λ us. asks_signatures s (methods_for (known_by s us []) t methods) (λ ms. k (known_by s us ms)))

-- a type stands under another one; what was known stays
abbrev pub and_under : Ty → Ty → Known → Known
and_under (named d) u known = record known { under = λ e. if d == e then Some u else known.under e }
and_under t u known = known

-- goes on with what is asked for methods, where the form is an interface that has some
abbrev pub asks_implements : Setting → Ty → Ty → (Known → Rule) → Rule
asks_implements s t (interface nothing) k = k (known_by s [] [])
asks_implements s t (interface methods) k = asks_methods s t methods k
asks_implements s t u k = k (known_by s [] [])

-- goes on with whether what is said of an expression fits a type
abbrev pub asks_value_fits : Setting → Value → Ty → (Bool → Rule) → Rule
asks_value_fits s v t k =
    asks_under s t (λ u. asks_under s v.of (λ w. asks_implements s v.of u (λ known. k (fits (and_under t u (and_under v.of w known)) (value v) t))))

abbrev pub asks_fits : Setting → Fact → Ty → (Bool → Rule) → Rule
asks_fits s (value v) t k = asks_value_fits s v t k
asks_fits s f t k = asks_under s t (λ u. k (fits (and_under t u (known_by s [] [])) f t))

-- an expression, and the type that it should fit
pub record Pair : Type 0 where
  pub it : Fact
  pub of : Ty

-- goes on with whether each fits; all are asked, also behind one that doesn't
abbrev pub asks_all_fit : Setting → List Pair → (Bool → Rule) → Rule
asks_all_fit s [] k = k true
asks_all_fit s (p ∷ ps) k = asks_fits s p.it p.of (λ b. asks_all_fit s ps (λ c. k (b && c)))

-- the rows that tell whether declared types can be compared
abbrev pub comparable_row : Setting → ℕ → List Row
comparable_row s d = elim (s.declaration d) [ None ↦ [] | Some row ↦ ComparableAt d ∷ [] ]

abbrev pub comparable_rows : Setting → List ℕ → List Row
comparable_rows s [] = []
comparable_rows s (d ∷ ds) = comparable_row s d ++ comparable_rows s ds

abbrev pub all_comparable : List Fact → Bool
all_comparable [] = true
all_comparable (comparable b ∷ fs) = b && all_comparable fs
all_comparable (f ∷ fs) = false

-- goes on with whether values of a type can be compared
abbrev pub asks_comparable : Setting → Ty → (Bool → Rule) → Rule
asks_comparable s t k = AskAll (comparable_rows s (held_in t)) (λ fs. k (is_comparable_form t && all_comparable fs))

-- a rule's last stage: a value has its fact only where it is known what is under its type
abbrev pub ends : Setting → Fact → Rule
ends s (value v) = asks_under s v.of (λ u. Say (value v))
ends s f = Say f

-- ill by a rule, unless the condition holds
abbrev pub says_if : Bool → Fact → Fact → Rule
says_if b f g = if b then Say f else Say g
