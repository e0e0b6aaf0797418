-- Rule 25: the methods of an interface are distinct, and what is embedded are interfaces; a method that comes from several of them
-- has one type. An interface has all methods, also those of embedded ones, in order of name and then of package.
use Rattle.std.specs.Prelude.{ℕ, Bool, false, List, [], ◌∷◌, ◌++◌, Option, Some, None, if◌then◌else◌}
use Rattle.std.specs.Ordering.{nat_cmp}
use Rattle.std.specs.declared.cmp.Ordering.{Ordering}
use Rattle.std.specs.declared.cmp.Ordering.TheVariants.{Less, Equal, Greater}
use Rattle.std.specs.Cmp.Lexicographic.{slice_cmp}
use Rattle.argot_check_asking.specs.Rules.{AskAll, Say}
use Rattle.argot_check_types.specs.Types.{Ty, interface, method, nothing}
use Rattle.argot_check_types.specs.Identity.{identical}
use Rattle.argot_check_types.specs.Facts.{Fact, kind, ill, type_in}
use Rattle.argot_check_rules.specs.Rows.{Row, Rule, Setting}
use Rattle.argot_check_rules.specs.Stages.{asks_all_under}
use Rattle.argot_check_rules.specs.Names.{Stands, kind_at}

-- a method that is written, by its name and the row of its signature
pub record Written : Type 0 where
  pub name : List ℕ
  pub home : Option ℕ
  pub signature : Row

abbrev pub home_order : Option ℕ → Option ℕ → Ordering
home_order None None = Equal
home_order None (Some b) = Less
home_order (Some a) None = Greater
home_order (Some a) (Some b) = nat_cmp a b

-- by the bytes of the name, and then by the package in which it counts
abbrev pub order_of : List ℕ → Option ℕ → List ℕ → Option ℕ → Ordering
order_of name home other there = elim (slice_cmp nat_cmp name other) [ Less ↦ Less | Greater ↦ Greater | Equal ↦ home_order home there ]

-- what becomes of a method that is there already
pub data Doubled : Type 0 where
  -- it is ill, as a written one
  Refused : Doubled
  -- it is right where it has the same type, as an embedded one
  SameType : Doubled

abbrev pub doubled : Doubled → Ty → Ty → Bool
doubled Refused t u = false
doubled SameType t u = identical t u

-- the methods with one more, if that is right
abbrev pub with_method : Doubled → List ℕ → Option ℕ → Ty → Ty → Option Ty
with_method d name home of (method other there t rest) =
    elim (order_of name home other there) [
      | Less ↦ Some (method name home of (method other there t rest))
      | Equal ↦ (if doubled d of t then Some (method other there t rest) else None)
      | Greater ↦ elim (with_method d name home of rest) [ None ↦ None | Some more ↦ Some (method other there t more) ]
    ]
with_method d name home of _ = Some (method name home of nothing)

abbrev pub with_written : List Written → List Fact → Ty → Option Ty
with_written (w ∷ ws) (f ∷ fs) ms = elim (with_method Refused w.name w.home (type_in f) ms) [ None ↦ None | Some more ↦ with_written ws fs more ]
with_written _ _ ms = Some ms

-- the answers behind those of the written methods
abbrev pub behind_written : List Written → List Fact → List Fact
behind_written (w ∷ ws) (f ∷ fs) = behind_written ws fs
behind_written _ fs = fs

abbrev pub with_all : Ty → Ty → Option Ty
with_all (method name home of rest) ms = elim (with_method SameType name home of ms) [ None ↦ None | Some more ↦ with_all rest more ]
with_all _ ms = Some ms

-- with the methods of an embedded type, if that is an interface
abbrev pub with_embedded : Ty → Ty → Option Ty
with_embedded (interface methods) ms = with_all methods ms
with_embedded u ms = None

-- the methods of all embedded types, by what is under them, added to those that are there
abbrev pub with_all_embedded : List Ty → Option Ty → Option Ty
with_all_embedded us None = None
with_all_embedded [] (Some ms) = Some ms
with_all_embedded (u ∷ us) (Some ms) = with_all_embedded us (with_embedded u ms)

abbrev pub interface_fact : Option Ty → Fact
interface_fact None = ill 25
interface_fact (Some ms) = kind (interface ms)

abbrev pub written_rows : List Written → List Row
written_rows [] = []
written_rows (w ∷ ws) = w.signature ∷ written_rows ws

abbrev pub types_told : List Fact → List Ty
types_told [] = []
types_told (f ∷ fs) = type_in f ∷ types_told fs

abbrev pub interface_rule : Setting → Stands → List Written → List Row → Rule
interface_rule s stands ws embedded =
    AskAll (written_rows ws ++ embedded) (λ fs. asks_all_under s (types_told (behind_written ws fs)) (λ us. Say (kind_at stands 25 (interface_fact (with_all_embedded us (with_written ws fs nothing))))))
