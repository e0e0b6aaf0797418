-- What the definitions mean.
use Rattle.std.specs.Prelude.{◌≡◌, ℕ, List, [], ◌∷◌, None}
use Rattle.argot_names_rules.specs.Universe.{predeclared}
use Rattle.argot_check_asking.specs.Needs.{Chain}
use Rattle.argot_check_types.specs.Facts.{Fact}
use Rattle.argot_check_rules.specs.Rows.{Row}
use Rattle.argot_check_source.specs.Code.{Code}
use Rattle.argot_check_typing.specs.Meanings.{Predeclared, predeclared_names}
use Rattle.argot_check_typing.specs.Rules.{Says, Needs}
use Rattle.argot_check_typing.specs.Faults.{Fault, IsFirstFault}

abbrev pub names_in : List Predeclared → List (List ℕ)
names_in [] = []
names_in (p ∷ ps) = p.name ∷ names_in ps

-- each predeclared name has a meaning, in the order in which they are numbered
abbrev pub AllNamesMean : Type 0
AllNamesMean = names_in (predeclared_names None) ≡ predeclared

-- two typings of a program say the same of each row
abbrev pub OneTyping : Type 0
OneTyping = (c : Code) (row : Row) (f g : Fact) → Says c row f → Says c row g → f ≡ g

-- what has a fact, a fault by its rule too, doesn't depend on itself: the two kinds of illness exclude each other
abbrev pub NoFactOnLoops : Type 0
NoFactOnLoops = (c : Code) (row : Row) (f : Fact) → Says c row f → Chain (Needs c) row row → ⊥

-- at most one node is the first with a fault
abbrev pub OneFirstNode : Type 0
OneFirstNode = (c : Code) (m n : ℕ) (f g : Fault) → IsFirstFault c m f → IsFirstFault c n g → m ≡ n
