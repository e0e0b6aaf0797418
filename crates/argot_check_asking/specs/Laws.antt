-- What holds of rules that ask, whatever rows R and facts F are.
use Rattle.std.specs.Prelude.{◌≡◌, Bool, Option, Some, None}
use Rattle.argot_check_asking.specs.Rules.{Rule, told, Says, Typed}
use Rattle.argot_check_asking.specs.Needs.{Needs, Chain, IsLoud, Lacks}
use Rattle.argot_check_asking.specs.Tables.{IsExact, IsReady, IsClosed}

-- the rules say at most one fact of a row
abbrev pub OneFact : (R F : Type 0) → Type 0
OneFact R F = (typed : F → Bool) (rules : R → Rule R F) (n : R) (f g : F) → Says typed rules n f → Says typed rules n g → f ≡ g

-- more that is known takes nothing back
abbrev pub MoreTellsMore : (R F : Type 0) → Type 0
MoreTellsMore R F = (a b : R → Option F) → ((n : R) (f : F) → a n ≡ Some f → b n ≡ Some f) → (r : Rule R F) (f : F) → told a r ≡ Some f → told b r ≡ Some f

-- a row that has a fact needs itself by no chain
abbrev pub NoFactOnLoops : (R F : Type 0) → Type 0
NoFactOnLoops R F = (typed : F → Bool) (rules : R → Rule R F) (n : R) (f : F) → Says typed rules n f → Chain (Needs typed rules) n n → ⊥

-- a table that grew by the rules, and to which no rule adds, is what they say
abbrev pub ClosedIsExact : (R F : Type 0) → Type 0
ClosedIsExact R F = (typed : F → Bool) (rules : R → Rule R F) (fact : R → Option F) → IsReady typed rules fact → IsClosed typed rules fact → IsExact typed rules fact

-- a rule that says something in the end and is silent so far asks a row of which nothing is known
abbrev pub SilentLacks : (R F : Type 0) → Type 0
SilentLacks R F = (typed : F → Bool) (rules : R → Rule R F) (known : R → Option F) → ((n : R) (f : F) → known n ≡ Some f → Typed typed rules n f) → (r : Rule R F) → IsLoud r → told known r ≡ None → Lacks typed rules known r
